-- What is held goes on, from call to call.
use Rattle.std.proofs.Common.{◌≡◌, ◌⊎◌, inl, inr, ℕ, zero, suc, ◌+◌, ◌≤◌, ◌<◌, List, [], ◌∷◌, ◌++◌, map, length, refl, sym, ap, subst, ◌∙◌, append_assoc, append-nil, arith}
use Rattle.std.specs.List.{AllByRecursion}
use Rattle.child_events.specs.declared.event.HallEvent.{HallEvent}
use Rattle.child_hands.specs.declared.log_item.LogItem.{LogItem}
use Rattle.child_hands.specs.declared.log_item.LogItem.TheVariants as item
use Rattle.child_hands.specs.Record.{moment_in, moment_at, AscendsFrom, events_in, ItemsAscendFrom}
use Rattle.feed_rings.specs.Ends.{put_items, taken_items}
use Rattle.feed_rings.specs.declared.feed.FeedIn.{FeedIn}
use Rattle.run_records.specs.declared.reel.Reel.{Reel}
use Rattle.run_records.specs.declared.merger.Merger.{Merger}
use Rattle.run_records.specs.Joined.{all_from, at_moment, IsJoined}
use Rattle.run_records.specs.Merged.{AllBelow, AllFrom, BeginsFrom, AllPaired, AllNumbered, AllNumberedFrom, IsNumbered, last_moment, TakesOn, AllTakeOn, AllTaken, AllBehind, gone, all_gone, IsMove, AllMove, IsSound, AllSoundFrom, IsCut, AreCut, AreKnown, IsFresh, AreFresh, Handed, nothing, more, HasMerged, HandsOn, HasOne, taken_of, WasHanded}
use Rattle.run_records.proofs.Parting.{events_append, last_append, all_append, all_front, all_rest}
use Rattle.run_records.proofs.Merging.{Entries, ascends_lower}
use Rattle.run_records.proofs.Moving.{gone_count}
use Rattle.run_records.proofs.Keeping.{lt_or_le, ascends_from, all_from_first, each_on, EachBelow, EachFrom, joined_on}
use Rattle.run_records.proofs.Rows.{paired_count}

-- items in order

ascend_front : (l : ℕ) (xs ys : List LogItem) → ItemsAscendFrom l (xs ++ ys) → ItemsAscendFrom l xs
ascend_front l [] ys a = tt
ascend_front l (x ∷ xs) ys a = (a.0, ascend_front (moment_at x) xs ys a.1)

ascend_rest : (l : ℕ) (xs ys : List LogItem) → ItemsAscendFrom l (xs ++ ys) → ItemsAscendFrom (last_moment l xs) ys
ascend_rest l [] ys a = a
ascend_rest l (x ∷ xs) ys a = ascend_rest (moment_at x) xs ys a.1

pub items_events : (l : ℕ) (xs : List LogItem) → ItemsAscendFrom l xs → AscendsFrom l (events_in xs)
items_events l [] a = tt
items_events l (item.Event e ∷ xs) a = (a.0, items_events (moment_in e) xs a.1)
items_events l (item.Still m ∷ xs) a = ascends_lower l m (events_in xs) a.0 (items_events m xs a.1)

last_from : (l : ℕ) (xs : List LogItem) → ItemsAscendFrom l xs → l ≤ last_moment l xs
last_from l [] a = omega arith
last_from l (x ∷ xs) a = let more = last_from (moment_at x) xs a.1 in omega (arith, a.0, more)

behind_rest : (l : ℕ) (es fs : Entries) → AscendsFrom l (es ++ fs) → AscendsFrom l fs
behind_rest l [] fs a = a
behind_rest l (e ∷ es) fs a = ascends_lower l (moment_in e) fs a.0 (behind_rest (moment_in e) es fs a.1)

until_events : (last : ℕ) (xs : List LogItem) → AllByRecursion (λ x. moment_at x ≤ last) xs → AllByRecursion (λ e. moment_in e ≤ last) (events_in xs)
until_events last [] all = tt
until_events last (item.Event e ∷ xs) all = (all.0, until_events last xs all.1)
until_events last (item.Still m ∷ xs) all = until_events last xs all.1

-- moments

from_lower : (a b : ℕ) (es : Entries) → a ≤ b → AllFrom b es → AllFrom a es
from_lower a b [] le all = tt
from_lower a b (e ∷ es) le all = ((let m = all.0 in omega (arith, le, m)), from_lower a b es le all.1)

below_higher : (a b : ℕ) (es : Entries) → a ≤ b → AllBelow a es → AllBelow b es
below_higher a b [] le all = tt
below_higher a b (e ∷ es) le all = ((let m = all.0 in omega (arith, le, m)), below_higher a b es le all.1)

-- the greater of two
pub record Greater (a b : ℕ) : Type 0 where
  pub most : ℕ
  pub first : a ≤ most
  pub second : b ≤ most
  pub one : (most ≡ a) ⊎ (most ≡ b)

greater : (a b : ℕ) → Greater a b
greater a b = elim (lt_or_le a b) [
  | inl lt ↦ record { most = b; first = omega (arith, lt); second = omega arith; one = inr refl }
  | inr le ↦ record { most = a; first = omega arith; second = le; one = inl refl }
]

-- one ring

sound_front : (n w : ℕ) (xs ys : List LogItem) → IsSound n w (xs ++ ys) → IsSound n w xs
sound_front n w xs ys s = record {
  ascends = ascend_front 0 xs ys s.ascends;
  until = all_front _ xs ys s.until;
  numbers = all_front (IsNumbered n w) (events_in xs) (events_in ys) (subst (AllNumbered n w) (events_append xs ys) s.numbers);
}

taken_on : (n w b : ℕ) (r s : Reel) (front : Entries) → TakesOn r s → r.since ≡ last_moment 0 (taken_of r) → IsSound n w (taken_of s) → IsCut b r front → IsCut b s front
taken_on n w b r s front t known sound c = record {
  taken = ap (λ (es : Entries). front ++ es) t.held ∙ sym (append_assoc front r.held.items (events_in t.items)) ∙ ap (λ (es : Entries). es ++ events_in t.items) c.taken ∙ sym (events_append (taken_of r) t.items) ∙ ap events_in (sym t.taken);
  before = c.before;
  behind = subst (AllFrom b) (sym t.held) (all_append (λ (e : HallEvent). b ≤ moment_in e) r.held.items (events_in t.items) c.behind (from_lower b r.since (events_in t.items) c.coming (all_from_first r.since (events_in t.items) (items_events r.since t.items order))));
  coming = subst (λ (m : ℕ). b ≤ m) (sym t.since) (let le = c.coming in let more = last_from r.since t.items order in omega (arith, le, more));
}
  where
    order : ItemsAscendFrom r.since t.items
    order = subst (λ (m : ℕ). ItemsAscendFrom m t.items) (sym known) (ascend_rest 0 (taken_of r) t.items (subst (ItemsAscendFrom 0) t.taken sound.ascends))

known_on : (r s : Reel) → TakesOn r s → r.since ≡ last_moment 0 (taken_of r) → s.since ≡ last_moment 0 (taken_of s)
known_on r s t known = t.since ∙ ap (λ (m : ℕ). last_moment m t.items) known ∙ sym (last_append 0 (taken_of r) t.items) ∙ ap (last_moment 0) (sym t.taken)

-- all events that were taken, as what was handed on, what goes now and what is held then
parts_of : (bound b : ℕ) (r s : Reel) (front : Entries) → IsMove bound r s → IsCut b r front → events_in (taken_of r) ≡ (front ++ gone r s) ++ s.held.items
parts_of bound b r s front m c = sym c.taken ∙ ap (λ (es : Entries). front ++ es) m.held ∙ sym (append_assoc front (gone r s) s.held.items)

moved_on : (n w b bound : ℕ) (g : Greater b bound) (r s : Reel) (front : Entries) → IsMove bound r s → bound ≤ r.since → IsSound n w (taken_of r) → IsCut b r front → IsCut g.most s (front ++ gone r s)
moved_on n w b bound g r s front m le sound c = record {
  taken = sym (parts_of bound b r s front m c) ∙ ap (λ o. events_in (taken_items o)) (sym m.out);
  before = all_append (λ (e : HallEvent). moment_in e < g.most) front (gone r s) (below_higher b g.most front g.first c.before) (below_higher bound g.most (gone r s) g.second m.earlier);
  behind = by_case g.one;
  coming = subst (λ (k : ℕ). g.most ≤ k) (sym m.since) (since_case g.one);
}
  where
    held : AllFrom b s.held.items
    held = all_rest (λ (e : HallEvent). b ≤ moment_in e) (gone r s) s.held.items (subst (AllFrom b) m.held c.behind)

    order : AscendsFrom 0 s.held.items
    order = behind_rest 0 (front ++ gone r s) s.held.items (subst (AscendsFrom 0) (parts_of bound b r s front m c) (items_events 0 (taken_of r) sound.ascends))

    by_case : (g.most ≡ b) ⊎ (g.most ≡ bound) → AllFrom g.most s.held.items
    by_case (inl is) = subst (λ (k : ℕ). AllFrom k s.held.items) (sym is) held
    by_case (inr is) = subst (λ (k : ℕ). AllFrom k s.held.items) (sym is) (all_from_first bound s.held.items (ascends_from 0 bound s.held.items order m.rest))

    since_case : (g.most ≡ b) ⊎ (g.most ≡ bound) → g.most ≤ r.since
    since_case (inl is) = subst (λ (k : ℕ). k ≤ r.since) (sym is) c.coming
    since_case (inr is) = subst (λ (k : ℕ). k ≤ r.since) (sym is) le

known_moved : (bound : ℕ) (r s : Reel) → IsMove bound r s → r.since ≡ last_moment 0 (taken_of r) → s.since ≡ last_moment 0 (taken_of s)
known_moved bound r s m known = m.since ∙ known ∙ ap (λ o. last_moment 0 (taken_items o)) (sym m.out)

sound_moved : (n w bound : ℕ) (r s : Reel) → IsMove bound r s → IsSound n w (taken_of s) → IsSound n w (taken_of r)
sound_moved n w bound r s m = subst (λ o. IsSound n w (taken_items o)) m.out

-- nothing is as late as no log can say
none_held : (n w b : ℕ) (r s : Reel) (front : Entries) → IsMove 18446744073709551615 r s → IsSound n w (taken_of r) → IsCut b r front → s.held.items ≡ []
none_held n w b r s front m sound c = by_held s.held.items m.rest (all_rest (λ (e : HallEvent). moment_in e ≤ 9000000000000000) (front ++ gone r s) s.held.items (subst (AllByRecursion (λ e. moment_in e ≤ 9000000000000000)) (parts_of 18446744073709551615 b r s front m c) (until_events 9000000000000000 (taken_of r) sound.until)))
  where
    by_held : (es : Entries) → BeginsFrom 18446744073709551615 es → AllByRecursion (λ e. moment_in e ≤ 9000000000000000) es → es ≡ []
    by_held [] first until = refl
    by_held (e ∷ es) first until = absurd (let le = until.0 in omega (arith, first, le))

-- all rings

module _ (n : ℕ) where
  pub sound_all : (w : ℕ) (rs ss : List Reel) → AllPaired (λ v r s. TakesOn r s) w rs ss → AllSoundFrom taken_of n w ss → AllSoundFrom taken_of n w rs
  sound_all w [] [] t s = tt
  sound_all w [] (y ∷ ss) t s = absurd t
  sound_all w (x ∷ rs) [] t s = absurd t
  sound_all w (x ∷ rs) (y ∷ ss) t s = (sound_front n w (taken_of x) t.0.items (subst (IsSound n w) t.0.taken s.0), sound_all (w + 1) rs ss t.1 s.1)

  pub taken_all : (w b : ℕ) (rs ss : List Reel) (fronts : List Entries) → AllPaired (λ v r s. TakesOn r s) w rs ss → AreKnown rs → AllSoundFrom taken_of n w ss → AllPaired (λ v r front. IsCut b r front) w rs fronts → AllPaired (λ v r front. IsCut b r front) w ss fronts
  taken_all w b [] [] fronts t k s c = c
  taken_all w b [] (y ∷ ss) fronts t k s c = absurd t
  taken_all w b (x ∷ rs) [] fronts t k s c = absurd t
  taken_all w b (x ∷ rs) (y ∷ ss) [] t k s c = absurd c
  taken_all w b (x ∷ rs) (y ∷ ss) (f ∷ fronts) t k s c = (taken_on n w b x y f t.0 k.0 s.0 c.0, taken_all (w + 1) b rs ss fronts t.1 k.1 s.1 c.1)

  pub moved_each : (w b bound : ℕ) (g : Greater b bound) (rs ss : List Reel) (fronts : List Entries) → AllPaired (λ v r s. IsMove bound r s) w rs ss → AllBehind bound rs → AllSoundFrom taken_of n w ss → AllPaired (λ v r front. IsCut b r front) w rs fronts →
      AllPaired (λ v r front. IsCut g.most r front) w ss (each_on fronts (all_gone rs ss))
  moved_each w b bound g [] [] [] m l s c = tt
  moved_each w b bound g [] [] (f ∷ fronts) m l s c = absurd c
  moved_each w b bound g [] (y ∷ ss) fronts m l s c = absurd m
  moved_each w b bound g (x ∷ rs) [] fronts m l s c = absurd m
  moved_each w b bound g (x ∷ rs) (y ∷ ss) [] m l s c = absurd c
  moved_each w b bound g (x ∷ rs) (y ∷ ss) (f ∷ fronts) m l s c = (moved_on n w b bound g x y f m.0 l.0 (sound_moved n w bound x y m.0 s.0) c.0, moved_each (w + 1) b bound g rs ss fronts m.1 l.1 s.1 c.1)

  pub below_each : (w b : ℕ) (rs : List Reel) (fronts : List Entries) → AllPaired (λ v r front. IsCut b r front) w rs fronts → EachBelow b fronts
  below_each w b [] [] c = tt
  below_each w b [] (f ∷ fronts) c = absurd c
  below_each w b (x ∷ rs) [] c = absurd c
  below_each w b (x ∷ rs) (f ∷ fronts) c = (c.0.before, below_each (w + 1) b rs fronts c.1)

  pub from_each : (w b bound : ℕ) (rs ss : List Reel) (fronts : List Entries) → AllPaired (λ v r s. IsMove bound r s) w rs ss → AllPaired (λ v r front. IsCut b r front) w rs fronts → EachFrom b (all_gone rs ss)
  from_each w b bound [] ss fronts m c = tt
  from_each w b bound (x ∷ rs) [] fronts m c = tt
  from_each w b bound (x ∷ rs) (y ∷ ss) [] m c = absurd c
  from_each w b bound (x ∷ rs) (y ∷ ss) (f ∷ fronts) m c = (all_front (λ (e : HallEvent). b ≤ moment_in e) (gone x y) y.held.items (subst (AllFrom b) m.0.held c.0.behind), from_each (w + 1) b bound rs ss fronts m.1 c.1)

  pub numbers_each : (w b bound : ℕ) (rs ss : List Reel) (fronts : List Entries) → AllPaired (λ v r s. IsMove bound r s) w rs ss → AllSoundFrom taken_of n w ss → AllPaired (λ v r front. IsCut b r front) w rs fronts → AllNumberedFrom n w (all_gone rs ss)
  numbers_each w b bound [] ss fronts m s c = tt
  numbers_each w b bound (x ∷ rs) [] fronts m s c = tt
  numbers_each w b bound (x ∷ rs) (y ∷ ss) [] m s c = absurd c
  numbers_each w b bound (x ∷ rs) (y ∷ ss) (f ∷ fronts) m s c = (
    all_rest (IsNumbered n w) f (gone x y) (all_front (IsNumbered n w) (f ++ gone x y) y.held.items (subst (AllNumbered n w) (parts_of bound b x y f m.0 c.0) (sound_moved n w bound x y m.0 s.0).numbers)),
    numbers_each (w + 1) b bound rs ss fronts m.1 s.1 c.1,
  )

  pub whole_each : (w b : ℕ) (logs : List (FeedIn LogItem)) (rs ss : List Reel) (fronts : List Entries) → AllPaired (λ v r s. IsMove 18446744073709551615 r s) w rs ss → AllPaired (λ v log r. taken_of r ≡ put_items log) w logs rs → AllSoundFrom put_items n w logs →
      AllPaired (λ v r front. IsCut b r front) w rs fronts → each_on fronts (all_gone rs ss) ≡ map (λ log. events_in (put_items log)) logs
  whole_each w b [] [] [] [] m t s c = refl
  whole_each w b [] [] [] (f ∷ fronts) m t s c = absurd c
  whole_each w b [] [] (y ∷ ss) fronts m t s c = absurd m
  whole_each w b [] (x ∷ rs) ss fronts m t s c = absurd t
  whole_each w b (l ∷ logs) [] ss fronts m t s c = absurd t
  whole_each w b (l ∷ logs) (x ∷ rs) [] fronts m t s c = absurd m
  whole_each w b (l ∷ logs) (x ∷ rs) (y ∷ ss) [] m t s c = absurd c
  whole_each w b (l ∷ logs) (x ∷ rs) (y ∷ ss) (f ∷ fronts) m t s c =
      ap (λ (es : Entries). es ∷ each_on fronts (all_gone rs ss)) one ∙ ap (λ (rest : List Entries). events_in (put_items l) ∷ rest) (whole_each (w + 1) b logs rs ss fronts m.1 t.1 s.1 c.1)
    where
      sound : IsSound n w (taken_of x)
      sound = subst (IsSound n w) (sym t.0) s.0

      one : f ++ gone x y ≡ events_in (put_items l)
      one =
          sym (append-nil (f ++ gone x y))
          ∙ ap (λ (es : Entries). (f ++ gone x y) ++ es) (sym (none_held n w b x y f m.0 sound c.0))
          ∙ sym (parts_of 18446744073709551615 b x y f m.0 c.0)
          ∙ ap events_in t.0

  pub sound_logs : (w : ℕ) (logs : List (FeedIn LogItem)) (rs ss : List Reel) → AllPaired (λ v log r. taken_of r ≡ put_items log) w logs rs → AllPaired (λ v r s. IsMove 18446744073709551615 r s) w rs ss → AllSoundFrom put_items n w logs → AllSoundFrom taken_of n w ss
  sound_logs w [] [] [] t m s = tt
  sound_logs w [] [] (y ∷ ss) t m s = absurd m
  sound_logs w [] (x ∷ rs) ss t m s = absurd t
  sound_logs w (l ∷ logs) [] ss t m s = absurd t
  sound_logs w (l ∷ logs) (x ∷ rs) [] t m s = absurd m
  sound_logs w (l ∷ logs) (x ∷ rs) (y ∷ ss) t m s = (subst (λ o. IsSound n w (taken_items o)) (sym m.0.out) (subst (IsSound n w) (sym t.0) s.0), sound_logs (w + 1) logs rs ss t.1 m.1 s.1)

pub known_all : (w : ℕ) (rs ss : List Reel) → AllPaired (λ v r s. TakesOn r s) w rs ss → AreKnown rs → AreKnown ss
known_all w [] [] t k = tt
known_all w [] (y ∷ ss) t k = absurd t
known_all w (x ∷ rs) [] t k = absurd t
known_all w (x ∷ rs) (y ∷ ss) t k = (known_on x y t.0 k.0, known_all (w + 1) rs ss t.1 k.1)

-- rings whose items are sound, before some went on
sound_each : (n w bound : ℕ) (rs ss : List Reel) → AllPaired (λ v r s. IsMove bound r s) w rs ss → AllSoundFrom taken_of n w ss → AllSoundFrom taken_of n w rs
sound_each n w bound [] [] m s = tt
sound_each n w bound [] (y ∷ ss) m s = absurd m
sound_each n w bound (x ∷ rs) [] m s = absurd m
sound_each n w bound (x ∷ rs) (y ∷ ss) m s = (sound_moved n w bound x y m.0 s.0, sound_each n (w + 1) bound rs ss m.1 s.1)

pub known_each : (w bound : ℕ) (rs ss : List Reel) → AllPaired (λ v r s. IsMove bound r s) w rs ss → AreKnown rs → AreKnown ss
known_each w bound [] [] m k = tt
known_each w bound [] (y ∷ ss) m k = absurd m
known_each w bound (x ∷ rs) [] m k = absurd m
known_each w bound (x ∷ rs) (y ∷ ss) m k = (known_moved bound x y m.0 k.0, known_each (w + 1) bound rs ss m.1 k.1)

-- rings from which nothing was taken

fresh_known : (rs : List Reel) → AreFresh rs → AreKnown rs
fresh_known [] f = tt
fresh_known (x ∷ rs) f = (f.0.2 ∙ ap (last_moment 0) (sym f.0.0), fresh_known rs f.1)

fresh_cut : (w : ℕ) (rs : List Reel) → AreFresh rs → AllPaired (λ v r front. IsCut 0 r front) w rs (map (λ r. []) rs)
fresh_cut w [] f = tt
fresh_cut w (x ∷ rs) f = (
  record {
    taken = f.0.1 ∙ ap events_in (sym f.0.0);
    before = tt;
    behind = subst (AllFrom 0) (sym f.0.1) tt;
    coming = omega arith;
  },
  fresh_cut (w + 1) rs f.1,
)

none_from : (n w : ℕ) (rs : List Reel) → all_from n w (map (λ r. []) rs) ≡ []
none_from n w [] = refl
none_from n w (x ∷ rs) = none_from n (w + 1) rs

-- what was handed on, call by call

module _ {R : Type 0} (notes : R → List HallEvent → R → Type 0) where
  pub handed_more : (first a b : R) (es : List HallEvent) → WasHanded notes first a → notes a es b → WasHanded notes first b
  handed_more first a b es was on = (was.0 ++ es, more first a b was.0 es was.1 on)

  pub merged_first : (first : R) (m : Merger R) → AreFresh m.reels.items → m.recorder ≡ first → HasMerged notes first m
  merged_first first m fresh is = record {
    es = [];
    handed = subst (Handed notes first []) (sym is) (nothing first);
    known = fresh_known m.reels.items fresh;
    cut = λ sound. (
      0,
      record {
        fronts = map (λ r. []) m.reels.items;
        each = fresh_cut 0 m.reels.items fresh;
        joined = record { ascends = tt; ties = λ at. ap (at_moment at) (sym (none_from (length (map (λ r. []) m.reels.items)) 0 m.reels.items)) };
      },
    );
  }

  -- more was taken, and none went on
  pub merged_taken : (first : R) (m : Merger R) (new : List Reel) (k : Merger R) → k.reels.items ≡ new → k.recorder ≡ m.recorder → AllTakeOn m.reels.items new → HasMerged notes first m → HasMerged notes first k
  merged_taken first m new k reels recorder t h = record {
    es = h.es;
    handed = subst (Handed notes first h.es) (sym recorder) h.handed;
    known = subst AreKnown (sym reels) (known_all 0 m.reels.items new t h.known);
    cut = λ sound. cuts (subst (λ (rs : List Reel). AllSoundFrom taken_of (length rs) 0 rs) reels sound);
  }
    where
      cuts : AllSoundFrom taken_of (length new) 0 new → (bound : ℕ) × AreCut bound k.reels.items h.es
      cuts sound =
          let as_many : length new ≡ length m.reels.items = paired_count (λ v r s. TakesOn r s) 0 m.reels.items new t in
          let old = h.cut (subst (λ (n : ℕ). AllSoundFrom taken_of n 0 m.reels.items) as_many (sound_all (length new) 0 m.reels.items new t sound)) in (
            old.0,
            subst (λ (rs : List Reel). AreCut old.0 rs h.es) (sym reels) (record {
              fronts = old.1.fronts;
              each = taken_all (length new) 0 old.0 m.reels.items new old.1.fronts t h.known sound old.1.each;
              joined = old.1.joined;
            }),
          )

  -- what was held from before a moment went on
  pub merged_handed : (bound : ℕ) (first : R) (m k : Merger R) → AllBehind bound m.reels.items → HandsOn notes bound m k → HasMerged notes first m → HasMerged notes first k
  merged_handed bound first m k behind on h = record {
    es = h.es ++ on.es;
    handed = more first m.recorder k.recorder h.es on.es h.handed on.noted;
    known = known_each 0 bound m.reels.items k.reels.items on.moves.moves h.known;
    cut = cuts;
  }
    where
      cuts : AllSoundFrom taken_of (length k.reels.items) 0 k.reels.items → (b : ℕ) × AreCut b k.reels.items (h.es ++ on.es)
      cuts sound =
          let as_many : length k.reels.items ≡ length m.reels.items = paired_count (λ v r s. IsMove bound r s) 0 m.reels.items k.reels.items on.moves.moves in
          let good = subst (λ (n : ℕ). AllSoundFrom taken_of n 0 k.reels.items) as_many sound in
          let old = h.cut (sound_each (length m.reels.items) 0 bound m.reels.items k.reels.items on.moves.moves good) in
          let g = greater old.0 bound in
          let numbers = numbers_each (length m.reels.items) 0 old.0 bound m.reels.items k.reels.items old.1.fronts on.moves.moves good old.1.each in
          let count : length old.1.fronts ≡ length (all_gone m.reels.items k.reels.items) = paired_count (λ v r front. IsCut old.0 r front) 0 m.reels.items old.1.fronts old.1.each ∙ sym (gone_count m.reels.items k.reels.items as_many) in (
            g.most,
            record {
              fronts = each_on old.1.fronts (all_gone m.reels.items k.reels.items);
              each = moved_each (length m.reels.items) 0 old.0 bound g m.reels.items k.reels.items old.1.fronts on.moves.moves behind good old.1.each;
              joined = joined_on old.0 old.1.fronts (all_gone m.reels.items k.reels.items) h.es on.es count (below_each 0 0 old.0 m.reels.items old.1.fronts old.1.each)
                  (from_each 0 0 old.0 bound m.reels.items k.reels.items old.1.fronts on.moves.moves old.1.each) old.1.joined (on.moves.joined numbers);
            },
          )

  -- all that was ever put went on
  pub has_one : (first : R) (logs : List (FeedIn LogItem)) (m k : Merger R) → AllTaken logs m.reels.items → HandsOn notes 18446744073709551615 m k → HasMerged notes first m → HasOne notes first logs k.recorder
  has_one first logs m k taken on h = record {
    es = h.es ++ on.es;
    handed = more first m.recorder k.recorder h.es on.es h.handed on.noted;
    joined = joins;
  }
    where
      joins : AllSoundFrom put_items (length logs) 0 logs → IsJoined (map (λ log. events_in (put_items log)) logs) (h.es ++ on.es)
      joins sound =
          let as_many : length k.reels.items ≡ length m.reels.items = paired_count (λ v r s. IsMove 18446744073709551615 r s) 0 m.reels.items k.reels.items on.moves.moves in
          let all : length m.reels.items ≡ length logs = paired_count (λ v log r. taken_of r ≡ put_items log) 0 logs m.reels.items taken in
          let good = subst (λ (n : ℕ). AllSoundFrom taken_of n 0 k.reels.items) (sym all) (sound_logs (length logs) 0 logs m.reels.items k.reels.items taken on.moves.moves sound) in
          let old = h.cut (sound_each (length m.reels.items) 0 18446744073709551615 m.reels.items k.reels.items on.moves.moves good) in
          let numbers = numbers_each (length m.reels.items) 0 old.0 18446744073709551615 m.reels.items k.reels.items old.1.fronts on.moves.moves good old.1.each in
          let count : length old.1.fronts ≡ length (all_gone m.reels.items k.reels.items) = paired_count (λ v r front. IsCut old.0 r front) 0 m.reels.items old.1.fronts old.1.each ∙ sym (gone_count m.reels.items k.reels.items as_many) in
          subst (λ (rs : List Entries). IsJoined rs (h.es ++ on.es)) (whole_each (length logs) 0 old.0 logs m.reels.items k.reels.items old.1.fronts on.moves.moves taken sound old.1.each)
          (joined_on old.0 old.1.fronts (all_gone m.reels.items k.reels.items) h.es on.es count (below_each 0 0 old.0 m.reels.items old.1.fronts old.1.each)
          (from_each 0 0 old.0 18446744073709551615 m.reels.items k.reels.items old.1.fronts on.moves.moves old.1.each) old.1.joined (on.moves.joined numbers))
