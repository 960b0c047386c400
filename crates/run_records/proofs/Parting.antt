-- Parts of records that become one, one after another.
use Rattle.std.proofs.Common.{◌≡◌, ℕ, zero, suc, ◌+◌, ◌-◌, ◌≤◌, ◌<◌, List, [], ◌∷◌, ◌++◌, map, take, length, get_or, refl, sym, ap, subst, ◌∙◌, append-nil, append_assoc, arith}
use Rattle.std.specs.Prelude.{slice_get, slice_set, Some}
use Rattle.std.specs.List.{AllByRecursion}
use Rattle.std.proofs.lemmas.List.{map-append}
use Rattle.child_events.specs.declared.event.HallEvent.{HallEvent}
use Rattle.child_hands.specs.declared.log_item.LogItem.{LogItem}
use Rattle.child_hands.specs.declared.log_item.LogItem.TheVariants as item
use Rattle.child_hands.specs.Record.{moment_in, moment_at, events_at, events_in}
use Rattle.feed_rings.specs.Ends.{taken_items, SameOut}
use Rattle.feed_rings.specs.declared.feed.FeedOut.{FeedOut}
use Rattle.run_records.specs.declared.reel.Reel.{Reel}
use Rattle.run_records.specs.Joined.{numbered}
use Rattle.run_records.specs.Merged.{AllNumbered, AllBelow, BeginsFrom, last_moment, TakesOn, AllTakeOn, SameRings, gone, IsMove, Moves, taken_of}
use Rattle.run_records.proofs.Rows.{read_at, paired_same, paired_then, paired_count, paired_put}

-- ends of rings

pub same_out : (o : FeedOut LogItem) → SameOut o o
same_out o = (refl, refl, refl, refl)

pub then_out : (a b c : FeedOut LogItem) → SameOut a b → SameOut b c → SameOut a c
then_out a b c f h = (h.0 ∙ f.0, h.1 ∙ f.1, h.2 ∙ f.2, h.3 ∙ f.3)

pub out_kept : (a b : FeedOut LogItem) → b ≡ a → SameOut a b
out_kept a b is = subst (SameOut a) (sym is) (same_out a)

-- lists

pub events_append : (xs ys : List LogItem) → events_in (xs ++ ys) ≡ events_in xs ++ events_in ys
events_append [] ys = refl
events_append (item.Event e ∷ xs) ys = ap (λ (es : List HallEvent). e ∷ es) (events_append xs ys)
events_append (item.Still m ∷ xs) ys = events_append xs ys

pub last_append : (since : ℕ) (xs ys : List LogItem) → last_moment since (xs ++ ys) ≡ last_moment (last_moment since xs) ys
last_append since [] ys = refl
last_append since (x ∷ xs) ys = last_append (moment_at x) xs ys

-- all of one list and of another one
pub all_append : {X : Type 0} (P : X → Type 0) (xs ys : List X) → AllByRecursion P xs → AllByRecursion P ys → AllByRecursion P (xs ++ ys)
all_append P [] ys a b = b
all_append P (x ∷ xs) ys a b = (a.0, all_append P xs ys a.1 b)

pub all_front : {X : Type 0} (P : X → Type 0) (xs ys : List X) → AllByRecursion P (xs ++ ys) → AllByRecursion P xs
all_front P [] ys a = tt
all_front P (x ∷ xs) ys a = (a.0, all_front P xs ys a.1)

pub all_rest : {X : Type 0} (P : X → Type 0) (xs ys : List X) → AllByRecursion P (xs ++ ys) → AllByRecursion P ys
all_rest P [] ys a = a
all_rest P (x ∷ xs) ys a = all_rest P xs ys a.1

-- what was taken, call by call

pub takes_none : (reel : Reel) → TakesOn reel reel
takes_none reel = record { items = []; taken = sym (append-nil (taken_items reel.out)); held = sym (append-nil reel.held.items); since = refl }

pub takes_one : (old new : Reel) (x : LogItem) → taken_items new.out ≡ taken_items old.out ++ x ∷ [] → new.held.items ≡ old.held.items ++ events_at x → new.since ≡ moment_at x → TakesOn old new
takes_one old new x taken held since = record { items = x ∷ []; taken = taken; held = held ∙ ap (λ (es : List HallEvent). old.held.items ++ es) (sym (append-nil (events_at x))); since = since }

pub takes_then : (a b c : Reel) → TakesOn a b → TakesOn b c → TakesOn a c
takes_then a b c f g = record {
  items = f.items ++ g.items;
  taken = g.taken ∙ ap (λ (xs : List LogItem). xs ++ g.items) f.taken ∙ append_assoc (taken_items a.out) f.items g.items;
  held = g.held ∙ ap (λ (es : List HallEvent). es ++ events_in g.items) f.held ∙ append_assoc a.held.items (events_in f.items) (events_in g.items) ∙ ap (λ (es : List HallEvent). a.held.items ++ es) (sym (events_append f.items g.items));
  since = g.since ∙ ap (λ (m : ℕ). last_moment m g.items) f.since ∙ sym (last_append a.since f.items g.items);
}

-- what goes behind others, event by event
pub record MovesTo (bound n w : ℕ) (old : Reel) (all : List HallEvent) (new : Reel) (all' : List HallEvent) : Type 0 where
  pub front : List HallEvent
  pub held : old.held.items ≡ front ++ new.held.items
  pub earlier : AllBelow bound front
  pub since : new.since ≡ old.since
  pub out : new.out ≡ old.out
  pub moved : AllNumbered n w front → all' ≡ all ++ map (numbered n w) front

pub moves_none : (bound n w : ℕ) (reel : Reel) (all : List HallEvent) → MovesTo bound n w reel all reel all
moves_none bound n w reel all = record { front = []; held = refl; earlier = tt; since = refl; out = refl; moved = λ good. sym (append-nil all) }

pub moves_one : (bound n w : ℕ) (a b c : Reel) (all all' all'' : List HallEvent) (e e' : HallEvent) → MovesTo bound n w a all b all' →
    moment_in e < bound → b.held.items ≡ e ∷ c.held.items → c.out ≡ b.out → c.since ≡ b.since → (AllNumbered n w (e ∷ []) → e' ≡ numbered n w e) → all'' ≡ all' ++ e' ∷ [] → MovesTo bound n w a all c all''
moves_one bound n w a b c all all' all'' e e' f early held out since is put = record {
  front = f.front ++ e ∷ [];
  held = f.held ∙ ap (λ (es : List HallEvent). f.front ++ es) held ∙ sym (append_assoc f.front (e ∷ []) c.held.items);
  earlier = all_append (λ (x : HallEvent). moment_in x < bound) f.front (e ∷ []) f.earlier (early, tt);
  since = since ∙ f.since;
  out = out ∙ f.out;
  moved = λ good.
      put
      ∙ ap (λ (es : List HallEvent). es ++ e' ∷ []) (f.moved (all_front _ f.front (e ∷ []) good))
      ∙ ap (λ (x : HallEvent). (all ++ map (numbered n w) f.front) ++ x ∷ []) (is (all_rest _ f.front (e ∷ []) good))
      ∙ append_assoc all (map (numbered n w) f.front) (numbered n w e ∷ [])
      ∙ ap (λ (es : List HallEvent). all ++ es) (sym (map-append (numbered n w) f.front (e ∷ [])));
}

front_of : (front rest : List HallEvent) → take (length (front ++ rest) - length rest) (front ++ rest) ≡ front
front_of [] rest = ap (λ (n : ℕ). take n rest) (let e : length rest - length rest ≡ 0 = omega arith in e)
front_of (x ∷ front) rest =
    ap (λ (n : ℕ). take n (x ∷ (front ++ rest))) (let e : suc (length (front ++ rest)) - length rest ≡ suc (length (front ++ rest) - length rest) = more in e)
    ∙ ap (λ (es : List HallEvent). x ∷ es) (front_of front rest)
  where
    longer : (xs ys : List HallEvent) → length ys ≤ length (xs ++ ys)
    longer [] ys = omega arith
    longer (y ∷ xs) ys = let le = longer xs ys in omega (arith, le)

    more : suc (length (front ++ rest)) - length rest ≡ suc (length (front ++ rest) - length rest)
    more = let le = longer front rest in omega (arith, le)

gone_is : (old new : Reel) (front : List HallEvent) → old.held.items ≡ front ++ new.held.items → gone old new ≡ front
gone_is old new front held = ap (λ (es : List HallEvent). take (length es - length new.held.items) es) held ∙ front_of front new.held.items

pub moves_all : (bound n w : ℕ) (old : Reel) (all : List HallEvent) (new : Reel) (all' : List HallEvent) → MovesTo bound n w old all new all' → BeginsFrom bound new.held.items → Moves bound n w old all new all'
moves_all bound n w old all new all' f rest =
    let is = gone_is old new f.front f.held in (
      record {
        held = f.held ∙ ap (λ (es : List HallEvent). es ++ new.held.items) (sym is);
        earlier = subst (AllBelow bound) (sym is) f.earlier;
        rest = rest;
        since = f.since;
        out = f.out;
      },
      subst (λ (es : List HallEvent). AllNumbered n w es → all' ≡ all ++ map (numbered n w) es) (sym is) f.moved,
    )

-- several rings, of which one changes

pub rings_same : (reels : List Reel) → SameRings reels reels
rings_same = paired_same (λ w a b. SameOut a.out b.out) (λ w reel. same_out reel.out) 0

pub rings_then : (a b c : List Reel) → SameRings a b → SameRings b c → SameRings a c
rings_then = paired_then (λ w a b. SameOut a.out b.out) (λ w a b c. then_out a.out b.out c.out) 0

pub ring_at : (olds news : List Reel) (i : ℕ) (d : Reel) → SameRings olds news → i < length olds → slice_get news i ≡ Some (get_or news i d)
ring_at olds news i d same lt = let count = paired_count (λ w a b. SameOut a.out b.out) 0 olds news same in read_at news i d (omega (arith, lt, count))

pub rings_put : (olds news : List Reel) (i : ℕ) (x y : Reel) → slice_get news i ≡ Some x → SameOut x.out y.out → SameRings olds news → SameRings olds (slice_set news i y)
rings_put olds news i x y got goes = paired_put (λ w a b. SameOut a.out b.out) (λ w a b. SameOut a.out b.out) 0 i olds news x y (λ v a u d r. r) (λ a there r. then_out a.out x.out y.out r goes) got

pub take_same : (reels : List Reel) → AllTakeOn reels reels
take_same = paired_same (λ w a b. TakesOn a b) (λ w reel. takes_none reel) 0

pub take_put : (olds news : List Reel) (i : ℕ) (x y : Reel) → slice_get news i ≡ Some x → TakesOn x y → AllTakeOn olds news → AllTakeOn olds (slice_set news i y)
take_put olds news i x y got goes = paired_put (λ w a b. TakesOn a b) (λ w a b. TakesOn a b) 0 i olds news x y (λ v a u d r. r) (λ a there r. takes_then a x y r goes) got
