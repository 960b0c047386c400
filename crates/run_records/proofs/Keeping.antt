-- What was handed on is one record of what comes first.
use Rattle.std.proofs.Common.{◌≡◌, ◌⊎◌, inl, inr, ℕ, zero, suc, ◌+◌, ◌≤◌, ◌<◌, List, [], ◌∷◌, ◌++◌, map, length, Option, Some, None, refl, sym, ap, subst, ◌∙◌, append-nil, append_assoc, arith}
use Rattle.std.specs.Prelude.{◌==◌}
use Rattle.std.specs.List.{AllByRecursion}
use Rattle.std.proofs.lemmas.List.{map-append}
use Rattle.std.proofs.lemmas.List.Elements.{filter-append}
use Rattle.child_events.specs.declared.event.HallEvent.{HallEvent}
use Rattle.child_hands.specs.declared.log_item.LogItem.{LogItem}
use Rattle.child_hands.specs.declared.log_item.LogItem.TheVariants as item
use Rattle.child_hands.specs.Record.{moment_in, moment_at, AscendsFrom, Ascends, events_in, ItemsAscendFrom}
use Rattle.run_records.specs.declared.reel.Reel.{Reel}
use Rattle.run_records.specs.Joined.{numbered, all_from, all_of, at_moment, IsJoined}
use Rattle.run_records.specs.Merged.{AllBelow, AllFrom, BeginsFrom, AllPaired, AllNumbered, AllNumberedFrom, last_moment}
use Rattle.run_records.proofs.Parting.{events_append, all_append, all_front, all_rest}
use Rattle.run_records.proofs.Merging.{Entries, at_here, at_other, ascends_lower, decided, numbered_moment}

pub lt_or_le : (m c : ℕ) → (m < c) ⊎ (c ≤ m)
lt_or_le m zero = inr (omega arith)
lt_or_le zero (suc c) = inl (omega arith)
lt_or_le (suc m) (suc c) = elim (lt_or_le m c) [
  | inl lt ↦ inl (omega (arith, lt))
  | inr le ↦ inr (omega (arith, le))
]

-- two records, one behind the other

ascends_behind : (l b : ℕ) (es fs : Entries) → l ≤ b → AscendsFrom l es → AllBelow b es → AscendsFrom b fs → AscendsFrom l (es ++ fs)
ascends_behind l b [] fs le a below c = ascends_lower l b fs le c
ascends_behind l b (e ∷ es) fs le a below c = (a.0, ascends_behind (moment_in e) b es fs (let lt = below.0 in omega (arith, lt)) a.1 below.1 c)

pub ascends_from : (l b : ℕ) (es : Entries) → AscendsFrom l es → BeginsFrom b es → AscendsFrom b es
ascends_from l b [] a first = tt
ascends_from l b (e ∷ es) a first = (first, a.1)

pub all_from_first : (b : ℕ) (es : Entries) → AscendsFrom b es → AllFrom b es
all_from_first b [] a = tt
all_from_first b (e ∷ es) a = (a.0, all_from_first b es (ascends_lower b (moment_in e) es a.0 a.1))

begins_from : (b : ℕ) (es : Entries) → AllFrom b es → BeginsFrom b es
begins_from b [] all = tt
begins_from b (e ∷ es) all = all.0

-- entries of a moment

none_at : (m b : ℕ) (es : Entries) → b ≤ m → AllBelow b es → at_moment m es ≡ []
none_at m b [] le below = refl
none_at m b (e ∷ es) le below = at_other m e es (λ is. absurd (let lt = below.0 in omega (arith, le, lt, is))) ∙ none_at m b es le below.1

none_before : (m b : ℕ) (es : Entries) → m < b → AllFrom b es → at_moment m es ≡ []
none_before m b [] lt from = refl
none_before m b (e ∷ es) lt from = at_other m e es (λ is. absurd (let le = from.0 in omega (arith, lt, le, is))) ∙ none_before m b es lt from.1

nothing_here : (e : HallEvent) (es : Entries) → e ∷ es ≡ [] → ⊥
nothing_here e es h = cc

-- entries are below a moment where there are none of any other one
below_by : (b : ℕ) (es : Entries) → ((m : ℕ) → b ≤ m → at_moment m es ≡ []) → AllBelow b es
below_by b [] none = tt
below_by b (e ∷ es) none = (here, below_by b es behind)
  where
    here : moment_in e < b
    here = by_case (lt_or_le (moment_in e) b)
      where
        by_case : (moment_in e < b) ⊎ (b ≤ moment_in e) → moment_in e < b
        by_case (inl lt) = lt
        by_case (inr le) = absurd (nothing_here e (at_moment (moment_in e) es) (sym (at_here (moment_in e) e es refl) ∙ none (moment_in e) le))

    behind : (m : ℕ) → b ≤ m → at_moment m es ≡ []
    behind m le = elim (decided (moment_in e) m) [
      | inl is ↦ absurd (nothing_here e (at_moment m es) (sym (at_here m e es is) ∙ none m le))
      | inr d ↦ sym (at_other m e es d) ∙ none m le
    ]

from_by : (b : ℕ) (es : Entries) → ((m : ℕ) → m < b → at_moment m es ≡ []) → AllFrom b es
from_by b [] none = tt
from_by b (e ∷ es) none = (here, from_by b es behind)
  where
    here : b ≤ moment_in e
    here = by_case (lt_or_le (moment_in e) b)
      where
        by_case : (moment_in e < b) ⊎ (b ≤ moment_in e) → b ≤ moment_in e
        by_case (inr le) = le
        by_case (inl lt) = absurd (nothing_here e (at_moment (moment_in e) es) (sym (at_here (moment_in e) e es refl) ∙ none (moment_in e) lt))

    behind : (m : ℕ) → m < b → at_moment m es ≡ []
    behind m lt = elim (decided (moment_in e) m) [
      | inl is ↦ absurd (nothing_here e (at_moment m es) (sym (at_here m e es is) ∙ none m lt))
      | inr d ↦ sym (at_other m e es d) ∙ none m lt
    ]

-- the parts of records, pair by pair

abbrev pub each_on : List Entries → List Entries → List Entries
each_on [] qs = []
each_on (p ∷ ps) [] = []
each_on (p ∷ ps) (q ∷ qs) = (p ++ q) ∷ each_on ps qs

abbrev pub EachBelow : ℕ → List Entries → Type 0
EachBelow b ps = AllByRecursion (AllBelow b) ps

abbrev pub EachFrom : ℕ → List Entries → Type 0
EachFrom b ps = AllByRecursion (AllFrom b) ps

module _ (n : ℕ) where
  numbered_below : (w b : ℕ) (es : Entries) → AllBelow b es → AllBelow b (map (numbered n w) es)
  numbered_below w b [] all = tt
  numbered_below w b (e ∷ es) all = (subst (λ (m : ℕ). m < b) (sym (numbered_moment n w e)) all.0, numbered_below w b es all.1)

  numbered_from : (w b : ℕ) (es : Entries) → AllFrom b es → AllFrom b (map (numbered n w) es)
  numbered_from w b [] all = tt
  numbered_from w b (e ∷ es) all = (subst (λ (m : ℕ). b ≤ m) (sym (numbered_moment n w e)) all.0, numbered_from w b es all.1)

  below_all : (w b : ℕ) (ps : List Entries) → EachBelow b ps → AllBelow b (all_from n w ps)
  below_all w b [] each = tt
  below_all w b (p ∷ ps) each = all_append (λ (e : HallEvent). moment_in e < b) _ _ (numbered_below w b p each.0) (below_all (w + 1) b ps each.1)

  from_all : (w b : ℕ) (ps : List Entries) → EachFrom b ps → AllFrom b (all_from n w ps)
  from_all w b [] each = tt
  from_all w b (p ∷ ps) each = all_append (λ (e : HallEvent). b ≤ moment_in e) _ _ (numbered_from w b p each.0) (from_all (w + 1) b ps each.1)

  -- an earlier moment's entries are those of the first parts, a later one's those of the second

  at_low : (w m b : ℕ) (ps qs : List Entries) → length ps ≡ length qs → m < b → EachFrom b qs → at_moment m (all_from n w (each_on ps qs)) ≡ at_moment m (all_from n w ps)
  at_low w m b [] qs e lt from = refl
  at_low w m b (p ∷ ps) [] e lt from = absurd (omega (arith, e))
  at_low w m b (p ∷ ps) (q ∷ qs) e lt from =
      filter-append (λ (x : HallEvent). moment_in x == m) (map (numbered n w) (p ++ q)) (all_from n (w + 1) (each_on ps qs))
      ∙ ap (λ (es : Entries). at_moment m es ++ at_moment m (all_from n (w + 1) (each_on ps qs))) (map-append (numbered n w) p q)
      ∙ ap (λ (es : Entries). es ++ at_moment m (all_from n (w + 1) (each_on ps qs)))
      (filter-append (λ (x : HallEvent). moment_in x == m) (map (numbered n w) p) (map (numbered n w) q)
      ∙ ap (λ (es : Entries). at_moment m (map (numbered n w) p) ++ es) (none_before m b (map (numbered n w) q) lt (numbered_from w b q from.0))
      ∙ append-nil (at_moment m (map (numbered n w) p)))
      ∙ ap (λ (es : Entries). at_moment m (map (numbered n w) p) ++ es) (at_low (w + 1) m b ps qs (omega (arith, e)) lt from.1)
      ∙ sym (filter-append (λ (x : HallEvent). moment_in x == m) (map (numbered n w) p) (all_from n (w + 1) ps))

  at_high : (w m b : ℕ) (ps qs : List Entries) → length ps ≡ length qs → b ≤ m → EachBelow b ps → at_moment m (all_from n w (each_on ps qs)) ≡ at_moment m (all_from n w qs)
  at_high w m b [] [] e le below = refl
  at_high w m b [] (q ∷ qs) e le below = absurd (omega (arith, e))
  at_high w m b (p ∷ ps) [] e le below = absurd (omega (arith, e))
  at_high w m b (p ∷ ps) (q ∷ qs) e le below =
      filter-append (λ (x : HallEvent). moment_in x == m) (map (numbered n w) (p ++ q)) (all_from n (w + 1) (each_on ps qs))
      ∙ ap (λ (es : Entries). at_moment m es ++ at_moment m (all_from n (w + 1) (each_on ps qs))) (map-append (numbered n w) p q)
      ∙ ap (λ (es : Entries). es ++ at_moment m (all_from n (w + 1) (each_on ps qs)))
      (filter-append (λ (x : HallEvent). moment_in x == m) (map (numbered n w) p) (map (numbered n w) q)
      ∙ ap (λ (es : Entries). es ++ at_moment m (map (numbered n w) q)) (none_at m b (map (numbered n w) p) le (numbered_below w b p below.0)))
      ∙ ap (λ (es : Entries). at_moment m (map (numbered n w) q) ++ es) (at_high (w + 1) m b ps qs (omega (arith, e)) le below.1)
      ∙ sym (filter-append (λ (x : HallEvent). moment_in x == m) (map (numbered n w) q) (all_from n (w + 1) qs))

on_count : (ps qs : List Entries) → length ps ≡ length qs → length (each_on ps qs) ≡ length ps
on_count [] qs e = refl
on_count (p ∷ ps) [] e = absurd (omega (arith, e))
on_count (p ∷ ps) (q ∷ qs) e = ap suc (on_count ps qs (omega (arith, e)))

-- one record of first parts and one of second parts are one of the whole, where each first part is earlier than each second one
pub joined_on : (b : ℕ) (ps qs : List Entries) (es fs : Entries) → length ps ≡ length qs → EachBelow b ps → EachFrom b qs → IsJoined ps es → IsJoined qs fs → IsJoined (each_on ps qs) (es ++ fs)
joined_on b ps qs es fs e below from j k = record {
  ascends = ascends_behind 0 b es fs (omega arith) j.ascends low (ascends_from 0 b fs k.ascends (begins_from b fs high));
  ties = λ m. filter-append (λ (x : HallEvent). moment_in x == m) es fs ∙ by_case m (lt_or_le m b);
}
  where
    low : AllBelow b es
    low = below_by b es (λ m le. j.ties m ∙ none_at m b (all_of ps) le (below_all (length ps) 0 b ps below))

    high : AllFrom b fs
    high = from_by b fs (λ m lt. k.ties m ∙ none_before m b (all_of qs) lt (from_all (length qs) 0 b qs from))

    by_case : (m : ℕ) → (m < b) ⊎ (b ≤ m) → at_moment m es ++ at_moment m fs ≡ at_moment m (all_of (each_on ps qs))
    by_case m (inl lt) =
        ap (λ (l : Entries). at_moment m es ++ l) (none_before m b fs lt high)
        ∙ append-nil (at_moment m es)
        ∙ j.ties m
        ∙ sym (at_low (length ps) 0 m b ps qs e lt from)
        ∙ ap (λ (n : ℕ). at_moment m (all_from n 0 (each_on ps qs))) (sym (on_count ps qs e))
    by_case m (inr le) =
        ap (λ (l : Entries). l ++ at_moment m fs) (none_at m b es le low)
        ∙ k.ties m
        ∙ sym (at_high (length qs) 0 m b ps qs e le below)
        ∙ ap (λ (n : ℕ). at_moment m (all_from n 0 (each_on ps qs))) (sym (on_count ps qs e ∙ e))
