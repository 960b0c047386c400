-- What several rings held goes behind one another.
use Rattle.std.proofs.Common.{◌≡◌, ℕ, zero, suc, ◌+◌, ◌-◌, ◌≤◌, ◌<◌, List, [], ◌∷◌, ◌++◌, map, take, length, Option, Some, None, refl, sym, ap, subst, ◌∙◌, append-nil, append_assoc, arith}
use Rattle.std.specs.Prelude.{slice_get, slice_set}
use Rattle.child_events.specs.declared.event.HallEvent.{HallEvent}
use Rattle.run_records.specs.declared.reel.Reel.{Reel}
use Rattle.run_records.specs.Joined.{numbered, all_from, all_of}
use Rattle.feed_rings.specs.Ends.{SameOut}
use Rattle.run_records.specs.Merged.{AllNumbered, AllNumberedFrom, AllPaired, SameRings, gone, all_gone, IsMove, Moves, AllMove}
use Rattle.run_records.proofs.Rows.{paired_same, paired_map, paired_put, paired_upto, paired_count}

no_ring : (x : Reel) → ◌≡◌ {A = Option Reel} None (Some x) → ⊥
no_ring x h = cc

same_ring : (x y : Reel) → Some x ≡ Some y → x ≡ y
same_ring x y h = cc

-- those from a place on hold what they held
abbrev pub AreLeft : ℕ → ℕ → List Reel → List Reel → Type 0
AreLeft at w olds news = AllPaired (λ v old new. at ≤ v → new ≡ old) w olds news

gone_same : (old new : Reel) → new ≡ old → gone old new ≡ []
gone_same old new is = ap (λ (r : Reel). take (length old.held.items - length r.held.items) old.held.items) is ∙ ap (λ (n : ℕ). take n old.held.items) (let e : length old.held.items - length old.held.items ≡ 0 = omega arith in e)

module _ (n : ℕ) where
  none_gone : (w : ℕ) (olds news : List Reel) → AreLeft w w olds news → (all_from n w (all_gone olds news) ≡ []) × AllNumberedFrom n w (all_gone olds news)
  none_gone w [] news left = (refl, tt)
  none_gone w (o ∷ olds) [] left = (refl, tt)
  none_gone w (o ∷ olds) (x ∷ news) left =
      let is = gone_same o x (left.0 (omega arith)) in
      let more = none_gone (w + 1) olds news (paired_map (λ v old new. w ≤ v → new ≡ old) (λ v old new. w + 1 ≤ v → new ≡ old) (w + 1) olds news (λ v a b le h from. h (omega (arith, from))) left.1) in (
        ap (λ (es : List HallEvent). map (numbered n w) es ++ all_from n (w + 1) (all_gone olds news)) is ∙ more.0,
        (subst (AllNumbered n w) (sym is) tt, more.1),
      )

  -- of one ring more
  gone_put : (w i : ℕ) (olds news : List Reel) (x y : Reel) → slice_get news i ≡ Some x → AreLeft (w + i) w olds news →
      (all_from n w (all_gone olds (slice_set news i y)) ≡ all_from n w (all_gone olds news) ++ map (numbered n (w + i)) (gone x y))
      × (AllNumberedFrom n w (all_gone olds (slice_set news i y)) → AllNumberedFrom n w (all_gone olds news) × AllNumbered n (w + i) (gone x y))
  gone_put w i [] [] x y got left = absurd (no_ring x got)
  gone_put w i [] (z ∷ news) x y got left = absurd left
  gone_put w i (o ∷ olds) [] x y got left = absurd left
  gone_put w zero (o ∷ olds) (z ∷ news) x y got left =
      let first : z ≡ x = same_ring z x got in
      let same : z ≡ o = left.0 (omega arith) in
      let old : o ≡ x = sym same ∙ first in
      let here : w + 0 ≡ w = omega arith in
      let rest = none_gone (w + 1) olds news (paired_map (λ v old new. w + 0 ≤ v → new ≡ old) (λ v old new. w + 1 ≤ v → new ≡ old) (w + 1) olds news (λ v a b le h from. h (omega (arith, from))) left.1) in
      let empty = gone_same o z same in (
        ap (λ (es : List HallEvent). map (numbered n w) (gone o y) ++ es) rest.0
            ∙ append-nil (map (numbered n w) (gone o y))
            ∙ ap (λ (r : Reel). map (numbered n w) (gone r y)) old
            ∙ ap (λ (v : ℕ). map (numbered n v) (gone x y)) (sym here)
            ∙ ap (λ (es : List HallEvent). es ++ map (numbered n (w + 0)) (gone x y)) (sym (ap (λ (es : List HallEvent). map (numbered n w) es ++ all_from n (w + 1) (all_gone olds news)) empty ∙ rest.0)),
        λ good. ((subst (AllNumbered n w) (sym empty) tt, rest.1), subst (λ (v : ℕ). AllNumbered n v (gone x y)) (sym here) (subst (λ (r : Reel). AllNumbered n w (gone r y)) old good.0)),
      )
  gone_put w (suc i) (o ∷ olds) (z ∷ news) x y got left =
      let there : w + 1 + i ≡ w + suc i = omega arith in
      let more = gone_put (w + 1) i olds news x y got (subst (λ (v : ℕ). AreLeft v (w + 1) olds news) (sym there) left.1) in (
        ap (λ (es : List HallEvent). map (numbered n w) (gone o z) ++ es) more.0
            ∙ sym (append_assoc (map (numbered n w) (gone o z)) (all_from n (w + 1) (all_gone olds news)) (map (numbered n (w + 1 + i)) (gone x y)))
            ∙ ap (λ (v : ℕ). (map (numbered n w) (gone o z) ++ all_from n (w + 1) (all_gone olds news)) ++ map (numbered n v) (gone x y)) there,
        λ good. let r = more.1 good.1 in ((good.0, r.0), subst (λ (v : ℕ). AllNumbered n v (gone x y)) there r.1),
      )

-- those before a place have moved, and the others are left
pub record MergedTo (bound n at : ℕ) (olds news : List Reel) (all : List HallEvent) : Type 0 where
  pub moved : AllPaired (λ w old new. (w < at → IsMove bound old new) × (at ≤ w → new ≡ old)) 0 olds news
  pub behind : AllNumberedFrom n 0 (all_gone olds news) → all ≡ all_from n 0 (all_gone olds news)

pub merged_first : (bound n : ℕ) (olds : List Reel) → MergedTo bound n 0 olds olds []
merged_first bound n olds = record {
  moved = paired_same (λ w old new. (w < 0 → IsMove bound old new) × (0 ≤ w → new ≡ old)) (λ w reel. (λ lt. absurd (omega (arith, lt)), λ le. refl)) 0 olds;
  behind = λ good. sym (none_gone n 0 olds olds (paired_same (λ w old new. 0 ≤ w → new ≡ old) (λ w reel le. refl) 0 olds)).0;
}

pub merged_next : (bound n at : ℕ) (olds news : List Reel) (all all' : List HallEvent) (x y : Reel) → MergedTo bound n at olds news all → slice_get news at ≡ Some x → Moves bound n at x all y all' → MergedTo bound n (at + 1) olds (slice_set news at y) all'
merged_next bound n at olds news all all' x y m got goes = record {
  moved = paired_put (λ w old new. (w < at → IsMove bound old new) × (at ≤ w → new ≡ old)) (λ w old new. (w < at + 1 → IsMove bound old new) × (at + 1 ≤ w → new ≡ old)) 0 at olds news x y
      (λ v a u d r. (λ lt. r.0 (before v d lt), λ le. r.1 (omega (arith, le))))
      (λ a there r. (λ lt. subst (λ (o : Reel). IsMove bound o y) (r.1 (omega arith)) goes.0, λ le. absurd (omega (arith, le))))
      got m.moved;
  behind = λ good.
      let p = put.1 good in
      goes.1 p.1 ∙ ap (λ (es : List HallEvent). es ++ map (numbered n at) (gone x y)) (m.behind p.0) ∙ sym put.0;
}
  where
    before : (v : ℕ) → (v ≡ 0 + at → ⊥) → v < at + 1 → v < at
    before v d lt = omega (arith, d, lt)

    put : (all_from n 0 (all_gone olds (slice_set news at y)) ≡ all_from n 0 (all_gone olds news) ++ map (numbered n at) (gone x y))
        × (AllNumberedFrom n 0 (all_gone olds (slice_set news at y)) → AllNumberedFrom n 0 (all_gone olds news) × AllNumbered n at (gone x y))
    put = subst (λ (v : ℕ). (all_from n 0 (all_gone olds (slice_set news at y)) ≡ all_from n 0 (all_gone olds news) ++ map (numbered n v) (gone x y))
        × (AllNumberedFrom n 0 (all_gone olds (slice_set news at y)) → AllNumberedFrom n 0 (all_gone olds news) × AllNumbered n v (gone x y))) (let e : 0 + at ≡ at = omega arith in e)
        (gone_put n 0 at olds news x y got (paired_map (λ w old new. (w < at → IsMove bound old new) × (at ≤ w → new ≡ old)) (λ w old new. 0 + at ≤ w → new ≡ old) 0 olds news (λ v a b le r from. r.1 (omega (arith, from))) m.moved))

pub moved_all : (bound n at : ℕ) (olds news : List Reel) (all : List HallEvent) → length olds ≤ at → MergedTo bound n at olds news all → AllPaired (λ w old new. IsMove bound old new) 0 olds news
moved_all bound n at olds news all le m = paired_upto (IsMove bound) at 0 olds news (omega (arith, le)) (paired_map (λ w old new. (w < at → IsMove bound old new) × (at ≤ w → new ≡ old)) (λ w old new. w < at → IsMove bound old new) 0 olds news (λ v a b lt r. r.0) m.moved)

pub gone_count : (olds news : List Reel) → length news ≡ length olds → length (all_gone olds news) ≡ length olds
gone_count [] news e = refl
gone_count (o ∷ olds) [] e = absurd (omega (arith, e))
gone_count (o ∷ olds) (x ∷ news) e = ap suc (gone_count olds news (omega (arith, e)))

pub all_of_gone : (olds news : List Reel) → SameRings olds news → all_from (length olds) 0 (all_gone olds news) ≡ all_of (all_gone olds news)
all_of_gone olds news same = ap (λ (n : ℕ). all_from n 0 (all_gone olds news)) (sym (gone_count olds news (paired_count (λ w a b. SameOut a.out b.out) 0 olds news same)))
