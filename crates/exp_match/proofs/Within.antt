-- The spans of what is found lie in the bytes, from the place on where the search began.
use Rattle.std.proofs.Common.{◌≡◌, ℕ, zero, suc, ◌+◌, ◌*◌, ◌<◌, ◌≤◌, false, List, length, get_or, Option, Some, None, IfSome, sym, ap, ap₂, ◌∙◌, subst, ⊎_elim, ne_eqb, arith}
use Rattle.std.proofs.lemmas.Bool.{cases_lt, cond-false}
use Rattle.std.proofs.lemmas.List.{get_or_past}
use Rattle.std.proofs.lemmas.Option.{get_or_from_slice_get}
use Rattle.std.specs.Option.{option_or}
use Rattle.regex_hir.specs.Re.{Re}
use Rattle.regex_hir.specs.Find.{Match, find, last_write, slot_of}
use Rattle.regex_hir.proofs.OptionLemmas.{IsSome-of_value, option_or-None}
use Rattle.regex.specs.Writes.{both, group_of}
use Rattle.regex.proofs.SearchLemmas.{leftmost_attempt, leftmost_within}
use Rattle.regex.proofs.WritesLemmas.{last_write_has, writes_are_tidy}
use Rattle.exp_match.specs.Written.{AreGroupsOf, AreWithin, seen_of}

-- the bounds of a group from 1 on are what the pattern wrote last
slot_of_group : (m : Match) (slot : ℕ) → 2 ≤ slot → slot_of m slot ≡ last_write m.trace.writes slot
unfolding slot_of
slot_of_group m slot high =
    ap₂ option_or
    (ap (option_or (last_write m.trace.writes slot)) (cond-false _ (Some m.trace.end) None (ne_eqb 1 slot (omega arith)))
    ∙ option_or-None _)
    (cond-false _ (Some m.start) None (ne_eqb 0 slot (omega arith)))
    ∙ option_or-None _

abbrev IsSpanIn : ℕ → ℕ → Option (ℕ × ℕ) → Type 0
IsSpanIn low high o = IfSome o (λ s. (low ≤ s.0) × (s.0 ≤ s.1) × (s.1 ≤ high))

module _ (re : Re) (hay : List ℕ) (start : ℕ) (m : Match) (found : find re hay start ≡ Some m) where
  group_within : (n : ℕ) → 1 ≤ n → IsSpanIn start (length hay) (group_of m n)
  group_within n some =
      let at = leftmost_attempt re hay false start m found in
      let whole = leftmost_within re hay false start m found in
      let tidy = writes_are_tidy hay re m.start m.trace at.2 in
      let Placed : ℕ → Type 0 = λ i. (m.start ≤ i) × (i ≤ m.trace.end) × Unit {0} in
      let first : slot_of m (2 * n) ≡ last_write m.trace.writes (2 * n) = slot_of_group m (2 * n) (omega arith) in
      let last : slot_of m (2 * n + 1) ≡ last_write m.trace.writes (2 * n + 1) = slot_of_group m (2 * n + 1) (omega arith) in
      ⊎_elim
      (λ unset. subst (IsSpanIn start (length hay)) (sym (ap₂ both (first ∙ unset.0) (last ∙ unset.1))) tt)
      (λ set.
      let low = last_write_has Placed m.trace.writes (2 * n) set.0 tidy.placed set.2 in
      let high = last_write_has Placed m.trace.writes (2 * n + 1) set.1 tidy.placed set.3 in
      subst (IsSpanIn start (length hay)) (sym (ap₂ both (first ∙ set.2) (last ∙ set.3)))
      (omega (arith, low.0, at.0), set.4, omega (arith, high.1, whole.2)))
      (tidy.paired n)

  pub found_within : (spans : List (Option (ℕ × ℕ))) → length spans ≡ 10 → AreGroupsOf (seen_of m) spans → AreWithin start (length hay) spans
  found_within spans ten are = (ten, IsSome-of_value _ _ whole, each)
    where
      whole : get_or spans 0 None ≡ Some (m.start, m.trace.end)
      whole = get_or_from_slice_get spans 0 (Some (m.start, m.trace.end)) None are.0

      each : (n : ℕ) → IsSpanIn start (length hay) (get_or spans n None)
      each zero = subst (IsSpanIn start (length hay)) (sym whole) (leftmost_within re hay false start m found)
      each (suc n) =
          ⊎_elim
          (λ (lt : suc n < 10).
          subst (IsSpanIn start (length hay)) (sym (get_or_from_slice_get spans (suc n) (group_of m (suc n)) None (are.1 (suc n) (omega arith) lt)))
          (group_within (suc n) (omega arith)))
          (λ (past : 10 ≤ suc n). subst (IsSpanIn start (length hay)) (sym (get_or_past spans (suc n) None (omega arith))) tt)
          (cases_lt (suc n) 10)
