-- What an exact text or a regular pattern finds is what its function gives.
use Rattle.std.proofs.Common.{◌≡◌, ℕ, zero, suc, ◌+◌, ◌*◌, ◌<◌, ◌≤◌, Bool, true, ◌&&◌, List, [], ◌∷◌, length, length-drop, drop, get_or, get_or-drop, Option, Some, None, IsSomeAnd, IfSome, Decides, option_map, refl, sym, ap, subst, ◌∙◌, arith}
use Rattle.std.specs.List.{slice_get}
use Rattle.std.specs.Option.{option_and_then}
use Rattle.std.proofs.lemmas.Bool.{and_parts, and_from, cond-true, cond-false, false_from_ne_true, false≢true}
use Rattle.std.proofs.lemmas.Option.{same_Some}
use Rattle.regex.specs.Patterns.{Re, find}
use Rattle.regex.specs.Writes.{both}
use Rattle.regex_syntax.specs.Brackets.{Nested}
use Rattle.regex_syntax.specs.Grammar.{Names}
use Rattle.exp_glob.proofs.Found.{first_none, first_some}
use Rattle.exp_match.specs.Exact.{alike, StandsAt, FindsExact, begins, text_at, find_text}
use Rattle.exp_match.specs.Written.{Written, Seen, Shows, AreGroupsOf, FindsFrom, reading, seen_of, groups_from, groups_of, find_from}

-- exact texts

abbrev Fronts : Bool → List ℕ → List ℕ → Type 0
Fronts nocase text s = (length text ≤ length s) × ((j : ℕ) → j < length text → alike nocase (get_or s j 0) (get_or text j 0) ≡ true)

module _ (nocase : Bool) where
  -- one byte more
  begins_on : (b c : ℕ) (text s : List ℕ) → Decides (begins nocase text s) (Fronts nocase text s) → Decides (alike nocase b c && begins nocase text s) (Fronts nocase (c ∷ text) (b ∷ s))
  begins_on b c text s rest = (to, from)
    where
      each : alike nocase b c ≡ true → Fronts nocase text s → (j : ℕ) → j < suc (length text) → alike nocase (get_or (b ∷ s) j 0) (get_or (c ∷ text) j 0) ≡ true
      each same p zero lt = same
      each same p (suc j) lt = p.1 j (omega arith)

      to : (alike nocase b c && begins nocase text s) ≡ true → Fronts nocase (c ∷ text) (b ∷ s)
      to h =
          let p = and_parts (alike nocase b c) (begins nocase text s) h in
          let q = rest.0 p.1 in
          (omega (arith, q.0), each p.0 q)

      from : Fronts nocase (c ∷ text) (b ∷ s) → (alike nocase b c && begins nocase text s) ≡ true
      from p =
          and_from (alike nocase b c) (begins nocase text s) (p.1 0 (omega arith))
          (rest.1 (omega (arith, p.0), λ j lt. p.1 (suc j) (omega arith)))

  begins_decides : (text s : List ℕ) → Decides (begins nocase text s) (Fronts nocase text s)
  begins_decides [] s = (λ _. (omega arith, λ j lt. absurd (omega arith)), λ _. refl)
  begins_decides (c ∷ text) [] = (λ h. absurd (false≢true h), λ p. absurd (omega (arith, p.0)))
  begins_decides (c ∷ text) (b ∷ s) = begins_on b c text s (begins_decides text s)

  module _ (text bytes : List ℕ) where
    stands_from_begins : (k : ℕ) → k ≤ length bytes → begins nocase text (drop k bytes) ≡ true → StandsAt nocase text bytes k
    stands_from_begins k le h =
        let p = (begins_decides text (drop k bytes)).0 h in
        (omega (arith, p.0, length-drop k bytes), λ j lt. subst (λ x. alike nocase x (get_or text j 0) ≡ true) (get_or-drop k bytes j 0) (p.1 j lt))

    begins_from_stands : (k : ℕ) → StandsAt nocase text bytes k → begins nocase text (drop k bytes) ≡ true
    begins_from_stands k p =
        (begins_decides text (drop k bytes)).1
        (omega (arith, p.0, length-drop k bytes), λ j lt. subst (λ x. alike nocase x (get_or text j 0) ≡ true) (sym (get_or-drop k bytes j 0)) (p.1 j lt))

    none_at : (k : ℕ) → k ≤ length bytes → ¬ StandsAt nocase text bytes k → text_at nocase text bytes k ≡ None
    none_at k le none =
        cond-false (begins nocase text (drop k bytes)) (Some (k, k + length text)) None
        (false_from_ne_true (begins nocase text (drop k bytes)) (λ t. none (stands_from_begins k le t)))

    pub is_find_text : (found : Option (ℕ × ℕ)) → FindsExact nocase text bytes found → found ≡ find_text nocase text bytes
    unfolding find_text
    is_find_text None none = sym (first_none (text_at nocase text bytes) (length bytes + 1) (λ k lt. none_at k (omega arith) (none k)))
    is_find_text (Some s) is =
        let here : text_at nocase text bytes s.0 ≡ Some s
        = cond-true (begins nocase text (drop s.0 bytes)) (Some (s.0, s.0 + length text)) None (begins_from_stands s.0 is.0) ∙ ap (λ e. Some (s.0, e)) (sym is.1) in
        sym (first_some (text_at nocase text bytes) (length bytes + 1) s.0 s (omega (arith, is.0.0)) here
        (λ k lt. none_at k (omega (arith, is.0.0)) (λ t. let le : s.0 ≤ k = is.2 k t in absurd (omega arith))))

-- regular patterns

groups_listed : (m : Seen) (spans : List (Option (ℕ × ℕ))) (count n : ℕ) → length spans ≡ count
    → ((k : ℕ) → k < count → slice_get spans k ≡ Some (both (m.2 (2 * (n + k))) (m.2 (2 * (n + k) + 1)))) → spans ≡ groups_from m count n
groups_listed m [] zero n is each = refl
groups_listed m [] (suc count) n is each = absurd (omega arith)
groups_listed m (x ∷ spans) zero n is each = absurd (omega arith)
groups_listed m (x ∷ spans) (suc count) n is each =
    let place : n + 0 ≡ n = omega arith in
    let first : x ≡ both (m.2 (2 * n)) (m.2 (2 * n + 1))
    = same_Some x _ (each 0 (omega arith)) ∙ ap (λ (i : ℕ). both (m.2 (2 * i)) (m.2 (2 * i + 1))) place in
    let rest : spans ≡ groups_from m count (n + 1)
    = groups_listed m spans count (n + 1) (omega arith)
    (λ k lt.
    let next : n + suc k ≡ n + 1 + k = omega arith in
    each (suc k) (omega arith) ∙ ap (λ (i : ℕ). Some (both (m.2 (2 * i)) (m.2 (2 * i + 1)))) next) in
    cc

are_groups : (m : Seen) (spans : List (Option (ℕ × ℕ))) → length spans ≡ 10 → AreGroupsOf m spans → spans ≡ groups_of m
are_groups m [] ten are = absurd (omega arith)
are_groups m (x ∷ spans) ten are =
    let first : x ≡ Some (m.0, m.1) = same_Some x _ are.0 in
    let rest : spans ≡ groups_from m 9 1
    = groups_listed m spans 9 1 (omega arith)
    (λ k lt.
    let next : suc k ≡ 1 + k = omega arith in
    are.1 (suc k) (omega arith) (omega arith) ∙ ap (λ (i : ℕ). Some (both (m.2 (2 * i)) (m.2 (2 * i + 1)))) next) in
    ap (λ (s : Option (ℕ × ℕ)). s ∷ spans) first ∙ ap (λ (l : List (Option (ℕ × ℕ))). Some (m.0, m.1) ∷ l) rest

shown : (seen : Option Seen) (found : Option (List (Option (ℕ × ℕ)))) → IfSome found (λ spans. length spans ≡ 10) → Shows seen found → found ≡ option_map groups_of seen
shown seen None ten is = sym (ap (option_map groups_of) is)
shown seen (Some spans) ten is = ap Some (are_groups is.0 spans ten is.2) ∙ sym (ap (option_map groups_of) is.1)

by_reading : {X : Type 0} (seen : X → Option Seen) (found : Option (List (Option (ℕ × ℕ)))) → IfSome found (λ spans. length spans ≡ 10) → (o : Option X)
    → IsSomeAnd o (λ p. Shows (seen p) found) → found ≡ option_and_then (λ p. option_map groups_of (seen p)) o
by_reading seen found ten None h = absurd h
by_reading seen found ten (Some p) h = shown (seen p) found ten h

pub is_find_from : (w : Written) (bytes : List ℕ) (start : ℕ) (found : Option (List (Option (ℕ × ℕ)))) → IfSome found (λ spans. length spans ≡ 10)
    → FindsFrom w bytes start found → found ≡ find_from w bytes start
unfolding find_from
is_find_from w bytes start found ten is =
    by_reading (λ (p : Nested Re × Names). option_map seen_of (find p.0.value bytes start)) found ten (reading w) is
