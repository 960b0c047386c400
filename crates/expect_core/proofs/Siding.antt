-- Who takes part in an expect: one more place among the others, in its order.
use Rattle.std.proofs.Common.{◌≡◌, ◌≢◌, ℕ, suc, ◌+◌, ◌<◌, ◌≤◌, List, [], ◌∷◌, ◌++◌, length, Bool, true, false, Result, Ok, refl, sym, ap, subst, ◌∙◌, arith}
use Rattle.std.proofs.lemmas.Bool.Decides.{nat_tests}
use Rattle.std.specs.Prelude.{◌==◌, nat_lt, insert, slice_index_or, if◌then◌else◌}
use Rattle.exp_match.specs.declared.list.PatternList.{PatternList}
use Rattle.exp_match.specs.Arguments.{patterns_of}
use Rattle.tcl_subst.specs.Variables.{Variables}
use Rattle.tcl_results.specs.declared.complaint.Complaint.{Complaint}
use Rattle.tcl_results.specs.Said.{Said, ◌>>=◌}
use Rattle.tcl_results.specs.Says.{Says}
use Rattle.expect_core.specs.declared.body.Body.{Body}
use Rattle.expect_core.specs.declared.own.Own.{Own}
use Rattle.expect_core.specs.Expecting.{patterns_by}
use Rattle.expect_core.specs.Sides.{rank_of, with_place}

module _ (i : ℕ) where
  behind_by : (k : ℕ) (ks : List ℕ) → (length ks ≤ rank_of i ks → with_place i ks ≡ ks ++ i ∷ []) → (a : Bool) → length (k ∷ ks) ≤ (if a then suc (rank_of i ks) else 0)
      → (let all : List ℕ = (if a then k ∷ with_place i ks else if k == i then k ∷ ks else i ∷ k ∷ ks) in all ≡ k ∷ (ks ++ i ∷ []))
  behind_by k ks rest true le = ap (λ (l : List ℕ). k ∷ l) (rest (let le : suc (length ks) ≤ suc (rank_of i ks) = le in omega (arith, le)))
  behind_by k ks rest false le = absurd (let no : suc (length ks) ≤ 0 = le in omega (arith, no))

  pub behind_all : (ks : List ℕ) → length ks ≤ rank_of i ks → with_place i ks ≡ ks ++ i ∷ []
  behind_all [] le = refl
  behind_all (k ∷ ks) le = behind_by k ks (behind_all ks) (nat_lt k i) le

  module _ (d : ℕ) where
    same_by : (k : ℕ) (ks : List ℕ) → (rank_of i ks < length ks → (slice_index_or ks (rank_of i ks) d == i) ≡ true → with_place i ks ≡ ks)
        → (a : Bool) → (let n : ℕ = (if a then suc (rank_of i ks) else 0) in n < length (k ∷ ks) → (slice_index_or (k ∷ ks) n d == i) ≡ true
        → (let all : List ℕ = (if a then k ∷ with_place i ks else if k == i then k ∷ ks else i ∷ k ∷ ks) in all ≡ k ∷ ks))
    same_by k ks rest true lt e = ap (λ (l : List ℕ). k ∷ l) (rest (let lt : suc (rank_of i ks) < suc (length ks) = lt in omega (arith, lt)) e)
    same_by k ks rest false lt e = ap (λ (b : Bool). let all : List ℕ = (if b then k ∷ ks else i ∷ k ∷ ks) in all) e

    pub at_same : (ks : List ℕ) → rank_of i ks < length ks → (slice_index_or ks (rank_of i ks) d == i) ≡ true → with_place i ks ≡ ks
    at_same [] lt e = absurd (let no : 0 < 0 = lt in omega (arith, no))
    at_same (k ∷ ks) lt e = same_by k ks (at_same ks) (nat_lt k i) lt e

    other_by : (k : ℕ) (ks : List ℕ) → (rank_of i ks < length ks → (slice_index_or ks (rank_of i ks) d == i) ≡ false → with_place i ks ≡ insert ks (rank_of i ks) i)
        → (a : Bool) → (let n : ℕ = (if a then suc (rank_of i ks) else 0) in n < length (k ∷ ks) → (slice_index_or (k ∷ ks) n d == i) ≡ false
        → (let all : List ℕ = (if a then k ∷ with_place i ks else if k == i then k ∷ ks else i ∷ k ∷ ks) in all ≡ insert (k ∷ ks) n i))
    other_by k ks rest true lt e = ap (λ (l : List ℕ). k ∷ l) (rest (let lt : suc (rank_of i ks) < suc (length ks) = lt in omega (arith, lt)) e)
    other_by k ks rest false lt e = ap (λ (b : Bool). let all : List ℕ = (if b then k ∷ ks else i ∷ k ∷ ks) in all) e

    pub at_other : (ks : List ℕ) → rank_of i ks < length ks → (slice_index_or ks (rank_of i ks) d == i) ≡ false → with_place i ks ≡ insert ks (rank_of i ks) i
    at_other [] lt e = absurd (let no : 0 < 0 = lt in omega (arith, no))
    at_other (k ∷ ks) lt e = other_by k ks (at_other ks) (nat_lt k i) lt e

-- what a place more leaves of a vector
module _ (i n : ℕ) (old inside : List ℕ) (same : inside ≡ old) (rank : n ≡ rank_of i old) where
  is_behind : length inside ≤ n → length old ≤ rank_of i old
  is_behind le = let long = ap length same in omega (arith, long, rank, le)

  is_within : n < length inside → rank_of i old < length old
  is_within lt = let long = ap length same in omega (arith, long, rank, lt)

  pub placed_behind : (new : List ℕ) → length inside ≤ n → new ≡ inside ++ i ∷ [] → new ≡ with_place i old
  placed_behind new le e = e ∙ ap (λ (ks : List ℕ). ks ++ i ∷ []) same ∙ sym (behind_all i old (is_behind le))

  there : (k : ℕ) → k ≡ slice_index_or inside n k → slice_index_or old (rank_of i old) k ≡ k
  there k at = ap (λ (m : ℕ). slice_index_or old m k) (sym rank) ∙ ap (λ (ks : List ℕ). slice_index_or ks n k) (sym same) ∙ sym at

  equal : (a b : ℕ) → a ≡ b → (a == b) ≡ true
  equal a b e = grind (arith, nat_tests)

  unequal : (a b : ℕ) → a ≢ b → (a == b) ≡ false
  unequal a b differ = grind (arith, nat_tests)

  pub placed_same : (k : ℕ) → n < length inside → k ≡ slice_index_or inside n k → k ≡ i → old ≡ with_place i old
  placed_same k lt at is = sym (at_same i k old (is_within lt) (ap (λ (x : ℕ). x == i) (there k at) ∙ equal k i is))

  pub placed_other : (k : ℕ) (new : List ℕ) → n < length inside → k ≡ slice_index_or inside n k → k ≢ i → new ≡ insert inside n i → new ≡ with_place i old
  placed_other k new lt at differ e =
      e ∙ ap (λ (ks : List ℕ). insert ks n i) same
      ∙ ap (λ (m : ℕ). insert old m i) rank
      ∙ sym (at_other i k old (is_within lt) (ap (λ (x : ℕ). x == i) (there k at) ∙ unequal k i differ))

-- the patterns that were compiled are no part of what a list means
pub list_said : {X : Type 0} (r : Result X Complaint) (by : PatternList → Own → Said X) (args : List (List ℕ)) (o : Own) (bodies : List Body) (list : PatternList) → bodies ≡ o.bodies → patterns_by args (patterns_of args) ≡ Ok list → Says r (by list (record o { bodies = bodies })) → Says r (patterns_by args (patterns_of args) >>= λ list. by list o)
list_said r by args o bodies list same said says =
    subst (λ (m : Said PatternList). Says r (m >>= λ list. by list o)) (sym said)
    (subst (λ (bs : List Body). Says r (by list (record o { bodies = bs }))) same says)
