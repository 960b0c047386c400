-- Answers that are among what was told, and the requests in the same places.
use Rattle.std.proofs.Common.{◌≡◌, ℕ, suc, ◌+◌, ◌≤◌, List, [], ◌∷◌, ◌++◌, length, Option, Some, None, sym, subst, arith}
use Rattle.std.specs.Prelude.{slice_get, Contains}
use Rattle.child_events.specs.declared.event.Answer.{Answer}
use Rattle.expect_core.specs.declared.request.Request.{Request}
use Rattle.child_desk.specs.Told.{Telling, Reply, AreAmong, AreOf}

no_request : (q : Request) → ◌≡◌ {A = Option Request} None (Some q) → ⊥
no_request q h = cc

same_request : (q r : Request) → Some q ≡ Some r → q ≡ r
same_request q r h = cc

-- what was told is still known
abbrev pub IsWithin : List Telling → List Telling → Type 0
IsWithin ts us = (t : Telling) → Contains ts t → Contains us t

pub among_more : (ts us : List Telling) → IsWithin ts us → (name n : ℕ) (xs : List Answer) (qs : List Request) → AreAmong ts name n xs qs → AreAmong us name n xs qs
among_more ts us within name n [] qs t = tt
among_more ts us within name n (a ∷ xs) [] t = absurd t
among_more ts us within name n (a ∷ xs) (q ∷ qs) t = (within _ t.0, among_more ts us within name (n + 1) xs qs t.1)

module _ (ts : List Telling) where
  -- more requests than those that were answered
  pub told_more : (name n : ℕ) (xs : List Answer) (qs more : List Request) → AreAmong ts name n xs qs → AreAmong ts name n xs (qs ++ more)
  told_more name n [] qs more t = tt
  told_more name n (a ∷ xs) [] more t = absurd t
  told_more name n (a ∷ xs) (q ∷ qs) more t = (t.0, told_more name (n + 1) xs qs more t.1)

  -- one answer more, to the request in its place
  pub told_last : (name n : ℕ) (xs : List Answer) (a : Answer) (qs : List Request) (r : Request) → AreAmong ts name n xs qs → slice_get qs (length xs) ≡ Some r →
      Contains ts (record { name = name; call = n + length xs + 1; request = r; answer = a }) → AreAmong ts name n (xs ++ a ∷ []) qs
  told_last name n [] a [] r t got is = absurd (no_request r got)
  told_last name n [] a (q ∷ qs) r t got is =
      let call : n + 0 + 1 ≡ n + 1 = omega arith in (
        subst (λ (x : Request). Contains ts (record { name = name; call = n + 1; request = x; answer = a })) (sym (same_request q r got)) (subst (λ (c : ℕ). Contains ts (record { name = name; call = c; request = r; answer = a })) call is),
        tt,
      )
  told_last name n (x ∷ xs) a [] r t got is = absurd t
  told_last name n (x ∷ xs) a (q ∷ qs) r t got is =
      let call : n + suc (length xs) + 1 ≡ n + 1 + length xs + 1 = omega arith in
      (t.0, told_last name (n + 1) xs a qs r t.1 got (subst (λ (c : ℕ). Contains ts (record { name = name; call = c; request = r; answer = a })) call is))

  pub among_few : (name n : ℕ) (xs : List Answer) (qs : List Request) → AreAmong ts name n xs qs → length xs ≤ length qs
  among_few name n [] qs t = omega arith
  among_few name n (a ∷ xs) [] t = absurd t
  among_few name n (a ∷ xs) (q ∷ qs) t = let le = among_few name (n + 1) xs qs t.1 in omega (arith, le)

-- answers of the children of these requests, and of more

pub of_more : (xs : List Reply) (qs more : List Request) → AreOf xs qs → AreOf xs (qs ++ more)
of_more [] qs more t = tt
of_more (x ∷ xs) [] more t = absurd t
of_more (x ∷ xs) (q ∷ qs) more t = (t.0, of_more xs qs more t.1)

pub of_last : (xs : List Reply) (x : Reply) (qs : List Request) (r : Request) → AreOf xs qs → slice_get qs (length xs) ≡ Some r → x.child ≡ r.child → AreOf (xs ++ x ∷ []) qs
of_last [] x [] r t got is = absurd (no_request r got)
of_last [] x (q ∷ qs) r t got is = (subst (λ (y : Request). x.child ≡ y.child) (sym (same_request q r got)) is, tt)
of_last (y ∷ xs) x [] r t got is = absurd t
of_last (y ∷ xs) x (q ∷ qs) r t got is = (t.0, of_last xs x qs r t.1 got is)
