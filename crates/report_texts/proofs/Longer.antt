-- A list with one element more.
use Rattle.std.proofs.Common.{◌≡◌, ℕ, zero, suc, ◌+◌, List, [], ◌∷◌, ◌++◌, length, Option, Some, None, refl, subst, arith}
use Rattle.std.specs.Prelude.{slice_get}

one_there : {X : Type 0} (x y : X) → Some x ≡ Some y → x ≡ y
one_there x y h = cc

nothing_there : {X : Type 0} (x : X) → ◌≡◌ {A = Option X} None (Some x) → ⊥
nothing_there x h = cc

pub each_and_last : {X : Type 0} (P : ℕ → X → Type 0) (xs : List X) (x : X) → ((i : ℕ) (y : X) → slice_get xs i ≡ Some y → P i y) → P (length xs) x → (i : ℕ) (y : X) → slice_get (xs ++ x ∷ []) i ≡ Some y → P i y
each_and_last P [] x each last zero y got = subst (P 0) (one_there x y got) last
each_and_last P [] x each last (suc i) y got = absurd (nothing_there y got)
each_and_last P (z ∷ xs) x each last zero y got = each 0 y got
each_and_last P (z ∷ xs) x each last (suc i) y got = each_and_last (λ j. P (suc j)) xs x (λ j y g. each (suc j) y g) last i y got

pub one_longer : {X : Type 0} (xs : List X) (x : X) → length (xs ++ x ∷ []) ≡ length xs + 1
one_longer [] x = refl
one_longer (y ∷ xs) x = let e = one_longer xs x in omega (arith, e)
