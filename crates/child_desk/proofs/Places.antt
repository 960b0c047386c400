-- Lists in which one place is set.
use Rattle.std.proofs.Common.{◌≡◌, ◌≢◌, ℕ, zero, suc, ◌<◌, List, [], ◌∷◌, length, Option, Some, None, refl, ap, arith}
use Rattle.std.proofs.lemmas.Option.{slice_get_within}
use Rattle.std.specs.Prelude.{slice_get, slice_set}

pub nothing_there : {X : Type 0} (x : X) → ◌≡◌ {A = Option X} None (Some x) → ⊥
nothing_there x h = cc

pub one_there : {X : Type 0} (x y : X) → Some x ≡ Some y → x ≡ y
one_there x y h = cc

pub set_here : {X : Type 0} (i : ℕ) (xs : List X) (x y : X) → slice_get xs i ≡ Some x → slice_get (slice_set xs i y) i ≡ Some y
set_here i [] x y h = absurd (nothing_there x h)
set_here zero (z ∷ xs) x y h = refl
set_here (suc i) (z ∷ xs) x y h = set_here i xs x y h

pub set_there : {X : Type 0} (i j : ℕ) (xs : List X) (y : X) → j ≢ i → slice_get (slice_set xs i y) j ≡ slice_get xs j
set_there i j [] y other = refl
set_there zero zero (z ∷ xs) y other = absurd (other refl)
set_there zero (suc j) (z ∷ xs) y other = refl
set_there (suc i) zero (z ∷ xs) y other = refl
set_there (suc i) (suc j) (z ∷ xs) y other = set_there i j xs y (λ e. other (ap suc e))

pub set_length : {X : Type 0} (i : ℕ) (xs : List X) (y : X) → length (slice_set xs i y) ≡ length xs
set_length i [] y = refl
set_length zero (z ∷ xs) y = refl
set_length (suc i) (z ∷ xs) y = ap suc (set_length i xs y)

-- a place past the end
pub none_past : {X : Type 0} (i at n : ℕ) (xs : List X) (x : X) → at ≡ i → n ≡ length xs → (at < n → ⊥) → slice_get xs i ≡ Some x → ⊥
none_past i at n xs x e size past got = let within = slice_get_within xs i x got in past (omega (arith, e, size, within))
