-- Names beside values, as far as there are both.
use Rattle.std.proofs.Common.{◌≡◌, ℕ, List, [], ◌∷◌, ◌⊎◌, inl, inr, length, refl}
use Rattle.std.specs.List.{zip}
use native.Mathlib.Omega.{arith}

pub none_left : {I J : Type 0} {P : I → Type 0} {Q : J → Type 0} (ks vs : List (List ℕ)) → ((x : I) × (length ks ≡ 0 × P x)) ⊎ ((x : J) × (length vs ≡ 0 × Q x)) → zip ks vs ≡ []
none_left [] vs o = refl
none_left (k ∷ ks) [] o = refl
none_left (k ∷ ks) (v ∷ vs) (inl s) = absurd (omega (arith, s.1.0))
none_left (k ∷ ks) (v ∷ vs) (inr s) = absurd (omega (arith, s.1.0))
