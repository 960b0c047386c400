-- The values of a record by their places.
use Rattle.std.proofs.Common.{◌≡◌, ◌<◌, ℕ, zero, suc, List, [], ◌∷◌, ◌++◌, length, take, refl, ap}
use Rattle.std.specs.Prelude.{Option, Some, None, option_map, unwrap_or}
use Rattle.std.specs.Borrow.{Bor}
use native.Mathlib.Omega.{arith}
use Rattle.csv.specs.Records.{field_at}

pub take_field : (xs : List (List ℕ)) (i : ℕ) → i < length xs → take (suc i) xs ≡ take i xs ++ unwrap_or (field_at xs i) [] ∷ []
unfolding field_at
take_field [] i p = elim p [ ]
take_field (x ∷ xs) zero p = refl
take_field (x ∷ xs) (suc i) p = ap (λ l. x ∷ l) (take_field xs i (omega (arith, p)))

-- The bytes behind a reference, or those of another.
pub now_or : (o : Option (Bor (List ℕ))) (d : Bor (List ℕ)) → (unwrap_or o d).now ≡ unwrap_or (option_map (λ r. r.now) o) d.now
now_or None d = refl
now_or (Some r) d = refl
