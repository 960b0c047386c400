-- Passing over the bytes of a channel twice.
use Rattle.std.proofs.Common.{◌≡◌, ℕ, zero, suc, ◌+◌, ◌-◌, ◌≤◌, List, [], ◌∷◌, length, refl, sym, ap, ◌∙◌, arith}
use Rattle.std.specs.Prelude.{drop}
use Rattle.std.proofs.lemmas.List.{drop_all, length-drop}

drop_none : (n : ℕ) → drop n (let l : List ℕ = [] in l) ≡ []
drop_none zero = refl
drop_none (suc n) = refl

pub drop_twice : (m n : ℕ) (bytes : List ℕ) → drop (m + n) bytes ≡ drop n (drop m bytes)
drop_twice zero n bytes = let e : 0 + n ≡ n = omega arith in ap (λ (k : ℕ). drop k bytes) e
drop_twice (suc m) n [] = drop_none (suc m + n) ∙ sym (drop_none n)
drop_twice (suc m) n (b ∷ bytes) = let e : suc m + n ≡ suc (m + n) = omega arith in ap (λ (k : ℕ). drop k (b ∷ bytes)) e ∙ drop_twice m n bytes

-- past the end nothing is left
pub drop_past : (m n : ℕ) (bytes : List ℕ) → length bytes - m ≤ n → drop (length bytes) bytes ≡ drop n (drop m bytes)
drop_past m n bytes le =
    let e : length (drop m bytes) ≤ n = omega (arith, le, length-drop m bytes) in
    drop_all (length bytes) bytes (omega arith) ∙ sym (drop_all n (drop m bytes) e)
