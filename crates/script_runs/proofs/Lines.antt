-- How far the line of a place is behind that of another.
use Rattle.std.proofs.Common.{◌≡◌, ℕ, zero, suc, ◌+◌, ◌-◌, ◌≤◌, ◌==◌, List, [], ◌∷◌, ◌++◌, take, drop, refl, sym, ap, ◌∙◌, arith}
use Rattle.std.specs.Prelude.{count_by, cond}
use Rattle.std.proofs.Math.Seq.{take-nil, drop-nil}
use Rattle.std.proofs.lemmas.List.Sums.{sum_by-append}
use Rattle.tcl_words.specs.Bytes as ascii
use Rattle.script_check.specs.Lines.{newlines, line_of}

-- a front, and what stands behind it
parted : (xs : List ℕ) (a n : ℕ) → take (a + n) xs ≡ take a xs ++ take n (drop a xs)
parted xs zero n = ap (λ (k : ℕ). take k xs) (zero_plus n)
  where
    zero_plus : (n : ℕ) → 0 + n ≡ n
    zero_plus n = omega arith
parted [] (suc a) n = rw (take-nil {A = ℕ} (suc a + n), take-nil {A = ℕ} (suc a), drop-nil {A = ℕ} (suc a), take-nil {A = ℕ} n) refl
parted (x ∷ xs) (suc a) n = ap (λ (k : ℕ). take k (x ∷ xs)) (one_more a n) ∙ ap (λ (zs : List ℕ). x ∷ zs) (parted xs a n)
  where
    one_more : (a n : ℕ) → suc a + n ≡ suc (a + n)
    one_more a n = omega arith

pub further : (source : List ℕ) (known at : ℕ) → known ≤ at → line_of source known + newlines source (record { from = known; to = at }) ≡ line_of source at
further source known at within =
    let count : List ℕ → ℕ = λ zs. count_by (λ b. b == ascii.newline) zs in
    let apart : at - 0 ≡ (known - 0) + (at - known) = omega (arith, within) in
    let same : known - 0 ≡ known = omega arith in
    let split : count (take (at - 0) source) ≡ count (take (known - 0) source) + count (take (at - known) (drop known source)) =
    ap (λ (k : ℕ). count (take k source)) apart ∙ ap count (parted source (known - 0) (at - known)) ∙ ap (λ (k : ℕ). count (take (known - 0) source ++ take (at - known) (drop k source))) same
    ∙ sum_by-append (λ b. cond (b == ascii.newline) 1 0) (take (known - 0) source) (take (at - known) (drop known source)) in
    omega (arith, split)
