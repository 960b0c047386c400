-- A number that is cut to a limit at each of its digits.
use Rattle.std.proofs.Common.{◌≡◌, ℕ, suc, ◌+◌, ◌-◌, ◌*◌, ◌<◌, ◌≤◌, min, List, [], ◌∷◌, length, drop, get_or, sym, ap, ◌∙◌, arith}
use Rattle.std.proofs.Math.Seq.{drop-cons}
use Rattle.std.proofs.Math.ListN.{drop_of_length-le}
use Rattle.tcl_expr.specs.Number.{value_from}

-- a cut before further digits changes nothing
cut_first : (most n : ℕ) (ds : List ℕ) → min (value_from (min n most) ds) most ≡ min (value_from n ds) most
cut_first most n [] = omega arith
cut_first most n (b ∷ ds) =
    let same : min (min n most * 10 + (b - 48)) most ≡ min (n * 10 + (b - 48)) most = omega arith in
    sym (cut_first most (min n most * 10 + (b - 48)) ds) ∙ ap (λ (m : ℕ). min (value_from m ds) most) same ∙ cut_first most (n * 10 + (b - 48)) ds

module _ (most : ℕ) (ds : List ℕ) (i n : ℕ) (whole : ℕ) where
  -- the next digit
  pub capped_on : (m : ℕ) → i < length ds → m ≡ min (n * 10 + (get_or ds i 0 - 48)) most → min (value_from n (drop i ds)) most ≡ whole → min (value_from m (drop (i + 1) ds)) most ≡ whole
  capped_on m some is was =
      let next : suc i ≡ i + 1 = omega arith in
      ap (λ (k : ℕ). min (value_from k (drop (i + 1) ds)) most) is ∙ cut_first most (n * 10 + (get_or ds i 0 - 48)) (drop (i + 1) ds)
      ∙ sym (ap (λ (l : List ℕ). min (value_from n l) most) (drop-cons ds i 0 some ∙ ap (λ (k : ℕ). get_or ds i 0 ∷ drop k ds) next)) ∙ was

  -- no digit is left
  pub capped_end : length ds ≤ i → n ≤ most → min (value_from n (drop i ds)) most ≡ whole → n ≡ whole
  capped_end all small was =
      let cut : n ≡ min n most = omega arith in
      cut ∙ sym (ap (λ (l : List ℕ). min (value_from n l) most) (drop_of_length-le ds all)) ∙ was
