-- Spans that are filled in one after another.
use Rattle.std.proofs.Common.{◌≡◌, ◌≢◌, ℕ, ◌+◌, ◌<◌, ◌≤◌, List, length, Option, Some, None, slice_set, get_or, sym, ap, ◌∙◌, ⊎_elim, arith, get_or-set_other, get_or-set_same}
use Rattle.std.proofs.Math.ListN.{length-set}
use Rattle.std.proofs.lemmas.Bool.{cases_lt}
use Rattle.std.proofs.lemmas.Option.{slice_get-get_or, get_or_from_slice_get}
use Rattle.std.specs.List.{slice_get}

pub filled : (spans : List (Option (ℕ × ℕ))) (n : ℕ) (f : ℕ → Option (ℕ × ℕ)) (v : Option (ℕ × ℕ)) → length spans ≡ 10 → n < 10 → v ≡ f n
    → ((k : ℕ) → k < n → slice_get spans k ≡ Some (f k)) → (k : ℕ) → k < n + 1 → slice_get (slice_set spans n v) k ≡ Some (f k)
filled spans n f v ten below is before k lt =
    let same = length-set spans n v in
    slice_get-get_or (slice_set spans n v) k None (omega (arith, same)) ∙ ap Some (by k lt)
  where
    by : (k : ℕ) → k < n + 1 → get_or (slice_set spans n v) k None ≡ f k
    by k lt =
        ⊎_elim
        (λ (less : k < n). let ne : k ≢ n = omega arith in
        get_or-set_other spans n k v None ne ∙ get_or_from_slice_get spans k (f k) None (before k less))
        (λ (more : n ≤ k). let e : k ≡ n = omega arith in
        ap (λ (i : ℕ). get_or (slice_set spans n v) i None) e ∙ get_or-set_same spans n v None (omega arith) ∙ is ∙ ap f (sym e))
        (cases_lt k n)
