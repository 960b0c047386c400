-- The steps that a filler has left.
use Rattle.std.proofs.Common.{◌≡◌, ℕ, suc, ◌+◌, ◌<◌, ◌≤◌, List, [], ◌∷◌, length, get_or, drop, Some, None, ⊎_elim, sym, ap, ◌∙◌, arith}
use Rattle.std.specs.Prelude.{slice_get}
use Rattle.std.proofs.Math.Seq.{drop-cons}
use Rattle.std.proofs.lemmas.List.{at_drop_all}
use Rattle.std.proofs.lemmas.Option.{slice_get_cases}

-- where a list goes on with s, s stands there, and the list behind it goes on with what stands behind s
pub goes_on : {X : Type 0} (xs : List X) (i : ℕ) (x : X) (rest : List X) → x ∷ rest ≡ drop i xs → (slice_get xs i ≡ Some x) × (rest ≡ drop (i + 1) xs)
goes_on {X = X} xs i x rest is = ⊎_elim here over (slice_get_cases xs i).1
  where
    here : (y : X) × (i < length xs) × (slice_get xs i ≡ Some y) × (get_or xs i y ≡ y) → (slice_get xs i ≡ Some x) × (rest ≡ drop (i + 1) xs)
    here p =
        let next : suc i ≡ i + 1 = omega arith in
        let parts : x ∷ rest ≡ p.0 ∷ drop (i + 1) xs = is ∙ drop-cons xs i p.0 p.1 ∙ ap (λ y. y ∷ drop (suc i) xs) p.3 ∙ ap (λ n. p.0 ∷ drop n xs) next in
        (p.2 ∙ ap (λ y. Some y) (sym (ap (λ l. get_or l 0 x) parts)), ap (drop 1) parts)

    over : (length xs ≤ i) × (slice_get xs i ≡ None) → (slice_get xs i ≡ Some x) × (rest ≡ drop (i + 1) xs)
    over p = let e : x ∷ rest ≡ [] = is ∙ at_drop_all (λ l. l) xs i p.0 in absurd (cc)
