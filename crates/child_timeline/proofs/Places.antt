-- Digits in front of a place.
use Rattle.std.proofs.Common.{◌≡◌, ℕ, ◌+◌, ◌-◌, ◌≤◌, List, ◌∷◌, [], ◌++◌, length, take, replicate, sym, ap, ◌∙◌, arith, append_assoc}
use Rattle.std.proofs.lemmas.List.{append-nil, take_all}
use Rattle.std.proofs.lemmas.Grind.{replicate_next}
use Rattle.tcl_words.specs.Bytes.{digit_0}
use Rattle.child_timeline.specs.Seconds.{padded}

pub short_place : (place : ℕ) (ds : List ℕ) → place ≤ length ds → take place ds ≡ padded place ds
short_place place ds h = sym (ap (λ (n : ℕ). take place ds ++ replicate n digit_0) (none (omega (arith, h))) ∙ append-nil (take place ds))
  where
    none : place - length ds ≡ 0 → place - length ds ≡ 0
    none e = e

pub long_place : (place : ℕ) (ds : List ℕ) → length ds ≤ place → ds ++ replicate (place - length ds) digit_0 ≡ padded place ds
long_place place ds h = ap (λ (t : List ℕ). t ++ replicate (place - length ds) digit_0) (sym (take_all place ds h))

pub one_zero : (n l : ℕ) (ds : List ℕ) → l ≤ n → (ds ++ replicate (n - l) digit_0) ++ digit_0 ∷ [] ≡ ds ++ replicate (n + 1 - l) digit_0
one_zero n l ds h = append_assoc ds (replicate (n - l) digit_0) (digit_0 ∷ []) ∙ ap (λ (t : List ℕ). ds ++ t) (sym (replicate_next (n - l) digit_0) ∙ ap (λ (k : ℕ). replicate k digit_0) (next (omega (arith, h))))
  where
    next : n - l + 1 ≡ n + 1 - l → n - l + 1 ≡ n + 1 - l
    next e = e
