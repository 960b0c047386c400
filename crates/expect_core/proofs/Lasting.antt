-- What is kept of a time stands for it.
use Rattle.std.proofs.Common.{◌≡◌, ℕ, ◌+◌, ◌*◌, ◌-◌, ◌<◌, min, length, drop, get_or, List, [], ◌∷◌, Bool, true, false, Option, Some, None, refl, sym, ap, ◌∙◌, arith}
use Rattle.std.specs.Prelude.{option_map, nat_le, ◌&&◌, if◌then◌else◌}
use Rattle.std.proofs.lemmas.List.{drop_more}
use Rattle.expect_core.specs.Sleeping.{digits_behind, kept}

kept_if : (t : Bool) (x y : Option ℕ) → option_map kept x ≡ option_map kept y → option_map kept (if t then x else None) ≡ option_map kept (if t then y else None)
kept_if true x y same = same
kept_if false x y same = refl

digits_on : (n : ℕ) (cs : List ℕ) → option_map kept (digits_behind (kept n) cs) ≡ option_map kept (digits_behind n cs)
digits_on n [] =
    let same : min (min n 9000000000000001) 9000000000000001 ≡ min n 9000000000000001 = omega arith in
    ap Some same
digits_on n (c ∷ cs) =
    let same : min (min n 9000000000000001 * 10 + (c - 48)) 9000000000000001 ≡ min (n * 10 + (c - 48)) 9000000000000001 = omega arith in
    kept_if (nat_le 48 c && nat_le c 57) (digits_behind (kept n * 10 + (c - 48)) cs) (digits_behind (n * 10 + (c - 48)) cs)
    (sym (digits_on (kept n * 10 + (c - 48)) cs) ∙ ap (λ (m : ℕ). option_map kept (digits_behind m cs)) same ∙ digits_on (n * 10 + (c - 48)) cs)

-- what is kept of a number with one digit more
pub digits_next : (n i : ℕ) (text : List ℕ) (r : ℕ) → i < length text → (nat_le 48 (get_or text i 0) && nat_le (get_or text i 0) 57) ≡ true → r ≡ kept (n * 10 + (get_or text i 0 - 48)) → option_map kept (digits_behind r (drop (i + 1) text)) ≡ option_map kept (digits_behind n (drop i text))
digits_next n i text r lt is same =
    ap (λ (m : ℕ). option_map kept (digits_behind m (drop (i + 1) text))) same
    ∙ digits_on (n * 10 + (get_or text i 0 - 48)) (drop (i + 1) text)
    ∙ ap (λ (t : Bool). option_map kept (if t then digits_behind (n * 10 + (get_or text i 0 - 48)) (drop (i + 1) text) else None)) (sym is)
    ∙ ap (λ (l : List ℕ). option_map kept (digits_behind n l)) (sym (drop_more text i 0 lt))
