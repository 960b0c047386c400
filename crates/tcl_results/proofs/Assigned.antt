-- The elements from an index on.
use Rattle.std.proofs.Common.{◌≡◌, ℕ, zero, suc, ◌+◌, ◌≤◌, List, [], ◌∷◌, length, drop, refl, ap, sym, ◌∙◌, drop-drop, slice_get, unwrap_or}
use Rattle.std.proofs.Math.ListN.{drop_of_length-le}
use Rattle.tcl_results.specs.Setting.{first, others}

pub first_from : (from : ℕ) (es : List (List ℕ)) → first (drop from es) ≡ unwrap_or (slice_get es from) []
first_from zero [] = refl
first_from zero (e ∷ es) = refl
first_from (suc from) [] = refl
first_from (suc from) (e ∷ es) = first_from from es

others_is : (es : List (List ℕ)) → others es ≡ drop 1 es
others_is [] = refl
others_is (e ∷ es) = refl

pub others_from : (from : ℕ) (es : List (List ℕ)) → drop (from + 1) es ≡ others (drop from es)
others_from from es = sym (others_is (drop from es) ∙ drop-drop 1 from es)

pub others_of_none : (from : ℕ) (es : List (List ℕ)) → length es ≤ from → drop from es ≡ others (drop from es)
others_of_none from es over = drop_of_length-le es over ∙ sym (ap others (drop_of_length-le es over))
