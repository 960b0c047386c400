-- Values that are numbers.
use Rattle.std.specs.Prelude.{ℕ, Bool, true, false, List, [], ◌∷◌, Option, Some, None, pos}
use Rattle.tcl_words.specs.Bytes as ascii
use Rattle.tcl_expr.specs.Number.{number_text}

abbrev pub count_text : ℕ → List ℕ
count_text n = number_text (pos n)

abbrev pub bit_text : Bool → List ℕ
bit_text true = ascii.digit_1 ∷ []
bit_text false = ascii.digit_0 ∷ []

abbrev pub place_text : Option ℕ → List ℕ
place_text None = ascii.minus ∷ ascii.digit_1 ∷ []
place_text (Some n) = count_text n
