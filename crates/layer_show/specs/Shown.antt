-- How a list that was read is shown.
use Rattle.std.specs.Prelude.{ℕ, List, [], ◌∷◌, ◌++◌, codes}
use Rattle.hex.specs.Hex.{encode_lower}
use Rattle.tcl_words.specs.Bytes as ascii
use Rattle.tcl_words.specs.Lists.{written}

-- Bytes in lower-case hexadecimal, or a dash for none.
abbrev pub hex_text : List ℕ → List ℕ
hex_text [] = codes "-"
hex_text (b ∷ bs) = encode_lower (b ∷ bs)

abbrev pub hex_line : List ℕ → List ℕ
hex_line bytes = hex_text bytes ++ ascii.newline ∷ []

abbrev pub hex_lines : List (List ℕ) → List ℕ
hex_lines [] = []
hex_lines (e ∷ es) = hex_line e ++ hex_lines es

-- A line for each element, and one for the list written again.
abbrev pub list_shown : List (List ℕ) → List ℕ
list_shown l = hex_lines l ++ hex_line (written l)

abbrev pub bad_list : List ℕ
bad_list = codes "bad list" ++ ascii.newline ∷ []
