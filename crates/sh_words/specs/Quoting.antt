-- Words in single quotes (POSIX, XCU 2.2.2): each byte within them stands for itself. A single quote can't occur there.
use Rattle.std.specs.Prelude.{ℕ, List, [], ◌∷◌, ◌++◌, ◌==◌, if◌then◌else◌}
use Rattle.std.specs.List.{flat_map}
use Rattle.tcl_words.specs.Bytes as ascii

abbrev pub single_quote : ℕ
single_quote = 39

-- A byte of a word within single quotes. A single quote ends them, stands escaped, and begins new ones.
abbrev pub quoted_byte : ℕ → List ℕ
quoted_byte b = if b == single_quote then single_quote ∷ ascii.backslash ∷ single_quote ∷ single_quote ∷ [] else b ∷ []

-- A word in single quotes.
abbrev pub quote : List ℕ → List ℕ
quote word = single_quote ∷ (flat_map quoted_byte word ++ single_quote ∷ [])

-- Words in single quotes, each with a space before it.
abbrev pub spaced : List (List ℕ) → List ℕ
spaced words = flat_map (λ word. ascii.space ∷ quote word) words

-- Words in single quotes, with a space between any two.
abbrev pub quoted_words : List (List ℕ) → List ℕ
quoted_words [] = []
quoted_words (word ∷ words) = quote word ++ spaced words
