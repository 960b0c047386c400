-- Splitting and joining texts: split(n), join(n).
use Rattle.std.specs.Prelude.{ℕ, ◌==◌, List, [], ◌∷◌, map, if◌then◌else◌}
use Rattle.std.specs.List.{slice_split, join_by}
use Rattle.tcl_words.specs.Bytes as ascii
use Rattle.tcl_words.specs.Lists.{written}
use Rattle.tcl_results.specs.Given.{arg, arg_or}
use Rattle.tcl_results.specs.Said.{Said, ◌>>=◌, limited, list_of}
use Rattle.tcl_results.specs.Sets.{is_one_of}

-- The separators of `split` by default.
abbrev pub blanks : List ℕ
blanks = ascii.space ∷ ascii.tab ∷ ascii.newline ∷ ascii.carriage_return ∷ []

-- Each byte as an element.
abbrev pub bytes_alone : List ℕ → List (List ℕ)
bytes_alone text = map (λ b. b ∷ []) text

-- The texts before, between and after separators. Without separators, each byte.
abbrev pub some_parts : List ℕ → List ℕ → List (List ℕ)
some_parts [] text = bytes_alone text
some_parts (c ∷ seps) text = slice_split (is_one_of (c ∷ seps)) text

-- The empty text has no parts.
abbrev pub parts : List ℕ → List ℕ → List (List ℕ)
parts seps [] = []
parts seps (b ∷ text) = some_parts seps (b ∷ text)

-- split string ?splitChars?
abbrev pub split : List (List ℕ) → Said (List ℕ)
split args = limited (written (parts (arg_or blanks 1 args) (arg 0 args)))

-- Elements with a text between each two.
abbrev pub joined_by : List ℕ → List (List ℕ) → List ℕ
joined_by between es = join_by (λ e. e) between es

-- The text before the element at an index.
abbrev pub gap : List ℕ → ℕ → List ℕ
gap between n = if n == 0 then [] else between

abbrev pub list_joined : List ℕ → List ℕ → Said (List ℕ)
list_joined l between = list_of l >>= λ es. limited (joined_by between es)

-- join list ?joinString?
abbrev pub join : List (List ℕ) → Said (List ℕ)
join args = list_joined (arg 0 args) (arg_or (ascii.space ∷ []) 1 args)
