-- The elements of lists.
use Rattle.std.specs.Prelude.{ℕ, List, ◌∷◌, length, Ok}
use Rattle.tcl_words.specs.Lists.{written}
use Rattle.tcl_results.specs.Said.{Said, ◌>>=◌, limited, list_of}
use Rattle.tcl_results.specs.Given.{arg}
use Rattle.tcl_results.specs.Indices.{index_of, element_at, between}
use Rattle.tcl_results.specs.Values.{count_text}

abbrev pub list_length : List ℕ → Said (List ℕ)
list_length l = list_of l >>= λ es. Ok (count_text (length es))

abbrev pub llength : List (List ℕ) → Said (List ℕ)
llength args = list_length (arg 0 args)

abbrev pub list_element : List ℕ → List ℕ → Said (List ℕ)
list_element l i = list_of l >>= λ es. index_of (length es) i >>= λ at. Ok (element_at at es)

-- Without an index, the list is not parsed.
abbrev pub lindex : List (List ℕ) → Said (List ℕ)
lindex (l ∷ i ∷ more) = list_element l i
lindex args = Ok (arg 0 args)

abbrev pub list_range : List ℕ → List ℕ → List ℕ → Said (List ℕ)
list_range l i j =
    list_of l >>= λ es. index_of (length es) i >>= λ from. index_of (length es) j >>= λ to. limited (written (between from to es))

abbrev pub lrange : List (List ℕ) → Said (List ℕ)
lrange args = list_range (arg 0 args) (arg 1 args) (arg 2 args)
