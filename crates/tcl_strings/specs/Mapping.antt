-- The replacement of keys in texts (string(n): map).
use Rattle.std.specs.Prelude.{ℕ, zero, suc, ◌-◌, ◌%◌, ◌==◌, nat_lt, Bool, ◌&&◌, List, [], ◌∷◌, ◌++◌, length, take, drop, Option, Some, None, Ok, Err, if◌then◌else◌}
use Rattle.command_table.specs.declared.switches.Switches.TheVariants as switches
use Rattle.tcl_results.specs.Cases.{are_same}
use Rattle.tcl_results.specs.Given.{arg}
use Rattle.tcl_results.specs.Switches.{flags_of}
use Rattle.tcl_results.specs.Texts.{bad_list}
use Rattle.tcl_results.specs.Said.{Said, ◌>>=◌, limited, list_of}

-- A text begins with a key. The empty key never matches.
abbrev pub stands : Bool → List ℕ → List ℕ → Bool
stands nocase key text = nat_lt 0 (length key) && are_same nocase (take (length key) text) key

-- The first key that a text begins with, and its replacement. Keys and replacements alternate.
abbrev pub first_pair : Bool → List (List ℕ) → List ℕ → Option (List ℕ × List ℕ)
first_pair nocase [] text = None
first_pair nocase (key ∷ []) text = None
first_pair nocase (key ∷ value ∷ es) text = if stands nocase key text then Some (key, value) else first_pair nocase es text

-- A byte without a key, or the replacement of a key, and then the rest. `on k` is the rest without its first k bytes.
abbrev pub on_pair : ℕ → (ℕ → List ℕ) → Option (List ℕ × List ℕ) → List ℕ
on_pair b on None = b ∷ on 0
on_pair b on (Some p) = p.1 ++ on (length p.0 - 1)

-- A text without its first k bytes, with its keys replaced from left to right.
abbrev pub mapped_from : Bool → List (List ℕ) → ℕ → List ℕ → List ℕ
mapped_from nocase es k [] = []
mapped_from nocase es (suc k) (b ∷ text) = mapped_from nocase es k text
mapped_from nocase es zero (b ∷ text) = on_pair b (λ k. mapped_from nocase es k text) (first_pair nocase es (b ∷ text))

abbrev pub is_even : ℕ → Bool
is_even n = (n % 2) == 0

-- Keys and replacements, alternating.
abbrev pub pairs : List (List ℕ) → Said (List (List ℕ))
pairs es = if is_even (length es) then Ok es else Err bad_list

-- The elements of a list of keys and replacements.
abbrev pub pairs_of : List ℕ → Said (List (List ℕ))
pairs_of l = list_of l >>= λ es. pairs es

abbrev pub mapped_by : Bool → List ℕ → List ℕ → Said (List ℕ)
mapped_by nocase mapping text = pairs_of mapping >>= λ es. limited (mapped_from nocase es 0 text)

-- string map ?-nocase? mapping string
abbrev pub mapped : List ℕ → List (List ℕ) → Said (List ℕ)
mapped command args = flags_of switches.Case 2 command args >>= λ p. mapped_by p.0.nocase (arg 0 (drop p.1 args)) (arg 1 (drop p.1 args))
