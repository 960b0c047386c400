-- The options of `array` (array(n)).
use Rattle.std.specs.Prelude.{ℕ, false, List, [], ◌∷◌, length, map, drop, filter, is_some, unwrap_or, Option, Some, None, Ok, Err, if◌then◌else◌}
use Rattle.std.specs.List.{flat_map}
use Rattle.tcl_words.specs.Bytes as ascii
use Rattle.tcl_words.specs.Lists.{written}
use Rattle.exp_glob.specs.Whole.{matches}
use Rattle.tcl_subst.specs.declared.faults.SubstFault.TheVariants.{NotArray}
use Rattle.tcl_subst.specs.Entries.{Entries}
use Rattle.tcl_subst.specs.Filling.{element_name}
use Rattle.tcl_subst.specs.Variables.{Variables, array_of, with_value, with_array}
use Rattle.tcl_subst.specs.Writes.{set_to}
use Rattle.command_table.specs.declared.options.ArrayOption.{ArrayOption}
use Rattle.command_table.specs.declared.options.ArrayOption.TheVariants.{Exists, Get, Names, Set, Size, Unset}
use Rattle.command_table.specs.Counts.{fits}
use Rattle.command_table.specs.Options.{array_option, array_count}
use Rattle.tcl_results.specs.Texts.{bad_option, wrong_args, not_set}
use Rattle.tcl_results.specs.Said.{Outcome, told, on_said, on_changed, limited}
use Rattle.tcl_results.specs.Given.{arg, arg_or}
use Rattle.tcl_strings.specs.Mapping.{pairs_of}
use Rattle.tcl_results.specs.Sets.{is_one_of}
use Rattle.tcl_results.specs.Values.{count_text, bit_text}
use Rattle.tcl_results.specs.Setting.{unset_quietly}

-- The elements of an array, in byte order of indexes. There are none if there is no such array.
abbrev pub elements_of : List ℕ → Variables → Entries (List ℕ)
elements_of name vars = unwrap_or (array_of name vars) []

-- The elements whose indexes match a pattern.
abbrev pub matching : List ℕ → Entries (List ℕ) → Entries (List ℕ)
matching pattern es = filter (λ e. matches false pattern e.0) es

abbrev pub indexes : Entries (List ℕ) → List (List ℕ)
indexes es = map (λ e. e.0) es

-- Indexes and values, alternating.
abbrev pub alternating : Entries (List ℕ) → List (List ℕ)
alternating es = flat_map (λ e. e.0 ∷ e.1 ∷ []) es

-- Sets elements in order. Indexes and values alternate in the list. Afterwards the name is an array.
abbrev pub set_elements : List ℕ → List (List ℕ) → Variables → Outcome
set_elements name (i ∷ value ∷ es) vars = on_changed vars (not_set (element_name name i)) (with_value (set_to value) (element_name name i) vars) (set_elements name es)
set_elements name es vars = on_changed vars (not_set name) (with_array name vars) (λ new. told (Ok []) new)

-- The name of an array has no parenthesis.
abbrev pub set_named : List ℕ → List (List ℕ) → Variables → Outcome
set_named name es vars = if is_one_of name ascii.open_paren then told (Err (not_set name NotArray)) vars else set_elements name es vars

-- array set arrayName list
abbrev pub array_set : List ℕ → List ℕ → Variables → Outcome
array_set name l vars = on_said (pairs_of l) vars (λ es. set_named name es vars)

-- What `array unset arrayName ?pattern?` removes: the array, or the elements whose indexes match the pattern.
abbrev pub removed : List (List ℕ) → Variables → List (List ℕ)
removed (name ∷ pattern ∷ more) vars = map (element_name name) (indexes (matching pattern (elements_of name vars)))
removed args vars = if is_some (array_of (arg 0 args) vars) then arg 0 args ∷ [] else []

-- The pattern, by default `*`.
abbrev pub pattern : List (List ℕ) → List ℕ
pattern args = arg_or (ascii.star ∷ []) 1 args

-- The outcome of an option with the arguments after it.
abbrev pub array_by : ArrayOption → List (List ℕ) → Variables → Outcome
array_by Exists args vars = told (Ok (bit_text (is_some (array_of (arg 0 args) vars)))) vars
array_by Get args vars = told (limited (written (alternating (matching (pattern args) (elements_of (arg 0 args) vars))))) vars
array_by Names args vars = told (limited (written (indexes (matching (pattern args) (elements_of (arg 0 args) vars))))) vars
array_by Set args vars = array_set (arg 0 args) (arg 1 args) vars
array_by Size args vars = told (Ok (count_text (length (elements_of (arg 0 args) vars)))) vars
array_by Unset args vars = unset_quietly (removed args vars) vars

-- An unknown option is reported before a wrong number of arguments.
abbrev pub array_named : List ℕ → List ℕ → Option ArrayOption → List (List ℕ) → Variables → Outcome
array_named command word None args vars = told (Err (bad_option word)) vars
array_named command word (Some option) args vars = if fits (array_count option) (length args) then array_by option args vars else told (Err (wrong_args command)) vars

abbrev pub array : List ℕ → List (List ℕ) → Variables → Outcome
array command args vars = array_named command (arg 0 args) (array_option (arg 0 args)) (drop 1 args) vars
