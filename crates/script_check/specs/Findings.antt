-- The findings of a source: errors in its commands and in those of the scripts in their words.
use Rattle.std.specs.Prelude.{ℕ, Bool, true, List, [], ◌∷◌, length, is_some, if◌then◌else◌}
use Rattle.tcl_subst.specs.Entries.{Entries, find, with_entry}
use Rattle.script_check.specs.declared.problem.Finding.{Finding}
use Rattle.script_check.specs.declared.sights.Sight.{Sight}
use Rattle.script_check.specs.declared.sights.Sight.TheVariants.{Defines, Finds, Unless}
use Rattle.script_check.specs.Sights.{sights}

-- The names of all procedures defined anywhere, in byte order.
abbrev pub names_of : Entries Bool → List Sight → Entries Bool
names_of names [] = names
names_of names (Defines name ∷ ss) = names_of (with_entry name true names) ss
names_of names (other ∷ ss) = names_of names ss

-- The errors in a list of errors and procedure definitions.
abbrev pub reported : Entries Bool → List Sight → List Finding
reported names [] = []
reported names (Defines name ∷ ss) = reported names ss
reported names (Finds f ∷ ss) = f ∷ reported names ss
reported names (Unless name f ∷ ss) = if is_some (find name names) then reported names ss else f ∷ reported names ss

abbrev pub all_of : List Sight → List Finding
all_of ss = reported (names_of [] ss) ss

-- At most 200 scripts nest, as in a run.
unfoldable pub findings : List ℕ → List Finding
findings source = all_of (sights 200 source (record { from = 0; to = length source }))
