-- The arguments of a command. Their number fits the command's row.
use Rattle.std.specs.Prelude.{ℕ, List, [], length, slice_index_or, Err, if◌then◌else◌}
use Rattle.command_table.specs.declared.counts.Count.{Count}
use Rattle.command_table.specs.Counts.{fits}
use Rattle.tcl_results.specs.Texts.{wrong_args}
use Rattle.tcl_results.specs.Said.{Said}

-- The argument at an index, or another text if there is none.
abbrev pub arg_or : List ℕ → ℕ → List (List ℕ) → List ℕ
arg_or other n args = slice_index_or args n other

-- The argument at an index, or an empty text if there is none.
abbrev pub arg : ℕ → List (List ℕ) → List ℕ
arg n args = slice_index_or args n []

-- The result of a command, if it may have this number of arguments.
abbrev pub if_fits : {X : Type 0} → Count → List ℕ → List (List ℕ) → Said X → Said X
if_fits c command args said = if fits c (length args) then said else Err (wrong_args command)
