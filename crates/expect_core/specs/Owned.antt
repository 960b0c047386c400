-- The state that commands change.
use Rattle.std.specs.Prelude.{ℕ, ◌+◌, max, List, [], ◌∷◌, ◌++◌, Bool, true, false, Option, Some, None, slice_set, slice_index_or, if◌then◌else◌}
use Rattle.circular_buffer.specs.Buffer.{keep_last}
use Rattle.tty.specs.declared.modes.Modes.{Modes}
use Rattle.tty.specs.Modes.{sane}
use Rattle.tty.specs.Output.{convert}
use Rattle.tty.specs.Sends.{Waits}
use Rattle.expect_core.specs.declared.request.Act.{Act}
use Rattle.expect_core.specs.declared.child.Standing.TheVariants as standing
use Rattle.expect_core.specs.declared.child.Child.{Child}
use Rattle.expect_core.specs.declared.own.Own.{Own}
use Rattle.expect_core.specs.Held.{Held}

-- A child that is requested: its spawn id, terminal modes, buffer size, and whether NUL bytes are removed.
abbrev pub child_as : List ℕ → Modes → ℕ → Bool → Child
child_as id modes size remove = record {
  id = id;
  standing = standing.Unborn;
  waited = false;
  line = record { modes = modes; waiting = []; ended = false };
  kept = record { bytes = []; size = size };
  remove_nulls = remove;
  sent = 0;
}

-- The value in place of a missing child.
abbrev pub nobody : Child
nobody = child_as [] sane 0 true

abbrev pub child_in : ℕ → List Child → Child
child_in i children = slice_index_or children i nobody

abbrev pub child_of : ℕ → Own → Child
child_of i o = child_in i o.children

abbrev pub with_child : ℕ → Child → Own → Own
with_child i child o = record o { children = slice_set o.children i child }

abbrev pub with_line : ℕ → Waits → Own → Own
with_line i line o = with_child i (record (child_of i o) { line = line }) o

abbrev pub with_held : ℕ → Held → Own → Own
with_held i held o = with_child i (record (child_of i o) { kept = held }) o

abbrev pub bytes_of : ℕ → Own → List ℕ
bytes_of i o = (child_of i o).kept.bytes

abbrev pub with_bytes : ℕ → List ℕ → Own → Own
with_bytes i bytes o = with_held i (record (child_of i o).kept { bytes = bytes }) o

-- The match buffer is trimmed to its size.
abbrev pub trimmed : ℕ → Own → Own
trimmed i o = with_bytes i (keep_last (child_of i o).kept.size (bytes_of i o)) o

-- The buffer size and the removal of NUL bytes: of the child at a place, or of later children.

abbrev pub size_at : Option ℕ → Own → ℕ
size_at None o = o.size
size_at (Some i) o = (child_of i o).kept.size

abbrev pub removes_at : Option ℕ → Own → Bool
removes_at None o = o.remove_nulls
removes_at (Some i) o = (child_of i o).remove_nulls

-- The clock moves to a moment, but never back.
abbrev pub at_moment : ℕ → Own → Own
at_moment m o = record o { clock = max o.clock m }

abbrev pub told : List ℕ → Own → Own
told text o = record o { transcript = o.transcript ++ text }

-- The text is written while `log_user` is on.
abbrev pub logged : List ℕ → Own → Own
logged text o = if o.log_user then told text o else o

-- A request to the child at a place. Its number is one more.
abbrev pub asked : ℕ → Act → Own → Own
asked i act o = record o { requests = o.requests ++ record { child = i + 1; act = act } ∷ [] }

-- A piece of a child's output as it is seen: after its terminal and the removal of NUL bytes.
abbrev pub seen : ℕ → List ℕ → Own → List ℕ
seen i piece o = convert (child_of i o).remove_nulls (child_of i o).line.modes piece

-- A piece of output is taken.
abbrev pub received : ℕ → List ℕ → Own → Own
received i piece o = with_bytes i (bytes_of i o ++ seen i piece o) (logged (seen i piece o) o)
