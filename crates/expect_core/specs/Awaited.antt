-- What a waiting call waits for.
use Rattle.std.specs.Prelude.{ℕ, ◌+◌, List, [], Bool, true, false, if◌then◌else◌, Option, Some, None, option_map, unwrap_or, slice_get}
use Rattle.expect_core.specs.declared.child.Child.{Child}
use Rattle.expect_core.specs.declared.phase.Phase.{Phase}
use Rattle.expect_core.specs.declared.phase.Phase.TheVariants.{At}
use Rattle.expect_core.specs.declared.tool.Job.{Job}
use Rattle.expect_core.specs.declared.tool.Job.TheVariants as job
use Rattle.expect_core.specs.declared.turn.Aim.{Aim}
use Rattle.expect_core.specs.declared.turn.Aim.TheVariants as aim
use Rattle.expect_core.specs.declared.turn.Want.TheVariants.{Answer, Item, Output, End}
use Rattle.expect_core.specs.declared.plan.Plan.{Plan}
use Rattle.expect_core.specs.Lanes.{place}

-- The number of the child, from 1, whose answer is awaited.
abbrev pub answering : Phase → Option ℕ
answering (At n (Answer i why)) = Some (i + 1)
answering (At n (End i p)) = Some (i + 1)
answering other = None

-- Whether a program says by its first output that a file is open.
abbrev pub opens : Job → Bool
opens job.Writer = true
opens other = false

-- The number of the child at a place, from 1, if its first item says that it has started.
abbrev pub start_of : Aim → ℕ → Option ℕ
start_of (aim.Spawn words) i = Some (i + 1)
start_of (aim.Tool run) i = if opens run.job then Some (i + 1) else None

-- The same if its items are a command's output.
abbrev pub output_of : Aim → ℕ → Option ℕ
output_of (aim.Spawn words) i = None
output_of (aim.Tool run) i = if opens run.job then None else Some (i + 1)

-- The number of the child, from 1, whose start is awaited: the first item of a terminal of the system, or of a program
-- that opens a file to write it.
abbrev pub starting : Phase → Option ℕ
starting (At n (Item i why)) = start_of why i
starting other = None

-- The number of the child, from 1, whose output is awaited by the command that runs it.
abbrev pub hearing : Phase → Option ℕ
hearing (At n (Item i why)) = output_of why i
hearing other = None

-- The `expect` that waits for output.
abbrev pub expecting : Phase → Option Plan
expecting (At n (Output p)) = Some p
expecting other = None

-- The match buffer of a child, numbered from 1. It is empty if there is no such child.
abbrev pub buffer_of : ℕ → List Child → List ℕ
buffer_of c children = unwrap_or (option_map (λ child. child.kept.bytes) (slice_get children (place c))) []
