-- What a session waits for.
use Rattle.std.specs.Prelude.{ℕ, Bool, false, Option, None, is_some, if◌then◌else◌}
use Rattle.tcl_eval.specs.Suspended.{end_of}
use Rattle.expect_core.specs.declared.plan.Plan.{Plan}
use Rattle.expect_core.specs.Awaited as dialogue
use Rattle.session.specs.Left.{Kept}

-- It has not ended, and was not refused memory.
abbrev pub goes_on : Kept → Bool
goes_on k = if is_some (end_of k.mode) then false else k.lives

-- The number, from 1, of the child whose answer it awaits.
abbrev pub answering : Kept → Option ℕ
answering k = if goes_on k then dialogue.answering k.dialogue.phase else None

-- The number, from 1, of the child whose start it awaits.
abbrev pub starting : Kept → Option ℕ
starting k = if k.lives then dialogue.starting k.dialogue.phase else None

-- The number, from 1, of the child whose output is awaited by the command that runs it.
abbrev pub hearing : Kept → Option ℕ
hearing k = if goes_on k then dialogue.hearing k.dialogue.phase else None

-- The expect that waits for an item of one of its children.
abbrev pub expecting : Kept → Option Plan
expecting k = if goes_on k then dialogue.expecting k.dialogue.phase else None
