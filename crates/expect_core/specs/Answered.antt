-- The outcome of a call, and the answers to its requests.
use Rattle.std.specs.Prelude.{ℕ, List, [], ◌∷◌, if◌then◌else◌, Option, Some, None}
use Rattle.child_events.specs.declared.event.Answer.{Answer}
use Rattle.child_events.specs.declared.event.Answer.TheVariants as answer
use Rattle.child_events.specs.declared.event.Item.{Item}
use Rattle.child_events.specs.Queue.{Queued}
use Rattle.child_events.specs.declared.event.Cause.{Cause}
use Rattle.child_events.specs.declared.event.Cause.TheVariants as cause
use Rattle.tcl_subst.specs.Variables.{Variables}
use Rattle.tcl_host.specs.declared.host.HostStep.{HostStep}
use Rattle.expect_core.specs.declared.phase.Phase.TheVariants as phase
use Rattle.expect_core.specs.declared.own.Own.{Own}
use Rattle.expect_core.specs.declared.dialogue.Dialogue.{Dialogue}
use Rattle.expect_core.specs.Heard.{at_most}
use Rattle.expect_core.specs.Lanes.{Inbox, answer_box, item_box}

-- The step of a call, and the variables and the dialogue after it.
abbrev pub Outcome : Type 0
Outcome = HostStep × Variables × Dialogue

-- No call waits.
abbrev pub idle : Dialogue → Dialogue
idle st = record st { phase = phase.Idle }

-- The dialogue with another state of the commands.
abbrev pub owning : Own → Dialogue → Dialogue
owning o st = record st { own = o }

-- Why a request failed, or `None` if it didn't. The answer to another kind of request counts as a failure.
abbrev pub failure : Answer → Option Cause
failure answer.Ok = None
failure (answer.Fail c) = Some c
failure (answer.Exit n) = Some cause.Other
failure answer.Killed = Some cause.Other

-- The first that came, if it came in time, and what remains.
abbrev pub first_of : {X Y : Type 0} → Inbox X Y → Option ℕ → List X → Option (ℕ × Y) × List X
first_of b limit [] = (None, [])
first_of b limit (x ∷ rest) = if at_most (b.stamp x).0 limit then (Some (b.stamp x), rest) else (None, x ∷ rest)

abbrev pub first_answer : Option ℕ → List (ℕ × Answer) → Option (ℕ × Answer) × List (ℕ × Answer)
first_answer limit l = first_of answer_box limit l

abbrev pub first_item : Option ℕ → List Queued → Option (ℕ × Item) × List Queued
first_item limit l = first_of item_box limit l
