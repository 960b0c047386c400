-- Requests and answers of a keeper's calls.
use Rattle.std.specs.Prelude.{ℕ, Result, Ok, Err}
use Rattle.child_events.specs.declared.event.Cause.{Cause}
use Rattle.child_events.specs.declared.event.Answer.{Answer}
use Rattle.child_events.specs.declared.event.Answer.TheVariants as answer
use Rattle.expect_core.specs.declared.request.Act.{Act}
use Rattle.expect_core.specs.declared.request.Request.{Request}

abbrev pub asked_of : ℕ → Act → Request
asked_of child act = record { child = child; act = act }

-- The answer for a call's result.
abbrev pub answer_of : {X : Type 0} → Result X Cause → Answer
answer_of (Ok x) = answer.Ok
answer_of (Err cause) = answer.Fail cause

abbrev pub IsFailure : Answer → Type 0
IsFailure (answer.Fail cause) = Unit {0}
IsFailure answer.Ok = ⊥
IsFailure (answer.Exit n) = ⊥
IsFailure answer.Killed = ⊥
