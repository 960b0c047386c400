-- The answers of a plan to requests.
use Rattle.std.specs.Prelude.{ℕ, List}
use Rattle.child_events.specs.declared.event.Answer.{Answer}
use Rattle.child_events.specs.declared.event.Answer.TheVariants as answer
use Rattle.expect_core.specs.declared.request.Act.{Act}
use Rattle.expect_core.specs.declared.request.Act.TheVariants as act
use Rattle.child_timeline.specs.declared.exits.Exit.{Exit}
use Rattle.child_timeline.specs.Exits.{exit_of}

-- The answer to a request: `ok`, or for a wait the end of the child.
abbrev pub given : List Exit → ℕ → Act → Answer
given exits c (act.Spawn words) = answer.Ok
given exits c (act.Write bytes) = answer.Ok
given exits c act.End = answer.Ok
given exits c act.Close = answer.Ok
given exits c act.Wait = exit_of c exits
