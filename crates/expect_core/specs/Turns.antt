-- Turns: what a call does to a child, and what it does next.
use Rattle.std.specs.Prelude.{ℕ, List, [], Option, Some, None, Ok, Err}
use Rattle.tcl_results.specs.declared.code.Code.TheVariants as code
use Rattle.tcl_results.specs.Said.{Said}
use Rattle.expect_core.specs.declared.effect.Effect.{Effect}
use Rattle.expect_core.specs.declared.turn.Reply.{Reply}
use Rattle.expect_core.specs.declared.turn.Reply.TheVariants.{Done, Fail}
use Rattle.expect_core.specs.declared.turn.Next.{Next}
use Rattle.expect_core.specs.declared.turn.Next.TheVariants as next
use Rattle.expect_core.specs.declared.turn.Reaction.{Reaction}
use Rattle.expect_core.specs.declared.turn.Deed.{Deed}
use Rattle.expect_core.specs.declared.turn.Deed.TheVariants.{Alone, To, Expect}
use Rattle.expect_core.specs.declared.turn.Want.TheVariants.{Answer, Item}
use Rattle.expect_core.specs.declared.turn.Stage.{Stage}
use Rattle.expect_core.specs.declared.turn.Stage.TheVariants as stage
use Rattle.expect_core.specs.declared.turn.Turn.{Turn}
use Rattle.expect_core.specs.Pauses.{nothing_until}

abbrev pub react : List Effect → Next → Reaction
react effects next = record { effects = effects; next = next }

-- A call ends with a value, or is an error with a text.

abbrev pub done : List ℕ → Reply
done value = Done code.Ok value

abbrev pub well : List Effect → Reaction
well effects = react effects (next.Finish (done []))

abbrev pub badly : List Effect → List ℕ → Reaction
badly effects text = react effects (next.Finish (Fail text))

-- A command that ends at once. It changes a child, or without one what all children share.
abbrev pub over_at : Option ℕ → List Effect → Reply → Deed
over_at None effects reply = Alone effects reply
over_at (Some i) effects reply = To i (react effects (next.Finish reply))

-- The same as turns.

abbrev pub turn : Option ℕ → List Effect → Stage → Turn
turn at effects stage = record { child = at; effects = effects; stage = stage }

abbrev pub over : Reply → Turn
over reply = turn None [] (stage.Over reply)

abbrev pub stage_of : ℕ → Next → Stage
stage_of i (next.Finish reply) = stage.Over reply
stage_of i (next.Await why) = stage.Wait (Answer i why)
stage_of i (next.Hear aim) = stage.Wait (Item i aim)
stage_of i (next.Evaluate script) = stage.Read script
stage_of i (next.Send text rest) = stage.Send i text rest
stage_of i (next.Pause last rest) = stage.Look (nothing_until last (Some (i, rest)))

abbrev pub at : ℕ → Reaction → Turn
at i r = turn (Some i) r.effects (stage_of i r.next)

abbrev pub turn_of : Deed → Turn
turn_of (Alone effects reply) = turn None effects (stage.Over reply)
turn_of (To i r) = at i r
turn_of (Expect p) = turn None [] (stage.Look p)

abbrev pub doing : Said Deed → Turn
doing (Ok deed) = turn_of deed
doing (Err text) = over (Fail text)
