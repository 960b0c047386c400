-- send ?-s? ?-h? ?-i spawn_id? ?--? text
use Rattle.std.specs.Prelude.{ℕ, List, [], ◌∷◌, ◌++◌, length, codes, Option, Some, None, Ok}
use Rattle.child_events.specs.declared.event.Cause.{Cause}
use Rattle.child_events.specs.Queue.{with_echo}
use Rattle.command_table.specs.declared.commands.ExpectCommand.TheVariants as command
use Rattle.tty.specs.declared.action.Action.{Action}
use Rattle.tty.specs.declared.action.Action.TheVariants.{Write, End}
use Rattle.tty.specs.Sends.{line_after, echo_of}
use Rattle.tcl_subst.specs.Variables.{Variables}
use Rattle.tcl_results.specs.Given.{arg}
use Rattle.tcl_results.specs.Said.{Said, ◌>>=◌}
use Rattle.expect_core.specs.declared.request.Act.{Act}
use Rattle.expect_core.specs.declared.request.Act.TheVariants as act
use Rattle.expect_core.specs.declared.child.Change.TheVariants.{Sent}
use Rattle.expect_core.specs.declared.effect.Effect.{Effect}
use Rattle.expect_core.specs.declared.effect.Effect.TheVariants.{Ask, Alter}
use Rattle.expect_core.specs.declared.turn.Purpose.TheVariants as purpose
use Rattle.expect_core.specs.declared.turn.Next.TheVariants.{Await}
use Rattle.expect_core.specs.declared.spread.Pace.{Pace}
use Rattle.expect_core.specs.declared.spread.Spread.{Spread}
use Rattle.expect_core.specs.declared.turn.Reaction.{Reaction}
use Rattle.expect_core.specs.declared.turn.Deed.{Deed}
use Rattle.expect_core.specs.declared.turn.Deed.TheVariants.{To}
use Rattle.expect_core.specs.declared.own.Own.{Own}
use Rattle.expect_core.specs.declared.dialogue.Dialogue.{Dialogue}
use Rattle.expect_core.specs.Flags.{arguments}
use Rattle.expect_core.specs.Lanes.{lane_of, with_items}
use Rattle.expect_core.specs.Owned.{child_of, with_line}
use Rattle.expect_core.specs.Ids.{open_to}
use Rattle.expect_core.specs.Texts.{with_cause}
use Rattle.expect_core.specs.Spread.{pace_if, beginning, going_on}
use Rattle.expect_core.specs.Turns.{react, badly}
use Rattle.expect_core.specs.Answered.{owning}

-- The child, the text and its pace.
abbrev pub send_of : List ℕ → List (List ℕ) → Variables → Own → Said (ℕ × List ℕ × Option Pace)
send_of name args vars o =
    arguments command.Send name args >>= λ f. pace_if f.0.choice vars >>= λ pace. open_to f.0.id vars o >>= λ i. Ok (i, arg 0 f.1, pace)

abbrev pub sending : List ℕ → List (List ℕ) → Variables → Own → Said Deed
sending name args vars o = send_of name args vars o >>= λ s. Ok (To s.0 (react [] (beginning o.clock s.1 s.2)))

-- The echo is added to the child's items at the clock's moment.
abbrev pub echoed : ℕ → List ℕ → Dialogue → Dialogue
echoed i bytes st = record st { lanes = with_items i (with_echo st.own.clock bytes (lane_of i st.lanes).items) st.lanes }

-- The child's terminal takes a text.
abbrev pub typed : ℕ → List ℕ → Dialogue → Dialogue
typed i text st =
    let line = (child_of i st.own).line in
    owning (with_line i (line_after line text) st.own) (echoed i (echo_of line text) st)

abbrev pub act_of : Action → Act
act_of (Write text) = act.Write text
act_of End = act.End

-- What a terminal hands over goes out in requests. Each follows the answer to the one before, and then more is sent.
abbrev pub handing : ℕ → List Action → Option Spread → Reaction
handing clock [] more = react [] (going_on clock more)
handing clock (a ∷ rest) more = react (Ask (act_of a) ∷ []) (Await (purpose.Send a rest more))

abbrev pub counting : Action → List Effect
counting (Write text) = Alter (Sent (length text)) ∷ []
counting End = []

abbrev pub refused : Action → Cause → List ℕ
refused (Write text) c = with_cause (codes "write failed") c
refused End c = with_cause (codes "end failed") c

-- After an accepted request the next goes out. The first failure is an error.
abbrev pub handed : ℕ → Action → List Action → Option Spread → Option Cause → Reaction
handed clock a rest more None = react (counting a ++ (handing clock rest more).effects) (handing clock rest more).next
handed clock a rest more (Some c) = badly [] (refused a c)
