-- How a call runs: turn by turn, until it ends or waits.
use Rattle.std.specs.Prelude.{ℕ, zero, suc, List, [], ◌∷◌, if◌then◌else◌, Option, Some, None}
use Rattle.child_events.specs.declared.event.Answer.{Answer}
use Rattle.child_events.specs.declared.event.Item.{Item}
use Rattle.tty.specs.Sends.{handed_by}
use Rattle.tcl_subst.specs.Variables.{Variables}
use Rattle.tcl_host.specs.declared.host.HostStep.{HostStep}
use Rattle.tcl_host.specs.declared.host.HostStep.TheVariants as step
use Rattle.tcl_host.specs.declared.ending.Ending.TheVariants.{TimeLimit}
use Rattle.expect_core.specs.declared.plan.Met.{Met}
use Rattle.expect_core.specs.declared.plan.Plan.{Plan}
use Rattle.expect_core.specs.declared.body.Body.TheVariants.{Action, Source}
use Rattle.expect_core.specs.declared.phase.Phase.{Phase}
use Rattle.expect_core.specs.declared.phase.Phase.TheVariants.{Idle, At}
use Rattle.expect_core.specs.declared.phase.Heard.{Heard}
use Rattle.expect_core.specs.declared.phase.Heard.TheVariants.{Match, Full, TimedOut, OverLimit, NotYet, Ended, Failed}
use Rattle.expect_core.specs.declared.turn.Reply.{Reply}
use Rattle.expect_core.specs.declared.turn.Reply.TheVariants.{Done, Fail}
use Rattle.expect_core.specs.declared.turn.Aim.{Aim}
use Rattle.expect_core.specs.declared.turn.Aim.TheVariants as aim
use Rattle.expect_core.specs.declared.turn.Purpose.{Purpose}
use Rattle.expect_core.specs.declared.turn.Purpose.TheVariants as purpose
use Rattle.expect_core.specs.declared.turn.Reaction.{Reaction}
use Rattle.expect_core.specs.declared.turn.Want.{Want}
use Rattle.expect_core.specs.declared.turn.Want.TheVariants as want
use Rattle.expect_core.specs.declared.turn.Stage.{Stage}
use Rattle.expect_core.specs.declared.turn.Stage.TheVariants.{Over, Act, Look, Read, Send as SendText, Wait}
use Rattle.expect_core.specs.declared.turn.Turn.{Turn}
use Rattle.expect_core.specs.declared.own.Own.{Own}
use Rattle.expect_core.specs.declared.dialogue.Dialogue.{Dialogue}
use Rattle.expect_core.specs.Lanes.{lane_of, Inbox, answer_box, item_box, with_left}
use Rattle.expect_core.specs.Owned.{child_of, at_moment}
use Rattle.expect_core.specs.Heard.{at_most, Listened, listen, look}
use Rattle.expect_core.specs.Answered.{Outcome, owning, failure, first_of}
use Rattle.expect_core.specs.Effects.{Performed, performed}
use Rattle.expect_core.specs.Turns.{at}
use Rattle.expect_core.specs.Spawning.{spawned, missed, gone, heard_first}
use Rattle.expect_core.specs.Tools.{tool_answered, tool_heard}
use Rattle.expect_core.specs.Sending.{typed, handing, handed}
use Rattle.expect_core.specs.Ends.{closed, waited, broken}
use Rattle.expect_core.specs.Expecting.{entry_of, matched, full, late, ending, failing, ended}

-- What follows a turn.
abbrev pub To : Type 0
To = Turn → Variables → Dialogue → Outcome

abbrev pub step_of : Reply → HostStep
step_of (Done c value) = step.Done c value
step_of (Fail text) = step.Fail text

-- The time limit ends the script.
abbrev pub over_limit : Variables → Dialogue → Outcome
over_limit vars st = (step.Stop TimeLimit, vars, st)

-- A call waits, and n more turns may follow.
abbrev pub waits : ℕ → Want → Variables → Dialogue → Outcome
waits n w vars st = (step.Wait, vars, record st { phase = At n w })

-- The action of an entry is evaluated, and the `expect` is kept meanwhile.
abbrev pub acts : Plan → Met → Variables → Dialogue → Outcome
acts p m vars st = (step.Body (entry_of m.entry p).action, vars, owning (record st.own { bodies = Action (record p { met = Some m }) ∷ st.own.bodies }) st)

-- A script that was read is evaluated, and `source` is kept meanwhile.
abbrev pub reads : List ℕ → Variables → Dialogue → Outcome
reads script vars st = (step.Body script, vars, owning (record st.own { bodies = Source ∷ st.own.bodies }) st)

-- What follows the answer to a request.
abbrev pub answered : Purpose → ℕ → Answer → Own → Reaction
answered (purpose.Spawn terminal words) i a o = spawned terminal i words (failure a)
answered (purpose.Tool s run) i a o = tool_answered s run i a (failure a)
answered (purpose.Missing words) i a o = missed words
answered (purpose.Gone words) i a o = gone words
answered (purpose.Send x rest more) i a o = handed o.clock x rest more (failure a)
answered purpose.Close i a o = closed (failure a)
answered purpose.Wait i a o = waited i a o
answered (purpose.Fail c) i a o = broken c

-- What follows an item.
abbrev pub heard_as : Aim → ℕ → Item → Reaction
heard_as (aim.Spawn words) i it = heard_first words i it
heard_as (aim.Tool run) i it = tool_heard run i it

-- A wait for a pattern ends, or goes on.
abbrev pub by_heard : To → ℕ → Plan → Heard → Variables → Dialogue → Outcome
by_heard k n p NotYet vars st = waits n (want.Output p) vars st
by_heard k n p OverLimit vars st = over_limit vars st
by_heard k n p (TimedOut d) vars st = k (late p) vars (owning (record st.own { clock = d }) st)
by_heard k n p (Match i m spans) vars st = k (matched p i m spans st.own) vars st
by_heard k n p (Full i) vars st = k (full p i st.own) vars st
by_heard k n p (Ended i) vars st = k (ending p i) vars st
by_heard k n p (Failed i c) vars st = k (failing i c) vars st

abbrev pub concluded : To → ℕ → Plan → Listened → Variables → Dialogue → Outcome
concluded k n p (h, lanes, o) vars st = by_heard k n p h vars (record st { lanes = lanes; own = o })

-- Nothing came. The call waits, unless the script's last moment has passed.
abbrev pub none_yet : ℕ → Want → Variables → Dialogue → Outcome
none_yet n w vars st = if at_most st.horizon st.limit then waits n w vars st else over_limit vars st

-- The turn after something came, which moves the clock to the moment of that.
abbrev pub on_come : {Y : Type 0} → To → ℕ → Want → (Y → Own → Turn) → Option (ℕ × Y) → Variables → Dialogue → Outcome
on_come k n w made None vars st = none_yet n w vars st
on_come k n w made (Some (m, y)) vars st = k (made y (at_moment m st.own)) vars (owning (at_moment m st.own) st)

-- The next answer or the next item of the child at place i.
abbrev pub awaited : {X Y : Type 0} → Inbox X Y → To → ℕ → Want → ℕ → (Y → Own → Turn) → Variables → Dialogue → Outcome
awaited b k n w i made vars st =
    let first = first_of b st.limit (b.read (lane_of i st.lanes)) in
    on_come k n w made first.0 vars (record st { lanes = with_left b i first.1 st.lanes })

abbrev pub waited_for : To → ℕ → Want → Variables → Dialogue → Outcome
waited_for k n (want.Answer i why) vars st = awaited answer_box k n (want.Answer i why) i (λ a o. at i (answered why i a o)) vars st
waited_for k n (want.Item i why) vars st = awaited item_box k n (want.Item i why) i (λ it o. at i (heard_as why i it)) vars st
waited_for k n (want.End i p) vars st = awaited answer_box k n (want.End i p) i (λ a o. ended p i (failure a) o) vars st
waited_for k n (want.Output p) vars st = concluded k n p (listen st.limit st.horizon p st.lanes st.own) vars st

-- The outcome of a stage that n turns may follow.
abbrev pub staged : To → ℕ → Stage → Variables → Dialogue → Outcome
staged k n (Over reply) vars st = (step_of reply, vars, st)
staged k n (Act p m) vars st = acts p m vars st
staged k n (Read script) vars st = reads script vars st
staged k n (Look p) vars st = concluded k n p (look st.limit st.horizon p st.lanes st.own) vars st
staged k n (SendText i text more) vars st = k (at i (handing st.own.clock (handed_by (child_of i st.own).line text).actions more)) vars (typed i text st)
staged k n (Wait w) vars st = waited_for k n w vars st

-- An effect that fails is an error.
abbrev pub turned : To → ℕ → Stage → Performed → Dialogue → Outcome
turned k n s (None, vars, o) st = staged k n s vars (owning o st)
turned k n s (Some text, vars, o) st = (step.Fail text, vars, owning o st)

-- A turn and those that follow it, at most n.
abbrev pub run : ℕ → To
run zero t vars st = over_limit vars st
run (suc n) t vars st = turned (run n) n t.stage (performed t.child t.effects vars st.own) st

-- The most turns of a call.
unfoldable pub turns : ℕ
turns = 18446744073709551615

-- Only a call that waits is resumed, and its phase is not `Idle`. So the line for `Idle` is never read.
abbrev pub resuming : Phase → Variables → Dialogue → Outcome
resuming Idle vars st = (step.Fail [], vars, st)
resuming (At n w) vars st = waited_for (run n) n w vars st
