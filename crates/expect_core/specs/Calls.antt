-- The outcome of each call of a dialogue.
use Rattle.std.specs.Prelude.{◌≡◌, ℕ, List, [], ◌∷◌, Bool, true, false, IsTrue, is_some, Option, Some, None, Err}
use Rattle.child_events.specs.declared.event.Event.{Event}
use Rattle.command_table.specs.declared.commands.ExpectCommand.{ExpectCommand}
use Rattle.command_table.specs.declared.commands.ExpectCommand.TheVariants as command
use Rattle.command_table.specs.Commands.{expect_command, fixed_expect}
use Rattle.tcl_subst.specs.Variables.{Variables}
use Rattle.tcl_results.specs.declared.code.Code.{Code}
use Rattle.tcl_results.specs.Said.{Said}
use Rattle.tcl_host.specs.declared.host.HostStep.{HostStep}
use Rattle.tcl_host.specs.declared.host.HostStep.TheVariants.{Done, Fail, Body, Words, Wait, Stop, Unknown, Memory}
use Rattle.tcl_host.specs.Calls.{Call, Begin, Resume, AfterWords, AfterBody, Knows, Reply, Stepped, Known}
use Rattle.expect_core.specs.declared.body.Body.{Body as Evaluated}
use Rattle.expect_core.specs.declared.phase.Phase.TheVariants as phase
use Rattle.expect_core.specs.declared.turn.Deed.{Deed}
use Rattle.expect_core.specs.declared.own.Own.{Own}
use Rattle.expect_core.specs.declared.settings.Settings.{Settings}
use Rattle.expect_core.specs.declared.dialogue.Dialogue.{Dialogue}
use Rattle.expect_core.specs.Lanes.{offered, no_lanes}
use Rattle.expect_core.specs.Answered.{Outcome, idle, owning}
use Rattle.expect_core.specs.Turns.{doing}
use Rattle.expect_core.specs.Spawning.{spawning}
use Rattle.expect_core.specs.Sending.{sending}
use Rattle.expect_core.specs.Sleeping.{sleeping, waiting_after}
use Rattle.expect_core.specs.Times.{clocking, stamping}
use Rattle.expect_core.specs.Expecting.{listed, expecting, standing_before, standing_after, behind}
use Rattle.expect_core.specs.Again.{continuing}
use Rattle.expect_core.specs.Ends.{closing, waiting, numbering}
use Rattle.expect_core.specs.Channels.{getting, reading_more, meeting_end, flushing}
use Rattle.expect_core.specs.Programs.{running, executing, by_system, by_source, by_open, by_file, by_pwd, by_pid}
use Rattle.expect_core.specs.Transcript.{puts, to_user, writing, sending_error, logging}
use Rattle.expect_core.specs.Options.{sizing, removing}
use Rattle.expect_core.specs.Running.{run, turns, resuming}

-- Whether a word names a command.
abbrev pub is_named : List ℕ → Bool
is_named word = is_some (expect_command word)

-- Whether a word names a command, and no procedure can have its name.
abbrev pub knows : List ℕ → Bool
knows word = is_some (fixed_expect word)

-- What a command does.
abbrev pub named : ExpectCommand → List ℕ → List (List ℕ) → Variables → Own → Said Deed
named command.Spawn word args vars o = spawning word args vars o
named command.Send word args vars o = sending word args vars o
named command.SendUser word args vars o = writing (to_user word args)
named command.SendError word args vars o = sending_error word args o
named command.Expect word args vars o = expecting args vars o
named command.ExpectBefore word args vars o = standing_before args vars o
named command.ExpectAfter word args vars o = standing_after args vars o
named command.ExpContinue word args vars o = continuing word args
named command.Close word args vars o = closing word args vars o
named command.Wait word args vars o = waiting word args vars o
named command.ExpPid word args vars o = numbering word args vars o
named command.MatchMax word args vars o = sizing word args vars o
named command.RemoveNulls word args vars o = removing word args vars o
named command.LogUser word args vars o = logging word args o
named command.Puts word args vars o = puts word args o
named command.Exec word args vars o = running (executing word args) o
named command.System word args vars o = running (by_system word args) o
named command.Source word args vars o = running (by_source word args vars) o
named command.File word args vars o = running (by_file word args vars) o
named command.Pwd word args vars o = running (by_pwd word args) o
named command.Pid word args vars o = running (by_pid word args) o
named command.Open word args vars o = running (by_open word args vars) o
named command.Gets word args vars o = getting word args o
named command.Read word args vars o = reading_more word args o
named command.Eof word args vars o = meeting_end word args o
named command.Flush word args vars o = flushing word args o
named command.Sleep word args vars o = sleeping word args o
named command.After word args vars o = waiting_after word args o
named command.Clock word args vars o = clocking word args o
named command.Timestamp word args vars o = stamping word args o

-- If the only argument of `expect`, `expect_before` or `expect_after` is a list of all arguments, its words are filled
-- first.
abbrev pub filling : ExpectCommand → List (List ℕ) → Option (List ℕ)
filling command.Expect args = listed args
filling command.ExpectBefore args = listed args
filling command.ExpectAfter args = listed args
filling other args = None

abbrev pub filled : Option (List ℕ) → Said Deed → Variables → Dialogue → Outcome
filled None said vars st = run turns (doing said) vars st
filled (Some text) said vars st = (Words text, vars, st)

abbrev pub began : Option ExpectCommand → List ℕ → List (List ℕ) → Variables → Dialogue → Outcome
began None word args vars st = (Unknown, vars, st)
began (Some c) word args vars st = filled (filling c args) (named c word args vars st.own) vars st

abbrev pub begun : List (List ℕ) → Variables → Dialogue → Outcome
begun [] vars st = (Unknown, vars, st)
begun (word ∷ args) vars st = began (expect_command word) word args vars st

-- The command whose arguments were filled. Its own word comes first.

abbrev pub named_by : Option ExpectCommand → List ℕ → List (List ℕ) → Variables → Own → Said Deed
named_by None word args vars o = Err []
named_by (Some c) word args vars o = named c word args vars o

abbrev pub worded : List (List ℕ) → Variables → Own → Said Deed
worded [] vars o = Err []
worded (word ∷ args) vars o = named_by (expect_command word) word args vars o

abbrev pub resumed : Variables → Dialogue → Outcome
resumed vars st = resuming st.phase vars (idle st)

-- The scripts around the innermost one.
abbrev pub outer : List Evaluated → List Evaluated
outer [] = []
outer (b ∷ bodies) = bodies

-- After a script, the command that evaluated it is no longer kept.
abbrev pub ended_body : Code → List ℕ → Variables → Dialogue → Outcome
ended_body c value vars st =
    let o = record st.own { bodies = outer st.own.bodies } in
    run turns (behind c value st.own.bodies o) vars (owning o st)

-- The reply to `Knows` is no step. `IsReply` defines it, and its line here is never read.
abbrev pub outcome : Call → Dialogue → Outcome
outcome (Begin words vars) st = begun words vars (idle st)
outcome (Resume vars) st = resumed vars st
outcome (AfterWords words vars) st = run turns (doing (worded words vars st.own)) vars (idle st)
outcome (AfterBody c value vars) st = ended_body c value vars (idle st)
outcome (Knows word) st = (Fail [], record { globals = []; locals = [] }, st)

-- The outcome of a call after one more event. A call that waited goes on.
abbrev pub onward : Event → Outcome → Outcome
onward e (Wait, vars, st) = resumed vars (offered e st)
onward e (Done c v, vars, st) = (Done c v, vars, offered e st)
onward e (Fail t, vars, st) = (Fail t, vars, offered e st)
onward e (Body t, vars, st) = (Body t, vars, offered e st)
onward e (Words t, vars, st) = (Words t, vars, offered e st)
onward e (Stop n, vars, st) = (Stop n, vars, offered e st)
onward e (Unknown, vars, st) = (Unknown, vars, offered e st)
onward e (Memory, vars, st) = (Memory, vars, offered e st)

-- The step, the variables and the dialogue after a call. If memory was ever refused, the step is `Memory`, and nothing
-- else is claimed.
abbrev pub Comes : Dialogue → Call → HostStep → Variables → Dialogue → Type 0
Comes old call step vars new =
    (IsTrue new.lives → IsTrue old.lives × (outcome call old ≡ (step, vars, new))) × (new.lives ≡ false → step ≡ Memory)

-- The reply to a call, and the dialogue after it.
abbrev pub IsReply : Dialogue → Call → Reply → Dialogue → Type 0
IsReply old (Begin words w) (Stepped step vars) new = Comes old (Begin words w) step vars new
IsReply old (Resume w) (Stepped step vars) new = Comes old (Resume w) step vars new
IsReply old (AfterWords words w) (Stepped step vars) new = Comes old (AfterWords words w) step vars new
IsReply old (AfterBody c value w) (Stepped step vars) new = Comes old (AfterBody c value w) step vars new
IsReply old (Knows word) (Known b) new = (b ≡ knows word) × (new ≡ old)
IsReply old (Knows word) (Stepped step vars) new = ⊥
IsReply old (Begin words w) (Known b) new = ⊥
IsReply old (Resume w) (Known b) new = ⊥
IsReply old (AfterWords words w) (Known b) new = ⊥
IsReply old (AfterBody c value w) (Known b) new = ⊥

-- No event has come, and no command has been evaluated.
abbrev pub fresh : Settings → Dialogue
fresh settings = record {
  limit = settings.limit_ms;
  horizon = 0;
  lanes = no_lanes;
  own = record { clock = 0; transcript = []; requests = []; children = []; log_user = true; host = settings.host; size = 2000; remove_nulls = true; channels = []; errors = None; day = None; before = []; after = []; bodies = [] };
  phase = phase.Idle;
  lives = true;
}
