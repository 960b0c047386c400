-- The children of a script are kept apart. A call changes only the children that it is for, an event only its own.
use Rattle.std.specs.Prelude.{◌≡◌, ◌≢◌, ℕ, ◌+◌, ◌<◌, ◌==◌, List, [], ◌∷◌, length, if◌then◌else◌, Option, Some, None, Ok, Err}
use Rattle.std.specs.List.{filter}
use Rattle.child_events.specs.declared.event.Event.{Event}
use Rattle.child_events.specs.declared.event.Event.TheVariants as event
use Rattle.command_table.specs.declared.commands.ExpectCommand.{ExpectCommand}
use Rattle.command_table.specs.declared.commands.ExpectCommand.TheVariants as command
use Rattle.command_table.specs.Commands.{expect_command}
use Rattle.exp_match.specs.Arguments.{patterns_of}
use Rattle.tcl_subst.specs.Variables.{Variables}
use Rattle.tcl_results.specs.declared.code.Code.{Code}
use Rattle.tcl_results.specs.declared.code.Code.TheVariants as code
use Rattle.tcl_results.specs.Said.{Said, ◌>>=◌}
use Rattle.tcl_host.specs.Calls.{Call, Begin, Resume, AfterWords, AfterBody, Knows}
use Rattle.expect_core.specs.declared.request.Request.{Request}
use Rattle.expect_core.specs.declared.body.Body.{Body}
use Rattle.expect_core.specs.declared.body.Body.TheVariants.{Action, Source}
use Rattle.expect_core.specs.declared.plan.Plan.{Plan}
use Rattle.expect_core.specs.declared.phase.Phase.{Phase}
use Rattle.expect_core.specs.declared.phase.Phase.TheVariants.{Idle, At}
use Rattle.expect_core.specs.declared.turn.Want.{Want}
use Rattle.expect_core.specs.declared.turn.Want.TheVariants.{Answer, Item, Output, End}
use Rattle.expect_core.specs.declared.own.Own.{Own}
use Rattle.expect_core.specs.declared.settings.Settings.{Settings}
use Rattle.expect_core.specs.declared.dialogue.Dialogue.{Dialogue}
use Rattle.expect_core.specs.Lanes.{lane_of, place, offered}
use Rattle.expect_core.specs.Owned.{child_of}
use Rattle.expect_core.specs.Flags.{arguments}
use Rattle.expect_core.specs.Ids.{spoken_to}
use Rattle.expect_core.specs.Among.{IsAmong}
use Rattle.expect_core.specs.Heard.{IsWatched, about}
use Rattle.expect_core.specs.Sides.{takes_current, asked_by, children_of, still_open}
use Rattle.expect_core.specs.Standing.{ids_with, own_ids}
use Rattle.expect_core.specs.Expecting.{patterns_by}
use Rattle.expect_core.specs.Ends.{close_of}
use Rattle.expect_core.specs.Transcript.{put_of, put_child, complaint_of, complained_to}
use Rattle.expect_core.specs.Calls.{outer, outcome, fresh}
use Rattle.expect_core.specs.Laws.{behind_call}

-- The requests to the child at a place.
abbrev pub asked_of : ℕ → List Request → List Request
asked_of j requests = filter (λ r. r.child == j + 1) requests

-- Nothing about the child at a place has changed: what came from it, its state, and the requests to it.
abbrev pub Untouched : ℕ → Dialogue → Dialogue → Type 0
Untouched j old new =
    (lane_of j new.lanes ≡ lane_of j old.lanes) × (child_of j new.own ≡ child_of j old.own) × (asked_of j new.own.requests ≡ asked_of j old.own.requests)

-- The places of the children that a call is for. On an error there are none. A command is for the child whose spawn id
-- follows `-i`, or else for that of the variable `spawn_id`. What is about a channel that is written is for the child that
-- writes. An `expect` is for each child that takes part in it.

abbrev pub by_id : ExpectCommand → List ℕ → List (List ℕ) → Variables → Own → Said ℕ
by_id c word args vars o = arguments c word args >>= λ f. spoken_to f.0.id vars o

-- With `-d` there is none.
abbrev pub by_option : ExpectCommand → List ℕ → List (List ℕ) → Variables → Own → Said ℕ
by_option c word args vars o = arguments c word args >>= λ f. if f.0.on then Err [] else spoken_to f.0.id vars o

-- Its own children, and those of the standing patterns.
abbrev pub by_patterns : List (List ℕ) → Variables → Own → Said (List ℕ)
by_patterns args vars o =
    patterns_by args (patterns_of args) >>= λ list. asked_by (takes_current list) list vars o >>= λ groups. Ok (children_of (ids_with groups o))

abbrev pub one : Said ℕ → List ℕ
one (Ok i) = i ∷ []
one (Err text) = []

abbrev pub each : Said (List ℕ) → List ℕ
each (Ok is) = is
each (Err text) = []

abbrev pub named_by : Option ExpectCommand → List ℕ → List (List ℕ) → Variables → Own → List ℕ
named_by (Some command.Send) word args vars o = one (by_id command.Send word args vars o)
named_by (Some command.Expect) word args vars o = each (by_patterns args vars o)
named_by (Some command.Close) word args vars o = one (close_of word args vars o)
named_by (Some command.Puts) word args vars o = one (put_of word args >>= λ p. put_child p.0 o)
named_by (Some command.SendError) word args vars o = one (complaint_of word args >>= λ text. complained_to o.errors)
named_by (Some command.Wait) word args vars o = one (by_id command.Wait word args vars o)
named_by (Some command.MatchMax) word args vars o = one (by_option command.MatchMax word args vars o)
named_by (Some command.RemoveNulls) word args vars o = one (by_option command.RemoveNulls word args vars o)
named_by other word args vars o = []

abbrev pub named_in : List (List ℕ) → Variables → Own → List ℕ
named_in [] vars o = []
named_in (word ∷ args) vars o = named_by (expect_command word) word args vars o

-- The children that a waiting call is for. After the action for one child's end, its `expect` may go on with the
-- others.

abbrev pub wanted_of : Want → List ℕ
wanted_of (Answer i why) = i ∷ []
wanted_of (Item i why) = i ∷ []
wanted_of (Output p) = about p
wanted_of (End i p) = i ∷ about p

abbrev pub under_way : Phase → List ℕ
under_way Idle = []
under_way (At n w) = wanted_of w

-- After an action, `exp_continue` goes back to the children of its `expect`, and to those of the standing patterns.

abbrev pub back_to : Plan → Own → Said (List ℕ)
back_to p o = still_open (children_of (own_ids p)) o >>= λ all. Ok (children_of (ids_with (own_ids p) o))

abbrev pub on_top : Code → List Body → Own → List ℕ
on_top code.Again (Action p ∷ bodies) o = each (back_to p o)
on_top code.AgainLater (Action p ∷ bodies) o = each (back_to p o)
on_top c bodies o = []

abbrev pub speaks_to : Call → Dialogue → List ℕ
speaks_to (Begin words vars) st = named_in words vars st.own
speaks_to (Resume vars) st = under_way st.phase
speaks_to (AfterWords words vars) st = named_in words vars st.own
speaks_to (AfterBody c value vars) st = on_top c st.own.bodies (record st.own { bodies = outer st.own.bodies })
speaks_to (Knows word) st = []

-- The child that an `expect` closes takes part in it.
abbrev pub IsOfOwn : Phase → Type 0
IsOfOwn (At n (End i p)) = IsWatched i p.sides
IsOfOwn other = Unit {0}

-- The child at a place takes part in none of these expects.
abbrev pub NoneIsOf : ℕ → List Body → Type 0
NoneIsOf j [] = Unit {0}
NoneIsOf j (Action p ∷ bodies) = (¬ IsWatched j p.sides) × NoneIsOf j bodies
NoneIsOf j (Source ∷ bodies) = NoneIsOf j bodies

-- The child at a place takes part in no waiting call, and in no `expect` whose action is evaluated.
abbrev pub IsAside : ℕ → Dialogue → Type 0
IsAside j st = (¬ IsAmong j (under_way st.phase)) × NoneIsOf j st.own.bodies

-- A call changes no child that was there before and that it isn't for. No wait and no action comes to be about such a
-- child.
abbrev pub CallsOwn : Type 0
CallsOwn =
    (call : Call) (st : Dialogue) → IsOfOwn st.phase → (j : ℕ) → ¬ IsAmong j (speaks_to call st) → j < length st.own.children →
    let new = behind_call (outcome call st) in
    Untouched j st new × (j < length new.own.children) × (IsAside j st → IsAside j new)

-- The child that an `expect` closes takes part in it: at the start, after each event, and after each call.
pub record StaysOfOwn : Type 0 where
  pub begins : (settings : Settings) → IsOfOwn (fresh settings).phase
  pub offered : (e : Event) (st : Dialogue) → IsOfOwn st.phase → IsOfOwn (offered e st).phase
  pub called : (call : Call) (st : Dialogue) → IsOfOwn st.phase → IsOfOwn (behind_call (outcome call st)).phase

-- The place of the child that an event comes from.
abbrev pub comes_from : Event → Option ℕ
comes_from (event.Child c m w) = Some (place c)
comes_from (event.Tick m) = None

-- An event changes no child but its own, and of that child only what came from it.
abbrev pub EventsOne : Type 0
EventsOne =
    (e : Event) (st : Dialogue) → ((offered e st).own ≡ st.own) × ((offered e st).phase ≡ st.phase)
    × ((j : ℕ) → comes_from e ≢ Some j → Untouched j st (offered e st))
