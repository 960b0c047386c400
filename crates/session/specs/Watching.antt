-- What a watcher sees of a script.
use Rattle.std.specs.Prelude.{◌≡◌, ℕ, List, [], ◌∷◌, ◌++◌, Option, Some, None}
use Rattle.child_events.specs.declared.event.Event.{Event}
use Rattle.tcl_subst.specs.Variables.{Variables}
use Rattle.tcl_host.specs.declared.host.HostStep.{HostStep}
use Rattle.tcl_host.specs.declared.host.HostStep.TheVariants.{Done, Fail, Body, Words, Wait, Stop, Unknown, Memory}
use Rattle.tcl_eval.specs.declared.engine.Engine.{Engine}
use Rattle.tcl_eval.specs.declared.frame.Mode.{Mode}
use Rattle.tcl_eval.specs.Rest.{engine_rest}
use Rattle.tcl_host.specs.Calls.{Call, Begin, Resume, AfterWords, AfterBody, Knows, Reply, Stepped, Known}
use Rattle.tcl_eval.specs.Tree.{Tree, Over, Ask}
use Rattle.expect_core.specs.Answered.{Outcome}
use Rattle.expect_core.specs.Bodies.{acting_in}
use Rattle.expect_core.specs.Calls.{outcome, knows, fresh}
use Rattle.expect_core.specs.Lanes.{extended}
use Rattle.expect_core.specs.declared.dialogue.Dialogue.{Dialogue}
use Rattle.expect_core.specs.declared.own.Own.{Own}
use Rattle.expect_core.specs.declared.plan.Plan.{Plan}
use Rattle.expect_core.specs.declared.request.Request.{Request}
use Rattle.expect_core.specs.declared.settings.Settings.{Settings}
use Rattle.session.specs.Left.{Kept}
use Rattle.session.specs.Meaning.{tree_of}

-- An expect that met something, the variables with what was stored, and the requests before it.
pub record Meeting : Type 0 where
  pub plan : Plan
  pub vars : Variables
  pub asked : List Request

-- The meeting of the expect whose action is the innermost script.
abbrev pub innermost : Option Plan → Variables → List Request → Option Meeting
innermost None vars asked = None
innermost (Some p) vars asked = Some (record { plan = p; vars = vars; asked = asked })

-- A reply with a script to evaluate is the action of the innermost expect, which met something, or what `source` read.
abbrev pub met_by : HostStep → Variables → Own → Option Meeting
met_by (Body text) vars o = innermost (acting_in o.bodies) vars o.requests
met_by step vars o = None

-- The same for a reply.
abbrev pub met_in : Reply → Own → Option Meeting
met_in (Stepped step vars) o = met_by step vars o
met_in (Known b) o = None

abbrev pub met_then : Option Meeting → List Meeting → List Meeting
met_then None ms = ms
met_then (Some m) ms = m ∷ ms

-- What is met in a call with this outcome, and after it.
abbrev pub meets_behind : (Reply → Dialogue → List Meeting) → Outcome → List Meeting
meets_behind more (Wait, vars, st) = []
meets_behind more (Done c v, vars, st) = more (Stepped (Done c v) vars) st
meets_behind more (Fail t, vars, st) = more (Stepped (Fail t) vars) st
meets_behind more (Body t, vars, st) = met_then (met_by (Body t) vars st.own) (more (Stepped (Body t) vars) st)
meets_behind more (Words t, vars, st) = more (Stepped (Words t) vars) st
meets_behind more (Stop e, vars, st) = more (Stepped (Stop e) vars) st
meets_behind more (Unknown, vars, st) = more (Stepped Unknown vars) st
meets_behind more (Memory, vars, st) = more (Stepped Memory vars) st

abbrev pub meets_asking : (Reply → Dialogue → List Meeting) → Call → Dialogue → List Meeting
meets_asking more (Knows word) st = more (Known (knows word)) st
meets_asking more (Begin words vars) st = meets_behind more (outcome (Begin words vars) st)
meets_asking more (Resume vars) st = meets_behind more (outcome (Resume vars) st)
meets_asking more (AfterWords words vars) st = meets_behind more (outcome (AfterWords words vars) st)
meets_asking more (AfterBody c value vars) st = meets_behind more (outcome (AfterBody c value vars) st)

-- All that a tree meets over a dialogue, in order.
abbrev pub meets : Tree → Dialogue → List Meeting
meets (Over e s) st = []
meets (Ask call left go) st = meets_asking (λ r. meets (go r)) call st

-- All that a script meets over all its events.
abbrev pub met_over : List ℕ → Settings → List Event → List Meeting
met_over source settings events = meets (tree_of source settings) (extended events (fresh settings))

-- All that a machine and a dialogue meet over later events.
abbrev pub met_by_run : Engine → ℕ → Mode → Dialogue → List Event → List Meeting
met_by_run engine steps mode st later = meets (engine_rest engine steps mode) (extended later st)

-- All that a session meets over later events.
unfoldable pub met_from : Kept → List Event → List Meeting
met_from k later = met_by_run k.engine k.steps k.mode k.dialogue later

-- The relation that a watcher defines for what it sees.
abbrev pub Sight : Type 0 → Type 1
Sight W = W → Plan → Variables → List Request → W → Type 0

abbrev pub Sees : {W : Type 0} → Sight W → Option Meeting → W → W → Type 0
Sees sees None old new = new ≡ old
Sees sees (Some m) old new = sees old m.plan m.vars m.asked new

-- The watcher saw these meetings, one after another.
abbrev pub SeesAll : {W : Type 0} → Sight W → List Meeting → W → W → Type 0
SeesAll sees [] old new = new ≡ old
SeesAll {W} sees (m ∷ ms) old new = (mid : W) × sees old m.plan m.vars m.asked mid × SeesAll sees ms mid new

-- The watcher saw, in order, all meetings before those that are left.
pub record Sights {W : Type 0} (sees : Sight W) (all : List Event → List Meeting) (old : W) (left : List Event → List Meeting) (new : W) : Type 0 where
  pub met : List Meeting
  pub each : (later : List Event) → all later ≡ met ++ left later
  pub seen : SeesAll sees met old new
