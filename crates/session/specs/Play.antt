-- The report of a script's tree over a dialogue.
use Rattle.std.specs.Prelude.{ℕ, ◌-◌, Bool, List, [], ◌∷◌, map, codes, if◌then◌else◌}
use Rattle.tcl_subst.specs.Report.{values_of}
use Rattle.tcl_subst.specs.Variables.{Variables}
use Rattle.tcl_results.specs.declared.code.Code.{Code}
use Rattle.tcl_results.specs.Codes.{script_code}
use Rattle.tcl_results.specs.declared.code.Code.TheVariants.{Ok, Error, Return, Break, Continue, Again, AgainLater}
use Rattle.tcl_host.specs.declared.ending.Ending.{Ending}
use Rattle.tcl_host.specs.declared.ending.Ending.TheVariants as ending
use Rattle.tcl_eval.specs.declared.frame.End.{End}
use Rattle.tcl_eval.specs.declared.frame.End.TheVariants as end
use Rattle.tcl_eval.specs.declared.trail.Origin.{Origin}
use Rattle.tcl_eval.specs.declared.trail.Origin.TheVariants as origin
use Rattle.tcl_host.specs.declared.host.HostStep.TheVariants.{Done, Fail, Body, Words, Wait, Stop, Unknown, Memory}
use Rattle.tcl_host.specs.Calls.{Call, Begin, Resume, AfterWords, AfterBody, Knows, Reply, Stepped, Known}
use Rattle.tcl_eval.specs.Tree.{Tree, Over, Ask}
use Rattle.tcl_eval.specs.Meaning.{outside_loop}
use Rattle.expect_core.specs.declared.dialogue.Dialogue.{Dialogue}
use Rattle.expect_core.specs.Answered.{Outcome}
use Rattle.expect_core.specs.Awaited.{starting}
use Rattle.expect_core.specs.Calls.{outcome, knows}
use Rattle.session.specs.declared.place.ErrorPlace.{ErrorPlace}
use Rattle.session.specs.declared.place.ErrorPlace.TheVariants.{Command, Procedure}
use Rattle.session.specs.declared.report.Report.{Report}

-- The report with these variables.
abbrev pub said_with : Ending → List ℕ → List ErrorPlace → ℕ → List (List ℕ × List ℕ) → Dialogue → Report
said_with e fault trail steps values st = record {
  ending = e;
  fault = fault;
  trail = trail;
  transcript = st.own.transcript;
  vars = values;
  requests = st.own.requests;
  sent = map (λ child. child.sent) st.own.children;
  steps = steps;
  starting = starting st.phase;
}

abbrev pub said : Ending → List ℕ → List ErrorPlace → ℕ → Variables → Dialogue → Report
said e fault trail steps vars st = said_with e fault trail steps (values_of vars.globals) st

-- A report with its variables only if the settings ask for them.
abbrev pub told : Bool → Report → Report
told tells r = record r { vars = if tells then r.vars else [] }

-- The ending of a script with this code, when `return` has given what it carries. Any other code than 0 and 2 is an error.
abbrev pub ending_by : Code → Ending
ending_by Ok = ending.Exit 0
ending_by (Return c) = ending.Exit 0
ending_by Error = ending.Error
ending_by Break = ending.Error
ending_by Continue = ending.Error
ending_by Again = ending.Error
ending_by AgainLater = ending.Error

abbrev pub ending_at : Code → Ending
ending_at c = ending_by (script_code c)

-- The text of the error of a script with such a code.
abbrev pub fault_by : Code → List ℕ → List ℕ
fault_by Ok value = []
fault_by (Return c) value = []
fault_by Error value = value
fault_by Break value = outside_loop (codes "break")
fault_by Continue value = outside_loop (codes "continue")
fault_by Again value = codes "exp_continue outside of expect"
fault_by AgainLater value = codes "exp_continue outside of expect"

abbrev pub fault_at : Code → List ℕ → List ℕ
fault_at c value = fault_by (script_code c) value

-- The name of the procedure that these words called.
abbrev pub name_of : List (List ℕ) → List ℕ
name_of [] = []
name_of (name ∷ args) = name

-- A place that an error passed.
abbrev pub place_of : Origin → ErrorPlace
place_of (origin.Command script at) = Command script at
place_of (origin.Procedure words) = Procedure (name_of words)

-- The places that the error passed which ended a script.
abbrev pub trail_at : Code → List Origin → List ErrorPlace
trail_at Ok trail = []
trail_at (Return c) trail = []
trail_at Error trail = map place_of trail
trail_at Break trail = []
trail_at Continue trail = []
trail_at Again trail = []
trail_at AgainLater trail = []

abbrev pub fault_if : Ending → List ℕ
fault_if e = []

abbrev pub ending_of : End → Ending
ending_of (end.Finished c value) = ending_at c
ending_of (end.Stopped e) = e
ending_of end.StepLimit = ending.StepLimit
ending_of end.Memory = ending.Memory

abbrev pub fault_of : End → List ℕ
fault_of (end.Finished c value) = fault_at c value
fault_of (end.Stopped e) = []
fault_of end.StepLimit = []
fault_of end.Memory = []

abbrev pub trail_of : End → List Origin → List ErrorPlace
trail_of (end.Finished c value) trail = trail_at c trail
trail_of (end.Stopped e) trail = []
trail_of end.StepLimit trail = []
trail_of end.Memory trail = []

abbrev pub over_with : End → List Origin → ℕ → Variables → Dialogue → Report
over_with e trail steps vars st = said (ending_of e) (fault_of e) (trail_of e trail) steps vars st

-- The report after a call. A call that waits waits for ever, because no more events come.
abbrev pub behind : ℕ → (Reply → Dialogue → Report) → Outcome → Report
behind steps more (Wait, vars, st) = said ending.Waiting [] [] steps vars st
behind steps more (Done c v, vars, st) = more (Stepped (Done c v) vars) st
behind steps more (Fail t, vars, st) = more (Stepped (Fail t) vars) st
behind steps more (Body t, vars, st) = more (Stepped (Body t) vars) st
behind steps more (Words t, vars, st) = more (Stepped (Words t) vars) st
behind steps more (Stop e, vars, st) = more (Stepped (Stop e) vars) st
behind steps more (Unknown, vars, st) = more (Stepped Unknown vars) st
behind steps more (Memory, vars, st) = more (Stepped Memory vars) st

-- The report after the reply to a call.
abbrev pub asking : ℕ → (Reply → Dialogue → Report) → Call → Dialogue → Report
asking steps more (Knows word) st = more (Known (knows word)) st
asking steps more (Begin words vars) st = behind steps more (outcome (Begin words vars) st)
asking steps more (Resume vars) st = behind steps more (outcome (Resume vars) st)
asking steps more (AfterWords words vars) st = behind steps more (outcome (AfterWords words vars) st)
asking steps more (AfterBody c value vars) st = behind steps more (outcome (AfterBody c value vars) st)

-- The report of a tree over a dialogue. Each call sees all that came to the dialogue.
abbrev pub play : ℕ → Tree → Dialogue → Report
play bound (Over e s) st = over_with e s.trail (bound - s.left) s.vars st
play bound (Ask call left go) st = asking (bound - left) (λ r. play bound (go r)) call st
