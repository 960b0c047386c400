-- The calls of a host, and its replies.
use Rattle.std.specs.Prelude.{ℕ, Bool, true, List}
use Rattle.tcl_subst.specs.Variables.{Variables, no_variables}
use Rattle.tcl_results.specs.declared.code.Code.{Code}
use Rattle.tcl_host.specs.declared.host.HostStep.{HostStep}
use Rattle.tcl_host.specs.declared.host.HostStep.TheVariants.{Wait}

-- A call of the host, with the variables that it borrows.
pub data Call : Type 0 where
  Begin : (words : List (List ℕ)) (vars : Variables) → Call
  Resume : (vars : Variables) → Call
  AfterWords : (words : List (List ℕ)) (vars : Variables) → Call
  AfterBody : (code : Code) (value : List ℕ) (vars : Variables) → Call
  Knows : (name : List ℕ) → Call

-- The reply to a call: the host's step with the changed variables, or whether it knows a name.
pub data Reply : Type 0 where
  Stepped : (step : HostStep) (vars : Variables) → Reply
  Known : (is_known : Bool) → Reply

-- The step of a reply. A reply to `Knows` contains none, and is read as `Wait`.
abbrev pub step_of : Reply → HostStep
step_of (Stepped step vars) = step
step_of (Known b) = Wait

-- The variables after a reply. A reply to `Knows` contains none.
abbrev pub vars_of : Reply → Variables
vars_of (Stepped step vars) = vars
vars_of (Known b) = no_variables

-- The reply says that the name is known.
abbrev pub known_of : Reply → Bool
known_of (Stepped step vars) = true
known_of (Known b) = b
