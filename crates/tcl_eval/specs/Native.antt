-- The rest of a run after an evaluating function has returned, given its continuation.
use Rattle.std.specs.Prelude.{◌≡◌, ℕ, ◌+◌, ◌*◌, ◌≤◌, Bool, true, false, Option, Some, None, Result, Ok as Fine, Err, List, [], ◌∷◌}
use Rattle.tcl_subst.specs.Entries.{find}
use Rattle.tcl_results.specs.declared.code.Code.{Code}
use Rattle.tcl_results.specs.declared.code.Code.TheVariants as code
use Rattle.tcl_control.specs.Groups.{Turns}
use Rattle.tcl_eval.specs.declared.stop.Stop.{Stop}
use Rattle.tcl_eval.specs.declared.out.Exception.{Exception}
use Rattle.tcl_eval.specs.declared.out.Exception.TheVariants.{Error, Return, Break, Continue, Again, AgainLater}
use Rattle.tcl_eval.specs.declared.out.Leave.{Leave}
use Rattle.tcl_eval.specs.declared.out.Leave.TheVariants.{Gone, Stopped, Memory}
use Rattle.tcl_eval.specs.declared.frame.Frame.{Frame}
use Rattle.tcl_eval.specs.declared.frame.Frame.TheVariants.{Each as EachFrame}
use Rattle.tcl_eval.specs.declared.frame.End.TheVariants.{Memory as NoMemory}
use Rattle.tcl_eval.specs.declared.frame.Onward.TheVariants.{Start}
use Rattle.tcl_eval.specs.declared.frame.Turning.{Turning}
use Rattle.tcl_eval.specs.declared.engine.Engine.{Engine}
use Rattle.tcl_eval.specs.Tree.{State, Tree, Over}
use Rattle.tcl_control.specs.Verbs.{redefinable_verb}
use Rattle.tcl_eval.specs.Meaning.{Eval, Next, on_ok, tested, eval, expression, arms, each, caught, begin, redefinable_or_begun, called_or_begun, scope_end}
use Rattle.tcl_eval.specs.Rest.{frame_rest, onward_rest, mode_rest, looped, now_of}
use Rattle.tcl_eval.specs.Potential.{again, bodies, credit}

-- Saved frames. They were saved from the innermost to the outermost, so the outermost comes first.
abbrev pub laid_rest : List Frame → Next → Next
laid_rest [] k = k
laid_rest (f ∷ fs) k = laid_rest fs (frame_rest f k)

unfoldable pub stop_rest : Stop → Next → State → Tree
stop_rest s k st = mode_rest s.at (laid_rest s.laid k) st

-- ---- Results of evaluating functions

abbrev pub code_of : Exception → Code
code_of Error = code.Error
code_of (Return c) = code.Return c
code_of Break = code.Break
code_of Continue = code.Continue
code_of Again = code.Again
code_of AgainLater = code.AgainLater

-- The rest of the run if there is no value.
abbrev pub left : Leave → State → Next → Tree
left (Gone x v) st k = k (code_of x) v st
left (Stopped s) st k = stop_rest s.value k st
left Memory st k = Over NoMemory st

-- The rest of the run if `go` follows a value.
abbrev pub flow : {A : Type 0} → Result A Leave → State → Next → (A → State → Tree) → Tree
flow (Fine a) st k go = go a st
flow (Err l) st k go = left l st k

abbrev pub at_ok : Next → List ℕ → State → Tree
at_ok k v st = k code.Ok v st

-- The rest of a script or a command.
abbrev pub ended : Result (List ℕ) Leave → State → Next → Tree
ended result st k = flow result st k (at_ok k)

-- Memory was not refused.
abbrev pub Knows : Leave → Type 0
Knows (Gone x v) = Unit {0}
Knows (Stopped s) = Unit {0}
Knows Memory = ⊥

abbrev pub Known : {A : Type 0} → Result A Leave → Type 0
Known (Fine a) = Unit {0}
Known (Err l) = Knows l

-- Unless memory was refused, a part of a command had this result, whatever follows the command. `go` follows the part's
-- value.
abbrev pub Comes : {A : Type 0} → Engine → Result A Leave → Engine → (Next → A → State → Tree) → (Next → State → Tree) → Type 0
Comes old result new go what =
    Known result → (k : Next) → flow result (now_of new) k (go k) ≡ what k (now_of old)

-- A script or a command had this result.
abbrev pub CameIs : Engine → Result (List ℕ) Leave → Engine → (Next → State → Tree) → Type 0
CameIs old result new what =
    Known result → (k : Next) → flow result (now_of new) k (at_ok k) ≡ what k (now_of old)

-- A value within a command had this result, whatever follows the value and the command.
abbrev pub WordIs : Engine → Result (List ℕ) Leave → Engine → (Next → (List ℕ → State → Tree) → State → Tree) → Type 0
WordIs old result new what =
    Known result → (k : Next) (go : List ℕ → State → Tree) → flow result (now_of new) (on_ok go k) go ≡ what k go (now_of old)

abbrev pub on_tested : (Bool → State → Tree) → Next → Next
on_tested go k = on_ok (λ v st. tested v k go st) k

-- The same for a condition.
abbrev pub TruthIs : Engine → Result Bool Leave → Engine → (Next → (Bool → State → Tree) → State → Tree) → Type 0
TruthIs old result new what =
    Known result → (k : Next) (go : Bool → State → Tree) → flow result (now_of new) (on_tested go k) go ≡ what k go (now_of old)

-- What follows a part that has no value.
abbrev pub then_so : {A : Type 0} → (Next → State → Tree) → Next → A → State → Tree
then_so what k a st = what k st

-- What follows a turn of a loop: the loop, if there are more turns.
abbrev pub turn_on : ℕ → Turning → Next → Bool → State → Tree
turn_on depth t k true st = looped depth t k st
turn_on depth t k false st = k code.Ok [] st

-- What follows the start of a turn of `foreach`: its body, if the turn has begun.
abbrev pub each_begun : ℕ → List ℕ → Turns → Next → Bool → State → Tree
each_begun depth body groups k true st = eval depth body (frame_rest (EachFrame groups body depth) k) st
each_begun depth body groups k false st = k code.Ok [] st

-- What follows a turn of `foreach`: the other turns, if there are any.
abbrev pub each_on : ℕ → List ℕ → Next → Option Turns → State → Tree
each_on depth body k (Some groups) st = each (eval depth) groups.names groups.left body k st
each_on depth body k None st = k code.Ok [] st

-- A command, by its words, whose name a procedure can have.
abbrev pub other_command : Eval → List (List ℕ) → Next → State → Tree
other_command ev [] k st = begin ev [] k st
other_command ev (name ∷ args) k st = called_or_begun ev (find name st.procs) name args k st

-- Such a command, if no procedure has its name.
abbrev pub not_called : Eval → List (List ℕ) → Next → State → Tree
not_called ev [] k st = begin ev [] k st
not_called ev (name ∷ args) k st = redefinable_or_begun ev (redefinable_verb name) name args k st

-- Such a command: the body of a procedure whose scope was entered, or the command itself.
abbrev pub entered_rest : Eval → List (List ℕ) → Next → Option (List ℕ) → State → Tree
entered_rest ev words k None st = not_called ev words k st
entered_rest ev words k (Some script) st = ev script (scope_end words k) st

-- ---- Potential of the rest

abbrev pub stop_weight : Stop → ℕ
stop_weight s = bodies s.laid + credit s.at

abbrev pub leave_weight : Leave → ℕ
leave_weight (Gone x v) = again (code_of x)
leave_weight (Stopped s) = stop_weight s.value
leave_weight Memory = 0

-- The potential of the rest. It is n if there is a value.
abbrev pub owed : {A : Type 0} → ℕ → Result A Leave → ℕ
owed n (Fine a) = n
owed n (Err l) = leave_weight l

-- The lower frames are unchanged. Steps left and potential owed don't exceed the steps left before and the potential
-- paid.
pub record Spent (old new : Engine) (paid owed : ℕ) : Type 0 where
  pub kept : new.stack ≡ old.stack
  pub less : new.left ≤ old.left
  pub down : 8 * new.left + owed ≤ 8 * old.left + paid
