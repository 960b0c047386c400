-- The rest of a machine's run.
use Rattle.std.specs.Prelude.{◌≡◌, ℕ, Bool, true, false, Some, Result, IfOk, List, [], ◌∷◌, take, drop, if◌then◌else◌}
use Rattle.tcl_subst.specs.Recipes.{given}
use Rattle.tcl_subst.specs.Rests.{rest}
use Rattle.tcl_subst.specs.Variables.{Variables}
use Rattle.tcl_results.specs.declared.code.Code.{Code}
use Rattle.tcl_results.specs.declared.code.Code.TheVariants.{Ok, Error}
use Rattle.tcl_control.specs.Arms.{Arms}
use Rattle.tcl_scripts.specs.Commands.{commands}
use Rattle.tcl_eval.specs.declared.frame.End.TheVariants.{Finished}
use Rattle.tcl_eval.specs.declared.frame.Then.{Then}
use Rattle.tcl_eval.specs.declared.frame.Then.TheVariants.{Command, List as HostList}
use Rattle.tcl_eval.specs.declared.frame.Turning.{Turning}
use Rattle.tcl_eval.specs.declared.frame.Frame.{Frame}
use Rattle.tcl_eval.specs.declared.frame.Frame.TheVariants.{Sequence, Onward as OnwardFrame, Catch, Turn, Each, Scope, HostBody}
use Rattle.tcl_eval.specs.declared.frame.Onward.{Onward}
use Rattle.tcl_eval.specs.declared.frame.Onward.TheVariants.{Word, Fill, Operand, Test, Arm, Next as NextTurn, Start}
use Rattle.tcl_eval.specs.declared.frame.Mode.{Mode}
use Rattle.tcl_eval.specs.declared.frame.Call.{Call}
use Rattle.tcl_eval.specs.declared.frame.Call.TheVariants.{Begin, AfterWords, AfterBody}
use Rattle.tcl_eval.specs.declared.frame.Mode.TheVariants.{Give, Run, Call as CallHost, Define, Ended}
use Rattle.tcl_eval.specs.declared.engine.Engine.{Engine}
use Rattle.tcl_eval.specs.declared.trail.Origin.TheVariants as origin
use Rattle.tcl_eval.specs.Evaluated.{with_operand}
use Rattle.tcl_eval.specs.Worth.{worth}
use Rattle.tcl_host.specs.Calls.{Call as HostCall, Begin as BeginCall, AfterWords as WordsCall, AfterBody as AfterCall, Knows, Resume, Reply, known_of}
use Rattle.tcl_eval.specs.Tree.{State, Tree, Over, Ask}
use Rattle.tcl_eval.specs.Meaning.{Eval, Next, noting, on_ok, on_said, tested, turn_end, stepped, fill_word, fill_words, spread, tree_of, arms, decided, advanced, turned, turns, loop, each, caught, scope_end, defined, replied, on_reply, once_more, next_body, after_body, host_body, host_words, words_in, no_command, invoke, sequence, eval}

-- What follows the words.
abbrev pub then_rest : ℕ → Then → Next → List (List ℕ) → State → Tree
then_rest depth Command k words st = stepped st.left st (λ st. invoke (eval depth) words k st)
then_rest depth (HostList fault) k words st = host_words (eval depth) fault k words st

-- The turns of a loop that are left after its condition is known.
abbrev pub turns_left : ℕ → Turning → Next → Bool → State → Tree
turns_left depth t k b st = decided b k (turned (eval depth) t.test t.body t.next k t.bound) st

-- An `if` whose condition is known.
abbrev pub arm_rest : ℕ → List ℕ → Arms → Next → Bool → State → Tree
arm_rest depth body left k b st = if b then eval depth body k st else arms (eval depth) left.0 left.1 k st

-- A loop: its condition, and then its turns.
abbrev pub looped : ℕ → Turning → Next → State → Tree
looped depth t k st = turns (eval depth) t.test t.body t.next k t.bound st

-- What follows the code `Ok`.
unfoldable pub onward_rest : Onward → Next → List ℕ → State → Tree
onward_rest (Word filler depth) k v st = fill_word (eval depth) (rest (given v filler) st.vars) k (λ v st. k Ok v st) st
onward_rest (Fill words next expand done to depth) k v st =
    on_said (spread expand v done) k (λ done st. fill_words (eval depth) (drop next words) done k (then_rest depth to k) st) st
onward_rest (Operand evaluation depth) k v st = worth (eval depth) (with_operand v evaluation) k (λ v st. k Ok v st) st
onward_rest (Test t depth) k v st = tested v k (turns_left depth t k) st
onward_rest (Arm body left depth) k v st = tested v k (arm_rest depth body left k) st
onward_rest (NextTurn t depth) k v st = looped depth t k st
onward_rest (Start test next body depth) k v st =
    on_said (tree_of test) k (λ t st. loop (eval depth) t body (Some next) k st) st

-- What a frame does with a code and a value.
unfoldable pub frame_rest : Frame → Next → Next
frame_rest (Sequence script at next depth) k =
    on_ok (λ v st. sequence (eval depth) script (drop next (commands script)) k v st) (noting (origin.Command script at) k)
frame_rest (OnwardFrame o) k = on_ok (onward_rest o k) k
frame_rest (Catch name) k = caught name k
frame_rest (Turn t depth) k = turn_end k (λ st. advanced (eval depth) t.next k (λ st. looped depth t k st) st)
frame_rest (Each groups body depth) k = turn_end k (λ st. each (eval depth) groups.names groups.left body k st)
frame_rest (Scope words) k = scope_end words k
frame_rest (HostBody bound depth) k = after_body (eval depth) k bound

-- What the frames do, the top frame first. Below the last one the run ends.
abbrev pub frames_rest : List Frame → Next
frames_rest [] c v st = Over (Finished c v) st
frames_rest (f ∷ fs) c v st = frame_rest f (frames_rest fs) c v st

-- The call of the host, or the call that resumes it.
abbrev pub host_call : Bool → Call → Variables → HostCall
host_call true call vars = Resume vars
host_call false (Begin words) vars = BeginCall words vars
host_call false (AfterWords words) vars = WordsCall words vars
host_call false (AfterBody c v bound) vars = AfterCall c v vars

-- What follows a script that the host asks for in its reply to a call.
abbrev pub body_for : Eval → Call → Next → List ℕ → State → Tree
body_for ev (Begin words) k = host_body ev k
body_for ev (AfterWords words) k = host_body ev k
body_for ev (AfterBody c v bound) k = once_more c (next_body ev k bound) k

-- What follows words that the host asks for.
abbrev pub words_for : Eval → Call → Next → List ℕ → State → Tree
words_for ev (Begin words) k = words_in ev (take 1 words) k
words_for ev (AfterWords words) k = k Error
words_for ev (AfterBody c v bound) k = k Error

-- The error if the host doesn't know the command.
abbrev pub unknown_for : Call → List ℕ
unknown_for (Begin words) = no_command words
unknown_for (AfterWords words) = []
unknown_for (AfterBody c v bound) = []

abbrev pub mode_rest : Mode → Next → State → Tree
mode_rest (Give c v) k st = k c v st
mode_rest (Run script depth) k st = eval depth script k st
mode_rest (CallHost call depth resumed) k st =
    Ask (host_call resumed call st.vars) st.left
    (on_reply k (body_for (eval depth) call k) (words_for (eval depth) call k) (unknown_for call) st)
mode_rest (Define name formals body) k st = Ask (Knows name) st.left (λ r. defined name formals body (known_of r) k st)
mode_rest (Ended end) k st = Over end st

abbrev pub state_of : Engine → ℕ → State
state_of m left = record { vars = m.vars; procs = m.procs; left = left; trail = m.trail }

-- The rest of a run with `left` steps and this mode.
abbrev pub engine_rest : Engine → ℕ → Mode → Tree
engine_rest m left mode = mode_rest mode (frames_rest m.stack) (state_of m left)

-- The current state of a run, and the rest of it.
abbrev pub now_of : Engine → State
now_of m = state_of m m.left

abbrev pub rest_of : Engine → Mode → Tree
rest_of m mode = engine_rest m m.left mode

-- Unless memory was refused, the rest of the run is this, followed by what the old frames do.
abbrev pub RestIs : {E : Type 0} → Engine → Result Mode E → Engine → (Next → State → Tree) → Type 0
RestIs old result new what = IfOk result (λ mode. rest_of new mode ≡ what (frames_rest old.stack) (now_of old))
