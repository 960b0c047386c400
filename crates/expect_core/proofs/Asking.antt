-- Each call is answered what was asked, and none ends a dialogue.
use Rattle.std.proofs.Common.{◌≡◌, ◌↔◌, ℕ, List, [], ◌∷◌, Bool, true, false, Option, Some, None, refl, sym, ap, subst}
use Rattle.std.specs.Prelude.{is_some}
use Rattle.tcl_subst.specs.Variables.{Variables}
use Rattle.tcl_results.specs.declared.code.Code.{Code}
use Rattle.tcl_results.specs.declared.code.Code.TheVariants as code
use Rattle.tcl_host.specs.declared.host.HostStep.{HostStep}
use Rattle.tcl_host.specs.declared.host.HostStep.TheVariants.{Done, Body, Words, Stop, Unknown, Memory}
use Rattle.tcl_host.specs.Calls.{Call, Begin, AfterBody}
use Rattle.command_table.specs.declared.commands.ExpectCommand.{ExpectCommand}
use Rattle.command_table.specs.Commands.{expect_command}
use Rattle.expect_core.specs.declared.body.Body.{Body as Evaluated}
use Rattle.expect_core.specs.declared.body.Body.TheVariants.{Action, Source}
use Rattle.expect_core.specs.declared.turn.Reply.TheVariants.{Done as DoneReply}
use Rattle.expect_core.specs.declared.own.Own.{Own}
use Rattle.expect_core.specs.declared.dialogue.Dialogue.{Dialogue}
use Rattle.expect_core.specs.Answered.{Outcome, idle, owning}
use Rattle.expect_core.specs.Turns.{over}
use Rattle.tcl_results.specs.Codes.{script_code}
use Rattle.expect_core.specs.Expecting.{behind}
use Rattle.expect_core.specs.Running.{run, turns}
use Rattle.expect_core.specs.Calls.{is_named, began, outer, outcome}
use Rattle.expect_core.specs.Laws.{behind_call, step_to, goes_back, IsBegin, AsksForScripts, IsAnswer, ends_as, AnswersAsked}
use Rattle.expect_core.proofs.Calling.{IsUnknown, MayAnswer}
use Rattle.expect_core.proofs.Steady.{steady_outcome}

is_begin : (call : Call) → IsUnknown call → IsBegin call
is_begin (Begin words vars) unknown = tt
is_begin _ unknown = absurd unknown

as_answer : (call : Call) (s : HostStep) (st : Dialogue) → MayAnswer s call st → AsksForScripts call → IsAnswer call s
as_answer call Unknown st may asks = is_begin call may
as_answer call (Words text) st may asks = may
as_answer call (Body text) st may asks = asks
as_answer call (Stop ending) st may asks = may
as_answer call Memory st may asks = absurd may
as_answer call _ st may asks = tt

answer_of : (call : Call) (st : Dialogue) → AsksForScripts call → IsAnswer call (step_to (outcome call st))
answer_of call st asks = as_answer call (step_to (outcome call st)) (behind_call (outcome call st)) (steady_outcome call st).1 asks

pub each_living : (call : Call) (st : Dialogue) → (behind_call (outcome call st)).lives ≡ st.lives
each_living call st = (steady_outcome call st).0.2

-- an action that ended with another code than 5 and 6

run_over : (c : Code) (value : List ℕ) (vars : Variables) (st : Dialogue) → run turns (over (DoneReply c value)) vars st ≡ (Done c value, vars, st)
unfolding turns
run_over c value vars st = refl

behind_ends : (c : Code) (value : List ℕ) (bodies : List Evaluated) (vars : Variables) (o : Own) (st : Dialogue) → goes_back c ≡ false → step_to (run turns (behind c value bodies o) vars st) ≡ Done (ends_as bodies c) value
behind_ends c value [] vars o st ends = ap step_to (run_over c value vars st)
behind_ends c value (Source ∷ bodies) vars o st ends = ap step_to (run_over (script_code c) value vars st)
behind_ends code.Again value (Action p ∷ bodies) vars o st ends = absurd (cc)
behind_ends code.AgainLater value (Action p ∷ bodies) vars o st ends = absurd (cc)
behind_ends c value (Action p ∷ bodies) vars o st ends = ap step_to (run_over c value vars st)

-- a file that `source` read

sourced_ends : (c : Code) (value : List ℕ) (vars : Variables) (st : Dialogue) (all bodies : List Evaluated) (o : Own) → all ≡ Source ∷ bodies → step_to (run turns (behind c value all o) vars st) ≡ Done (script_code c) value
sourced_ends c value vars st all bodies o is = subst (λ (all : List Evaluated). step_to (run turns (behind c value all o) vars st) ≡ Done (script_code c) value) (sym is) (ap step_to (run_over (script_code c) value vars st))

sourced : (c : Code) (value : List ℕ) (vars : Variables) (st : Dialogue) (bodies : List Evaluated) → st.own.bodies ≡ Source ∷ bodies → step_to (outcome (AfterBody c value vars) st) ≡ Done (script_code c) value
sourced c value vars st bodies is = let o = record st.own { bodies = outer st.own.bodies } in sourced_ends c value vars (owning o (idle st)) st.own.bodies bodies o is

ended : (c : Code) (value : List ℕ) (vars : Variables) (st : Dialogue) → goes_back c ≡ false → step_to (outcome (AfterBody c value vars) st) ≡ Done (ends_as st.own.bodies c) value
ended c value vars st ends = let o = record st.own { bodies = outer st.own.bodies } in behind_ends c value st.own.bodies vars o (owning o (idle st)) ends

body_answer : (c : Code) (value : List ℕ) (vars : Variables) (st : Dialogue) (b : Bool) → goes_back c ≡ b → IsAnswer (AfterBody c value vars) (step_to (outcome (AfterBody c value vars) st))
body_answer c value vars st true back = answer_of (AfterBody c value vars) st back
body_answer c value vars st false back = subst (IsAnswer (AfterBody c value vars)) (sym (ended c value vars st back)) tt

pub each_answer : (call : Call) (st : Dialogue) → IsAnswer call (step_to (outcome call st))
each_answer (AfterBody c value vars) st = body_answer c value vars st (goes_back c) refl
each_answer call st = answer_of call st tt

-- names

may_unknown : (call : Call) (x : Outcome) → MayAnswer (step_to x) call (behind_call x) → step_to x ≡ Unknown → IsUnknown call
may_unknown call (s, vars, st) may is = subst (λ (s : HostStep). MayAnswer s call st) is may

no_name : (n : Option ExpectCommand) (word : List ℕ) (args : List (List ℕ)) (vars : Variables) (st : Dialogue) → is_some n ≡ false → step_to (began n word args vars st) ≡ Unknown
no_name None word args vars st none = refl
no_name (Some n) word args vars st none = absurd (let differs : true ≡ false = none in cc)

unknown : (word : List ℕ) (args : List (List ℕ)) (vars : Variables) (st : Dialogue) → (step_to (outcome (Begin (word ∷ args) vars) st) ≡ Unknown) ↔ (is_named word ≡ false)
unknown word args vars st = (
  λ is. may_unknown (Begin (word ∷ args) vars) (outcome (Begin (word ∷ args) vars) st) (steady_outcome (Begin (word ∷ args) vars) st).1 is,
  λ none. no_name (expect_command word) word args vars (idle st) none,
)

pub answers_asked : AnswersAsked
answers_asked = record {
  unknown = unknown;
  wordless = λ vars st. refl;
  each = each_answer;
  ended = ended;
  sourced = sourced;
  living = each_living;
}
