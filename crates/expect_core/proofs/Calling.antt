-- What each step keeps, each call keeps, whatever its command.
use Rattle.std.proofs.Common.{◌≡◌, ℕ, List, [], ◌∷◌, Bool, true, false, Option, Some, None, Ok, Err, refl, ap}
use Rattle.std.specs.Prelude.{is_some, if◌then◌else◌}
use Rattle.tcl_subst.specs.Variables.{Variables}
use Rattle.tcl_results.specs.Said.{Said}
use Rattle.tcl_host.specs.declared.host.HostStep.{HostStep}
use Rattle.tcl_host.specs.declared.host.HostStep.TheVariants as step
use Rattle.tcl_host.specs.Calls.{Call, Begin, Resume, AfterWords, AfterBody, Knows}
use Rattle.command_table.specs.declared.commands.ExpectCommand.{ExpectCommand}
use Rattle.command_table.specs.Commands.{expect_command}
use Rattle.expect_core.specs.declared.plan.Plan.{Plan}
use Rattle.expect_core.specs.declared.turn.Deed.{Deed}
use Rattle.expect_core.specs.declared.turn.Deed.TheVariants.{Alone, To, Expect}
use Rattle.expect_core.specs.declared.own.Own.{Own}
use Rattle.expect_core.specs.declared.dialogue.Dialogue.{Dialogue}
use Rattle.expect_core.specs.Heard.{IsWatched}
use Rattle.expect_core.specs.Answered.{Outcome, idle, owning}
use Rattle.expect_core.specs.Turns.{doing}
use Rattle.expect_core.specs.Expecting.{behind}
use Rattle.expect_core.specs.Running.{run, turns, resuming}
use Rattle.expect_core.specs.Calls.{is_named, named, worded, filling, filled, began, outer, outcome}
use Rattle.expect_core.specs.Laws.{IsBegin}
use Rattle.expect_core.proofs.Stepping.{MayCome, Sees, TurnOf, PhaseOf, Kept, After, at_of, run_keeps, resuming_keeps}

pub pick : {X : Type 0} (P : X → Type 0) (b : Bool) (x y : X) → P x → P y → P (if b then x else y)
pick P true x y px py = px
pick P false x y px py = py

-- an unknown command has a word that names none
abbrev pub IsUnknown : Call → Type 0
IsUnknown (Begin [] vars) = Unit {0}
IsUnknown (Begin (word ∷ args) vars) = is_named word ≡ false
IsUnknown call = ⊥

-- a call that came to this step may come to it
abbrev pub MayAnswer : HostStep → Call → Dialogue → Type 0
MayAnswer step.Unknown call st = IsUnknown call
MayAnswer (step.Words text) call st = IsBegin call
MayAnswer s call st = MayCome s st

may_answer : (call : Call) (s : HostStep) (st : Dialogue) → MayCome s st → MayAnswer s call st
may_answer call step.Unknown st may = absurd may
may_answer call (step.Words text) st may = absurd may
may_answer call _ st may = may

module _ (A : ℕ → Type 0) (B : ℕ → Plan → Type 0) where
  abbrev pub DeedOf : Deed → Type 0
  DeedOf (Alone effects reply) = Unit {0}
  DeedOf (To i r) = A i
  DeedOf (Expect p) = Sees A B p

  -- what was read, if it could be, is about children of A alone
  abbrev pub SaidOf : Said Deed → Type 0
  SaidOf (Ok deed) = DeedOf deed
  SaidOf (Err text) = Unit {0}

  pub doing_of : (said : Said Deed) → SaidOf said → TurnOf A B (doing said)
  doing_of (Ok (Alone effects reply)) of = (tt, tt)
  doing_of (Ok (To i r)) of = at_of A B i r of
  doing_of (Ok (Expect p)) of = (tt, of)
  doing_of (Err text) of = (tt, tt)

  abbrev pub NamedOf : Option ExpectCommand → List ℕ → List (List ℕ) → Variables → Own → Type 0
  NamedOf None word args vars o = Unit {0}
  NamedOf (Some n) word args vars o = SaidOf (named n word args vars o)

  -- a call begins with such, or goes on with such
  abbrev pub Opens : Call → Dialogue → Type 0
  Opens (Begin [] vars) st = Unit {0}
  Opens (Begin (word ∷ args) vars) st = NamedOf (expect_command word) word args vars st.own
  Opens (Resume vars) st = PhaseOf A B st.phase
  Opens (AfterWords words vars) st = SaidOf (worded words vars st.own)
  Opens (AfterBody c value vars) st = TurnOf A B (behind c value st.own.bodies (record st.own { bodies = outer st.own.bodies }))
  Opens (Knows word) st = PhaseOf A B st.phase

module _ (A : ℕ → Type 0) (B : ℕ → Plan → Type 0) (mine : (i : ℕ) (p : Plan) → IsWatched i p.sides → B i p) (P : Dialogue → Type 0) (k : Kept A P) where
  abbrev pub CalledAfter : Call → Outcome → Type 0
  CalledAfter call (s, vars, st) = P (idle st) × PhaseOf A B st.phase × MayAnswer s call st

  called : (call : Call) (x : Outcome) → After A B mine P k x → CalledAfter call x
  called call (s, vars, st) after = (after.0, after.1, may_answer call s st after.2)

  filled_keeps : (words : List (List ℕ)) (text : Option (List ℕ)) (said : Said Deed) (vars : Variables) (st : Dialogue) → SaidOf A B said → P (idle st) → CalledAfter (Begin words vars) (filled text said vars (idle st))
  filled_keeps words None said vars st of held = called (Begin words vars) (run turns (doing said) vars (idle st)) (run_keeps A B mine P k turns (doing said) vars st (doing_of A B said of) held)
  filled_keeps words (Some text) said vars st of held = (held, tt, tt)

  began_keeps : (n : Option ExpectCommand) (word : List ℕ) (args : List (List ℕ)) (vars : Variables) (st : Dialogue) → expect_command word ≡ n → NamedOf A B n word args vars st.own → P (idle st) → CalledAfter (Begin (word ∷ args) vars) (began n word args vars (idle st))
  began_keeps None word args vars st is of held = (held, tt, ap is_some is)
  began_keeps (Some n) word args vars st is of held = filled_keeps (word ∷ args) (filling n args) (named n word args vars st.own) vars st of held

  pub outcome_keeps : (call : Call) (st : Dialogue) → Opens A B call st → P (idle st) → CalledAfter call (outcome call st)
  outcome_keeps (Begin [] vars) st of held = (held, tt, tt)
  outcome_keeps (Begin (word ∷ args) vars) st of held = began_keeps (expect_command word) word args vars st refl of held
  outcome_keeps (Resume vars) st of held = called (Resume vars) (resuming st.phase vars (idle st)) (resuming_keeps A B mine P k st.phase vars st of held)
  outcome_keeps (AfterWords words vars) st of held =
      called (AfterWords words vars) (run turns (doing (worded words vars st.own)) vars (idle st)) (run_keeps A B mine P k turns (doing (worded words vars st.own)) vars st (doing_of A B (worded words vars st.own) of) held)
  outcome_keeps (AfterBody c value vars) st of held =
      let o = record st.own { bodies = outer st.own.bodies } in
      called (AfterBody c value vars) (run turns (behind c value st.own.bodies o) vars (owning o (idle st))) (run_keeps A B mine P k turns (behind c value st.own.bodies o) vars (owning o st) of (k.pops (idle st) held))
  outcome_keeps (Knows word) st of held = (held, of, tt)
