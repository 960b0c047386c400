-- No evaluation ends for want of memory, but behind a host's reply that says so; and no call of a dialogue comes to such a reply.
use Rattle.std.proofs.Common.{◌≡◌, ◌≢◌, ℕ, zero, suc, ◌-◌, Bool, true, false, Option, Some, None, List, [], ◌∷◌, ◌++◌, take, Result, Ok as Fine, Err, ℤ, sym, subst}
use Rattle.std.specs.Prelude.{IsTrue, if◌then◌else◌}
use Rattle.child_events.specs.declared.event.Event.{Event}
use Rattle.tcl_words.specs.declared.faults.WordFault.{WordFault}
use Rattle.tcl_words.specs.Pieces.{Spelled}
use Rattle.tcl_expr.specs.declared.faults.ExprFault.{ExprFault}
use Rattle.tcl_expr.specs.Number.{number_text}
use Rattle.tcl_expr.specs.Truth.{word_text, truth_of}
use Rattle.tcl_expr.specs.Tree.{Tree as Expression, number, word, operand, unary, binary, lazy, choice}
use Rattle.tcl_expr.specs.Value.{prefixed, combined, decides, on_truth, bit, bit_text}
use Rattle.tcl_subst.specs.Entries.{find, with_entry}
use Rattle.tcl_subst.specs.Filling.{Fill, Full, Asks, Failed, fill}
use Rattle.tcl_subst.specs.Variables.{with_value}
use Rattle.tcl_subst.specs.Writes.{set_to}
use Rattle.tcl_results.specs.declared.code.Code.{Code}
use Rattle.tcl_results.specs.declared.code.Carried.TheVariants as carried
use Rattle.tcl_results.specs.declared.code.Code.TheVariants.{Ok, Error, Return, Break, Continue, Again, AgainLater}
use Rattle.tcl_control.specs.declared.verbs.Verb.{Verb}
use Rattle.tcl_control.specs.declared.verbs.Verb.TheVariants.{Plain, If, While, For, Foreach, Proc, Expr, Eval as EvalCommand, Catch, Exit, Switch}
use Rattle.tcl_results.specs.Texts.{wrong_args, expected_number, not_read, word_fault, expr_fault, too_deep}
use Rattle.tcl_results.specs.Said.{Said, Outcome as Carried}
use Rattle.tcl_commands.specs.Plain.{plain}
use Rattle.tcl_control.specs.Verbs.{verb_of, redefinable_verb, exit_status}
use Rattle.tcl_lists.specs.Joining.{expr_text, eval_text}
use Rattle.tcl_control.specs.Arms.{arms_of}
use Rattle.tcl_control.specs.Choosing.{body_of_switch}
use Rattle.tcl_control.specs.Groups.{each_of}
use Rattle.tcl_results.specs.Setting.{assigned}
use Rattle.tcl_control.specs.Procs.{formals_of, entered, or_not_set}
use Rattle.tcl_scripts.specs.declared.script.Reading.{Reading}
use Rattle.tcl_scripts.specs.declared.script.Reading.TheVariants.{Command, Malformed}
use Rattle.tcl_scripts.specs.Commands.{commands}
use Rattle.tcl_scripts.specs.Gathered.{all_words}
use Rattle.tcl_host.specs.declared.ending.Ending.{Ending}
use Rattle.tcl_host.specs.declared.ending.Ending.TheVariants as ending
use Rattle.tcl_host.specs.declared.host.HostStep.{HostStep}
use Rattle.tcl_host.specs.declared.host.HostStep.TheVariants.{Done, Fail, Body, Words, Wait, Stop, Unknown, Memory}
use Rattle.tcl_eval.specs.declared.frame.End.TheVariants as end
use Rattle.tcl_eval.specs.declared.procedure.Procedure.{Procedure}
use Rattle.tcl_eval.specs.declared.trail.Origin.{Origin}
use Rattle.tcl_eval.specs.declared.trail.Origin.TheVariants as origin
use Rattle.tcl_host.specs.Calls.{Call, Begin, Resume, AfterWords, AfterBody, Knows, Reply, Stepped, Known, step_of, vars_of, known_of}
use Rattle.tcl_eval.specs.Tree.{State, Tree, Over, Ask}
use Rattle.tcl_eval.specs.Meaning.{Next, Eval, passed, taken, noting, on_ok, on_said, after, on_bool, tested, computed, turn_end, stepped, fill_word, fill_parts, spread, fill_words, value_from, expression, tree_of as expression_of, condition, otherwise, arms, decided, advanced, turned, loop, each, digit, caught, left_scope, left_by_error, scope_end, no_command, called, redefinable_or_begun, called_or_begun, reserved, defined, replied, once_more, told_end, next_body, after_body, host_body, host_words, words_in, begin, while_command, for_command, new_proc, proc_command, catch_command, invoked, named, invoke, command, sequence, eval}
use Rattle.tcl_eval.specs.Suspended.{at_the_end}
use Rattle.expect_core.specs.declared.dialogue.Dialogue.{Dialogue}
use Rattle.expect_core.specs.declared.request.Request.{Request}
use Rattle.expect_core.specs.declared.settings.Settings.{Settings}
use Rattle.expect_core.specs.Lanes.{extended}
use Rattle.expect_core.specs.Answered.{Outcome}
use Rattle.expect_core.specs.Calls.{outcome, knows, fresh}
use Rattle.expect_core.specs.Laws.{step_to, IsAnswer}
use Rattle.expect_core.proofs.Asking.{each_answer}
use Rattle.session.specs.declared.report.Report.{Report}
use Rattle.session.specs.First.{first_variables}
use Rattle.session.specs.Play.{ending_of, behind, play}
use Rattle.session.specs.Meaning.{steps_of, tree_of, meaning}
use Rattle.session.specs.Left.{Kept, left, Fed, HandsOut}
use Rattle.session.specs.Spent.{NoneMeansMemory, SaysNoMemory}

-- any ending but the one for want of memory
abbrev Remembers : Ending → Type 0
Remembers ending.Memory = ⊥
Remembers _ = Unit {0}

-- an ending that a script comes to by itself: not for want of memory, and not while it waits
abbrev pub Spared : Ending → Type 0
Spared ending.Memory = ⊥
Spared ending.Waiting = ⊥
Spared (ending.Exit n) = Unit {0}
Spared ending.Error = Unit {0}
Spared ending.StepLimit = Unit {0}
Spared ending.TimeLimit = Unit {0}

remembers : (e : Ending) → Spared e → Remembers e
remembers ending.Memory s = s
remembers ending.Waiting s = tt
remembers (ending.Exit n) s = tt
remembers ending.Error s = tt
remembers ending.StepLimit s = tt
remembers ending.TimeLimit s = tt

-- a step that speaks of no other ending
abbrev pub SparedStep : HostStep → Type 0
SparedStep Memory = ⊥
SparedStep (Stop e) = Spared e
SparedStep _ = Unit {0}

-- a tree that comes to no other ending, where no reply speaks of one
abbrev pub SparedTree : Tree → Type 0
SparedTree (Over e st) = Spared (ending_of e)
SparedTree (Ask call left go) = (r : Reply) → SparedStep (step_of r) → SparedTree (go r)

abbrev SparedNext : Next → Type 0
SparedNext k = (c : Code) (v : List ℕ) (st : State) → SparedTree (k c v st)

-- of what goes on with a value
abbrev SparedOn : {X : Type 0} → (X → State → Tree) → Type 0
SparedOn {X} go = (x : X) (st : State) → SparedTree (go x st)

abbrev SparedSo : (State → Tree) → Type 0
SparedSo go = (st : State) → SparedTree (go st)

abbrev SparedEval : Eval → Type 0
SparedEval ev = (script : List ℕ) (k : Next) (st : State) → SparedNext k → SparedTree (ev script k st)

-- ---- evaluations

spared_if : (b : Bool) (x y : Tree) → SparedTree x → SparedTree y → SparedTree (if b then x else y)
spared_if true x y p q = p
spared_if false x y p q = q

on_ok-spared : (go : List ℕ → State → Tree) (k : Next) → SparedOn go → SparedNext k → SparedNext (on_ok go k)
on_ok-spared go k g h Ok v st = g v st
on_ok-spared go k g h Error v st = h Error v st
on_ok-spared go k g h (Return c) v st = h (Return c) v st
on_ok-spared go k g h Break v st = h Break v st
on_ok-spared go k g h Continue v st = h Continue v st
on_ok-spared go k g h Again v st = h Again v st
on_ok-spared go k g h AgainLater v st = h AgainLater v st

on_said-spared : {X : Type 0} (s : Said X) (k : Next) (go : X → State → Tree) (st : State) → SparedNext k → SparedOn go → SparedTree (on_said s k go st)
on_said-spared (Fine x) k go st h g = g x st
on_said-spared (Err text) k go st h g = h Error text st

on_bool-spared : (o : Option Bool) (v : List ℕ) (k : Next) (go : Bool → State → Tree) (st : State) → SparedNext k → SparedOn go → SparedTree (on_bool o v k go st)
on_bool-spared None v k go st h g = h Error (expected_number v) st
on_bool-spared (Some b) v k go st h g = g b st

computed-spared : (r : Result ℤ ExprFault) (k : Next) (go : List ℕ → State → Tree) (st : State) → SparedNext k → SparedOn go → SparedTree (computed r k go st)
computed-spared (Fine z) k go st h g = g (number_text z) st
computed-spared (Err f) k go st h g = h Error (expr_fault [] f) st

turn_end-spared : (more : State → Tree) (k : Next) → SparedSo more → SparedNext k → SparedNext (turn_end k more)
turn_end-spared more k g h Ok v st = g st
turn_end-spared more k g h Continue v st = g st
turn_end-spared more k g h Break v st = h Ok [] st
turn_end-spared more k g h Error v st = h Error v st
turn_end-spared more k g h (Return c) v st = h (Return c) v st
turn_end-spared more k g h Again v st = h Again v st
turn_end-spared more k g h AgainLater v st = h AgainLater v st

stepped-spared : (n : ℕ) (st : State) (go : State → Tree) → SparedSo go → SparedTree (stepped n st go)
stepped-spared zero st go g = tt
stepped-spared (suc n) st go g = g (record st { left = n })

decided-spared : (b : Bool) (k : Next) (turn : State → Tree) (st : State) → SparedNext k → SparedSo turn → SparedTree (decided b k turn st)
decided-spared false k turn st h g = h Ok [] st
decided-spared true k turn st h g = stepped-spared st.left st turn g

noting-spared : (o : Origin) (k : Next) → SparedNext k → SparedNext (noting o k)
noting-spared o k h Ok v st = h Ok v st
noting-spared o k h Error v st = h Error v (passed o st)
noting-spared o k h (Return c) v st = h (Return c) v st
noting-spared o k h Break v st = h Break v st
noting-spared o k h Continue v st = h Continue v st
noting-spared o k h Again v st = h Again v st
noting-spared o k h AgainLater v st = h AgainLater v st

scope_end-spared : (words : List (List ℕ)) (k : Next) → SparedNext k → SparedNext (scope_end words k)
scope_end-spared words k h Ok v st = h Ok v (left_scope st)
scope_end-spared words k h Error v st = h Error v (left_by_error words st)
scope_end-spared words k h (Return carried.Ok) v st = h Ok v (left_scope st)
scope_end-spared words k h (Return carried.Error) v st = h Error v (left_by_error words st)
scope_end-spared words k h (Return carried.Return) v st = h (Return carried.Ok) v (left_scope st)
scope_end-spared words k h (Return carried.Break) v st = h Break v (left_scope st)
scope_end-spared words k h (Return carried.Continue) v st = h Continue v (left_scope st)
scope_end-spared words k h Break v st = h Error _ (left_by_error words st)
scope_end-spared words k h Continue v st = h Error _ (left_by_error words st)
scope_end-spared words k h Again v st = h Again v (left_scope st)
scope_end-spared words k h AgainLater v st = h AgainLater v (left_scope st)

caught-spared : (o : Option (List ℕ)) (k : Next) → SparedNext k → SparedNext (caught o k)
caught-spared None k h c v st = h Ok (digit c) (taken st)
caught-spared (Some name) k h c v st =
    on_said-spared (or_not_set name (with_value (set_to v) name st.vars)) k (λ vars st. k Ok (digit c) (record st { vars = vars })) (taken st) h
    (λ vars st. h Ok (digit c) (record st { vars = vars }))

defined-spared : (name formals body : List ℕ) (b : Bool) (k : Next) (st : State) → SparedNext k → SparedTree (defined name formals body b k st)
defined-spared name formals body true k st h = h Error (reserved name) st
defined-spared name formals body false k st h =
    on_said-spared (formals_of formals) k (λ fs st. k Ok [] (record st { procs = with_entry name (record { formals = fs; body = body }) st.procs })) st h
    (λ fs st. h Ok [] (record st { procs = with_entry name (record { formals = fs; body = body }) st.procs }))

replied-spared : (k : Next) (body words : List ℕ → State → Tree) (fault : List ℕ) (s : HostStep) (st : State) → SparedStep s → SparedNext k → SparedOn body → SparedOn words → SparedTree (replied k body words fault s st)
replied-spared k body words fault (Done c v) st s h b w = h c v st
replied-spared k body words fault (Fail t) st s h b w = h Error t st
replied-spared k body words fault (Body t) st s h b w = b t st
replied-spared k body words fault (Words t) st s h b w = w t st
replied-spared k body words fault Wait st s h b w = h Error [] st
replied-spared k body words fault (Stop e) st s h b w = s
replied-spared k body words fault Unknown st s h b w = h Error fault st
replied-spared k body words fault Memory st s h b w = absurd s

once_more-spared : (c : Code) (k : Next) (more : List ℕ → State → Tree) → SparedNext k → SparedOn more → SparedOn (once_more c more k)
once_more-spared Again k more h g = g
once_more-spared AgainLater k more h g = g
once_more-spared Ok k more h g = h Error
once_more-spared Error k more h g = h Error
once_more-spared (Return c) k more h g = h Error
once_more-spared Break k more h g = h Error
once_more-spared Continue k more h g = h Error

told_end-spared : (k : Next) (more : List ℕ → State → Tree) → SparedNext k → SparedOn more → SparedNext (told_end k more)
told_end-spared k more h g c v st = λ r s.
    replied-spared k (once_more c more k) (k Error) [] (step_of r) (record st { vars = vars_of r }) s h (once_more-spared c k more h g) (h Error)

module _ (ev : Eval) (evaluates : SparedEval ev) where
  word-spared : (f : Fill) (k : Next) (go : List ℕ → State → Tree) (st : State) → SparedNext k → SparedOn go → SparedTree (fill_word ev f k go st)
  word-spared (Full v) k go st h g = g v st
  word-spared (Asks text more) k go st h g =
      evaluates text (on_ok (λ v st. fill_word ev (more v st.vars) k go st) k) st
      (on_ok-spared (λ v st. fill_word ev (more v st.vars) k go st) k (λ v st. word-spared (more v st.vars) k go st h g) h)
  word-spared (Failed f name) k go st h g = h Error (not_read name f) st

  parts-spared : (w : Spelled) (k : Next) (go : List ℕ → State → Tree) (st : State) → SparedNext k → SparedOn go → SparedTree (fill_parts ev w k go st)
  parts-spared w k go st h g = word-spared (fill w.pieces st.vars) k go st h g

  words-spared : (ws : List Spelled) (done : List (List ℕ)) (k : Next) (go : List (List ℕ) → State → Tree) (st : State) → SparedNext k → SparedOn go → SparedTree (fill_words ev ws done k go st)
  words-spared [] done k go st h g = g done st
  words-spared (w ∷ ws) done k go st h g =
      parts-spared w k (λ v st. on_said (spread w.expand v done) k (λ done st. fill_words ev ws done k go st) st) st h
      (λ v st. on_said-spared (spread w.expand v done) k (λ done st. fill_words ev ws done k go st) st h (λ done st. words-spared ws done k go st h g))

  value-spared : (t : Expression) (vs : List (List ℕ)) (k : Next) (go : List ℕ → List (List ℕ) → State → Tree) (st : State) → SparedNext k
      → ((v : List ℕ) (vs : List (List ℕ)) (st : State) → SparedTree (go v vs st)) → SparedTree (value_from (fill_parts ev) t vs k go st)
  value-spared (number z) vs k go st h g = g (number_text z) vs st
  value-spared (word w) vs k go st h g = g (word_text w) vs st
  value-spared (operand w) [] k go st h g = parts-spared w k (λ v st. go v [] st) st h (λ v st. g v [] st)
  value-spared (operand w) (v ∷ vs) k go st h g = g v vs st
  value-spared (unary op t) vs k go st h g =
      value-spared t vs k (λ a vs st. computed (prefixed op a) k (λ v st. go v vs st) st) st h
      (λ a vs st. computed-spared (prefixed op a) k (λ v st. go v vs st) st h (λ v st. g v vs st))
  value-spared (binary op l r) vs k go st h g =
      value-spared l vs k (λ a vs st. value_from (fill_parts ev) r vs k (λ b vs st. computed (combined op a b) k (λ v st. go v vs st) st) st) st h
      (λ a vs st. value-spared r vs k (λ b vs st. computed (combined op a b) k (λ v st. go v vs st) st) st h
      (λ b vs st. computed-spared (combined op a b) k (λ v st. go v vs st) st h (λ v st. g v vs st)))
  value-spared (lazy op l r) vs k go st h g =
      value-spared l vs k
      (λ a vs st. tested a k (λ t st. if decides op t then go (bit_text t) vs st else value_from (fill_parts ev) r vs k (λ b vs st. computed (on_truth b (truth_of b) (λ t. Fine (bit t))) k (λ v st. go v vs st) st) st) st) st h
      (λ a vs st. on_bool-spared (truth_of a) a k
      (λ t st. if decides op t then go (bit_text t) vs st else value_from (fill_parts ev) r vs k (λ b vs st. computed (on_truth b (truth_of b) (λ t. Fine (bit t))) k (λ v st. go v vs st) st) st) st h
      (λ t st. spared_if (decides op t) _ _ (g (bit_text t) vs st)
      (value-spared r vs k (λ b vs st. computed (on_truth b (truth_of b) (λ t. Fine (bit t))) k (λ v st. go v vs st) st) st h
      (λ b vs st. computed-spared (on_truth b (truth_of b) (λ t. Fine (bit t))) k (λ v st. go v vs st) st h (λ v st. g v vs st)))))
  value-spared (choice c a b) vs k go st h g =
      value-spared c vs k (λ x vs st. tested x k (λ t st. if t then value_from (fill_parts ev) a vs k go st else value_from (fill_parts ev) b vs k go st) st) st h
      (λ x vs st. on_bool-spared (truth_of x) x k (λ t st. if t then value_from (fill_parts ev) a vs k go st else value_from (fill_parts ev) b vs k go st) st h
      (λ t st. spared_if t _ _ (value-spared a vs k go st h g) (value-spared b vs k go st h g)))

  expression-spared : (t : Expression) (k : Next) (go : List ℕ → State → Tree) (st : State) → SparedNext k → SparedOn go → SparedTree (expression ev t k go st)
  expression-spared t k go st h g = value-spared t [] k (λ v vs st. go v st) st h (λ v vs st. g v st)

  condition-spared : (t : Expression) (k : Next) (go : Bool → State → Tree) (st : State) → SparedNext k → SparedOn go → SparedTree (condition ev t k go st)
  condition-spared t k go st h g = expression-spared t k (λ v st. tested v k go st) st h (λ v st. on_bool-spared (truth_of v) v k go st h g)

  otherwise-spared : (o : Option (List ℕ)) (k : Next) (st : State) → SparedNext k → SparedTree (otherwise ev o k st)
  otherwise-spared None k st h = h Ok [] st
  otherwise-spared (Some body) k st h = evaluates body k st h

  arms-spared : (list : List (List ℕ × List ℕ)) (o : Option (List ℕ)) (k : Next) (st : State) → SparedNext k → SparedTree (arms ev list o k st)
  arms-spared [] o k st h = otherwise-spared o k st h
  arms-spared (a ∷ more) o k st h =
      on_said-spared (expression_of a.0) k (λ t st. condition ev t k (λ b st. if b then ev a.1 k st else arms ev more o k st) st) st h
      (λ t st. condition-spared t k (λ b st. if b then ev a.1 k st else arms ev more o k st) st h
      (λ b st. spared_if b _ _ (evaluates a.1 k st h) (arms-spared more o k st h)))

  advanced-spared : (next : Option (List ℕ)) (k : Next) (more : State → Tree) (st : State) → SparedNext k → SparedSo more → SparedTree (advanced ev next k more st)
  advanced-spared None k more st h g = g st
  advanced-spared (Some next) k more st h g = evaluates next (on_ok (λ v st. more st) k) st (on_ok-spared (λ v st. more st) k (λ v st. g st) h)

  module _ (test : Expression) (body : List ℕ) (next : Option (List ℕ)) (k : Next) (h : SparedNext k) where
    turned-spared : (n : ℕ) (st : State) → SparedTree (turned ev test body next k n st)
    turned-spared zero st = tt
    turned-spared (suc n) st =
        evaluates body
        (turn_end k (λ st. advanced ev next k (λ st. condition ev test k (λ b st. decided b k (turned ev test body next k n) st) st) st)) st
        (turn_end-spared (λ st. advanced ev next k (λ st. condition ev test k (λ b st. decided b k (turned ev test body next k n) st) st) st) k
        (λ st. advanced-spared next k (λ st. condition ev test k (λ b st. decided b k (turned ev test body next k n) st) st) st h
        (λ st. condition-spared test k (λ b st. decided b k (turned ev test body next k n) st) st h
        (λ b st. decided-spared b k (turned ev test body next k n) st h (turned-spared n)))) h)

    loop-spared : (st : State) → SparedTree (loop ev test body next k st)
    loop-spared st =
        condition-spared test k (λ b st'. decided b k (turned ev test body next k st.left) st') st h
        (λ b st'. decided-spared b k (turned ev test body next k st.left) st' h (turned-spared st.left))

  each-spared : (names : List (List ℕ)) (groups : List (List (List ℕ))) (body : List ℕ) (k : Next) (st : State) → SparedNext k → SparedTree (each ev names groups body k st)
  each-spared names [] body k st h = h Ok [] st
  each-spared names (es ∷ groups) body k st h =
      stepped-spared st.left st
      (λ st. after (assigned names es st.vars) (on_ok (λ v st. ev body (turn_end k (λ st. each ev names groups body k st)) st) k) st)
      (λ st'.
      let o : Carried = assigned names es st'.vars in
      on_ok-spared (λ v st. ev body (turn_end k (λ st. each ev names groups body k st)) st) k
      (λ v st. evaluates body (turn_end k (λ st. each ev names groups body k st)) st
      (turn_end-spared (λ st. each ev names groups body k st) k (λ st. each-spared names groups body k st h) h)) h
      o.0 o.1 (record st' { vars = o.2 }))

  called-spared : (p : Procedure) (name : List ℕ) (args : List (List ℕ)) (k : Next) (st : State) → SparedNext k → SparedTree (called ev p name args k st)
  called-spared p name args k st h =
      on_said-spared (entered name p.formals args st.vars) k (λ vars st. ev p.body (scope_end (name ∷ args) k) (record st { vars = vars })) st h
      (λ vars st. evaluates p.body (scope_end (name ∷ args) k) (record st { vars = vars }) (scope_end-spared (name ∷ args) k h))

  -- ---- commands of the host

  after_body-spared : (n : ℕ) (k : Next) → SparedNext k → SparedNext (after_body ev k n)
  after_body-spared zero k h = told_end-spared k (next_body ev k zero) h (λ text st. tt)
  after_body-spared (suc n) k h =
      told_end-spared k (next_body ev k (suc n)) h (λ text st. evaluates text (after_body ev k n) st (after_body-spared n k h))

  host_body-spared : (k : Next) → SparedNext k → SparedOn (host_body ev k)
  host_body-spared k h text st = evaluates text (after_body ev k st.left) st (after_body-spared st.left k h)

  host_words-spared : (f : Option WordFault) (words : List (List ℕ)) (k : Next) (st : State) → SparedNext k → SparedTree (host_words ev f k words st)
  host_words-spared (Some f) words k st h = h Error (word_fault f) st
  host_words-spared None words k st h = λ r s.
      replied-spared k (host_body ev k) (k Error) [] (step_of r) (record st { vars = vars_of r }) s h (host_body-spared k h) (h Error)

  words_in-spared : (first : List (List ℕ)) (k : Next) → SparedNext k → SparedOn (words_in ev first k)
  words_in-spared first k h t st =
      words-spared ((all_words (commands t)).0) first k (λ ws st. host_words ev ((all_words (commands t)).1) k ws st) st h
      (λ ws st. host_words-spared ((all_words (commands t)).1) ws k st h)

  begin-spared : (words : List (List ℕ)) (k : Next) (st : State) → SparedNext k → SparedTree (begin ev words k st)
  begin-spared words k st h = λ r s.
      replied-spared k (host_body ev k) (words_in ev (take 1 words) k) (no_command words) (step_of r) (record st { vars = vars_of r }) s h
      (host_body-spared k h) (words_in-spared (take 1 words) k h)

  -- ---- commands of the language

  while-spared : (name : List ℕ) (args : List (List ℕ)) (k : Next) (st : State) → SparedNext k → SparedTree (while_command ev name args k st)
  while-spared name [] k st h = h Error (wrong_args name) st
  while-spared name (test ∷ []) k st h = h Error (wrong_args name) st
  while-spared name (test ∷ body ∷ []) k st h =
      on_said-spared (expression_of test) k (λ t st. loop ev t body None k st) st h (λ t st. loop-spared t body None k h st)
  while-spared name (test ∷ body ∷ other ∷ more) k st h = h Error (wrong_args name) st

  for-spared : (name : List ℕ) (args : List (List ℕ)) (k : Next) (st : State) → SparedNext k → SparedTree (for_command ev name args k st)
  for-spared name [] k st h = h Error (wrong_args name) st
  for-spared name (start ∷ []) k st h = h Error (wrong_args name) st
  for-spared name (start ∷ test ∷ []) k st h = h Error (wrong_args name) st
  for-spared name (start ∷ test ∷ next ∷ []) k st h = h Error (wrong_args name) st
  for-spared name (start ∷ test ∷ next ∷ body ∷ []) k st h =
      evaluates start (on_ok (λ v st. on_said (expression_of test) k (λ t st. loop ev t body (Some next) k st) st) k) st
      (on_ok-spared (λ v st. on_said (expression_of test) k (λ t st. loop ev t body (Some next) k st) st) k
      (λ v st. on_said-spared (expression_of test) k (λ t st. loop ev t body (Some next) k st) st h
      (λ t st. loop-spared t body (Some next) k h st)) h)
  for-spared name (start ∷ test ∷ next ∷ body ∷ other ∷ more) k st h = h Error (wrong_args name) st

  new_proc-spared : (o : Option Verb) (name formals body : List ℕ) (k : Next) (st : State) → SparedNext k → SparedTree (new_proc o name formals body k st)
  new_proc-spared (Some verb) name formals body k st h = h Error (reserved name) st
  new_proc-spared None name formals body k st h = λ r s. defined-spared name formals body (known_of r) k st h

  proc-spared : (name : List ℕ) (args : List (List ℕ)) (k : Next) (st : State) → SparedNext k → SparedTree (proc_command name args k st)
  proc-spared name [] k st h = h Error (wrong_args name) st
  proc-spared name (new ∷ []) k st h = h Error (wrong_args name) st
  proc-spared name (new ∷ formals ∷ []) k st h = h Error (wrong_args name) st
  proc-spared name (new ∷ formals ∷ body ∷ []) k st h = new_proc-spared (verb_of new) new formals body k st h
  proc-spared name (new ∷ formals ∷ body ∷ other ∷ more) k st h = h Error (wrong_args name) st

  catch-spared : (name : List ℕ) (args : List (List ℕ)) (k : Next) (st : State) → SparedNext k → SparedTree (catch_command ev name args k st)
  catch-spared name [] k st h = h Error (wrong_args name) st
  catch-spared name (script ∷ []) k st h = evaluates script (caught None k) st (caught-spared None k h)
  catch-spared name (script ∷ variable ∷ []) k st h = evaluates script (caught (Some variable) k) st (caught-spared (Some variable) k h)
  catch-spared name (script ∷ variable ∷ other ∷ more) k st h = h Error (wrong_args name) st

  invoked-spared : (verb : Verb) (name : List ℕ) (args : List (List ℕ)) (k : Next) (st : State) → SparedNext k → SparedTree (invoked ev verb name args k st)
  invoked-spared (Plain p) name args k st h = let o : Carried = plain p name args st.vars in h o.0 o.1 (record st { vars = o.2 })
  invoked-spared If name args k st h = on_said-spared (arms_of name args) k (λ a st. arms ev a.0 a.1 k st) st h (λ a st. arms-spared a.0 a.1 k st h)
  invoked-spared While name args k st h = while-spared name args k st h
  invoked-spared For name args k st h = for-spared name args k st h
  invoked-spared Foreach name args k st h =
      on_said-spared (each_of name args) k (λ e st. each ev e.0.names e.0.left e.1 k st) st h (λ e st. each-spared e.0.names e.0.left e.1 k st h)
  invoked-spared Proc name args k st h = proc-spared name args k st h
  invoked-spared Expr name args k st h =
      on_said-spared (expr_text name args) k (λ text st. on_said (expression_of text) k (λ t st. expression ev t k (λ v st. k Ok v st) st) st) st h
      (λ text st. on_said-spared (expression_of text) k (λ t st. expression ev t k (λ v st. k Ok v st) st) st h
      (λ t st. expression-spared t k (λ v st. k Ok v st) st h (λ v st. h Ok v st)))
  invoked-spared EvalCommand name args k st h = on_said-spared (eval_text name args) k (λ text st. ev text k st) st h (λ text st. evaluates text k st h)
  invoked-spared Catch name args k st h = catch-spared name args k st h
  invoked-spared Switch name args k st h = on_said-spared (body_of_switch name args) k (λ body st. otherwise ev body k st) st h (λ body st. otherwise-spared body k st h)
  invoked-spared Exit name args k st h = on_said-spared (exit_status name args) k (λ n st. Over (end.Stopped (ending.Exit n)) st) st h (λ n st. tt)

  redefinable-spared : (o : Option Verb) (name : List ℕ) (args : List (List ℕ)) (k : Next) (st : State) → SparedNext k → SparedTree (redefinable_or_begun ev o name args k st)
  redefinable-spared (Some verb) name args k st h = invoked-spared verb name args k st h
  redefinable-spared None name args k st h = begin-spared (name ∷ args) k st h

  called_or_begun-spared : (o : Option Procedure) (name : List ℕ) (args : List (List ℕ)) (k : Next) (st : State) → SparedNext k → SparedTree (called_or_begun ev o name args k st)
  called_or_begun-spared None name args k st h = redefinable-spared (redefinable_verb name) name args k st h
  called_or_begun-spared (Some p) name args k st h = called-spared p name args k st h

  named-spared : (o : Option Verb) (name : List ℕ) (args : List (List ℕ)) (k : Next) (st : State) → SparedNext k → SparedTree (named ev o name args k st)
  named-spared None name args k st h = called_or_begun-spared (find name st.procs) name args k st h
  named-spared (Some verb) name args k st h = invoked-spared verb name args k st h

  invoke-spared : (words : List (List ℕ)) (k : Next) (st : State) → SparedNext k → SparedTree (invoke ev words k st)
  invoke-spared [] k st h = h Ok [] st
  invoke-spared (name ∷ args) k st h = named-spared (verb_of name) name args k st h

  command-spared : (words : List Spelled) (k : Next) (st : State) → SparedNext k → SparedTree (command ev words k st)
  command-spared words k st h =
      words-spared words [] k (λ words st. stepped st.left st (λ st. invoke ev words k st)) st h
      (λ words st. stepped-spared st.left st (λ st. invoke ev words k st) (λ st. invoke-spared words k st h))

  sequence-spared : (script : List ℕ) (rs : List Reading) (k : Next) (last : List ℕ) (st : State) → SparedNext k → SparedTree (sequence ev script rs k last st)
  sequence-spared script [] k last st h = h Ok last st
  sequence-spared script (Malformed at f ∷ rs) k last st h = h Error (word_fault f) (passed (origin.Command script at) st)
  sequence-spared script (Command at words ∷ rs) k last st h =
      let o : Origin = origin.Command script at in
      command-spared words (on_ok (λ v st. sequence ev script rs k v st) (noting o k)) st
      (on_ok-spared (λ v st. sequence ev script rs k v st) (noting o k) (λ v st. sequence-spared script rs k v st h) (noting-spared o k h))

eval-spared : (depth : ℕ) → SparedEval (eval depth)
eval-spared zero script k st h = h Error too_deep st
eval-spared (suc depth) script k st h = sequence-spared (eval depth) (eval-spared depth) script (commands script) k [] st h

end-spared : SparedNext at_the_end
end-spared Ok v st = tt
end-spared Error v st = tt
end-spared (Return carried.Ok) v st = tt
end-spared (Return carried.Error) v st = tt
end-spared (Return carried.Return) v st = tt
end-spared (Return carried.Break) v st = tt
end-spared (Return carried.Continue) v st = tt
end-spared Break v st = tt
end-spared Continue v st = tt
end-spared Again v st = tt
end-spared AgainLater v st = tt

pub tree_spared : (source : List ℕ) (settings : Settings) → SparedTree (tree_of source settings)
unfolding tree_of
tree_spared source settings =
    eval-spared 200 source at_the_end (record { vars = first_variables settings.host settings.vars; procs = []; left = steps_of settings.steps; trail = [] }) end-spared

-- ---- with a dialogue

answer_spared : (call : Call) (s : HostStep) → IsAnswer call s → SparedStep s
answer_spared call (Done c v) a = tt
answer_spared call (Fail t) a = tt
answer_spared call (Body t) a = tt
answer_spared call (Words t) a = tt
answer_spared call Wait a = tt
answer_spared call (Stop e) a = subst Spared (sym a) tt
answer_spared call Unknown a = tt
answer_spared call Memory a = a

pub outcome_spared : (call : Call) (d : Dialogue) → SparedStep (step_to (outcome call d))
outcome_spared call d = answer_spared call (step_to (outcome call d)) (each_answer call d)

behind_spared : (steps : ℕ) (more : Reply → Dialogue → Report) (x : Outcome) → SparedStep (step_to x) → ((r : Reply) (d : Dialogue) → SparedStep (step_of r) → Remembers (more r d).ending) → Remembers (behind steps more x).ending
behind_spared steps more (Wait, vars, st) s says = tt
behind_spared steps more (Done c v, vars, st) s says = says (Stepped (Done c v) vars) st s
behind_spared steps more (Fail t, vars, st) s says = says (Stepped (Fail t) vars) st s
behind_spared steps more (Body t, vars, st) s says = says (Stepped (Body t) vars) st s
behind_spared steps more (Words t, vars, st) s says = says (Stepped (Words t) vars) st s
behind_spared steps more (Stop e, vars, st) s says = says (Stepped (Stop e) vars) st s
behind_spared steps more (Unknown, vars, st) s says = says (Stepped Unknown vars) st s
behind_spared steps more (Memory, vars, st) s says = absurd s

play_spared : (bound : ℕ) (t : Tree) (d : Dialogue) → SparedTree t → Remembers (play bound t d).ending
play_spared bound (Over e s) d h = remembers (ending_of e) h
play_spared bound (Ask (Knows name) had go) d h = play_spared bound (go (Known (knows name))) d (h (Known (knows name)) tt)
play_spared bound (Ask (Begin words vars) had go) d h =
    behind_spared (bound - had) (λ r. play bound (go r)) _ (outcome_spared (Begin words vars) d) (λ r d s. play_spared bound (go r) d (h r s))
play_spared bound (Ask (Resume vars) had go) d h =
    behind_spared (bound - had) (λ r. play bound (go r)) _ (outcome_spared (Resume vars) d) (λ r d s. play_spared bound (go r) d (h r s))
play_spared bound (Ask (AfterWords words vars) had go) d h =
    behind_spared (bound - had) (λ r. play bound (go r)) _ (outcome_spared (AfterWords words vars) d) (λ r d s. play_spared bound (go r) d (h r s))
play_spared bound (Ask (AfterBody c v vars) had go) d h =
    behind_spared (bound - had) (λ r. play bound (go r)) _ (outcome_spared (AfterBody c v vars) d) (λ r d s. play_spared bound (go r) d (h r s))

differs : (e : Ending) → Remembers e → e ≢ ending.Memory
differs e s is = subst Remembers is s

pub none_means_memory : NoneMeansMemory
none_means_memory source settings events =
    differs (meaning source settings events).ending (play_spared (steps_of settings.steps) (tree_of source settings) (extended events (fresh settings)) (tree_spared source settings))

-- ---- of sessions

pub begins_spared : (source : List ℕ) (settings : Settings) (k : Kept) → (IsTrue k.lives → (later : List Event) → left k later ≡ meaning source settings later) → SaysNoMemory k
begins_spared source settings k says = λ lives later. subst (λ (r : Report). r.ending ≢ ending.Memory) (sym (says lives later)) (none_means_memory source settings later)

pub fed_spared : (old new : Kept) (events : List Event) → Fed old events new → SaysNoMemory old → SaysNoMemory new
fed_spared old new events f said = λ lives later. subst (λ (r : Report). r.ending ≢ ending.Memory) (sym (f.says lives later)) (said (f.lived lives) (events ++ later))

pub handed_spared : (old new : Kept) (request : Option Request) → HandsOut old request new → SaysNoMemory old → SaysNoMemory new
handed_spared old new request out said = λ lives later.
    subst (λ (r : Report). r.ending ≢ ending.Memory) (sym (out.says later)) (said (subst (λ (b : Bool). IsTrue b) out.lives lives) later)
