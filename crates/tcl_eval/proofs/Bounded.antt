-- No evaluation has more steps left behind it than before it, and fewer behind the codes at which a host may ask for one more script. So the
-- bounds on turns and on scripts of the host are never what ends them.
use Rattle.std.proofs.Common.{◌≡◌, ℕ, zero, suc, ◌+◌, ◌<◌, ◌≤◌, Bool, true, false, Option, Some, None, List, [], ◌∷◌, take, Result, Ok as Fine, Err, ℤ, refl, ap, arith, if◌then◌else◌}
use Rattle.std.proofs.Math.Path.{fun_ext}
use Rattle.tcl_words.specs.declared.faults.WordFault.{WordFault}
use Rattle.tcl_words.specs.Pieces.{Spelled}
use Rattle.tcl_expr.specs.declared.faults.ExprFault.{ExprFault}
use Rattle.tcl_expr.specs.Number.{number_text}
use Rattle.tcl_expr.specs.Truth.{word_text, truth_of}
use Rattle.tcl_expr.specs.Tree.{Tree as Expression, number, word, operand, unary, binary, lazy, choice}
use Rattle.tcl_expr.specs.Value.{prefixed, combined, decides, on_truth, bit, bit_text}
use Rattle.tcl_subst.specs.Entries.{find, with_entry}
use Rattle.tcl_subst.specs.Filling.{Fill, Full, Asks, Failed, fill}
use Rattle.tcl_subst.specs.Variables.{Variables, with_value}
use Rattle.tcl_subst.specs.Writes.{set_to}
use Rattle.tcl_results.specs.declared.code.Code.{Code}
use Rattle.tcl_results.specs.declared.code.Carried.TheVariants as carried
use Rattle.tcl_results.specs.declared.code.Code.TheVariants.{Ok, Error, Return, Break, Continue, Again, AgainLater}
use Rattle.tcl_control.specs.declared.verbs.Verb.{Verb}
use Rattle.tcl_control.specs.declared.verbs.Verb.TheVariants.{Plain, If, While, For, Foreach, Proc, Expr, Eval as EvalCommand, Catch, Exit, Switch}
use Rattle.tcl_results.specs.Texts.{wrong_args, expected_number, not_read, word_fault, expr_fault, too_deep}
use Rattle.tcl_results.specs.Said.{Said, Outcome}
use Rattle.tcl_commands.specs.Plain.{plain}
use Rattle.tcl_control.specs.Verbs.{verb_of, redefinable_verb, exit_status}
use Rattle.tcl_lists.specs.Joining.{expr_text, eval_text}
use Rattle.tcl_control.specs.Arms.{arms_of}
use Rattle.tcl_control.specs.Choosing.{body_of_switch}
use Rattle.tcl_control.specs.Groups.{each_of}
use Rattle.tcl_results.specs.Setting.{assigned}
use Rattle.tcl_control.specs.Procs.{formals_of, entered, or_not_set}
use Rattle.tcl_scripts.specs.declared.script.Reading.{Reading}
use Rattle.tcl_scripts.specs.declared.script.Reading.TheVariants.{Command, Malformed}
use Rattle.tcl_scripts.specs.Commands.{commands}
use Rattle.tcl_scripts.specs.Gathered.{all_words}
use Rattle.tcl_host.specs.declared.ending.Ending.TheVariants as ending
use Rattle.tcl_host.specs.declared.host.HostStep.{HostStep}
use Rattle.tcl_host.specs.declared.host.HostStep.TheVariants.{Done, Fail, Body, Words, Wait, Stop, Unknown, Memory}
use Rattle.tcl_eval.specs.declared.frame.End.TheVariants.{Stopped}
use Rattle.tcl_eval.specs.declared.procedure.Procedure.{Procedure}
use Rattle.tcl_eval.specs.declared.trail.Origin.{Origin}
use Rattle.tcl_eval.specs.declared.trail.Origin.TheVariants as origin
use Rattle.tcl_host.specs.Calls.{Begin, AfterWords, AfterBody, Knows, step_of, vars_of, known_of}
use Rattle.tcl_eval.specs.Tree.{State, Tree, Over, Ask}
use Rattle.tcl_eval.specs.Meaning.{Next, Eval, passed, taken, noting, on_ok, on_said, after, on_bool, tested, computed, turn_end, stepped, fill_word, fill_parts, spread, fill_words, value_from, expression, tree_of, condition, otherwise, arms, decided, advanced, one_turn, turned, turns, loop, each, digit, caught, left_scope, left_by_error, scope_end, no_command, called, redefinable_or_begun, called_or_begun, reserved, defined, replied, once_more, told_end, one_body, next_body, after_body, host_body, host_words, words_in, begin, while_command, for_command, new_proc, proc_command, catch_command, invoked, named, invoke, command, sequence, eval}
use Rattle.tcl_eval.specs.Unrolled.{LoopsUnroll, BodiesUnroll}

-- what a code has cost at least
abbrev cost : Code → ℕ
cost Again = 1
cost AgainLater = 1
cost _ = 0

-- the same where no more than so many steps are left, the code's cost counted
abbrev Agree : ℕ → Next → Next → Type 0
Agree b k k' = (c : Code) (v : List ℕ) (st : State) → st.left + cost c ≤ b → k c v st ≡ k' c v st

-- the same where no more than so many steps are left
abbrev AgreeAll : ℕ → Next → Next → Type 0
AgreeAll b k k' = (c : Code) (v : List ℕ) (st : State) → st.left ≤ b → k c v st ≡ k' c v st

-- the same, of what goes on with a value
abbrev AgreeOn : {X : Type 0} → ℕ → (X → State → Tree) → (X → State → Tree) → Type 0
AgreeOn {X} b go go' = (x : X) (st : State) → st.left ≤ b → go x st ≡ go' x st

-- the same, of what goes on
abbrev AgreeSo : ℕ → (State → Tree) → (State → Tree) → Type 0
AgreeSo b go go' = (st : State) → st.left ≤ b → go st ≡ go' st

-- an evaluation hands on no more steps than it was given
abbrev IsBounded : Eval → Type 0
IsBounded ev = (script : List ℕ) (k k' : Next) (st : State) → Agree st.left k k' → ev script k st ≡ ev script k' st

-- at fewer steps
fewer : (b c : ℕ) (k k' : Next) → b ≤ c → Agree c k k' → Agree b k k'
fewer b c k k' l h code v st m = h code v st (omega arith)

fewer_all : (b c : ℕ) (k k' : Next) → b ≤ c → AgreeAll c k k' → AgreeAll b k k'
fewer_all b c k k' l h code v st m = h code v st (omega arith)

cost_one : (c : Code) → cost c ≤ 1
cost_one Ok = omega arith
cost_one Error = omega arith
cost_one (Return c) = omega arith
cost_one Break = omega arith
cost_one Continue = omega arith
cost_one Again = omega arith
cost_one AgainLater = omega arith

-- behind a step all codes agree
behind_step : (b c : ℕ) (k k' : Next) → b + 1 ≤ c → Agree c k k' → AgreeAll b k k'
behind_step b c k k' l h code v st m = let one : cost code ≤ 1 = cost_one code in h code v st (omega arith)

with_cost : (b : ℕ) (k k' : Next) → AgreeAll b k k' → Agree b k k'
with_cost b k k' h code v st m = h code v st (omega arith)

same_if : (b : Bool) (x x' y y' : Tree) → x ≡ x' → y ≡ y' → (if b then x else y) ≡ (if b then x' else y')
same_if true x x' y y' p q = p
same_if false x x' y y' p q = q

on_ok-agree : (b : ℕ) (go go' : List ℕ → State → Tree) (k k' : Next) → AgreeOn b go go' → Agree b k k' → Agree b (on_ok go k) (on_ok go' k')
on_ok-agree b go go' k k' g h Ok v st l = g v st (omega arith)
on_ok-agree b go go' k k' g h Error v st l = h Error v st l
on_ok-agree b go go' k k' g h (Return c) v st l = h (Return c) v st l
on_ok-agree b go go' k k' g h Break v st l = h Break v st l
on_ok-agree b go go' k k' g h Continue v st l = h Continue v st l
on_ok-agree b go go' k k' g h Again v st l = h Again v st l
on_ok-agree b go go' k k' g h AgainLater v st l = h AgainLater v st l

noting-agree : (o : Origin) (b : ℕ) (k k' : Next) → Agree b k k' → Agree b (noting o k) (noting o k')
noting-agree o b k k' h Ok v st l = h Ok v st l
noting-agree o b k k' h Error v st l = h Error v (passed o st) l
noting-agree o b k k' h (Return c) v st l = h (Return c) v st l
noting-agree o b k k' h Break v st l = h Break v st l
noting-agree o b k k' h Continue v st l = h Continue v st l
noting-agree o b k k' h Again v st l = h Again v st l
noting-agree o b k k' h AgainLater v st l = h AgainLater v st l

on_ok-agree_all : (b : ℕ) (go go' : List ℕ → State → Tree) (k k' : Next) → AgreeOn b go go' → AgreeAll b k k' → AgreeAll b (on_ok go k) (on_ok go' k')
on_ok-agree_all b go go' k k' g h Ok v st l = g v st l
on_ok-agree_all b go go' k k' g h Error v st l = h Error v st l
on_ok-agree_all b go go' k k' g h (Return c) v st l = h (Return c) v st l
on_ok-agree_all b go go' k k' g h Break v st l = h Break v st l
on_ok-agree_all b go go' k k' g h Continue v st l = h Continue v st l
on_ok-agree_all b go go' k k' g h Again v st l = h Again v st l
on_ok-agree_all b go go' k k' g h AgainLater v st l = h AgainLater v st l

on_said-agree : {X : Type 0} (s : Said X) (k k' : Next) (go go' : X → State → Tree) (st : State) → Agree st.left k k' → ((x : X) → go x st ≡ go' x st) → on_said s k go st ≡ on_said s k' go' st
on_said-agree (Fine x) k k' go go' st h g = g x
on_said-agree (Err text) k k' go go' st h g = h Error text st (omega arith)

on_bool-agree : (o : Option Bool) (v : List ℕ) (k k' : Next) (go go' : Bool → State → Tree) (st : State) → Agree st.left k k' → ((b : Bool) → go b st ≡ go' b st) → on_bool o v k go st ≡ on_bool o v k' go' st
on_bool-agree None v k k' go go' st h g = h Error (expected_number v) st (omega arith)
on_bool-agree (Some b) v k k' go go' st h g = g b

computed-agree : (r : Result ℤ ExprFault) (k k' : Next) (go go' : List ℕ → State → Tree) (st : State) → Agree st.left k k' → ((v : List ℕ) → go v st ≡ go' v st) → computed r k go st ≡ computed r k' go' st
computed-agree (Fine z) k k' go go' st h g = g (number_text z)
computed-agree (Err f) k k' go go' st h g = h Error (expr_fault [] f) st (omega arith)

turn_end-agree : (b : ℕ) (more more' : State → Tree) (k k' : Next) → AgreeSo b more more' → Agree b k k' → Agree b (turn_end k more) (turn_end k' more')
turn_end-agree b more more' k k' g h Ok v st l = g st (omega arith)
turn_end-agree b more more' k k' g h Continue v st l = g st (omega arith)
turn_end-agree b more more' k k' g h Break v st l = h Ok [] st l
turn_end-agree b more more' k k' g h Error v st l = h Error v st l
turn_end-agree b more more' k k' g h (Return c) v st l = h (Return c) v st l
turn_end-agree b more more' k k' g h Again v st l = h Again v st l
turn_end-agree b more more' k k' g h AgainLater v st l = h AgainLater v st l

stepped-agree : (n : ℕ) (st : State) (go go' : State → Tree) → ((st' : State) → st'.left + 1 ≤ n → go st' ≡ go' st') → stepped n st go ≡ stepped n st go'
stepped-agree zero st go go' g = refl
stepped-agree (suc n) st go go' g = g (record st { left = n }) (omega arith)

decided-agree : (b : Bool) (k k' : Next) (turn turn' : State → Tree) (st : State) → Agree st.left k k' → ((st' : State) → st'.left + 1 ≤ st.left → turn st' ≡ turn' st') → decided b k turn st ≡ decided b k' turn' st
decided-agree false k k' turn turn' st h g = h Ok [] st (omega arith)
decided-agree true k k' turn turn' st h g = stepped-agree st.left st turn turn' g

scope_end-agree : (words : List (List ℕ)) (b : ℕ) (k k' : Next) → AgreeAll b k k' → AgreeAll b (scope_end words k) (scope_end words k')
scope_end-agree words b k k' h Ok v st l = h Ok v (left_scope st) l
scope_end-agree words b k k' h Error v st l = h Error v (left_by_error words st) l
scope_end-agree words b k k' h (Return carried.Ok) v st l = h Ok v (left_scope st) l
scope_end-agree words b k k' h (Return carried.Error) v st l = h Error v (left_by_error words st) l
scope_end-agree words b k k' h (Return carried.Return) v st l = h (Return carried.Ok) v (left_scope st) l
scope_end-agree words b k k' h (Return carried.Break) v st l = h Break v (left_scope st) l
scope_end-agree words b k k' h (Return carried.Continue) v st l = h Continue v (left_scope st) l
scope_end-agree words b k k' h Break v st l = h Error _ (left_by_error words st) l
scope_end-agree words b k k' h Continue v st l = h Error _ (left_by_error words st) l
scope_end-agree words b k k' h Again v st l = h Again v (left_scope st) l
scope_end-agree words b k k' h AgainLater v st l = h AgainLater v (left_scope st) l

caught-agree : (o : Option (List ℕ)) (b : ℕ) (k k' : Next) → AgreeAll b k k' → AgreeAll b (caught o k) (caught o k')
caught-agree None b k k' h c v st l = h Ok (digit c) (taken st) l
caught-agree (Some name) b k k' h c v st l =
    on_said-agree (or_not_set name (with_value (set_to v) name st.vars)) k k' (λ vars st. k Ok (digit c) (record st { vars = vars })) (λ vars st. k' Ok (digit c) (record st { vars = vars })) (taken st)
    (λ c' v' st' m. h c' v' st' (omega arith)) (λ vars. h Ok (digit c) (record (taken st) { vars = vars }) l)

defined-agree : (name formals body : List ℕ) (b : Bool) (k k' : Next) (st : State) → AgreeAll st.left k k' → defined name formals body b k st ≡ defined name formals body b k' st
defined-agree name formals body true k k' st h = h Error (reserved name) st (omega arith)
defined-agree name formals body false k k' st h =
    on_said-agree (formals_of formals) k k'
    (λ fs st. k Ok [] (record st { procs = with_entry name (record { formals = fs; body = body }) st.procs }))
    (λ fs st. k' Ok [] (record st { procs = with_entry name (record { formals = fs; body = body }) st.procs })) st
    (with_cost st.left k k' h) (λ fs. h Ok [] (record st { procs = with_entry name (record { formals = fs; body = body }) st.procs }) (omega arith))

replied-agree : (k k' : Next) (body body' words words' : List ℕ → State → Tree) (fault : List ℕ) (s : HostStep) (st : State) → AgreeAll st.left k k' → ((t : List ℕ) → body t st ≡ body' t st) → ((t : List ℕ) → words t st ≡ words' t st) → replied k body words fault s st ≡ replied k' body' words' fault s st
replied-agree k k' body body' words words' fault (Done c v) st h b w = h c v st (omega arith)
replied-agree k k' body body' words words' fault (Fail t) st h b w = h Error t st (omega arith)
replied-agree k k' body body' words words' fault (Body t) st h b w = b t
replied-agree k k' body body' words words' fault (Words t) st h b w = w t
replied-agree k k' body body' words words' fault Wait st h b w = h Error [] st (omega arith)
replied-agree k k' body body' words words' fault (Stop e) st h b w = refl
replied-agree k k' body body' words words' fault Unknown st h b w = h Error fault st (omega arith)
replied-agree k k' body body' words words' fault Memory st h b w = refl

-- what one more script does matters at a code that has a cost alone
once_more-agree : (c : Code) (k k' : Next) (more more' : List ℕ → State → Tree) (t : List ℕ) (st : State) → AgreeAll st.left k k' → (0 < cost c → more t st ≡ more' t st) → once_more c more k t st ≡ once_more c more' k' t st
once_more-agree Again k k' more more' t st h g = g (omega arith)
once_more-agree AgainLater k k' more more' t st h g = g (omega arith)
once_more-agree Ok k k' more more' t st h g = h Error t st (omega arith)
once_more-agree Error k k' more more' t st h g = h Error t st (omega arith)
once_more-agree (Return c) k k' more more' t st h g = h Error t st (omega arith)
once_more-agree Break k k' more more' t st h g = h Error t st (omega arith)
once_more-agree Continue k k' more more' t st h g = h Error t st (omega arith)

told_end-agree : (k k' : Next) (more more' : List ℕ → State → Tree) (c : Code) (v : List ℕ) (st : State) → AgreeAll st.left k k' → (0 < cost c → (t : List ℕ) (vars : Variables) → more t (record st { vars = vars }) ≡ more' t (record st { vars = vars })) → told_end k more c v st ≡ told_end k' more' c v st
told_end-agree k k' more more' c v st h g =
    ap (Ask (AfterBody c v st.vars) st.left) (fun_ext (λ r.
    replied-agree k k' (once_more c more k) (once_more c more' k') (k Error) (k' Error) [] (step_of r) (record st { vars = vars_of r }) h
    (λ t. once_more-agree c k k' more more' t (record st { vars = vars_of r }) h (λ p. g p t (vars_of r)))
    (λ t. h Error t (record st { vars = vars_of r }) (omega arith))))

module _ (ev : Eval) (bounded : IsBounded ev) where
  word-agree : (f : Fill) (k k' : Next) (go go' : List ℕ → State → Tree) (st : State) → Agree st.left k k' → AgreeOn st.left go go' → fill_word ev f k go st ≡ fill_word ev f k' go' st
  word-agree (Full v) k k' go go' st h g = g v st (omega arith)
  word-agree (Asks text more) k k' go go' st h g =
      bounded text (on_ok (λ v st. fill_word ev (more v st.vars) k go st) k) (on_ok (λ v st. fill_word ev (more v st.vars) k' go' st) k') st
      (on_ok-agree st.left (λ v st. fill_word ev (more v st.vars) k go st) (λ v st. fill_word ev (more v st.vars) k' go' st) k k'
      (λ v st' l. word-agree (more v st'.vars) k k' go go' st' (fewer st'.left st.left k k' l h) (λ v st'' m. g v st'' (omega arith))) h)
  word-agree (Failed f name) k k' go go' st h g = h Error (not_read name f) st (omega arith)

  parts-agree : (w : Spelled) (k k' : Next) (go go' : List ℕ → State → Tree) (st : State) → Agree st.left k k' → AgreeOn st.left go go' → fill_parts ev w k go st ≡ fill_parts ev w k' go' st
  parts-agree w k k' go go' st h g = word-agree (fill w.pieces st.vars) k k' go go' st h g

  words-agree : (ws : List Spelled) (done : List (List ℕ)) (k k' : Next) (go go' : List (List ℕ) → State → Tree) (st : State) → Agree st.left k k' → AgreeOn st.left go go' → fill_words ev ws done k go st ≡ fill_words ev ws done k' go' st
  words-agree [] done k k' go go' st h g = g done st (omega arith)
  words-agree (w ∷ ws) done k k' go go' st h g =
      parts-agree w k k' (λ v st. on_said (spread w.expand v done) k (λ done st. fill_words ev ws done k go st) st) (λ v st. on_said (spread w.expand v done) k' (λ done st. fill_words ev ws done k' go' st) st) st h
      (λ v st' l. on_said-agree (spread w.expand v done) k k' (λ done st. fill_words ev ws done k go st) (λ done st. fill_words ev ws done k' go' st) st' (fewer st'.left st.left k k' l h)
      (λ done. words-agree ws done k k' go go' st' (fewer st'.left st.left k k' l h) (λ vs st'' m. g vs st'' (omega arith))))

  value-agree : (t : Expression) (vs : List (List ℕ)) (k k' : Next) (go go' : List ℕ → List (List ℕ) → State → Tree) (st : State) → Agree st.left k k'
      → ((v : List ℕ) (vs : List (List ℕ)) (st' : State) → st'.left ≤ st.left → go v vs st' ≡ go' v vs st')
      → value_from (fill_parts ev) t vs k go st ≡ value_from (fill_parts ev) t vs k' go' st
  value-agree (number z) vs k k' go go' st h g = g (number_text z) vs st (omega arith)
  value-agree (word w) vs k k' go go' st h g = g (word_text w) vs st (omega arith)
  value-agree (operand w) [] k k' go go' st h g = parts-agree w k k' (λ v st. go v [] st) (λ v st. go' v [] st) st h (λ v st' l. g v [] st' l)
  value-agree (operand w) (v ∷ vs) k k' go go' st h g = g v vs st (omega arith)
  value-agree (unary op t) vs k k' go go' st h g =
      value-agree t vs k k' (λ a vs st. computed (prefixed op a) k (λ v st. go v vs st) st) (λ a vs st. computed (prefixed op a) k' (λ v st. go' v vs st) st) st h
      (λ a vs st' l. computed-agree (prefixed op a) k k' (λ v st. go v vs st) (λ v st. go' v vs st) st' (fewer st'.left st.left k k' l h) (λ v. g v vs st' l))
  value-agree (binary op l r) vs k k' go go' st h g =
      value-agree l vs k k'
      (λ a vs st. value_from (fill_parts ev) r vs k (λ b vs st. computed (combined op a b) k (λ v st. go v vs st) st) st)
      (λ a vs st. value_from (fill_parts ev) r vs k' (λ b vs st. computed (combined op a b) k' (λ v st. go' v vs st) st) st) st h
      (λ a vs st' d. value-agree r vs k k' (λ b vs st. computed (combined op a b) k (λ v st. go v vs st) st) (λ b vs st. computed (combined op a b) k' (λ v st. go' v vs st) st) st' (fewer st'.left st.left k k' d h)
      (λ b vs st'' e. computed-agree (combined op a b) k k' (λ v st. go v vs st) (λ v st. go' v vs st) st'' (λ c v st3 m. h c v st3 (omega arith)) (λ v. g v vs st'' (omega arith))))
  value-agree (lazy op l r) vs k k' go go' st h g =
      value-agree l vs k k'
      (λ a vs st. tested a k (λ t st. if decides op t then go (bit_text t) vs st else value_from (fill_parts ev) r vs k (λ b vs st. computed (on_truth b (truth_of b) (λ t. Fine (bit t))) k (λ v st. go v vs st) st) st) st)
      (λ a vs st. tested a k' (λ t st. if decides op t then go' (bit_text t) vs st else value_from (fill_parts ev) r vs k' (λ b vs st. computed (on_truth b (truth_of b) (λ t. Fine (bit t))) k' (λ v st. go' v vs st) st) st) st) st h
      (λ a vs st' d. on_bool-agree (truth_of a) a k k'
      (λ t st. if decides op t then go (bit_text t) vs st else value_from (fill_parts ev) r vs k (λ b vs st. computed (on_truth b (truth_of b) (λ t. Fine (bit t))) k (λ v st. go v vs st) st) st)
      (λ t st. if decides op t then go' (bit_text t) vs st else value_from (fill_parts ev) r vs k' (λ b vs st. computed (on_truth b (truth_of b) (λ t. Fine (bit t))) k' (λ v st. go' v vs st) st) st) st' (fewer st'.left st.left k k' d h)
      (λ t. same_if (decides op t) _ _ _ _ (g (bit_text t) vs st' d)
      (value-agree r vs k k' (λ b vs st. computed (on_truth b (truth_of b) (λ t. Fine (bit t))) k (λ v st. go v vs st) st) (λ b vs st. computed (on_truth b (truth_of b) (λ t. Fine (bit t))) k' (λ v st. go' v vs st) st) st' (fewer st'.left st.left k k' d h)
      (λ b vs st'' e. computed-agree (on_truth b (truth_of b) (λ t. Fine (bit t))) k k' (λ v st. go v vs st) (λ v st. go' v vs st) st'' (λ c v st3 m. h c v st3 (omega arith)) (λ v. g v vs st'' (omega arith))))))
  value-agree (choice c a b) vs k k' go go' st h g =
      value-agree c vs k k'
      (λ x vs st. tested x k (λ t st. if t then value_from (fill_parts ev) a vs k go st else value_from (fill_parts ev) b vs k go st) st)
      (λ x vs st. tested x k' (λ t st. if t then value_from (fill_parts ev) a vs k' go' st else value_from (fill_parts ev) b vs k' go' st) st) st h
      (λ x vs st' d. on_bool-agree (truth_of x) x k k'
      (λ t st. if t then value_from (fill_parts ev) a vs k go st else value_from (fill_parts ev) b vs k go st)
      (λ t st. if t then value_from (fill_parts ev) a vs k' go' st else value_from (fill_parts ev) b vs k' go' st) st' (fewer st'.left st.left k k' d h)
      (λ t. same_if t _ _ _ _
      (value-agree a vs k k' go go' st' (fewer st'.left st.left k k' d h) (λ v vs st'' e. g v vs st'' (omega arith)))
      (value-agree b vs k k' go go' st' (fewer st'.left st.left k k' d h) (λ v vs st'' e. g v vs st'' (omega arith)))))

  expression-agree : (t : Expression) (k k' : Next) (go go' : List ℕ → State → Tree) (st : State) → Agree st.left k k' → AgreeOn st.left go go' → expression ev t k go st ≡ expression ev t k' go' st
  expression-agree t k k' go go' st h g = value-agree t [] k k' (λ v vs st. go v st) (λ v vs st. go' v st) st h (λ v vs st' l. g v st' l)

  condition-agree : (t : Expression) (k k' : Next) (go go' : Bool → State → Tree) (st : State) → Agree st.left k k' → AgreeOn st.left go go' → condition ev t k go st ≡ condition ev t k' go' st
  condition-agree t k k' go go' st h g =
      expression-agree t k k' (λ v st. tested v k go st) (λ v st. tested v k' go' st) st h
      (λ v st' l. on_bool-agree (truth_of v) v k k' go go' st' (fewer st'.left st.left k k' l h) (λ b. g b st' l))

  otherwise-agree : (o : Option (List ℕ)) (k k' : Next) (st : State) → Agree st.left k k' → otherwise ev o k st ≡ otherwise ev o k' st
  otherwise-agree None k k' st h = h Ok [] st (omega arith)
  otherwise-agree (Some body) k k' st h = bounded body k k' st h

  arms-agree : (list : List (List ℕ × List ℕ)) (o : Option (List ℕ)) (k k' : Next) (st : State) → Agree st.left k k' → arms ev list o k st ≡ arms ev list o k' st
  arms-agree [] o k k' st h = otherwise-agree o k k' st h
  arms-agree (a ∷ more) o k k' st h =
      on_said-agree (tree_of a.0) k k'
      (λ t st. condition ev t k (λ b st. if b then ev a.1 k st else arms ev more o k st) st)
      (λ t st. condition ev t k' (λ b st. if b then ev a.1 k' st else arms ev more o k' st) st) st h
      (λ t. condition-agree t k k' (λ b st. if b then ev a.1 k st else arms ev more o k st) (λ b st. if b then ev a.1 k' st else arms ev more o k' st) st h
      (λ b st' l. same_if b _ _ _ _ (bounded a.1 k k' st' (fewer st'.left st.left k k' l h)) (arms-agree more o k k' st' (fewer st'.left st.left k k' l h))))

  advanced-agree : (next : Option (List ℕ)) (k k' : Next) (more more' : State → Tree) (st : State) → Agree st.left k k' → AgreeSo st.left more more' → advanced ev next k more st ≡ advanced ev next k' more' st
  advanced-agree None k k' more more' st h g = g st (omega arith)
  advanced-agree (Some next) k k' more more' st h g =
      bounded next (on_ok (λ v st. more st) k) (on_ok (λ v st. more' st) k') st (on_ok-agree st.left (λ v st. more st) (λ v st. more' st) k k' (λ v st' l. g st' l) h)

  module _ (test : Expression) (body : List ℕ) (next : Option (List ℕ)) where
    -- enough turns are enough
    turned-agree : (n m : ℕ) (k k' : Next) (st : State) → st.left < n → st.left < m → Agree st.left k k' → turned ev test body next k n st ≡ turned ev test body next k' m st
    turned-agree zero m k k' st l l' h = absurd (omega arith)
    turned-agree (suc n) zero k k' st l l' h = absurd (omega arith)
    turned-agree (suc n) (suc m) k k' st l l' h =
        bounded body
        (turn_end k (λ st. advanced ev next k (λ st. condition ev test k (λ b st. decided b k (turned ev test body next k n) st) st) st))
        (turn_end k' (λ st. advanced ev next k' (λ st. condition ev test k' (λ b st. decided b k' (turned ev test body next k' m) st) st) st)) st
        (turn_end-agree st.left
        (λ st. advanced ev next k (λ st. condition ev test k (λ b st. decided b k (turned ev test body next k n) st) st) st)
        (λ st. advanced ev next k' (λ st. condition ev test k' (λ b st. decided b k' (turned ev test body next k' m) st) st) st) k k'
        (λ st' d. advanced-agree next k k'
        (λ st. condition ev test k (λ b st. decided b k (turned ev test body next k n) st) st)
        (λ st. condition ev test k' (λ b st. decided b k' (turned ev test body next k' m) st) st) st' (fewer st'.left st.left k k' d h)
        (λ st'' e. condition-agree test k k' (λ b st. decided b k (turned ev test body next k n) st) (λ b st. decided b k' (turned ev test body next k' m) st) st'' (λ c v st3 m. h c v st3 (omega arith))
        (λ b st3 f. decided-agree b k k' (turned ev test body next k n) (turned ev test body next k' m) st3 (λ c v st4 m. h c v st4 (omega arith))
        (λ st4 i. turned-agree n m k k' st4 (omega arith) (omega arith) (λ c v st5 m. h c v st5 (omega arith)))))) h)

    turns-agree : (n m : ℕ) (k k' : Next) (st : State) → st.left ≤ n → st.left ≤ m → Agree st.left k k' → turns ev test body next k n st ≡ turns ev test body next k' m st
    turns-agree n m k k' st l l' h =
        condition-agree test k k' (λ b st. decided b k (turned ev test body next k n) st) (λ b st. decided b k' (turned ev test body next k' m) st) st h
        (λ b st' d. decided-agree b k k' (turned ev test body next k n) (turned ev test body next k' m) st' (fewer st'.left st.left k k' d h)
        (λ st'' e. turned-agree n m k k' st'' (omega arith) (omega arith) (λ c v st3 m. h c v st3 (omega arith))))

    module _ (k : Next) where
      turned_is : (n : ℕ) (st : State) → st.left < n → turned ev test body next k n st ≡ ev body (turn_end k (λ st. advanced ev next k (loop ev test body next k) st)) st
      turned_is zero st l = absurd (omega arith)
      turned_is (suc n) st l =
          bounded body
          (turn_end k (λ st. advanced ev next k (λ st. turns ev test body next k n st) st))
          (turn_end k (λ st. advanced ev next k (loop ev test body next k) st)) st
          (turn_end-agree st.left
          (λ st. advanced ev next k (λ st. turns ev test body next k n st) st)
          (λ st. advanced ev next k (loop ev test body next k) st) k k
          (λ st' d. advanced-agree next k k (λ st. turns ev test body next k n st) (loop ev test body next k) st' (λ c v st'' e. refl)
          (λ st'' e. turns-agree n st''.left k k st'' (omega arith) (omega arith) (λ c v st3 m. refl)))
          (λ c v st' e. refl))

      -- a loop is its condition, and then a turn and the loop again
      loop_is : (st : State) → loop ev test body next k st ≡ one_turn ev test body next k (loop ev test body next k) st
      loop_is st =
          condition-agree test k k (λ b st'. decided b k (turned ev test body next k st.left) st') (λ b st'. decided b k (λ st''. ev body (turn_end k (λ st3. advanced ev next k (loop ev test body next k) st3)) st'') st') st (λ c v st' e. refl)
          (λ b st' d. decided-agree b k k (turned ev test body next k st.left) (λ st''. ev body (turn_end k (λ st3. advanced ev next k (loop ev test body next k) st3)) st'') st' (λ c v st'' e. refl)
          (λ st'' e. turned_is st.left st'' (omega arith)))

    loop-agree : (k k' : Next) (st : State) → Agree st.left k k' → loop ev test body next k st ≡ loop ev test body next k' st
    loop-agree k k' st h = turns-agree st.left st.left k k' st (omega arith) (omega arith) h

  each-agree : (names : List (List ℕ)) (left : List (List (List ℕ))) (body : List ℕ) (k k' : Next) (st : State) → Agree st.left k k' → each ev names left body k st ≡ each ev names left body k' st
  each-agree names [] body k k' st h = h Ok [] st (omega arith)
  each-agree names (es ∷ left) body k k' st h =
      stepped-agree st.left st
      (λ st. after (assigned names es st.vars) (on_ok (λ v st. ev body (turn_end k (λ st. each ev names left body k st)) st) k) st)
      (λ st. after (assigned names es st.vars) (on_ok (λ v st. ev body (turn_end k' (λ st. each ev names left body k' st)) st) k') st)
      (λ st' l.
      let o : Outcome = assigned names es st'.vars in
      on_ok-agree_all st'.left
      (λ v st. ev body (turn_end k (λ st. each ev names left body k st)) st) (λ v st. ev body (turn_end k' (λ st. each ev names left body k' st)) st) k k'
      (λ v st'' m. bounded body (turn_end k (λ st. each ev names left body k st)) (turn_end k' (λ st. each ev names left body k' st)) st''
      (turn_end-agree st''.left (λ st. each ev names left body k st) (λ st. each ev names left body k' st) k k'
      (λ st3 e. each-agree names left body k k' st3 (λ c v st4 f. h c v st4 (omega arith)))
      (λ c v st3 e. h c v st3 (omega arith))))
      (behind_step st'.left st.left k k' l h) o.0 o.1 (record st' { vars = o.2 }) (omega arith))

  called-agree : (p : Procedure) (name : List ℕ) (args : List (List ℕ)) (k k' : Next) (st : State) → AgreeAll st.left k k' → called ev p name args k st ≡ called ev p name args k' st
  called-agree p name args k k' st h =
      on_said-agree (entered name p.formals args st.vars) k k'
      (λ vars st. ev p.body (scope_end (name ∷ args) k) (record st { vars = vars })) (λ vars st. ev p.body (scope_end (name ∷ args) k') (record st { vars = vars })) st (with_cost st.left k k' h)
      (λ vars. bounded p.body (scope_end (name ∷ args) k) (scope_end (name ∷ args) k') (record st { vars = vars }) (with_cost st.left (scope_end (name ∷ args) k) (scope_end (name ∷ args) k') (scope_end-agree (name ∷ args) st.left k k' h)))

  -- enough scripts of the host are enough
  after_body-agree : (n m : ℕ) (k k' : Next) (c : Code) (v : List ℕ) (st : State) → st.left + cost c ≤ n → st.left + cost c ≤ m → AgreeAll st.left k k' → after_body ev k n c v st ≡ after_body ev k' m c v st
  after_body-agree zero zero k k' c v st l l' h = told_end-agree k k' (next_body ev k zero) (next_body ev k' zero) c v st h (λ p t vars. refl)
  after_body-agree zero (suc m) k k' c v st l l' h = told_end-agree k k' (next_body ev k zero) (next_body ev k' (suc m)) c v st h (λ p t vars. absurd (omega arith))
  after_body-agree (suc n) zero k k' c v st l l' h = told_end-agree k k' (next_body ev k (suc n)) (next_body ev k' zero) c v st h (λ p t vars. absurd (omega arith))
  after_body-agree (suc n) (suc m) k k' c v st l l' h =
      told_end-agree k k' (next_body ev k (suc n)) (next_body ev k' (suc m)) c v st h
      (λ p t vars. bounded t (after_body ev k n) (after_body ev k' m) (record st { vars = vars })
      (λ c' v' st' d. after_body-agree n m k k' c' v' st' (omega arith) (omega arith) (λ c'' v'' st'' e. h c'' v'' st'' (omega arith))))

  host_body-agree : (text : List ℕ) (k k' : Next) (st : State) → AgreeAll st.left k k' → host_body ev k text st ≡ host_body ev k' text st
  host_body-agree text k k' st h =
      bounded text (after_body ev k st.left) (after_body ev k' st.left) st
      (λ c v st' d. after_body-agree st.left st.left k k' c v st' d d (λ c' v' st'' e. h c' v' st'' (omega arith)))

  module _ (k : Next) where
    next_body_is : (n : ℕ) (text : List ℕ) (st : State) → st.left < n → next_body ev k n text st ≡ host_body ev k text st
    next_body_is zero text st l = absurd (omega arith)
    next_body_is (suc n) text st l =
        bounded text (after_body ev k n) (after_body ev k st.left) st
        (λ c v st' d. after_body-agree n st.left k k c v st' (omega arith) d (λ c' v' st'' e. refl))

    -- behind a script the host is told, and may ask for one more
    host_body_is : (text : List ℕ) (st : State) → host_body ev k text st ≡ one_body ev k (host_body ev k) text st
    host_body_is text st =
        bounded text (after_body ev k st.left) (told_end k (host_body ev k)) st
        (λ c v st' d. told_end-agree k k (next_body ev k st.left) (host_body ev k) c v st' (λ c' v' st'' e. refl)
        (λ p t vars. next_body_is st.left t (record st' { vars = vars }) (omega arith)))

  host_words-agree : (f : Option WordFault) (words : List (List ℕ)) (k k' : Next) (st : State) → AgreeAll st.left k k' → host_words ev f k words st ≡ host_words ev f k' words st
  host_words-agree (Some f) words k k' st h = h Error (word_fault f) st (omega arith)
  host_words-agree None words k k' st h =
      ap (Ask (AfterWords words st.vars) st.left) (fun_ext (λ r.
      replied-agree k k' (host_body ev k) (host_body ev k') (k Error) (k' Error) [] (step_of r) (record st { vars = vars_of r }) h
      (λ t. host_body-agree t k k' (record st { vars = vars_of r }) h)
      (λ t. h Error t (record st { vars = vars_of r }) (omega arith))))

  words_in-agree : (first : List (List ℕ)) (t : List ℕ) (k k' : Next) (st : State) → AgreeAll st.left k k' → words_in ev first k t st ≡ words_in ev first k' t st
  words_in-agree first t k k' st h =
      words-agree ((all_words (commands t)).0) first k k' (λ ws st. host_words ev ((all_words (commands t)).1) k ws st) (λ ws st. host_words ev ((all_words (commands t)).1) k' ws st) st (with_cost st.left k k' h)
      (λ ws st' l. host_words-agree ((all_words (commands t)).1) ws k k' st' (fewer_all st'.left st.left k k' l h))

  begin-agree : (words : List (List ℕ)) (k k' : Next) (st : State) → AgreeAll st.left k k' → begin ev words k st ≡ begin ev words k' st
  begin-agree words k k' st h =
      ap (Ask (Begin words st.vars) st.left) (fun_ext (λ r.
      replied-agree k k' (host_body ev k) (host_body ev k') (words_in ev (take 1 words) k) (words_in ev (take 1 words) k') (no_command words) (step_of r) (record st { vars = vars_of r }) h
      (λ t. host_body-agree t k k' (record st { vars = vars_of r }) h)
      (λ t. words_in-agree (take 1 words) t k k' (record st { vars = vars_of r }) h)))

  while-agree : (name : List ℕ) (args : List (List ℕ)) (k k' : Next) (st : State) → AgreeAll st.left k k' → while_command ev name args k st ≡ while_command ev name args k' st
  while-agree name [] k k' st h = h Error (wrong_args name) st (omega arith)
  while-agree name (test ∷ []) k k' st h = h Error (wrong_args name) st (omega arith)
  while-agree name (test ∷ body ∷ []) k k' st h =
      on_said-agree (tree_of test) k k' (λ t st. loop ev t body None k st) (λ t st. loop ev t body None k' st) st (with_cost st.left k k' h)
      (λ t. loop-agree t body None k k' st (with_cost st.left k k' h))
  while-agree name (test ∷ body ∷ other ∷ more) k k' st h = h Error (wrong_args name) st (omega arith)

  for-agree : (name : List ℕ) (args : List (List ℕ)) (k k' : Next) (st : State) → AgreeAll st.left k k' → for_command ev name args k st ≡ for_command ev name args k' st
  for-agree name [] k k' st h = h Error (wrong_args name) st (omega arith)
  for-agree name (start ∷ []) k k' st h = h Error (wrong_args name) st (omega arith)
  for-agree name (start ∷ test ∷ []) k k' st h = h Error (wrong_args name) st (omega arith)
  for-agree name (start ∷ test ∷ next ∷ []) k k' st h = h Error (wrong_args name) st (omega arith)
  for-agree name (start ∷ test ∷ next ∷ body ∷ []) k k' st h =
      bounded start
      (on_ok (λ v st. on_said (tree_of test) k (λ t st. loop ev t body (Some next) k st) st) k)
      (on_ok (λ v st. on_said (tree_of test) k' (λ t st. loop ev t body (Some next) k' st) st) k') st
      (on_ok-agree st.left
      (λ v st. on_said (tree_of test) k (λ t st. loop ev t body (Some next) k st) st)
      (λ v st. on_said (tree_of test) k' (λ t st. loop ev t body (Some next) k' st) st) k k'
      (λ v st' l. on_said-agree (tree_of test) k k' (λ t st. loop ev t body (Some next) k st) (λ t st. loop ev t body (Some next) k' st) st' (λ c v st'' m. h c v st'' (omega arith))
      (λ t. loop-agree t body (Some next) k k' st' (λ c v st'' m. h c v st'' (omega arith))))
      (with_cost st.left k k' h))
  for-agree name (start ∷ test ∷ next ∷ body ∷ other ∷ more) k k' st h = h Error (wrong_args name) st (omega arith)

  new_proc-agree : (o : Option Verb) (name formals body : List ℕ) (k k' : Next) (st : State) → AgreeAll st.left k k' → new_proc o name formals body k st ≡ new_proc o name formals body k' st
  new_proc-agree (Some verb) name formals body k k' st h = h Error (reserved name) st (omega arith)
  new_proc-agree None name formals body k k' st h =
      ap (Ask (Knows name) st.left) (fun_ext (λ r. defined-agree name formals body (known_of r) k k' st h))

  proc-agree : (name : List ℕ) (args : List (List ℕ)) (k k' : Next) (st : State) → AgreeAll st.left k k' → proc_command name args k st ≡ proc_command name args k' st
  proc-agree name [] k k' st h = h Error (wrong_args name) st (omega arith)
  proc-agree name (new ∷ []) k k' st h = h Error (wrong_args name) st (omega arith)
  proc-agree name (new ∷ formals ∷ []) k k' st h = h Error (wrong_args name) st (omega arith)
  proc-agree name (new ∷ formals ∷ body ∷ []) k k' st h = new_proc-agree (verb_of new) new formals body k k' st h
  proc-agree name (new ∷ formals ∷ body ∷ other ∷ more) k k' st h = h Error (wrong_args name) st (omega arith)

  catch-agree : (name : List ℕ) (args : List (List ℕ)) (k k' : Next) (st : State) → AgreeAll st.left k k' → catch_command ev name args k st ≡ catch_command ev name args k' st
  catch-agree name [] k k' st h = h Error (wrong_args name) st (omega arith)
  catch-agree name (script ∷ []) k k' st h =
      bounded script (caught None k) (caught None k') st (with_cost st.left (caught None k) (caught None k') (caught-agree None st.left k k' h))
  catch-agree name (script ∷ variable ∷ []) k k' st h =
      bounded script (caught (Some variable) k) (caught (Some variable) k') st (with_cost st.left (caught (Some variable) k) (caught (Some variable) k') (caught-agree (Some variable) st.left k k' h))
  catch-agree name (script ∷ variable ∷ other ∷ more) k k' st h = h Error (wrong_args name) st (omega arith)

  invoked-agree : (verb : Verb) (name : List ℕ) (args : List (List ℕ)) (k k' : Next) (st : State) → AgreeAll st.left k k' → invoked ev verb name args k st ≡ invoked ev verb name args k' st
  invoked-agree (Plain p) name args k k' st h = let o : Outcome = plain p name args st.vars in h o.0 o.1 (record st { vars = o.2 }) (omega arith)
  invoked-agree If name args k k' st h =
      on_said-agree (arms_of name args) k k' (λ a st. arms ev a.0 a.1 k st) (λ a st. arms ev a.0 a.1 k' st) st (with_cost st.left k k' h) (λ a. arms-agree a.0 a.1 k k' st (with_cost st.left k k' h))
  invoked-agree While name args k k' st h = while-agree name args k k' st h
  invoked-agree For name args k k' st h = for-agree name args k k' st h
  invoked-agree Foreach name args k k' st h =
      on_said-agree (each_of name args) k k' (λ e st. each ev e.0.names e.0.left e.1 k st) (λ e st. each ev e.0.names e.0.left e.1 k' st) st (with_cost st.left k k' h)
      (λ e. each-agree e.0.names e.0.left e.1 k k' st (with_cost st.left k k' h))
  invoked-agree Proc name args k k' st h = proc-agree name args k k' st h
  invoked-agree Expr name args k k' st h =
      on_said-agree (expr_text name args) k k'
      (λ text st. on_said (tree_of text) k (λ t st. expression ev t k (λ v st. k Ok v st) st) st)
      (λ text st. on_said (tree_of text) k' (λ t st. expression ev t k' (λ v st. k' Ok v st) st) st) st (with_cost st.left k k' h)
      (λ text. on_said-agree (tree_of text) k k' (λ t st. expression ev t k (λ v st. k Ok v st) st) (λ t st. expression ev t k' (λ v st. k' Ok v st) st) st (with_cost st.left k k' h)
      (λ t. expression-agree t k k' (λ v st. k Ok v st) (λ v st. k' Ok v st) st (with_cost st.left k k' h) (λ v st' l. h Ok v st' l)))
  invoked-agree EvalCommand name args k k' st h =
      on_said-agree (eval_text name args) k k' (λ text st. ev text k st) (λ text st. ev text k' st) st (with_cost st.left k k' h)
      (λ text. bounded text k k' st (with_cost st.left k k' h))
  invoked-agree Catch name args k k' st h = catch-agree name args k k' st h
  invoked-agree Switch name args k k' st h =
      on_said-agree (body_of_switch name args) k k' (λ body st. otherwise ev body k st) (λ body st. otherwise ev body k' st) st (with_cost st.left k k' h)
      (λ body. otherwise-agree body k k' st (with_cost st.left k k' h))
  invoked-agree Exit name args k k' st h =
      on_said-agree (exit_status name args) k k' (λ n st. Over (Stopped (ending.Exit n)) st) (λ n st. Over (Stopped (ending.Exit n)) st) st (with_cost st.left k k' h) (λ n. refl)

  redefinable-agree : (o : Option Verb) (name : List ℕ) (args : List (List ℕ)) (k k' : Next) (st : State) → AgreeAll st.left k k' → redefinable_or_begun ev o name args k st ≡ redefinable_or_begun ev o name args k' st
  redefinable-agree (Some verb) name args k k' st h = invoked-agree verb name args k k' st h
  redefinable-agree None name args k k' st h = begin-agree (name ∷ args) k k' st h

  called_or_begun-agree : (o : Option Procedure) (name : List ℕ) (args : List (List ℕ)) (k k' : Next) (st : State) → AgreeAll st.left k k' → called_or_begun ev o name args k st ≡ called_or_begun ev o name args k' st
  called_or_begun-agree (Some p) name args k k' st h = called-agree p name args k k' st h
  called_or_begun-agree None name args k k' st h = redefinable-agree (redefinable_verb name) name args k k' st h

  named-agree : (o : Option Verb) (name : List ℕ) (args : List (List ℕ)) (k k' : Next) (st : State) → AgreeAll st.left k k' → named ev o name args k st ≡ named ev o name args k' st
  named-agree None name args k k' st h = called_or_begun-agree (find name st.procs) name args k k' st h
  named-agree (Some verb) name args k k' st h = invoked-agree verb name args k k' st h

  invoke-agree : (words : List (List ℕ)) (k k' : Next) (st : State) → AgreeAll st.left k k' → invoke ev words k st ≡ invoke ev words k' st
  invoke-agree [] k k' st h = h Ok [] st (omega arith)
  invoke-agree (name ∷ args) k k' st h = named-agree (verb_of name) name args k k' st h

  command-agree : (words : List Spelled) (k k' : Next) (st : State) → Agree st.left k k' → command ev words k st ≡ command ev words k' st
  command-agree words k k' st h =
      words-agree words [] k k' (λ words st. stepped st.left st (λ st. invoke ev words k st)) (λ words st. stepped st.left st (λ st. invoke ev words k' st)) st h
      (λ words st' l. stepped-agree st'.left st' (λ st. invoke ev words k st) (λ st. invoke ev words k' st)
      (λ st'' m. invoke-agree words k k' st'' (behind_step st''.left st.left k k' (omega arith) h)))

  sequence-agree : (script : List ℕ) (rs : List Reading) (k k' : Next) (last : List ℕ) (st : State) → Agree st.left k k' → sequence ev script rs k last st ≡ sequence ev script rs k' last st
  sequence-agree script [] k k' last st h = h Ok last st (omega arith)
  sequence-agree script (Malformed at f ∷ rs) k k' last st h = h Error (word_fault f) (passed (origin.Command script at) st) (omega arith)
  sequence-agree script (Command at words ∷ rs) k k' last st h =
      let o : Origin = origin.Command script at in
      command-agree words (on_ok (λ v st. sequence ev script rs k v st) (noting o k)) (on_ok (λ v st. sequence ev script rs k' v st) (noting o k')) st
      (on_ok-agree st.left (λ v st. sequence ev script rs k v st) (λ v st. sequence ev script rs k' v st) (noting o k) (noting o k')
      (λ v st' l. sequence-agree script rs k k' v st' (fewer st'.left st.left k k' l h)) (noting-agree o st.left k k' h))

eval-bounded : (depth : ℕ) → IsBounded (eval depth)
eval-bounded zero script k k' st h = h Error too_deep st (omega arith)
eval-bounded (suc depth) script k k' st h = sequence-agree (eval depth) (eval-bounded depth) script (commands script) k k' [] st h

pub loops_unroll : LoopsUnroll
loops_unroll depth test body next k st = loop_is (eval depth) (eval-bounded depth) test body next k st

pub bodies_unroll : BodiesUnroll
bodies_unroll depth k text st = host_body_is (eval depth) (eval-bounded depth) k text st
