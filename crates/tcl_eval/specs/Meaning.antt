-- The meaning of scripts (Tcl(n)). Each construct takes its continuation: what follows it. After a stop nothing
-- follows.
use Rattle.std.specs.Prelude.{ℕ, zero, suc, Bool, true, false, Option, Some, None, List, [], ◌∷◌, ◌++◌, drop, take, codes, Result, Ok as Fine, Err, ℤ, if◌then◌else◌}
use Rattle.tcl_words.specs.Bytes as ascii
use Rattle.tcl_words.specs.declared.faults.WordFault.{WordFault}
use Rattle.tcl_words.specs.Pieces.{Spelled}
use Rattle.tcl_expr.specs.declared.faults.ExprFault.{ExprFault}
use Rattle.tcl_expr.specs.Number.{number_text}
use Rattle.tcl_expr.specs.Truth.{word_text, truth_of}
use Rattle.tcl_expr.specs.Tree.{Tree as Expression, number, word, operand, unary, binary, lazy, choice}
use Rattle.tcl_expr.specs.Value.{prefixed, combined, decides, on_truth, bit, bit_text}
use Rattle.tcl_expr.specs.Grammar.{parsed}
use Rattle.tcl_subst.specs.Entries.{find, with_entry}
use Rattle.tcl_subst.specs.Filling.{Fill, Full, Asks, Failed, fill}
use Rattle.tcl_subst.specs.Variables.{with_value}
use Rattle.tcl_subst.specs.Writes.{set_to}
use Rattle.tcl_results.specs.declared.code.Code.{Code}
use Rattle.tcl_results.specs.declared.code.Carried.{Carried}
use Rattle.tcl_results.specs.declared.code.Carried.TheVariants as carried
use Rattle.tcl_results.specs.declared.code.Code.TheVariants.{Ok, Error, Return, Break, Continue, Again, AgainLater}
use Rattle.tcl_control.specs.declared.verbs.Verb.{Verb}
use Rattle.tcl_control.specs.declared.verbs.Verb.TheVariants.{Plain, If, While, For, Foreach, Proc, Expr, Eval as EvalCommand, Catch, Exit, Switch}
use Rattle.tcl_results.specs.Texts.{quoted, wrong_args, expected_number, not_read, word_fault, expr_fault, too_deep}
use Rattle.tcl_results.specs.Said.{Said, Outcome, list_of}
use Rattle.tcl_commands.specs.Plain.{plain}
use Rattle.tcl_control.specs.Verbs.{verb_of, redefinable_verb, exit_status}
use Rattle.tcl_lists.specs.Joining.{expr_text, eval_text}
use Rattle.tcl_control.specs.Arms.{arms_of}
use Rattle.tcl_control.specs.Choosing.{body_of_switch}
use Rattle.tcl_control.specs.Groups.{each_of}
use Rattle.tcl_results.specs.Setting.{assigned}
use Rattle.tcl_control.specs.Procs.{formals_of, entered, or_not_set}
use Rattle.tcl_scripts.specs.declared.script.Reading.{Reading}
use Rattle.tcl_scripts.specs.declared.script.Reading.TheVariants.{Command, Malformed}
use Rattle.tcl_scripts.specs.Commands.{commands}
use Rattle.tcl_scripts.specs.Gathered.{all_words}
use Rattle.tcl_host.specs.declared.ending.Ending.TheVariants as ending
use Rattle.tcl_host.specs.declared.host.HostStep.{HostStep}
use Rattle.tcl_host.specs.declared.host.HostStep.TheVariants.{Done, Fail, Body, Words, Wait, Stop, Unknown, Memory}
use Rattle.tcl_eval.specs.declared.frame.End.TheVariants.{Stopped, StepLimit, Memory as NoMemory}
use Rattle.tcl_eval.specs.declared.procedure.Procedure.{Procedure}
use Rattle.tcl_eval.specs.declared.trail.Origin.{Origin}
use Rattle.tcl_eval.specs.declared.trail.Origin.TheVariants as origin
use Rattle.tcl_host.specs.Calls.{Begin, AfterWords, AfterBody, Knows, Reply, step_of, vars_of, known_of}
use Rattle.tcl_eval.specs.Tree.{State, Tree, Over, Ask}

-- ---- Continuations

-- The continuation of a script or a command. It takes the code, the value and the state.
abbrev pub To : Type 0 → Type 0
To A = Code → List ℕ → State → A

abbrev pub Next : Type 0
Next = To Tree

-- The evaluation of a script.
abbrev pub Eval : Type 0
Eval = List ℕ → Next → State → Tree

-- Adds an origin to the trail of an error. If there are more than 32, the first 31 and the last are kept.
abbrev pub passed : Origin → State → State
passed o st = record st { trail = take 31 st.trail ++ o ∷ [] }

-- An error has been handled.
abbrev pub taken : State → State
taken st = record st { trail = [] }

module _ {A : Type 0} where
  -- Passes a code on, and adds the origin to the trail of an error.
  abbrev pub noting : Origin → To A → To A
  noting o k Ok v st = k Ok v st
  noting o k Error v st = k Error v (passed o st)
  noting o k (Return c) v st = k (Return c) v st
  noting o k Break v st = k Break v st
  noting o k Continue v st = k Continue v st
  noting o k Again v st = k Again v st
  noting o k AgainLater v st = k AgainLater v st

  -- Continues after `Ok`, and passes any other code on.
  abbrev pub on_ok : (List ℕ → State → A) → To A → To A
  on_ok go k Ok v st = go v st
  on_ok go k Error v st = k Error v st
  on_ok go k (Return c) v st = k (Return c) v st
  on_ok go k Break v st = k Break v st
  on_ok go k Continue v st = k Continue v st
  on_ok go k Again v st = k Again v st
  on_ok go k AgainLater v st = k AgainLater v st

  -- Continues with a value. An error text becomes the value of the code `Error`.
  abbrev pub on_said : {X : Type 0} → Said X → To A → (X → State → A) → State → A
  on_said (Fine x) k go st = go x st
  on_said (Err text) k go st = k Error text st

  -- A command that was carried out.
  abbrev pub after : Outcome → To A → State → A
  after o k st = k o.0 o.1 (record st { vars = o.2 })

  abbrev pub on_bool : Option Bool → List ℕ → To A → (Bool → State → A) → State → A
  on_bool None v k go st = k Error (expected_number v) st
  on_bool (Some b) v k go st = go b st

  -- Continues with the truth value of a value.
  abbrev pub tested : List ℕ → To A → (Bool → State → A) → State → A
  tested v k go st = on_bool (truth_of v) v k go st

  -- Continues with a computed number.
  abbrev pub computed : Result ℤ ExprFault → To A → (List ℕ → State → A) → State → A
  computed (Fine z) k go st = go (number_text z) st
  computed (Err f) k go st = k Error (expr_fault [] f) st

  -- What follows the body of a turn.
  abbrev pub turn_end : To A → (State → A) → To A
  turn_end k more Ok v st = more st
  turn_end k more Continue v st = more st
  turn_end k more Break v st = k Ok [] st
  turn_end k more Error v st = k Error v st
  turn_end k more (Return c) v st = k (Return c) v st
  turn_end k more Again v st = k Again v st
  turn_end k more AgainLater v st = k AgainLater v st

-- Begins a step if one is left.
abbrev pub stepped : ℕ → State → (State → Tree) → Tree
stepped zero st go = Over StepLimit st
stepped (suc n) st go = go (record st { left = n })

-- ---- Words

module _ {A : Type 0} (ev : List ℕ → To A → State → A) where
  -- Substitutes a word. A code other than `Ok` in a bracket becomes the code of the whole command.
  abbrev pub fill_word : Fill → To A → (List ℕ → State → A) → State → A
  fill_word (Full v) k go st = go v st
  fill_word (Asks text more) k go st = ev text (on_ok (λ v st. fill_word (more v st.vars) k go st) k) st
  fill_word (Failed f name) k go st = k Error (not_read name f) st

-- The substitution of a word, by its parts.
abbrev pub fill_parts : Eval → Spelled → Next → (List ℕ → State → Tree) → State → Tree
fill_parts ev w k go st = fill_word ev (fill w.pieces st.vars) k go st

abbrev pub behind : List (List ℕ) → Said (List (List ℕ)) → Said (List (List ℕ))
behind done (Fine es) = Fine (done ++ es)
behind done (Err text) = Err text

-- Appends a value to the finished ones. A value after `{*}` is split as a list.
abbrev pub spread : Bool → List ℕ → List (List ℕ) → Said (List (List ℕ))
spread false v done = Fine (done ++ v ∷ [])
spread true v done = behind done (list_of v)

-- Substitutes words and appends their values to the finished ones.
abbrev pub fill_words : Eval → List Spelled → List (List ℕ) → Next → (List (List ℕ) → State → Tree) → State → Tree
fill_words ev [] done k go st = go done st
fill_words ev (w ∷ ws) done k go st =
    fill_parts ev w k (λ v st. on_said (spread w.expand v done) k (λ done st. fill_words ev ws done k go st) st) st

-- ---- Expressions

module _ {A : Type 0} (word_value : Spelled → To A → (List ℕ → State → A) → State → A) where
  -- An operand that is not computed yet.
  abbrev pub operand_value : Spelled → List (List ℕ) → To A → (List ℕ → List (List ℕ) → State → A) → State → A
  operand_value w [] k go st = word_value w k (λ v st. go v [] st) st
  operand_value w (v ∷ vs) k go st = go v vs st

  -- The value of an expression, by recursion on its tree. The first operands may already be computed. Operands that
  -- `&&`, `||` and `?:` don't need are not evaluated.
  abbrev pub value_from : Expression → List (List ℕ) → To A → (List ℕ → List (List ℕ) → State → A) → State → A
  value_from (number z) vs k go st = go (number_text z) vs st
  value_from (word w) vs k go st = go (word_text w) vs st
  value_from (operand w) vs k go st = operand_value w vs k go st
  value_from (unary op t) vs k go st = value_from t vs k (λ a vs st. computed (prefixed op a) k (λ v st. go v vs st) st) st
  value_from (binary op l r) vs k go st =
      value_from l vs k (λ a vs st. value_from r vs k (λ b vs st. computed (combined op a b) k (λ v st. go v vs st) st) st) st
  value_from (lazy op l r) vs k go st =
      value_from l vs k
      (λ a vs st. tested a k
      (λ t st. if decides op t then go (bit_text t) vs st
      else value_from r vs k (λ b vs st. computed (on_truth b (truth_of b) (λ t. Fine (bit t))) k (λ v st. go v vs st) st) st) st) st
  value_from (choice c a b) vs k go st =
      value_from c vs k (λ x vs st. tested x k (λ t st. if t then value_from a vs k go st else value_from b vs k go st) st) st

-- The value of an expression.
abbrev pub expression : Eval → Expression → Next → (List ℕ → State → Tree) → State → Tree
expression ev t k go st = value_from (fill_parts ev) t [] k (λ v vs st. go v st) st

abbrev pub or_expr_fault : List ℕ → Result Expression ExprFault → Said Expression
or_expr_fault text (Fine t) = Fine t
or_expr_fault text (Err f) = Err (expr_fault text f)

-- The expression that a text is.
abbrev pub tree_of : List ℕ → Said Expression
tree_of text = or_expr_fault text (parsed text)

-- A condition.
abbrev pub condition : Eval → Expression → Next → (Bool → State → Tree) → State → Tree
condition ev t k go st = expression ev t k (λ v st. tested v k go st) st

-- ---- `if` (if(n))

abbrev pub otherwise : Eval → Option (List ℕ) → Next → State → Tree
otherwise ev None k st = k Ok [] st
otherwise ev (Some body) k st = ev body k st

-- Tests conditions in order, up to the first that is true.
abbrev pub arms : Eval → List (List ℕ × List ℕ) → Option (List ℕ) → Next → State → Tree
arms ev [] other k st = otherwise ev other k st
arms ev (a ∷ more) other k st =
    on_said (tree_of a.0) k
    (λ t st. condition ev t k (λ b st. if b then ev a.1 k st else arms ev more other k st) st) st

-- ---- `while`, `for`, `foreach` (while(n), for(n), foreach(n))

-- A loop ends if its condition is false. Otherwise a turn begins.
abbrev pub decided : Bool → Next → (State → Tree) → State → Tree
decided false k turn st = k Ok [] st
decided true k turn st = stepped st.left st turn

-- The third argument of `for`, which is evaluated after each turn.
abbrev pub advanced : Eval → Option (List ℕ) → Next → (State → Tree) → State → Tree
advanced ev None k more st = more st
advanced ev (Some next) k more st = ev next (on_ok (λ v st. more st) k) st

-- A loop, given the loop itself as `again` (`Unrolled`): the condition and, if it is true, a turn. A turn is the body,
-- the script after it, and then the loop.
abbrev pub one_turn : Eval → Expression → List ℕ → Option (List ℕ) → Next → (State → Tree) → State → Tree
one_turn ev test body next k again st =
    condition ev test k (λ b st. decided b k (λ st. ev body (turn_end k (λ st. advanced ev next k again st)) st) st) st

-- A turn that has begun, and at most n more. Each turn takes a step, so there are no more turns than steps left.
abbrev pub turned : Eval → Expression → List ℕ → Option (List ℕ) → Next → ℕ → State → Tree
turned ev test body next k zero st = Over StepLimit st
turned ev test body next k (suc n) st =
    ev body
    (turn_end k (λ st. advanced ev next k (λ st. condition ev test k (λ b st. decided b k (turned ev test body next k n) st) st) st)) st

-- At most n turns.
abbrev pub turns : Eval → Expression → List ℕ → Option (List ℕ) → Next → ℕ → State → Tree
turns ev test body next k n st = condition ev test k (λ b st. decided b k (turned ev test body next k n) st) st

-- A loop.
abbrev pub loop : Eval → Expression → List ℕ → Option (List ℕ) → Next → State → Tree
loop ev test body next k st = turns ev test body next k st.left st

-- One turn for each group of elements.
abbrev pub each : Eval → List (List ℕ) → List (List (List ℕ)) → List ℕ → Next → State → Tree
each ev names [] body k st = k Ok [] st
each ev names (es ∷ left) body k st =
    stepped st.left st
    (λ st. after (assigned names es st.vars) (on_ok (λ v st. ev body (turn_end k (λ st. each ev names left body k st)) st) k) st)

-- ---- `catch` (catch(n))

abbrev pub digit : Code → List ℕ
digit Ok = ascii.digit_0 ∷ []
digit Error = ascii.digit_1 ∷ []
digit (Return c) = ascii.digit_2 ∷ []
digit Break = ascii.digit_3 ∷ []
digit Continue = ascii.digit_4 ∷ []
digit Again = ascii.digit_5 ∷ []
digit AgainLater = ascii.digit_6 ∷ []

module _ {A : Type 0} where
  -- The code is the result, a variable gets the value, and an error has been handled.
  abbrev pub caught : Option (List ℕ) → To A → To A
  caught None k c v st = k Ok (digit c) (taken st)
  caught (Some name) k c v st =
      on_said (or_not_set name (with_value (set_to v) name st.vars)) k (λ vars st. k Ok (digit c) (record st { vars = vars })) (taken st)

-- ---- Procedures (proc(n))

abbrev pub outside_loop : List ℕ → List ℕ
outside_loop name = quoted (codes "invoked ") name ++ codes " outside of a loop"

-- The current scope ends.
abbrev pub left_scope : State → State
left_scope st = record st { vars = record { globals = st.vars.globals; locals = drop 1 st.vars.locals } }

-- An error leaves a procedure that was called with these words.
abbrev pub left_by_error : List (List ℕ) → State → State
left_by_error words st = passed (origin.Procedure words) (left_scope st)

module _ {A : Type 0} where
  -- What a procedure comes to after `return`, whose code decides (return(n)). Its scope has ended.
  abbrev pub returned : List (List ℕ) → To A → Carried → List ℕ → State → A
  returned words k carried.Ok v st = k Ok v st
  returned words k carried.Error v st = k Error v (passed (origin.Procedure words) st)
  returned words k carried.Return v st = k (Return carried.Ok) v st
  returned words k carried.Break v st = k Break v st
  returned words k carried.Continue v st = k Continue v st

  -- The end of a procedure. `break` and `continue` are errors outside a loop.
  abbrev pub scope_end : List (List ℕ) → To A → To A
  scope_end words k Ok v st = k Ok v (left_scope st)
  scope_end words k Error v st = k Error v (left_by_error words st)
  scope_end words k (Return c) v st = returned words k c v (left_scope st)
  scope_end words k Break v st = k Error (outside_loop (codes "break")) (left_by_error words st)
  scope_end words k Continue v st = k Error (outside_loop (codes "continue")) (left_by_error words st)
  scope_end words k Again v st = k Again v (left_scope st)
  scope_end words k AgainLater v st = k AgainLater v (left_scope st)

abbrev pub invalid_name : List ℕ → List ℕ
invalid_name name = quoted (codes "invalid command name ") name

-- The error if no command has this name.
abbrev pub no_command : List (List ℕ) → List ℕ
no_command [] = invalid_name []
no_command (name ∷ args) = invalid_name name

-- A procedure with its arguments.
abbrev pub called : Eval → Procedure → List ℕ → List (List ℕ) → Next → State → Tree
called ev p name args k st =
    on_said (entered name p.formals args st.vars) k (λ vars st. ev p.body (scope_end (name ∷ args) k) (record st { vars = vars })) st

abbrev pub reserved : List ℕ → List ℕ
reserved name = quoted (codes "can't redefine ") name

-- Defines a procedure, unless the host has a command of that name.
abbrev pub defined : List ℕ → List ℕ → List ℕ → Bool → Next → State → Tree
defined name formals body true k st = k Error (reserved name) st
defined name formals body false k st =
    on_said (formals_of formals) k
    (λ fs st. k Ok [] (record st { procs = with_entry name (record { formals = fs; body = body }) st.procs })) st

abbrev pub define : List ℕ → List ℕ → List ℕ → Next → State → Tree
define name formals body k st = Ask (Knows name) st.left (λ r. defined name formals body (known_of r) k st)

-- ---- Commands of the host

-- Continues a command by the host's reply. `body` continues with a script that it asks for, `words` with words that it
-- asks for. `fault` is the error if the host doesn't know the command.
abbrev pub replied : Next → (List ℕ → State → Tree) → (List ℕ → State → Tree) → List ℕ → HostStep → State → Tree
replied k body words fault (Done c v) st = k c v st
replied k body words fault (Fail text) st = k Error text st
replied k body words fault (Body text) st = body text st
replied k body words fault (Words text) st = words text st
replied k body words fault Wait st = k Error [] st
replied k body words fault (Stop e) st = Over (Stopped e) st
replied k body words fault Unknown st = k Error fault st
replied k body words fault Memory st = Over NoMemory st

abbrev pub on_reply : Next → (List ℕ → State → Tree) → (List ℕ → State → Tree) → List ℕ → State → Reply → Tree
on_reply k body words fault st r = replied k body words fault (step_of r) (record st { vars = vars_of r })

-- The host may ask for another script only at two codes.
abbrev pub once_more : Code → (List ℕ → State → Tree) → Next → List ℕ → State → Tree
once_more Again more k = more
once_more AgainLater more k = more
once_more c more k = k Error

-- After a script that the host asked for. The host gets its outcome, and may ask for another script.
abbrev pub told_end : Next → (List ℕ → State → Tree) → Next
told_end k more c v st = Ask (AfterBody c v st.vars) st.left (on_reply k (once_more c more k) (k Error) [] st)

-- A script that the host asks for, given such a script as `again` (`Unrolled`).
abbrev pub one_body : Eval → Next → (List ℕ → State → Tree) → List ℕ → State → Tree
one_body ev k again text st = ev text (told_end k again) st

-- Another script of the host, and at most n after it. Each is asked for at a code that took a step, so there are no
-- more scripts than steps left.
abbrev pub next_body : Eval → Next → ℕ → List ℕ → State → Tree
next_body ev k zero text st = Over StepLimit st
next_body ev k (suc n) text st = ev text (told_end k (next_body ev k n)) st

-- What follows a script that the host asked for, with at most n more of them.
abbrev pub after_body : Eval → Next → ℕ → Next
after_body ev k n = told_end k (next_body ev k n)

-- A script that the host asks for.
abbrev pub host_body : Eval → Next → List ℕ → State → Tree
host_body ev k text st = ev text (after_body ev k st.left) st

-- Words that the host asked for, after their substitution.
abbrev pub host_words : Eval → Option WordFault → Next → List (List ℕ) → State → Tree
host_words ev (Some f) k words st = k Error (word_fault f) st
host_words ev None k words st = Ask (AfterWords words st.vars) st.left (on_reply k (host_body ev k) (k Error) [] st)

-- A text whose words the host asks for. They follow these first ones.
abbrev pub words_in : Eval → List (List ℕ) → Next → List ℕ → State → Tree
words_in ev first k text st =
    fill_words ev ((all_words (commands text)).0) first k (λ ws st. host_words ev ((all_words (commands text)).1) k ws st) st

abbrev pub begin : Eval → List (List ℕ) → Next → State → Tree
begin ev words k st = Ask (Begin words st.vars) st.left (on_reply k (host_body ev k) (words_in ev (take 1 words) k) (no_command words) st)

-- ---- Commands of the language

abbrev pub while_command : Eval → List ℕ → List (List ℕ) → Next → State → Tree
while_command ev name (test ∷ body ∷ []) k st = on_said (tree_of test) k (λ t st. loop ev t body None k st) st
while_command ev name args k st = k Error (wrong_args name) st

abbrev pub for_command : Eval → List ℕ → List (List ℕ) → Next → State → Tree
for_command ev name (start ∷ test ∷ next ∷ body ∷ []) k st =
    ev start
    (on_ok (λ v st. on_said (tree_of test) k (λ t st. loop ev t body (Some next) k st) st) k) st
for_command ev name args k st = k Error (wrong_args name) st

-- A procedure can't have the name of a command of the language.
abbrev pub new_proc : Option Verb → List ℕ → List ℕ → List ℕ → Next → State → Tree
new_proc (Some verb) name formals body k st = k Error (reserved name) st
new_proc None name formals body k st = define name formals body k st

abbrev pub proc_command : List ℕ → List (List ℕ) → Next → State → Tree
proc_command name (new ∷ formals ∷ body ∷ []) k st = new_proc (verb_of new) new formals body k st
proc_command name args k st = k Error (wrong_args name) st

abbrev pub catch_command : Eval → List ℕ → List (List ℕ) → Next → State → Tree
catch_command ev name (script ∷ []) k st = ev script (caught None k) st
catch_command ev name (script ∷ variable ∷ []) k st = ev script (caught (Some variable) k) st
catch_command ev name args k st = k Error (wrong_args name) st

-- A command, by its name and its arguments.
abbrev pub invoked : Eval → Verb → List ℕ → List (List ℕ) → Next → State → Tree
invoked ev (Plain p) name args k st = after (plain p name args st.vars) k st
invoked ev If name args k st = on_said (arms_of name args) k (λ a st. arms ev a.0 a.1 k st) st
invoked ev While name args k st = while_command ev name args k st
invoked ev For name args k st = for_command ev name args k st
invoked ev Foreach name args k st = on_said (each_of name args) k (λ e st. each ev e.0.names e.0.left e.1 k st) st
invoked ev Proc name args k st = proc_command name args k st
invoked ev Expr name args k st =
    on_said (expr_text name args) k (λ text st. on_said (tree_of text) k (λ t st. expression ev t k (λ v st. k Ok v st) st) st) st
invoked ev EvalCommand name args k st = on_said (eval_text name args) k (λ text st. ev text k st) st
invoked ev Catch name args k st = catch_command ev name args k st
invoked ev Switch name args k st = on_said (body_of_switch name args) k (λ body st. otherwise ev body k st) st
invoked ev Exit name args k st = on_said (exit_status name args) k (λ n st. Over (Stopped (ending.Exit n)) st) st

-- A command of the language whose name a procedure can have. Otherwise a command of the host.
abbrev pub redefinable_or_begun : Eval → Option Verb → List ℕ → List (List ℕ) → Next → State → Tree
redefinable_or_begun ev (Some verb) name args k st = invoked ev verb name args k st
redefinable_or_begun ev None name args k st = begin ev (name ∷ args) k st

-- A procedure if there is one of this name.
abbrev pub called_or_begun : Eval → Option Procedure → List ℕ → List (List ℕ) → Next → State → Tree
called_or_begun ev (Some p) name args k st = called ev p name args k st
called_or_begun ev None name args k st = redefinable_or_begun ev (redefinable_verb name) name args k st

abbrev pub named : Eval → Option Verb → List ℕ → List (List ℕ) → Next → State → Tree
named ev None name args k st = called_or_begun ev (find name st.procs) name args k st
named ev (Some verb) name args k st = invoked ev verb name args k st

-- Carries out a command whose words are substituted and whose step has begun. Without words it does nothing.
abbrev pub invoke : Eval → List (List ℕ) → Next → State → Tree
invoke ev [] k st = k Ok [] st
invoke ev (name ∷ args) k st = named ev (verb_of name) name args k st

-- ---- Scripts

abbrev pub command : Eval → List Spelled → Next → State → Tree
command ev words k st = fill_words ev words [] k (λ words st. stepped st.left st (λ st. invoke ev words k st)) st

-- The commands of a script, one after another.
abbrev pub sequence : Eval → List ℕ → List Reading → Next → List ℕ → State → Tree
sequence ev script [] k last st = k Ok last st
sequence ev script (Malformed at f ∷ rs) k last st = k Error (word_fault f) (passed (origin.Command script at) st)
sequence ev script (Command at words ∷ rs) k last st =
    command ev words (on_ok (λ v st. sequence ev script rs k v st) (noting (origin.Command script at) k)) st

-- A script. `depth` is the number of levels of scripts left.
abbrev pub eval : ℕ → Eval
eval zero script k st = k Error too_deep st
eval (suc depth) script k st = sequence (eval depth) script (commands script) k [] st
