-- The effect of instructions on a stack of values, and the progress of an evaluation.
use Rattle.std.specs.Prelude.{◌≡◌, ℕ, zero, suc, List, [], ◌∷◌, ◌++◌, map, drop, Result, Ok, Err, ℤ, if◌then◌else◌}
use Rattle.tcl_expr.specs.declared.faults.ExprFault.{ExprFault}
use Rattle.tcl_expr.specs.declared.faults.ExprFault.TheVariants.{Syntax}
use Rattle.tcl_expr.specs.declared.progress.Operands.{Operands}
use Rattle.tcl_expr.specs.Number.{number_text}
use Rattle.tcl_expr.specs.Truth.{word_text, truth_of}
use Rattle.tcl_expr.specs.Tree.{Tree}
use Rattle.tcl_expr.specs.Instr.{Instr, push, push_word, ask, apply, combine, test, truth, branch, skip, join, postfix}
use Rattle.tcl_expr.specs.Value.{Valued, valued, failed, asks, eval, prefixed, combined, on_truth, on_test, decides, bit, bit_text}
use Rattle.tcl_expr.specs.Stack.{item_text}

-- The rest of an evaluation, given the number of instructions to skip, the stack, and the operands left.
abbrev pub On : Type 0
On = ℕ → List (List ℕ) → List (List ℕ) → Valued

-- Pushes a computed number.
abbrev pub put : On → List (List ℕ) → List (List ℕ) → Result ℤ ExprFault → Valued
put go st vs (Ok z) = go 0 (number_text z ∷ st) vs
put go st vs (Err e) = failed e

-- Carries out an instruction. A missing value never occurs.
abbrev pub does : Instr → On → List (List ℕ) → List (List ℕ) → Valued
does (push z) go st vs = go 0 (number_text z ∷ st) vs
does (push_word w) go st vs = go 0 (word_text w ∷ st) vs
does (ask w) go st [] = asks w
does (ask w) go st (v ∷ vs) = go 0 (v ∷ st) vs
does (apply op) go [] vs = failed Syntax
does (apply op) go (a ∷ st) vs = put go st vs (prefixed op a)
does (combine op) go [] vs = failed Syntax
does (combine op) go (b ∷ []) vs = failed Syntax
does (combine op) go (b ∷ a ∷ st) vs = put go st vs (combined op a b)
does (test op n) go [] vs = failed Syntax
does (test op n) go (a ∷ st) vs = on_test a (truth_of a) (λ t. if decides op t then go n (bit_text t ∷ st) vs else go 0 st vs)
does (truth op) go [] vs = failed Syntax
does (truth op) go (a ∷ st) vs = put go st vs (on_truth a (truth_of a) (λ t. Ok (bit t)))
does (branch n) go [] vs = failed Syntax
does (branch n) go (a ∷ st) vs = on_test a (truth_of a) (λ t. if t then go 0 st vs else go n st vs)
does (skip n) go st vs = go n st vs
does join go st vs = go 0 st vs

-- The value on top.
abbrev pub ended : List (List ℕ) → List (List ℕ) → Valued
ended [] vs = failed Syntax
ended (a ∷ st) vs = valued a vs

-- Carries out instructions. The first k are skipped.
unfoldable pub exec : List Instr → ℕ → List (List ℕ) → List (List ℕ) → Valued
exec [] k st vs = ended st vs
exec (i ∷ code) zero st vs = does i (exec code) st vs
exec (i ∷ code) (suc k) st vs = exec code k st vs

-- ---- Progress of an evaluation

-- The texts of the values on the stack.
abbrev pub held : Operands → List (List ℕ)
held log = map (item_text log.given) log.stack

-- The operands that are not used yet, followed by more.
abbrev pub left : Operands → List (List ℕ) → List (List ℕ)
left log more = drop log.used log.given ++ more

-- The operands fit the tree. Whatever operands are added, the rest of the evaluation gives the value of the tree for
-- all of them.
unfoldable pub Serves : Tree → Operands → Type 0
Serves tree log = (more : List (List ℕ)) → exec (drop log.at (postfix tree)) 0 (held log) (left log more) ≡ eval tree (log.given ++ more)
