-- What is behind an expression passes its errors and codes on.
use Rattle.std.proofs.Common.{◌≡◌, ℕ, Bool, true, false, List, [], ◌∷◌, Option, Some, None, Result, Ok as Fine, Err, ℤ, refl, ap, ◌∙◌, if◌then◌else◌}
use Rattle.std.proofs.Math.Path.{fun_ext}
use Rattle.tcl_words.specs.Pieces.{Spelled}
use Rattle.tcl_expr.specs.declared.faults.ExprFault.{ExprFault}
use Rattle.tcl_expr.specs.Truth.{truth_of}
use Rattle.tcl_expr.specs.Tree.{Tree as Expression, number, word, operand, unary, binary, lazy, choice}
use Rattle.tcl_expr.specs.Value.{prefixed, combined, decides, on_truth, bit, bit_text}
use Rattle.tcl_subst.specs.Filling.{fill}
use Rattle.tcl_eval.specs.Evaluated.{Evaluated, with_operand}
use Rattle.tcl_eval.specs.Tree.{State, Tree}
use Rattle.tcl_eval.specs.Meaning.{Next, Eval, on_ok, on_bool, computed, value_from, fill_parts}
use Rattle.tcl_eval.specs.Worth.{worth}
use Rattle.tcl_eval.proofs.Natives.{passed_on, word_passes}

computed_passes : (r : Result ℤ ExprFault) (k : Next) (on go go' : List ℕ → State → Tree) (st : State) → ((v : List ℕ) (st : State) → go v st ≡ go' v st) → computed r (on_ok on k) go st ≡ computed r k go' st
computed_passes (Fine z) k on go go' st same = same _ st
computed_passes (Err f) k on go go' st same = refl

bool_passes : (o : Option Bool) (v : List ℕ) (k : Next) (on : List ℕ → State → Tree) (go go' : Bool → State → Tree) (st : State) → ((b : Bool) (st : State) → go b st ≡ go' b st) → on_bool o v (on_ok on k) go st ≡ on_bool o v k go' st
bool_passes None v k on go go' st same = refl
bool_passes (Some b) v k on go go' st same = same b st

if_same : (b : Bool) (x x' y y' : Tree) → x ≡ x' → y ≡ y' → (if b then x else y) ≡ (if b then x' else y')
if_same true x x' y y' e f = e
if_same false x x' y y' e f = f

module _ (word_value : Spelled → Next → (List ℕ → State → Tree) → State → Tree) (law : (w : Spelled) (k : Next) (on go : List ℕ → State → Tree) (st : State) → word_value w (on_ok on k) go st ≡ word_value w k go st) where
  abbrev Go : Type 0
  Go = List ℕ → List (List ℕ) → State → Tree

  value_passes : (t : Expression) (vs : List (List ℕ)) (k : Next) (on : List ℕ → State → Tree) (go go' : Go) (st : State) → ((v : List ℕ) (vs : List (List ℕ)) (st : State) → go v vs st ≡ go' v vs st)
      → value_from word_value t vs (on_ok on k) go st ≡ value_from word_value t vs k go' st
  value_passes (number z) vs k on go go' st same = same _ vs st
  value_passes (word w) vs k on go go' st same = same _ vs st
  value_passes (operand w) [] k on go go' st same =
      law w k on (λ v st. go v [] st) st ∙ ap (λ (g : List ℕ → State → Tree). word_value w k g st) (fun_ext (λ v. fun_ext (λ st. same v [] st)))
  value_passes (operand w) (v ∷ vs) k on go go' st same = same v vs st
  value_passes (unary op t) vs k on go go' st same =
      value_passes t vs k on _ _ st (λ a vs st. computed_passes (prefixed op a) k on _ _ st (λ v st. same v vs st))
  value_passes (binary op l r) vs k on go go' st same =
      value_passes l vs k on _ _ st (λ a vs st. value_passes r vs k on _ _ st (λ b vs st. computed_passes (combined op a b) k on _ _ st (λ v st. same v vs st)))
  value_passes (lazy op l r) vs k on go go' st same =
      value_passes l vs k on _ _ st
      (λ a vs st. bool_passes (truth_of a) a k on _ _ st
      (λ t st. if_same (decides op t) _ _ _ _ (same (bit_text t) vs st)
      (value_passes r vs k on _ _ st (λ b vs st. computed_passes (on_truth b (truth_of b) (λ t. Fine (bit t))) k on _ _ st (λ v st. same v vs st)))))
  value_passes (choice c a b) vs k on go go' st same =
      value_passes c vs k on _ _ st
      (λ x vs st. bool_passes (truth_of x) x k on _ _ st
      (λ t st. if_same t _ _ _ _ (value_passes a vs k on go go' st same) (value_passes b vs k on go go' st same)))

worth_passes : (ev : Eval) (e : Evaluated) (k : Next) (on go : List ℕ → State → Tree) (st : State) → worth ev e (on_ok on k) go st ≡ worth ev e k go st
worth_passes ev e k on go st =
    value_passes (fill_parts ev) (λ w k on go st. word_passes ev (fill w.pieces st.vars) k on go st) e.tree e.given k on (λ v vs st. go v st) (λ v vs st. go v st) st (λ v vs st. refl)

-- behind a script of an operand
pub operand_frame : (ev : Eval) (e : Evaluated) (k : Next) (on : List ℕ → State → Tree)
    → on_ok (λ v st. worth ev (with_operand v e) (on_ok on k) on st) (on_ok on k) ≡ on_ok (λ v st. worth ev (with_operand v e) k on st) k
operand_frame ev e k on = passed_on _ _ on k (λ v st. worth_passes ev (with_operand v e) k on on st)
