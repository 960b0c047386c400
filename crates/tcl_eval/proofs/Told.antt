-- What an evaluation answered is how far its expression comes.
use Rattle.std.proofs.Common.{◌≡◌, ◌<◌, ◌+◌, ◌-◌, ℕ, List, [], ◌∷◌, length, length-append, ap, sym, ◌∙◌, arith}
use Rattle.tcl_expr.specs.Tree.{Tree as Expression}
use Rattle.tcl_expr.specs.Value.{outcome, needs, operands_in}
use Rattle.tcl_subst.specs.Filling.{Fill}
use Rattle.tcl_words.specs.Pieces.{Spelled}
use Rattle.tcl_eval.specs.Advanced.{NeedsFilled}
use Rattle.tcl_eval.specs.Evaluated.{Evaluated, with_operand}
use Rattle.tcl_eval.specs.Worth.{worth}
use Rattle.tcl_eval.specs.Tree.{State, Tree}
use Rattle.tcl_eval.specs.Meaning.{Next, Eval, fill_parts, fill_word}
use Rattle.tcl_subst.specs.Variables.{Variables}
use Rattle.tcl_eval.proofs.Walked.{value_needs}

-- an operand that comes to this
pub needs_worth : (p : Fill) (e : Evaluated) (ev : Eval) (k : Next) (go : List ℕ → State → Tree) (st : State) → NeedsFilled st.vars p e → fill_word ev p k (λ v st. worth ev (with_operand v e) k go st) st ≡ worth ev e k go st
needs_worth p e ev k go st n =
    ap (λ (p : Fill). fill_word ev p k (λ v st. worth ev (with_operand v e) k go st) st) n.fills
    ∙ sym (value_needs (fill_parts ev) e.tree e.given k go st n.word n.is)

-- so many operands may still be needed
abbrev pub operands_left : Evaluated → ℕ
operands_left e = operands_in e.tree - length e.given

-- an operand that was needed and has its value isn't needed again
pub one_less : (vars : Variables) (p : Fill) (old new : Evaluated) (value : List ℕ) → ((t : Expression) (given : List (List ℕ)) (x : Spelled) → outcome t given ≡ needs x → length given < operands_in t)
    → NeedsFilled vars p old → new ≡ with_operand value old → operands_left new < operands_left old
one_less vars p old new value law n is =
    let less : length old.given < operands_in old.tree = law old.tree old.given n.word n.is in
    let more : length new.given ≡ length old.given + 1 = ap (λ (x : Evaluated). length x.given) is ∙ length-append old.given (value ∷ []) in
    let now : operands_in new.tree ≡ operands_in old.tree = ap (λ (x : Evaluated). operands_in x.tree) is in
    omega arith
