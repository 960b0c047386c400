-- Expressions whose operands are variables that are numbers.
use Rattle.std.proofs.Common.{◌≡◌, ℕ, Bool, List, ℤ, Option, Some, None, IfSome, refl, sym, ap, subst, ◌∙◌}
use Rattle.tcl_words.specs.Pieces.{Spelled}
use Rattle.tcl_expr.specs.Answers.{Answered, nothing, one_more, Comes}
use Rattle.tcl_expr.specs.Number.{number_text}
use Rattle.tcl_expr.specs.Truth.{truth_of}
use Rattle.tcl_expr.specs.Tree.{Tree as Expression}
use Rattle.tcl_subst.specs.Filling.{Full, fill}
use Rattle.tcl_subst.specs.Variables.{Variables}
use Rattle.tcl_eval.specs.Evaluated.{fresh}
use Rattle.tcl_eval.specs.Worth.{worth}
use Rattle.tcl_eval.specs.Tree.{State, Tree}
use Rattle.tcl_eval.specs.Meaning.{Next, Eval, on_bool, tested, condition, expression, fill_parts}
use Rattle.tcl_eval.proofs.Told.{needs_worth}
use Rattle.tcl_eval.proofs.Walked.{value_known}

-- an operand has this number
abbrev pub IsNumber : Variables → Spelled → ℤ → Type 0
IsNumber vars w z = fill w.pieces vars ≡ Full (number_text z)

-- with the operands that are numbers an expression comes to what it comes to without them
answered_worth : (ev : Eval) (t : Expression) (k : Next) (go : List ℕ → State → Tree) (st : State) (given : List (List ℕ)) → Answered (IsNumber st.vars) t given
    → worth ev (record { tree = t; given = given }) k go st ≡ worth ev (fresh t) k go st
answered_worth ev t k go st given nothing = refl
answered_worth ev t k go st given (one_more before w z a needed told) =
    needs_worth (Full (number_text z)) (record { tree = t; given = before }) ev k go st (record { word = w; is = needed; fills = sym told })
    ∙ answered_worth ev t k go st before a

number_comes : (t : Expression) (z : ℤ) (ev : Eval) (k : Next) (go : List ℕ → State → Tree) (st : State) → Comes (IsNumber st.vars) t z → expression ev t k go st ≡ go (number_text z) st
number_comes t z ev k go st c = sym (answered_worth ev t k go st c.given c.answered) ∙ value_known (fill_parts ev) t c.given k go st (number_text z) c.is

pub numbers_come : (vars : Variables) (t : Expression) (o : Option ℤ) → IfSome o (Comes (IsNumber vars) t)
    → IfSome o (λ z. (ev : Eval) (k : Next) (go : List ℕ → State → Tree) (st : State) → st.vars ≡ vars → expression ev t k go st ≡ go (number_text z) st)
numbers_come vars t None c = tt
numbers_come vars t (Some z) c = λ ev k go st same. number_comes t z ev k go st (subst (λ (v : Variables). Comes (IsNumber v) t z) (sym same) c)

-- a condition that is a number
pub number_decides : (vars : Variables) (t : Expression) (z : ℤ) (b : Bool) → ((ev : Eval) (k : Next) (go : List ℕ → State → Tree) (st : State) → st.vars ≡ vars → expression ev t k go st ≡ go (number_text z) st) → truth_of (number_text z) ≡ Some b
    → (ev : Eval) (k : Next) (go : Bool → State → Tree) (st : State) → st.vars ≡ vars → condition ev t k go st ≡ go b st
number_decides vars t z b is says ev k go st same = is ev k (λ v st. tested v k go st) st same ∙ ap (λ (o : Option Bool). on_bool o (number_text z) k go st) says
