-- The initial variables, change by change.
use Rattle.std.proofs.Common.{◌≡◌, ℕ, List, Bool, codes, ap, ◌∙◌}
use Rattle.tcl_subst.specs.Variables.{Variables, no_variables}
use Rattle.session.specs.First.{first_variables, hosted, setting, as_array, with_variables}

pub first_by : (host : Bool) (pairs : List (List ℕ × List ℕ)) (ten : List ℕ) (none timed arrayed hosting all : Variables) → none ≡ no_variables → ten ≡ codes "10" → timed ≡ setting (codes "timeout") ten none
    → arrayed ≡ as_array (codes "env") timed → hosting ≡ hosted host arrayed → all ≡ with_variables pairs hosting → all ≡ first_variables host pairs
first_by host pairs ten none timed arrayed hosting all e0 e1 e2 e3 e4 e5 =
    e5
    ∙ ap (with_variables pairs) (e4
    ∙ ap (hosted host) (e3
    ∙ ap (as_array (codes "env")) (e2
    ∙ ap (λ (v : List ℕ). setting (codes "timeout") v none) e1
    ∙ ap (setting (codes "timeout") (codes "10")) e0)))
