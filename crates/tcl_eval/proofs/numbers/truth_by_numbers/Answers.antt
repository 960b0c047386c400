use Rattle.std.proofs.Common.{ap, sym, ◌∙◌, rules}
use Rattle.std.proofs.lemmas.Int.{to_z-of_z}
use mir.Syntax.{w64}
use mir.Val.{SFits}
use Rattle.tcl_expr.specs.Number.{number_text}
use Rattle.tcl_expr.specs.Truth.{truth_of}
use Rattle.tcl_eval.proofs.Answered.{number_decides}
use Rattle.tcl_eval.proofs.numbers.truth_by_numbers.Goals as goal

pub returns-in-Some : goal.returns-in-Some
returns-in-Some c =
    let fits : SFits w64 c.in-Some.number = search rules in
    number_decides c.args.vars.now c.args.test.now c.in-Some.number c.is_true.result c.in-Some.ensures (ap (λ z. truth_of (number_text z)) (sym (to_z-of_z w64 c.in-Some.number fits)) ∙ c.is_true.ensures)
