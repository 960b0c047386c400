use Rattle.std.proofs.Common.{◌≡◌, ap, ◌∙◌, sym, rules, arith, [], get_or, Some}
use Rattle.std.proofs.lemmas.Int.{to_z-of_z}
use Rattle.std.proofs.lemmas.Bool.Decides.{nat_tests}
use Rattle.tcl_expr.proofs.Serving.{past_end}
use mir.Syntax.{w64}
use mir.Val.{SFits}
use Rattle.tcl_expr.specs.Truth.{truth_of, truth_from}
use Rattle.tcl_expr.specs.Stack.{item_text}
use Rattle.tcl_expr.proofs.Numbers.{word_is_truth, empty_is_no_truth, number_is_truth}
use Rattle.tcl_expr.proofs.progress.Operands.truth.Goals as goal

pub returns-in-Number : goal.returns-in-Number
returns-in-Number c =
    let fits : SFits w64 c.in-Number.z = search rules in
    c.truth_from.ensures ∙ ap (λ z. truth_from (Some z) []) (to_z-of_z w64 c.in-Number.z fits) ∙ sym (number_is_truth c.in-Number.z [] fits) ∙ ap (λ i. truth_of (item_text c.args.self.now.given i)) (sym c.in-Number.is)

pub returns-in-Word : goal.returns-in-Word
returns-in-Word c = ap Some c.says.ensures ∙ sym (word_is_truth c.in-Word.word) ∙ ap (λ i. truth_of (item_text c.args.self.now.given i)) (sym c.in-Word.is)

pub returns-in-None : goal.returns-in-None
returns-in-None c =
    let over : get_or c.args.self.now.given c.in-Given.k [] ≡ [] = past_end c.args.self.now.given c.in-Given.k (let h = c.in-None.ensures.lookup.0 in let is = c.as_slice.ensures in grind (arith, nat_tests)) in
    sym empty_is_no_truth ∙ ap truth_of (sym over) ∙ ap (λ i. truth_of (item_text c.args.self.now.given i)) (sym c.in-Given.is)
