use Rattle.std.proofs.Common.{◌≡◌, ap, ◌∙◌, sym, rules, arith, [], get_or, Some}
use Rattle.std.proofs.lemmas.Int.{to_z-of_z}
use Rattle.std.proofs.lemmas.Bool.Decides.{nat_tests}
use Rattle.tcl_expr.proofs.Serving.{past_end}
use mir.Syntax.{w64}
use mir.Val.{SFits}
use Rattle.tcl_expr.specs.Number.{number_of}
use Rattle.tcl_expr.specs.Stack.{item_text}
use Rattle.tcl_expr.proofs.Numbers.{word_is_no_number, empty_is_no_number, number_reads}
use Rattle.tcl_expr.proofs.progress.Operands.number.Goals as goal

pub returns-in-Number : goal.returns-in-Number
returns-in-Number c =
    let fits : SFits w64 c.in-Number.z = search rules in
    ap Some (to_z-of_z w64 c.in-Number.z fits) ∙ sym (number_reads c.in-Number.z fits) ∙ ap (λ i. number_of (item_text c.args.self.now.given i)) (sym c.in-Number.is)

pub returns-in-Word : goal.returns-in-Word
returns-in-Word c = sym (word_is_no_number c.in-Word.field-0) ∙ ap (λ i. number_of (item_text c.args.self.now.given i)) (sym c.in-Word.is)

pub returns-in-None : goal.returns-in-None
returns-in-None c =
    let over : get_or c.args.self.now.given c.in-Given.k [] ≡ [] = past_end c.args.self.now.given c.in-Given.k (let h = c.in-None.ensures.lookup.0 in let is = c.as_slice.ensures in grind (arith, nat_tests)) in
    sym empty_is_no_number ∙ ap number_of (sym over) ∙ ap (λ i. number_of (item_text c.args.self.now.given i)) (sym c.in-Given.is)
