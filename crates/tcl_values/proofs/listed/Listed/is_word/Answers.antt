use Rattle.std.proofs.Common.{◌≡◌, length, List, [], ◌∷◌, Some, sym, ap, subst, ◌∙◌, arith}
use Rattle.std.proofs.lemmas.Grind.{common_steps}
use Rattle.std.proofs.lemmas.Bool.Decides.{nat_tests}
use Rattle.std.specs.Prelude.{slice_get}
use Rattle.tcl_words.specs.Lists.{written}
use Rattle.tcl_values.proofs.Bare.{word_of_one}
use Rattle.tcl_values.proofs.listed.Listed.is_word.Goals as goal

pub returns-in-Some : goal.returns-in-Some
returns-in-Some c = λ alike.
    let text = c.self.inside.text in
    let es = c.self.inside.elements in
    let e = c.in-Some.element.now in
    let one : length es ≡ 1 = grind (arith, nat_tests) in
    let here : slice_get es 0 ≡ Some e = sym c.in-Some.ensures in
    let long : length e ≡ length text = grind (arith, nat_tests, alike) in
    subst (λ t. written (t ∷ []) ≡ t) c.self.view_is (word_of_one text es e one here (c.self.invariant.1 c.if-not-self.false) long)
