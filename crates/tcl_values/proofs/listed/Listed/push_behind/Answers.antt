use Rattle.std.proofs.Common.{◌≡◌, ◌+◌, ◌<◌, ◌≤◌, ◌++◌, length, sym, ◌∙◌, subst, refl, arith}
use Rattle.std.proofs.lemmas.Grind.{common_steps}
use Rattle.std.proofs.lemmas.Bool.Decides.{nat_tests}
use Rattle.tcl_words.specs.Lists.{ReadsAs, written}
use Rattle.tcl_values.proofs.Grown.{written_grown, elements_grown, room_for, no_room_for}
use Rattle.tcl_values.proofs.listed.Listed.push_behind.Goals as goal

pub invariant_of-self-in-Ok : goal.invariant_of-self-in-Ok
invariant_of-self-in-Ok c =
    let whole : c.extend.new.self ≡ written c.push_all.new.self =
    written_grown c.self.inside.elements c.args.more.now c.self.inside.text c.as_slice.result.now _ _ _ (λ none. c.if-count-eq0.false (grind (arith, common_steps, none))) (c.self.invariant.1 c.if-not-self.false)
    (c.as_slice.ensures ∙ c.in_ok-behind.ensures) c.in-Ok.ensures.extended refl c.in_ok-push_all.ensures.pushed
    in (subst (λ t. ReadsAs t c.push_all.new.self) (sym whole) (c.one_list.ensures.round _), λ _. whole)

pub returns-then-exceeds-clause-refused : goal.returns-then-exceeds-clause-refused
returns-then-exceeds-clause-refused c = λ _.
    let whole : c.self.inside.text ++ c.in_ok-behind.behind ≡ written (c.self.inside.elements ++ c.args.more.now) =
    written_grown c.self.inside.elements c.args.more.now c.self.inside.text c.in_ok-behind.behind _ _ _ (λ none. c.if-count-eq0.false (grind (arith, common_steps, none))) (c.self.invariant.1 c.if-not-self.false)
    c.in_ok-behind.ensures refl refl refl in
    let long : c.args.limit < length c.self.inside.text + length c.in_ok-behind.behind = grind (arith, common_steps, nat_tests) in
    elements_grown c.args.limit c.args.self.now c.self.inside.elements c.args.more.now _ (subst (λ t. ReadsAs t c.self.inside.elements) c.self.view_is c.self.invariant.0) whole
    ∙ no_room_for c.args.limit c.self.inside.text c.in_ok-behind.behind long

pub returns-in-Ok-clause-grown : goal.returns-in-Ok-clause-grown
returns-in-Ok-clause-grown c = λ _.
    let whole : c.extend.new.self ≡ written (c.self.inside.elements ++ c.args.more.now) =
    written_grown c.self.inside.elements c.args.more.now c.self.inside.text c.as_slice.result.now _ _ _ (λ none. c.if-count-eq0.false (grind (arith, common_steps, none))) (c.self.invariant.1 c.if-not-self.false)
    (c.as_slice.ensures ∙ c.in_ok-behind.ensures) c.in-Ok.ensures.extended refl refl in
    let room : length c.self.inside.text + length c.as_slice.result.now ≤ c.args.limit = grind (arith, common_steps, nat_tests) in
    elements_grown c.args.limit c.args.self.now c.self.inside.elements c.args.more.now _ (subst (λ t. ReadsAs t c.self.inside.elements) c.self.view_is c.self.invariant.0) whole
    ∙ room_for c.args.limit c.self.inside.text c.as_slice.result.now c.extend.new.self room c.in-Ok.ensures.extended
