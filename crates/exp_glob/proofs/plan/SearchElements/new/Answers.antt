use Rattle.std.proofs.Common.{Bool, true, false, List, subst}
use Rattle.exp_glob.specs.Endings.{IsSoughtBy}
use Rattle.exp_glob.specs.declared.element.Element.{Element}
use Rattle.exp_glob.proofs.plan.SearchElements.new.Goals as goal

pub invariant_of-result : goal.invariant_of-result
invariant_of-result c =
    let sought : IsSoughtBy c.args.nocase c.args.elements c.in_ok-sought.sought = subst (λ (es : List Element). IsSoughtBy c.args.nocase es c.in_ok-sought.sought) c.as_slice.ensures c.in_ok-sought.ensures in
    (c.no_literals.ensures false c.args.elements, subst (λ (b : Bool). IsSoughtBy b c.args.elements c.in_ok-sought.sought) c.if-nocase.true sought)

pub invariant_of-result-2 : goal.invariant_of-result-2
invariant_of-result-2 c =
    let sought : IsSoughtBy c.args.nocase c.args.elements c.in_ok-sought.sought = subst (λ (es : List Element). IsSoughtBy c.args.nocase es c.in_ok-sought.sought) c.as_slice.ensures c.in_ok-sought.ensures in
    (subst (λ (b : Bool). IsSoughtBy b c.args.elements c.in_ok-sought.sought) c.if-nocase.false sought, c.no_literals-2.ensures true c.args.elements)
