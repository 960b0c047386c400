use Rattle.std.proofs.Common.{ap, ◌∙◌}
use Rattle.tcl_subst.specs.Entries.{changed}
use Rattle.tcl_subst.proofs.Named.{changed_same}
use Rattle.tcl_subst.proofs.settles.settle_element.Goals as goal

pub returns-in-Some : goal.returns-in-Some
returns-in-Some c =
    ap (λ x. changed c.args.array.now x c.args.scope.now) c.settle_member.ensures ∙ changed_same c.args.array.now c.in-Some.slot.now c.args.scope.now c.in-Some.ensures.value
