use Rattle.std.proofs.Common.{ap, ◌∙◌}
use Rattle.tcl_subst.specs.Entries.{changed}
use Rattle.tcl_subst.proofs.Named.{changed_same}
use Rattle.tcl_subst.proofs.lists.list_element.Goals as goal

pub returns-in-Some-clause-same : goal.returns-in-Some-clause-same
returns-in-Some-clause-same c =
    ap (λ x. changed c.args.array.now x c.args.scope.now) c.list_member.ensures.same ∙ changed_same c.args.array.now c.in-Some.slot.now c.args.scope.now c.in-Some.ensures.value
