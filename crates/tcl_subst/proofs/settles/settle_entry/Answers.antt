use Rattle.std.proofs.Common.{ap, ◌∙◌}
use Rattle.tcl_subst.specs.Entries.{changed}
use Rattle.tcl_subst.proofs.Named.{changed_same}
use Rattle.tcl_subst.proofs.settles.settle_entry.Goals as goal

pub returns-in-Some : goal.returns-in-Some
returns-in-Some c =
    ap (λ x. changed c.args.index.now x c.args.elements.now) c.settle.ensures ∙ changed_same c.args.index.now c.in-Some.value.now c.args.elements.now c.in-Some.ensures.value
