use Rattle.std.proofs.Common.{◌∷◌, ap, ◌∙◌, length, ◌==◌}
use Rattle.tcl_control.specs.Groups.{Turns}
use Rattle.tcl_control.proofs.Grouped.{done_is}
use Rattle.tcl_control.proofs.groups.Groups.is_done.Goals as goal

pub returns : goal.returns
returns c =
    done_is (c.self.inside.first ∷ c.self.inside.more.items) c.self.inside.count c.self.inside.begun c.self.invariant
    ∙ ap (λ (t : Turns). length t.left == 0) c.self.view_is
