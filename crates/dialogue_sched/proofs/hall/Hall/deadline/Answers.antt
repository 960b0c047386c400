use Rattle.std.proofs.Common.{◌≡◌, ◌<◌, length, List, ap, subst, ◌∙◌, add-one, arith}
use Rattle.std.specs.Prelude.{slice_index_or}
use Rattle.session.specs.Left.{Kept}
use Rattle.dialogue_sched.proofs.Quieting.{soonest_more}
use Rattle.dialogue_sched.proofs.hall.Hall.deadline.Goals as goal

pub loop-i-preserved : goal.loop-i-preserved
loop-i-preserved c =
    let k = c.index-session.result.now in
    let within : c.loop-i.i < length c.args.self.now = subst (λ (ks : List Kept). c.loop-i.i < length ks) c.self.view_is (grind arith) in
    let at : k ≡ slice_index_or c.args.self.now c.loop-i.i k = c.index-session.ensures ∙ ap (λ (ks : List Kept). slice_index_or ks c.loop-i.i k) c.self.view_is in
    rw (add-one, c.sooner-last.ensures)
    (soonest_more c.loop-i.i c.args.self.now k c.loop-i.last c.deadline.result c.loop-i.invariant within at c.deadline.ensures.value c.deadline.ensures.quiet)
