use Rattle.std.proofs.Common.{IfSome, sym, subst}
use Rattle.child_serve.specs.Opened.{IsFinishOf}
use Rattle.child_serve.proofs.Opening.{ended_finish}
use Rattle.child_serve.proofs.worker.finished_of.Goals as goal

pub returns : goal.returns
returns g c = subst (λ work. IfSome c.in-Ended.finished (IsFinishOf work)) (sym c.in-Ended.is) (ended_finish c.in-Ended.finished)
