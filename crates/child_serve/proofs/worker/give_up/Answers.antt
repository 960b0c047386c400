use Rattle.std.proofs.Common.{length, sym, subst}
use Rattle.child_serve.specs.declared.served.WorkerResult.{WorkerResult}
use Rattle.child_serve.specs.Opened.{AllListed}
use Rattle.child_serve.proofs.worker.give_up.Goals as goal

pub returns-clause-listed : goal.returns-clause-listed
returns-clause-listed g c =
    subst (λ (p : WorkerResult). AllListed c.args.place.workers c.args.place.worker (length c.args.hands.items) p.served.unsettled.items) (sym c.part_of.ensures) c.in_ok-settled.ensures
