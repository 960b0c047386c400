use Rattle.child_desk.specs.Book.{logged}
use Rattle.child_desk.proofs.Hears.{all_same}
use Rattle.child_serve.proofs.worker.close.Goals as goal

pub returns-in_default-clause-heard : goal.returns-in_default-clause-heard
returns-in_default-clause-heard g c = all_same c.args.desk.now.ends.items (logged c.args.desk.now.book)
