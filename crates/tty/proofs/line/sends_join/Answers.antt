use Rattle.tty.proofs.Joins.{sends_join}
use Rattle.tty.proofs.line.sends_join.Goals as goal

pub returns : goal.returns
returns c = λ l xs. sends_join xs l
