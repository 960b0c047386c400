use Rattle.layer_show.proofs.Vain.{IsVain}
use Rattle.layer_show.proofs.scans.scanned.Given as goal

abbrev pub invariant-pieces : goal.invariant-pieces
invariant-pieces l = IsVain l.list.entries l.groups l.sought l.buffer.ring.items
