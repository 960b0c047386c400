use Rattle.product_files.specs.Entry.{NoneBelow}
use Rattle.product_files.proofs.entry.earlier.Given as goal

abbrev pub invariant-loop-i : goal.invariant-loop-i
invariant-loop-i l = NoneBelow l.entries l.at l.i
