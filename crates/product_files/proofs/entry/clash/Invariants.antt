use Rattle.product_files.specs.Entry.{NoneBefore}
use Rattle.product_files.proofs.entry.clash.Given as goal

abbrev pub invariant-loop-at : goal.invariant-loop-at
invariant-loop-at l = NoneBefore l.entries l.at
