use Rattle.std.proofs.Common.{arith}
use Rattle.std.proofs.lemmas.Bool.Decides.{nat_tests}
use Rattle.tcl_words.proofs.Contents.{turn_bare}
use Rattle.tcl_words.proofs.lists.plain_len.Goals as goal

pub loop-at-preserved : goal.loop-at-preserved
loop-at-preserved c = (
  omega arith,
  turn_bare c.args.quoted c.args.bytes.now c.loop-at.at _ (omega arith) (grind arith) (grind (arith, nat_tests)) c.loop-at.invariant.1,
)
