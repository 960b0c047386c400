use Rattle.std.proofs.Common.{◌<◌, length}
use Rattle.exp_match.proofs.exact.rarest.Given as goal

abbrev pub invariant-loop-j : goal.invariant-loop-j
invariant-loop-j l = l.rarest < length l.text
