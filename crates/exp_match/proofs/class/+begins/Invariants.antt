use Rattle.std.proofs.Common.{length}
use Rattle.exp_match.proofs.class.+begins.Given as goal

abbrev pub decreases-begins : goal.decreases-begins
decreases-begins l = length l.word.now
