use Rattle.std.proofs.Common.{arith}
use Rattle.std.proofs.lemmas.Bool.Decides.{nat_tests}
use Rattle.exp_glob.proofs.literal.is_missing.Goals as goal

pub returns-in-None : goal.returns-in-None
returns-in-None c = λ _. (grind (arith, nat_tests), λ k o. c.in-None.ensures k (omega arith) (omega (arith, o.fits)) o)
