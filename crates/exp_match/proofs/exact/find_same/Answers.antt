use Rattle.std.proofs.Common.{refl, arith}
use Rattle.exp_match.proofs.Standing.{stands_from_occurs, occurs_from_stands, least_occurs}
use Rattle.exp_match.proofs.exact.find_same.Goals as goal

pub returns-in-Some : goal.returns-in-Some
returns-in-Some c =
    let is = c.in-Some.ensures in
    (stands_from_occurs _ _ _ is.1, refl, least_occurs c.args.bytes.now c.args.text.now c.in-Some.at is.0.before)

pub returns-in-None : goal.returns-in-None
returns-in-None c = λ k s.
    let o = occurs_from_stands c.args.bytes.now c.args.text.now k s in
    c.in-None.ensures k (omega arith) (omega (arith, o.fits)) o
