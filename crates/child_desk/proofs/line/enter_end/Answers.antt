use Rattle.std.proofs.Common.{Bool, refl, subst}
use Rattle.child_desk.specs.Line.{Goes}
use Rattle.child_desk.proofs.Kept.{keeps_ended, waits_on}
use Rattle.child_desk.proofs.line.enter_end.Goals as goal

pub returns-then-goes_on-clause-waits : goal.returns-then-goes_on-clause-waits
returns-then-goes_on-clause-waits c = λ no.
    (refl, waits_on c.args.at c.args.book.now c.ending.result c.ending.ensures (subst (λ (b : Bool). Goes c.ending.result b) c.if-goes_on.true c.goes_on.ensures))

pub returns-clause-ended : goal.returns-clause-ended
returns-clause-ended c = λ yes. (
  (λ rings.
      keeps_ended rings c.args.at c.args.line.now c.args.book.now c.ending.result c.requires.goes c.ending.ensures
      (subst (λ (b : Bool). Goes c.ending.result b) c.if-goes_on.false c.goes_on.ensures)),
  refl,
)
