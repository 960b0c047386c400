use Rattle.exp_glob.proofs.plan.SearchElements.literals.Goals as goal

pub returns-then-nocase-clause-ending : goal.returns-then-nocase-clause-ending
returns-then-nocase-clause-ending c = rw c.if-nocase.true (rw (← c.self.view_is) c.self.invariant.1.ending)

pub returns-else-nocase-clause-ending : goal.returns-else-nocase-clause-ending
returns-else-nocase-clause-ending c = rw c.if-nocase.false (rw (← c.self.view_is) c.self.invariant.0.ending)
