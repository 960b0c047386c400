use Rattle.child_serve.proofs.Deals.{DealtTo}
use Rattle.child_serve.proofs.dealing.dealt_out.Given as goal

abbrev pub invariant-loop-x : goal.invariant-loop-x
invariant-loop-x g l = DealtTo (λ p. p.items) l.n l.fn.all.items l.x-iterator.rest.items l.turn l.parts.items
