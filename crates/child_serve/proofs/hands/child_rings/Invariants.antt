use Rattle.child_serve.specs.Opened.{AreRings}
use Rattle.child_serve.proofs.hands.child_rings.Given as goal

abbrev pub invariant-loop : goal.invariant-loop
invariant-loop g l = AreRings l.counter l.works.items l.outs.items
