use Rattle.std.proofs.Common.{subst, sym}
use Rattle.child_serve.proofs.Deals.{DealtTo, one_dealt}
use Rattle.child_serve.proofs.dealing.dealt_out.Goals as goal

pub loop-x-preserved : goal.loop-x-preserved
loop-x-preserved g c =
    subst (λ (turn : _). DealtTo (λ p. p.items) c.args.n c.args.all.items c.next.new.self.rest.items turn c.push_at.new.parts.items) (sym c.next_turn-turn.ensures)
    (one_dealt (λ p. p.items) c.args.n c.loop-x.turn c.args.all.items c.loop-x.x-iterator.rest.items c.next.new.self.rest.items c.in-Some.x c.loop-x.parts.items c.push_at.new.parts.items c.requires
    c.in-Some.ensures.steps.0 c.in_ok-push_at.ensures c.loop-x.invariant)
