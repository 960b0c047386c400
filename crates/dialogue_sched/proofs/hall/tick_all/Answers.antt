use Rattle.std.proofs.Common.{[], ◌∷◌, add-one, ◌∙◌, arith}
use Rattle.child_events.specs.declared.event.Event.TheVariants as events
use Rattle.session.specs.Left.{Fed}
use Rattle.dialogue_sched.proofs.Pairing.{PairedTo-set, Paired-from_to}
use Rattle.dialogue_sched.proofs.hall.tick_all.Goals as goal

pub loop-i-preserved : goal.loop-i-preserved
loop-i-preserved c =
    let f = c.feed_at.ensures.fed in (
      rw (add-one, f.4) (PairedTo-set (λ old new. Fed old (events.Tick c.args.moment ∷ []) new) c.loop-i.i c.args.sessions.now.items c.loop-i.sessions.items f.0 f.1 c.loop-i.invariant.0 f.2 f.3),
      c.feed_at.ensures.same ∙ c.loop-i.invariant.1,
    )

pub returns-clause-fed : goal.returns-clause-fed
returns-clause-fed c = Paired-from_to (λ old new. Fed old (events.Tick c.args.moment ∷ []) new) c.loop-i.i c.args.sessions.now.items c.loop-i.sessions.items c.loop-i.invariant.0 (omega (arith, c.args.sessions.now.ok.0))
