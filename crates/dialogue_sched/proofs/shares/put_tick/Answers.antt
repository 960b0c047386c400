use Rattle.std.proofs.Common.{◌≡◌, [], ◌∷◌, ◌++◌, List, add-one, refl, ◌∙◌, arith}
use Rattle.child_events.specs.declared.event.Event.{Event}
use Rattle.child_events.specs.declared.event.Event.TheVariants as events
use Rattle.dialogue_sched.proofs.Pairing.{PairedTo-set, Paired-from_to}
use Rattle.dialogue_sched.proofs.shares.put_tick.Goals as goal

pub loop-i-preserved : goal.loop-i-preserved
loop-i-preserved c =
    let f = c.in_ok-put_at.ensures.put in (
      rw (add-one, f.2)
          (PairedTo-set (λ (old new : List Event). new ≡ old ++ events.Tick c.args.moment ∷ []) c.loop-i.i c.args.shares.now.items c.loop-i.shares.items f.0 (f.0 ++ events.Tick c.args.moment ∷ []) c.loop-i.invariant.0 f.1 refl),
      c.put_at.ensures.same ∙ c.loop-i.invariant.1,
    )

pub returns : goal.returns
returns c = Paired-from_to (λ (old new : List Event). new ≡ old ++ events.Tick c.args.moment ∷ []) c.loop-i.i c.args.shares.now.items c.loop-i.shares.items c.loop-i.invariant.0 (omega (arith, c.loop-i-test.false, c.args.shares.now.ok.0))
