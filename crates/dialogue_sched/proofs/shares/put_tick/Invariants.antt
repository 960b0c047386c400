use Rattle.std.proofs.Common.{◌≡◌, [], ◌∷◌, ◌++◌, List, vec_len}
use Rattle.child_events.specs.declared.event.Event.{Event}
use Rattle.child_events.specs.declared.event.Event.TheVariants as events
use Rattle.dialogue_sched.proofs.Pairing.{PairedTo}
use Rattle.dialogue_sched.proofs.shares.put_tick.Given as goal

abbrev pub invariant-loop-i : goal.invariant-loop-i
invariant-loop-i l = (PairedTo (λ (old new : List Event). new ≡ old ++ events.Tick l.moment ∷ []) l.i l.fn.shares.items l.shares.items) × (vec_len l.shares ≡ vec_len l.fn.shares)
