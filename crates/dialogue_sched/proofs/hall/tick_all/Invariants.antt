use Rattle.std.proofs.Common.{◌≡◌, [], ◌∷◌, vec_len}
use Rattle.child_events.specs.declared.event.Event.TheVariants as events
use Rattle.session.specs.Left.{Fed}
use Rattle.dialogue_sched.proofs.Pairing.{PairedTo}
use Rattle.dialogue_sched.proofs.hall.tick_all.Given as goal

abbrev pub invariant-loop-i : goal.invariant-loop-i
invariant-loop-i l = (PairedTo (λ old new. Fed old (events.Tick l.moment ∷ []) new) l.i l.fn.sessions.items l.sessions.items) × (vec_len l.sessions ≡ vec_len l.fn.sessions)
