-- Raised moments mean the same.
use Rattle.std.proofs.Common.{◌≡◌, ℕ, List, [], ◌∷◌, refl, ap, ◌∙◌, arith}
use Rattle.std.specs.Prelude.{max}
use Rattle.child_events.specs.declared.event.Event.{Event}
use Rattle.child_events.specs.declared.event.Event.TheVariants as event
use Rattle.child_events.specs.World.{raised_event, raised_from, moment_of}
use Rattle.expect_core.specs.declared.dialogue.Dialogue.{Dialogue}
use Rattle.expect_core.specs.Lanes.{offered, extended, arrived}
use Rattle.expect_core.specs.Calls.{fresh}
use Rattle.session.specs.Play.{play, told}
use Rattle.session.specs.Meaning.{steps_of, tree_of}
use Rattle.dialogue_sched.specs.Raised.{MeansRaised}

max_again : (h m : ℕ) → max h (max h m) ≡ max h m
max_again h m = omega arith

offered_raised : (e : Event) (d : Dialogue) → offered (raised_event d.horizon e) d ≡ offered e d
offered_raised (event.Child c m w) d = ap (λ (n : ℕ). record d { horizon = n; lanes = arrived (event.Child c m w) n d.lanes }) (max_again d.horizon m)
offered_raised (event.Tick m) d = ap (λ (n : ℕ). record d { horizon = n }) (max_again d.horizon m)

extended_raised : (es : List Event) (d : Dialogue) → extended (raised_from d.horizon es) d ≡ extended es d
extended_raised [] d = refl
extended_raised (e ∷ es) d = ap (λ (x : Dialogue). extended (raised_from (max d.horizon (moment_of e)) es) x) (offered_raised e d) ∙ extended_raised es (offered e d)

pub means_raised : MeansRaised
means_raised source settings events = ap (λ (d : Dialogue). told settings.tells_vars (play (steps_of settings.steps) (tree_of source settings) d)) (extended_raised events (fresh settings))
