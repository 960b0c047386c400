-- Sessions and the events that concern them.
use Rattle.std.specs.Prelude.{◌≡◌, ℕ, ◌+◌, List, [], ◌∷◌}
use Rattle.child_events.specs.declared.event.Event.{Event}
use Rattle.child_events.specs.declared.event.HallEvent.{HallEvent}
use Rattle.child_events.specs.World.{own}
use Rattle.session.specs.Left.{Kept, Fed}

-- From `old` to `new`, exactly these events arrived. Without events, nothing changed.
abbrev pub Took : Kept → List Event → Kept → Type 0
Took old [] new = new ≡ old
Took old (e ∷ es) new = Fed old (e ∷ es) new

-- Each script took its own events. n is the number of the first script.
abbrev pub AllTook : ℕ → List HallEvent → List Kept → List Kept → Type 0
AllTook n es [] [] = Unit {0}
AllTook n es [] (new ∷ news) = ⊥
AllTook n es (old ∷ olds) [] = ⊥
AllTook n es (old ∷ olds) (new ∷ news) = Took old (own n es) new × AllTook (n + 1) es olds news
