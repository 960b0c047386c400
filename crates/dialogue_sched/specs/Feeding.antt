-- Passes one event to one session, or to each.
use Rattle.std.specs.Prelude.{◌≡◌, ℕ, List, [], ◌∷◌, slice_get, slice_set, Some}
use Rattle.child_events.specs.declared.event.Event.{Event}
use Rattle.session.specs.Left.{Kept, Fed}
use Rattle.dialogue_sched.specs.Pairs.{Paired}

-- The session at index i took these events. No other session changed.
abbrev pub FedAllAt : ℕ → List Event → List Kept → List Kept → Type 0
FedAllAt i es olds news = (old : Kept) × (new : Kept) × (slice_get olds i ≡ Some old) × Fed old es new × (news ≡ slice_set olds i new)

-- The session at index i took the event. No other session changed.
abbrev pub FedAt : ℕ → Event → List Kept → List Kept → Type 0
FedAt i e olds news = FedAllAt i (e ∷ []) olds news

abbrev pub AllFed : Event → List Kept → List Kept → Type 0
AllFed e olds news = Paired (λ old new. Fed old (e ∷ []) new) olds news
