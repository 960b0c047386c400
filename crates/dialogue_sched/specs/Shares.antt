-- Distributes a list of events to the scripts that see them.
use Rattle.std.specs.Prelude.{◌≡◌, ℕ, ◌+◌, List, [], ◌∷◌, ◌++◌, slice_get, slice_set, Some}
use Rattle.child_events.specs.declared.event.Event.{Event}
use Rattle.child_events.specs.declared.event.HallEvent.{HallEvent}
use Rattle.child_events.specs.World.{own_of, after_own}
use Rattle.session.specs.Left.{Kept}
use Rattle.dialogue_sched.specs.Took.{Took}

-- Appends an event to the share of each script that sees it. n is the number of the first script.
abbrev pub dealt : ℕ → HallEvent → List (List Event) → List (List Event)
dealt n e [] = []
dealt n e (seen ∷ others) = (seen ++ after_own (own_of n e) []) ∷ dealt (n + 1) e others

-- Appends events, one after another.
abbrev pub dealt_all : ℕ → List HallEvent → List (List Event) → List (List Event)
dealt_all n [] shares = shares
dealt_all n (e ∷ es) shares = dealt_all n es (dealt n e shares)

-- The event was appended to the share at index i. No other share changed.
abbrev pub PutAt : ℕ → Event → List (List Event) → List (List Event) → Type 0
PutAt i e olds news = (old : List Event) × (slice_get olds i ≡ Some old) × (news ≡ slice_set olds i (old ++ e ∷ []))

-- The session at index i took these events. No other session changed.
abbrev pub TookAt : ℕ → List Event → List Kept → List Kept → Type 0
TookAt i es olds news = (old : Kept) × (new : Kept) × (slice_get olds i ≡ Some old) × Took old es new × (news ≡ slice_set olds i new)

-- Each session took the share at its index.
abbrev pub AllTookShare : List (List Event) → List Kept → List Kept → Type 0
AllTookShare [] [] [] = Unit {0}
AllTookShare [] [] (new ∷ news) = ⊥
AllTookShare [] (old ∷ olds) news = ⊥
AllTookShare (es ∷ shares) [] news = ⊥
AllTookShare (es ∷ shares) (old ∷ olds) [] = ⊥
AllTookShare (es ∷ shares) (old ∷ olds) (new ∷ news) = Took old es new × AllTookShare shares olds news
