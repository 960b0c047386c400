-- Lists to which elements were dealt in turn.
use Rattle.std.specs.Prelude.{◌≡◌, ℕ, ◌+◌, ◌*◌, List, [], ◌∷◌, ◌++◌, slice_get, slice_set, Some}

-- List `w` of `n` has the elements at the indices w, w + n, w + 2n, ..
abbrev pub IsDealt : {X : Type 0} → ℕ → ℕ → List X → List X → Type 0
IsDealt n w all part = (i : ℕ) → slice_get part i ≡ slice_get all (i * n + w)

-- Each of `n` lists has its elements.
abbrev pub AllDealt : {X : Type 0} → ℕ → List X → List (List X) → Type 0
AllDealt n all parts = (w : ℕ) (part : List _) → slice_get parts w ≡ Some part → IsDealt n w all part

-- An element was appended to the list at `at`.
abbrev pub Pushed : {X : Type 0} → ℕ → X → List (List X) → List (List X) → Type 0
Pushed at x old new = (part : List _) × (slice_get old at ≡ Some part) × (new ≡ slice_set old at (part ++ x ∷ []))
