-- Which child's next item a script takes: the earliest one, as soon as no earlier item can arrive.
use Rattle.std.specs.Prelude.{◌≡◌, ◌≢◌, ℕ, suc, ◌<◌, ◌≤◌, nat_le, nat_lt, ◌⊎◌, List, [], ◌∷◌, ◌||◌, if◌then◌else◌, Option, Some, None, is_some, slice_get}
use Rattle.std.specs.List.{list_all}

-- The next item of the child at index i came at moment m. No item came earlier. Among items of the same moment it is
-- the first.
pub record IsEarliest (heads : List (Option ℕ)) (i m : ℕ) : Type 0 where
  pub here : slice_get heads i ≡ Some (Some m)
  pub none_earlier : (j n : ℕ) → slice_get heads j ≡ Some (Some n) → m ≤ n
  pub first : (j n : ℕ) → j < i → slice_get heads j ≡ Some (Some n) → m < n

-- No item can come before moment m any more. Either the horizon is later than m, or each child has a next item.
abbrev pub IsSettled : List (Option ℕ) → ℕ → ℕ → Type 0
IsSettled heads horizon m = (m < horizon) ⊎ ((j : ℕ) → slice_get heads j ≢ Some None)

-- The index of the child whose item is taken, or `None` if an earlier item may still come.
abbrev pub IsNext : List (Option ℕ) → ℕ → Option ℕ → Type 0
IsNext heads horizon None = (i m : ℕ) → IsEarliest heads i m → ¬ IsSettled heads horizon m
IsNext heads horizon (Some i) = (m : ℕ) × IsEarliest heads i m × IsSettled heads horizon m

-- The same choice as a function.

-- The index, one higher.
abbrev pub further : Option (ℕ × ℕ) → Option (ℕ × ℕ)
further None = None
further (Some x) = Some (suc x.0, x.1)

-- Adds a moment at the front of a list whose earliest moment is given with its index.
abbrev pub nearer : ℕ → Option (ℕ × ℕ) → Option (ℕ × ℕ)
nearer m None = Some (0, m)
nearer m (Some x) = if nat_le m x.1 then Some (0, m) else Some (suc x.0, x.1)

abbrev pub in_front : Option ℕ → Option (ℕ × ℕ) → Option (ℕ × ℕ)
in_front None x = further x
in_front (Some m) x = nearer m x

-- The index and the moment of the earliest item; the first of several.
abbrev pub earliest : List (Option ℕ) → Option (ℕ × ℕ)
earliest [] = None
earliest (head ∷ heads) = in_front head (earliest heads)

abbrev pub settled : List (Option ℕ) → ℕ → Option (ℕ × ℕ) → Option ℕ
settled heads horizon None = None
settled heads horizon (Some x) = if nat_lt x.1 horizon || list_all is_some heads then Some x.0 else None

abbrev pub next_of : List (Option ℕ) → ℕ → Option ℕ
next_of heads horizon = settled heads horizon (earliest heads)

-- How the choice changes over time.

-- How a child's next item changes: a present item stays, and a missing one arrives at moment h or later.
abbrev pub Arrives : ℕ → Option ℕ → Option ℕ → Type 0
Arrives h (Some m) new = new ≡ Some m
Arrives h None None = Unit {0}
Arrives h None (Some n) = h ≤ n

abbrev pub AllArrive : ℕ → List (Option ℕ) → List (Option ℕ) → Type 0
AllArrive h [] [] = Unit {0}
AllArrive h (x ∷ xs) (y ∷ ys) = Arrives h x y × AllArrive h xs ys
AllArrive h (x ∷ xs) [] = ⊥
AllArrive h [] (y ∷ ys) = ⊥

-- Once an item is chosen, it stays the choice.
abbrev pub StaysNext : Type 0
StaysNext = (h h' : ℕ) (olds news : List (Option ℕ)) → h ≤ h' → AllArrive h olds news → (i : ℕ) → next_of olds h ≡ Some i → next_of news h' ≡ Some i

-- If no item was chosen at horizon h, an item that is chosen later came at h or later.
abbrev pub ComesLater : Type 0
ComesLater = (h h' : ℕ) (olds news : List (Option ℕ)) → AllArrive h olds news → next_of olds h ≡ None → (i m : ℕ) → next_of news h' ≡ Some i → slice_get news i ≡ Some (Some m) → h ≤ m
