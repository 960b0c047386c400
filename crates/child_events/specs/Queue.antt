-- The items that a script takes from one child: output of the child and the echo of input sent to it, in order. A
-- terminal puts the echo of its input among the output (POSIX.1-2017, XBD 11.1.7 and 11.2.5).
use Rattle.std.specs.Prelude.{ℕ, zero, suc, ◌+◌, ◌/◌, ◌≤◌, nat_le, max, List, [], ◌∷◌, ◌++◌, map, take, drop, length, Bool, true, false, if◌then◌else◌, Option, Some, None, ⊤}
use Rattle.std.specs.Borrow.{Bor}
use Rattle.child_events.specs.declared.event.Item.{Item}
use Rattle.child_events.specs.declared.event.Item.TheVariants as item
use Rattle.child_events.specs.declared.slot.Slot.{Slot}

-- An item with its moment. `echoed` is true if the item is an echo.
pub record Queued : Type 0 where
  pub moment : ℕ
  pub item : Item
  pub echoed : Bool

abbrev pub came : ℕ × Item → Queued
came x = record { moment = x.0; item = x.1; echoed = false }

abbrev pub echo : ℕ × Item → Queued
echo x = record { moment = x.0; item = x.1; echoed = true }

-- The moment and the item, without the mark.
abbrev pub stamped : Queued → ℕ × Item
stamped q = (q.moment, q.item)

-- The first item with its moment, or `None` if the queue is empty.
abbrev pub first : List Queued → Option (ℕ × Item)
first [] = None
first (q ∷ qs) = Some (stamped q)

-- An item as a value, without its reference.
abbrev pub item_view : Option (ℕ × Bor Item) → Option (ℕ × Item)
item_view None = None
item_view (Some found) = Some (found.0, found.1.now)

-- The moment of the child's last item, or m if the child has none.
abbrev pub last_moment : ℕ → List Queued → ℕ
last_moment m [] = m
last_moment m (q ∷ qs) = last_moment (if q.echoed then m else q.moment) qs

-- Appends an item of the child. Its moment is raised to that of the child's previous item.
abbrev pub pushed : ℕ → Item → List Queued → List Queued
pushed m i qs = qs ++ came (max (last_moment 0 qs) m, i) ∷ []

-- Inserts an echo before the child's first item of moment t or later, or at the end.
abbrev pub put : ℕ → List Queued → List Queued → List Queued
put t xs [] = xs
put t xs (q ∷ qs) = if q.echoed then q ∷ put t xs qs else if nat_le t q.moment then xs ++ q ∷ qs else q ∷ put t xs qs

-- The bytes in pieces of n bytes. The last piece holds the rest.
abbrev pub cut_into : ℕ → List ℕ → ℕ → List (List ℕ)
cut_into n bytes zero = []
cut_into n bytes (suc k) = take n bytes ∷ cut_into n (drop n bytes) k

abbrev pub pieces : List ℕ → List (List ℕ)
pieces bytes = cut_into 4096 bytes ((length bytes + 4095) / 4096)

abbrev pub echoes : ℕ → List ℕ → List (ℕ × Item)
echoes t bytes = map (λ p. (t, item.Out p)) (pieces bytes)

abbrev pub with_echo : ℕ → List ℕ → List Queued → List Queued
with_echo t bytes qs = put t (map echo (echoes t bytes)) qs

-- The number of items that came from the child.
abbrev pub how_many_came : List Queued → ℕ
how_many_came [] = 0
how_many_came (q ∷ qs) = if q.echoed then how_many_came qs else suc (how_many_came qs)

-- The items of the child, each with the echoes before it, as one list.
abbrev pub joined : List Slot → List Queued
joined [] = []
joined (s ∷ ss) = map echo s.echoes.items ++ came (s.moment, s.item) ∷ joined ss

-- The moments don't decrease, and none is below m.
abbrev pub Rises : ℕ → List Slot → Type 0
Rises m [] = ⊤
Rises m (s ∷ ss) = (m ≤ s.moment) × Rises s.moment ss

-- The moment of the last item, or m if there is none.
abbrev pub latest : ℕ → List Slot → ℕ
latest m [] = m
latest m (s ∷ ss) = latest s.moment ss

-- The index of the first item of moment t or later, or the length.
abbrev pub place : ℕ → List Slot → ℕ
place t [] = 0
place t (s ∷ ss) = if nat_le t s.moment then 0 else suc (place t ss)
