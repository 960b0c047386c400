-- Bytes put behind a short text in its room.
use Rattle.std.proofs.Common.{◌≡◌, ℕ, ◌+◌, ◌-◌, ◌≤◌, List, ◌++◌, length, take, drop, slice_index, slice_set, sym, ap, subst, ◌∙◌, arith, length-append, length-take, length-drop, append_assoc}
use Rattle.std.proofs.lemmas.List.{get_or-set_same, take-set-le}
use Rattle.std.proofs.Math.Seq.{take-append_seam}
use Rattle.tcl_values.specs.Rooms.{IsRoom}

-- what is left of a room behind n bytes and m more
pub left_len : (room : List ℕ) (n m : ℕ) → length room ≡ 16 → length (drop (n + m - n) (drop n room)) ≡ 16 - (n + m)
left_len room n m whole = omega (arith, length-drop (n + m - n) (drop n room), length-drop n room, whole)

-- n bytes of a room, bytes put behind them, and what is left of the room
module _ (room put left : List ℕ) (n m : ℕ) (is : n ≡ slice_index room 15) (r : IsRoom room) (few : m ≤ 15 - n) (puts : length put ≡ m) (lefts : length left ≡ 16 - (n + m)) where
  abbrev front : List ℕ
  front = take n room ++ put

  abbrev whole : List ℕ
  whole = take n room ++ (put ++ left)

  n_few : n ≤ 15
  n_few = subst (λ (k : ℕ). k ≤ 15) (sym is) r.within

  taken : length (take n room) ≡ n
  taken = omega (arith, length-take n room, r.whole, n_few)

  front_len : length front ≡ n + m
  front_len = length-append (take n room) put ∙ (λ i. taken i + puts i)

  whole_is : whole ≡ front ++ left
  whole_is = sym (append_assoc (take n room) put left)

  whole_len : length whole ≡ 16
  whole_len = ap length whole_is ∙ length-append front left ∙ (λ i. front_len i + lefts i) ∙ omega (arith, few, n_few)

  last : slice_index (slice_set whole 15 (n + m)) 15 ≡ n + m
  last = get_or-set_same whole 15 (n + m) 0 (omega (arith, whole_len))

  pub put_is : take (slice_index (slice_set whole 15 (n + m)) 15) (slice_set whole 15 (n + m)) ≡ front
  put_is =
      ap (λ (k : ℕ). take k (slice_set whole 15 (n + m))) last
      ∙ take-set-le (n + m) whole 15 (n + m) (omega (arith, few, n_few))
      ∙ ap (take (n + m)) whole_is
      ∙ ap (λ (k : ℕ). take k (front ++ left)) (sym front_len)
      ∙ take-append_seam front left
