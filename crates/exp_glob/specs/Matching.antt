-- What the elements of a pattern match.
use Rattle.std.specs.Prelude.{◌≡◌, ℕ, zero, suc, ◌+◌, ◌<◌, ◌≤◌, nat_le, Bool, true, false, ◌&&◌, ◌||◌, ◌==◌, if◌then◌else◌, List, [], ◌∷◌, length, slice_index}
use Rattle.std.specs.Char.{to_ascii_lowercase, to_ascii_uppercase}
use Rattle.tcl_words.specs.Bytes as ascii
use Rattle.exp_glob.specs.declared.element.Element.{Element}
use Rattle.exp_glob.specs.declared.element.Element.TheVariants.{Star, One, End}
use Rattle.exp_glob.specs.declared.element.Single.{Single}
use Rattle.exp_glob.specs.declared.element.Single.TheVariants.{Any, Byte, Class}

-- The byte c is between the two bytes, in either order.
abbrev pub in_range : ℕ → ℕ → ℕ → Bool
in_range one other c = (nat_le one c && nat_le c other) || (nat_le other c && nat_le c one)

-- The other end of the range that begins with a member, and the number of later bytes that belong to it. Without a `-`
-- and a byte after it, the range is the member alone.
abbrev pub range_after : ℕ → List ℕ → ℕ × ℕ
range_after member [] = (member, 0)
range_after member (dash ∷ []) = (member, 0)
range_after member (dash ∷ end ∷ rest) = if dash == ascii.minus then (end, 2) else (member, 0)

-- The byte c is in one of the ranges that begin at index k or later.
abbrev pub has_from : List ℕ → ℕ → ℕ → Bool
has_from [] k c = false
has_from (member ∷ rest) zero c = in_range member (range_after member rest).0 c || has_from rest (range_after member rest).1 c
has_from (member ∷ rest) (suc k) c = has_from rest k c

abbrev pub class_has : List ℕ → ℕ → Bool
class_has members c = has_from members 0 c

-- The element matches the byte. Without case, a class matches a byte if it contains either case of it.
abbrev pub takes : Bool → Single → ℕ → Bool
takes nocase Any c = true
takes nocase (Byte b) c = if nocase then to_ascii_lowercase c == to_ascii_lowercase b else c == b
takes nocase (Class members) c =
    if nocase then class_has members (to_ascii_lowercase c) || class_has members (to_ascii_uppercase c)
    else class_has members c

-- The elements match s from a to b.
abbrev pub Spans : Bool → List Element → List ℕ → ℕ → ℕ → Type 0
Spans nocase [] s a b = a ≡ b
Spans nocase (Star ∷ es) s a b = (k : ℕ) × (a ≤ k) × (k ≤ length s) × Spans nocase es s k b
Spans nocase (One single ∷ es) s a b = (a < length s) × (takes nocase single (slice_index s a) ≡ true) × Spans nocase es s (a + 1) b
Spans nocase (End ∷ es) s a b = (a ≡ length s) × Spans nocase es s a b
