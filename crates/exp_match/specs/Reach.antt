-- The number of bytes that decide whether a match of a regular pattern begins at an index. It exists if there is a
-- bound and the bytes before the index don't matter.
use Rattle.std.specs.Prelude.{◌≡◌, ℕ, ◌+◌, Bool, true, false, ◌&&◌, ◌||◌, if◌then◌else◌, max, length, Option, Some, None, IfSome, IsSomeAnd}
use Rattle.regex.specs.Patterns.{Re, empty, literal, byte_in, char_in, look, cat, alt, group, plus, Look, End, SameCaptures}
use Rattle.exp_match.specs.Written.{Written, reading}
use Rattle.exp_match.specs.declared.reach.Extent.{Extent}

-- Combines two numbers if both are present.
abbrev pub of_both : (ℕ → ℕ → ℕ) → Option ℕ → Option ℕ → Option ℕ
of_both f (Some m) (Some n) = Some (f m n)
of_both f _ _ = None

-- The reach of an assertion. Only the end of the bytes doesn't depend on earlier bytes.
abbrev pub look_reach : Look → Option ℕ
look_reach End = Some 0
look_reach _ = None

-- The most bytes that a match takes. A character is at most four bytes. A loop has no reach, and neither has a part
-- that may depend on earlier bytes.
abbrev pub reach : Re → Option ℕ
reach empty = Some 0
reach (literal bytes) = Some (length bytes)
reach (byte_in ranges) = Some 1
reach (char_in ranges) = Some 4
reach (look l) = look_reach l
reach (cat a b) = of_both (λ m n. m + n) (reach a) (reach b)
reach (alt a b) = of_both max (reach a) (reach b)
reach (group n a) = reach a
reach (plus greedy a) = None

-- The pattern matches the empty text at every index.
abbrev pub is_nullable : Re → Bool
is_nullable empty = true
is_nullable (cat a b) = is_nullable a && is_nullable b
is_nullable (alt a b) = is_nullable a || is_nullable b
is_nullable (group n a) = is_nullable a
is_nullable (plus greedy a) = is_nullable a
is_nullable re = false

-- A pattern whose matches begin at the same indices and end sooner. An end that may be empty is left out, and a loop at
-- the end runs once.
abbrev pub beginning : Re → Re
beginning (cat a b) = if is_nullable b then beginning a else cat a (beginning b)
beginning (alt a b) = alt (beginning a) (beginning b)
beginning (group n a) = beginning a
beginning (plus greedy a) = beginning a
beginning re = re

-- The known reach of a pattern, or `None`.
abbrev pub IsReach : Option ℕ → Re → Type 0
IsReach known re = IfSome known (λ m. reach re ≡ Some m)

-- What is known of a pattern.
pub record IsExtent (e : Extent) (re : Re) : Type 0 where
  pub nullable : e.is_nullable ≡ is_nullable re
  pub whole : IsReach e.reach re
  pub begins : IsReach e.opening (beginning re)

-- The pattern finds the same matches as one whose beginning reaches m bytes.
abbrev pub HasOpening : ℕ → Re → Type 0
HasOpening m a = (re : Re) × SameCaptures re a × (reach (beginning re) ≡ Some m)

-- m bytes decide whether a match of the pattern with this text begins.
abbrev pub Opens : Written → ℕ → Type 0
Opens w m = IsSomeAnd (reading w) (λ p. HasOpening m p.0.value)

-- Some number of bytes decides it.
abbrev pub IsBounded : Written → Type 0
IsBounded w = (m : ℕ) × Opens w m
