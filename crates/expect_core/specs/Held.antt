-- The match buffer of a child.
use Rattle.std.specs.Prelude.{ℕ, List}

-- Its bytes, and the number of last bytes that stay after a test without a match.
pub record Held : Type 0 where
  pub bytes : List ℕ
  pub size : ℕ
