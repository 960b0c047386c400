-- A line while bytes are sent to it.
use Rattle.std.specs.Prelude.{ℕ, List}

-- The text before the send, and the text now.
pub record Drafted : Type 0 where
  pub before : List ℕ
  pub text : List ℕ
