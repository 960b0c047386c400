-- The storage of a short text.
use Rattle.std.specs.Prelude.{◌≡◌, ◌≤◌, ℕ, List, length, slice_index}

-- The storage has 16 bytes. The last one is the number of bytes used.
pub record IsRoom (bytes : List ℕ) : Type 0 where
  pub whole : length bytes ≡ 16
  pub within : slice_index bytes 15 ≤ 15
