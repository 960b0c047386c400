-- Typed bytes as lines (POSIX.1-2017, XBD 11.1.6). An NL or an EOF ends a line.
use Rattle.std.specs.Prelude.{ℕ, List, [], ◌∷◌, if◌then◌else◌}
use Rattle.tty.specs.Editing.{ends_line, edited}

-- Lines, each with the byte that ends it, and the bytes after the last line.
pub data Segments : Type 0 where
  rest : List ℕ → Segments
  line : List ℕ → ℕ → Segments → Segments

abbrev pub in_front : ℕ → Segments → Segments
in_front b (rest t) = rest (b ∷ t)
in_front b (line t d s) = line (b ∷ t) d s

abbrev pub segments : List ℕ → Segments
segments [] = rest []
segments (b ∷ bs) = if ends_line b then line [] b (segments bs) else in_front b (segments bs)

-- The bytes of the unfinished line.
abbrev pub rest_of : Segments → List ℕ
rest_of (rest t) = t
rest_of (line t d s) = rest_of s

-- The text of the unfinished line.
abbrev pub open_text : List ℕ → List ℕ
open_text bytes = edited (rest_of (segments bytes))
