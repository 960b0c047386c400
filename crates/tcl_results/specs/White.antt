-- White space at the ends of a text.
use Rattle.std.specs.Prelude.{ℕ, List, length, drop, take, ◌-◌, reverse}
use Rattle.std.specs.List.{prefix_len}
use Rattle.tcl_words.specs.Lists.{is_white}

-- A text without the white space at its front.
abbrev pub trimmed_front : List ℕ → List ℕ
trimmed_front text = drop (prefix_len is_white text) text

-- A text without the white space at its end.
abbrev pub trimmed_end : List ℕ → List ℕ
trimmed_end text = take (length text - prefix_len is_white (reverse text)) text
