-- Arguments joined into one text (expr(n), eval(n), concat(n)).
use Rattle.std.specs.Prelude.{ℕ, Bool, ◌&&◌, nat_lt, List, [], ◌∷◌, ◌++◌, length, take, ◌+◌, ◌-◌, ◌==◌, slice_index, Err, if◌then◌else◌}
use Rattle.tcl_words.specs.Bytes as ascii
use Rattle.tcl_words.specs.Lists.{is_empty}
use Rattle.tcl_results.specs.Texts.{wrong_args}
use Rattle.tcl_results.specs.Said.{Said, limited}
use Rattle.tcl_results.specs.White.{trimmed_front, trimmed_end}

abbrev pub spaced : List ℕ → List ℕ → List ℕ
spaced text word = text ++ ascii.space ∷ word

-- A text, followed by words, each after a space.
abbrev pub joined_to : List ℕ → List (List ℕ) → List ℕ
joined_to text [] = text
joined_to text (w ∷ ws) = joined_to (spaced text w) ws

abbrev pub joined : List (List ℕ) → List ℕ
joined [] = []
joined (w ∷ ws) = joined_to w ws

-- The text that `expr word ..` evaluates.
abbrev pub expr_text : List ℕ → List (List ℕ) → Said (List ℕ)
expr_text command [] = Err (wrong_args command)
expr_text command (w ∷ ws) = limited (joined (w ∷ ws))

abbrev pub ends_with_backslash : List ℕ → Bool
ends_with_backslash text = nat_lt 0 (length text) && slice_index text (length text - 1) == ascii.backslash

-- If white space after a backslash was trimmed, its first byte stays.
abbrev pub kept_end : List ℕ → List ℕ → List ℕ
kept_end text front =
    if ends_with_backslash front && nat_lt (length front) (length text) then take (length front + 1) text else front

-- A word without the white space at its ends.
abbrev pub pruned : List ℕ → List ℕ
pruned word = kept_end (trimmed_front word) (trimmed_end (trimmed_front word))

-- The pruned words that aren't empty.
abbrev pub full : List (List ℕ) → List (List ℕ)
full [] = []
full (w ∷ ws) = if is_empty (pruned w) then full ws else pruned w ∷ full ws

-- A text, followed by a word, with a space between them if neither is empty.
abbrev pub with_word : List ℕ → List ℕ → List ℕ
with_word text word = if is_empty word then text else if is_empty text then word else spaced text word

-- concat ?arg arg ...?
abbrev pub concat : List (List ℕ) → Said (List ℕ)
concat args = limited (joined (full args))

-- The script that `eval word ..` evaluates.
abbrev pub eval_text : List ℕ → List (List ℕ) → Said (List ℕ)
eval_text command [] = Err (wrong_args command)
eval_text command (w ∷ ws) = limited (joined (full (w ∷ ws)))
