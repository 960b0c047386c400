-- Words, separated by blanks.
use Rattle.std.specs.Prelude.{ℕ, List, [], ◌∷◌, Bool, ◌==◌, ◌||◌, if◌then◌else◌}
use Rattle.tcl_words.specs.Bytes as ascii

abbrev pub is_blank : ℕ → Bool
is_blank b = b == ascii.space || b == ascii.tab

-- The bytes after the leading blanks.
abbrev pub after_blanks : List ℕ → List ℕ
after_blanks [] = []
after_blanks (b ∷ bs) = if is_blank b then after_blanks bs else b ∷ bs

-- The bytes before the first blank.
abbrev pub first_word : List ℕ → List ℕ
first_word [] = []
first_word (b ∷ bs) = if is_blank b then [] else b ∷ first_word bs

-- The bytes from the first blank on.
abbrev pub past_word : List ℕ → List ℕ
past_word [] = []
past_word (b ∷ bs) = if is_blank b then b ∷ bs else past_word bs

-- The words after the first one.
abbrev pub behind_word : List ℕ → List ℕ
behind_word bs = after_blanks (past_word bs)
