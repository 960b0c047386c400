-- Lines and the bytes that edit them (POSIX.1-2017, XBD 11.1.9). ERASE is 7F, KILL is 15, NL is 0A, EOF is 04 and CR is
-- 0D.
use Rattle.std.specs.Prelude.{ℕ, zero, suc, ◌==◌, List, [], ◌∷◌, Bool, true, false, ◌||◌, if◌then◌else◌}
use Rattle.std.specs.List.{list_any}
use Rattle.tcl_words.specs.Bytes as ascii

abbrev pub is_empty : List ℕ → Bool
is_empty [] = true
is_empty (b ∷ bs) = false

abbrev pub ends_line : ℕ → Bool
ends_line b = b == ascii.newline || b == ascii.end_of_file

-- The line after its last KILL.
abbrev pub behind_kill : List ℕ → List ℕ
behind_kill [] = []
behind_kill (b ∷ bs) =
    if list_any (λ c. c == ascii.kill) bs then behind_kill bs
    else (if b == ascii.kill then bs else b ∷ bs)

-- The text without the first ERASE and the byte before it, if there is one.
abbrev pub without_first_erase : List ℕ → List ℕ
without_first_erase [] = []
without_first_erase (a ∷ []) = if a == ascii.delete then [] else a ∷ []
without_first_erase (a ∷ b ∷ bs) =
    if a == ascii.delete then b ∷ bs
    else (if b == ascii.delete then bs else a ∷ without_first_erase (b ∷ bs))

abbrev pub erase_count : List ℕ → ℕ
erase_count [] = 0
erase_count (b ∷ bs) = if b == ascii.delete then suc (erase_count bs) else erase_count bs

abbrev pub times : ℕ → (List ℕ → List ℕ) → List ℕ → List ℕ
times zero f t = t
times (suc n) f t = times n f (f t)

-- The text after each ERASE, from left to right, has removed the byte before it.
abbrev pub erased : List ℕ → List ℕ
erased t = times (erase_count t) without_first_erase t

-- The text that the bytes of a line stand for.
abbrev pub edited : List ℕ → List ℕ
edited t = erased (behind_kill t)
