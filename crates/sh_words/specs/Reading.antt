-- How the shell reads commands (POSIX, XCU 2.2 and 2.3) that are made of bytes of names, single quotes, backslashes,
-- blanks and `;`. Other bytes have a meaning of their own outside of quotes, and are not read here.
use Rattle.std.specs.Prelude.{ℕ, Bool, false, not, ◌&&◌, ◌||◌, List, [], ◌∷◌, Option, Some, None, option_map, ◌==◌, if◌then◌else◌}
use Rattle.std.specs.List.{list_all}
use Rattle.std.specs.Char.{is_ascii_alphanumeric, is_ascii_digit}
use Rattle.tcl_words.specs.Bytes as ascii
use Rattle.sh_words.specs.Quoting.{single_quote}

-- A byte of a name (POSIX, XBD, "Name").
abbrev pub is_name_byte : ℕ → Bool
is_name_byte b = is_ascii_alphanumeric b || b == ascii.underscore

-- A name: a letter or `_`, and then letters, digits and `_`.
abbrev pub is_name : List ℕ → Bool
is_name [] = false
is_name (b ∷ bytes) = not (is_ascii_digit b) && list_all is_name_byte (b ∷ bytes)

-- Blanks separate words.
abbrev pub is_blank : ℕ → Bool
is_blank b = b == ascii.space || b == ascii.tab

-- Where a byte stands: before the first word of a command, after a word of it, or in a word outside of quotes, within
-- single quotes or after a backslash.
pub data Place : Type 0 where
  before after outside within escaped : Place

-- Commands, each a list of words, or `None` for a text that is not read here. A reading that begins in a command has the
-- rest of that command first. One that begins in a word has the rest of that word first.
abbrev pub Commands : Type 0
Commands = Option (List (List (List ℕ)))

abbrev pub on_first : {A : Type 0} → (A → A) → List A → List A
on_first f [] = []
on_first f (x ∷ xs) = f x ∷ xs

-- The byte belongs to the word.
abbrev pub with_byte : ℕ → Commands → Commands
with_byte b = option_map (on_first (on_first (λ word. b ∷ word)))

-- The word ends.
abbrev pub word_ends : Commands → Commands
word_ends = option_map (on_first (λ words. [] ∷ words))

-- The command ends.
abbrev pub command_ends : Commands → Commands
command_ends = option_map (λ commands. [] ∷ commands)

-- A byte that begins or continues a word. `on place` is the reading of the bytes after it.
abbrev pub in_word : (Place → Commands) → ℕ → Commands
in_word on b =
    if b == single_quote then on within
    else (if b == ascii.backslash then on escaped
    else (if is_name_byte b then with_byte b (on outside)
    else None))

-- A byte at a place. A newline after a backslash is no part of a word, and not read here.
abbrev pub step : (Place → Commands) → ℕ → Place → Commands
step on b before = if is_blank b then on before else in_word on b
step on b after =
    if is_blank b then on after
    else (if b == ascii.semicolon then command_ends (on before)
    else in_word on b)
step on b outside =
    if is_blank b then word_ends (on after)
    else (if b == ascii.semicolon then word_ends (command_ends (on before))
    else in_word on b)
step on b within = if b == single_quote then on outside else with_byte b (on within)
step on b escaped = if b == ascii.newline then None else with_byte b (on outside)

-- The text ends at a place. Quotes must be closed.
abbrev pub at_end : Place → Commands
at_end before = Some []
at_end after = Some ([] ∷ [])
at_end outside = Some (([] ∷ []) ∷ [])
at_end within = None
at_end escaped = None

unfoldable pub reading : List ℕ → Place → Commands
reading [] place = at_end place
reading (b ∷ bytes) place = step (reading bytes) b place

-- The commands of a text.
abbrev pub sh_commands : List ℕ → Commands
sh_commands text = reading text before

-- The words of a text that is at most one command.
abbrev pub words_in : Commands → Option (List (List ℕ))
words_in None = None
words_in (Some []) = Some []
words_in (Some (words ∷ [])) = Some words
words_in (Some (words ∷ command ∷ commands)) = None

abbrev pub sh_words : List ℕ → Option (List (List ℕ))
sh_words text = words_in (sh_commands text)
