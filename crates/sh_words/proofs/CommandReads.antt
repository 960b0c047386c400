-- The shell reads the commands for a terminal as what they are to do.
use Rattle.std.proofs.Common.{◌≡◌, ◌∙◌, ℕ, true, false, eqb, List, [], ◌∷◌, ◌++◌, refl, sym, ap, append_assoc, append-nil, inl, inr}
use Rattle.std.proofs.lemmas.Bool.{true≢false, and_parts}
use Rattle.std.proofs.lemmas.Bool.Decides.{eqb_tells}
use Rattle.std.specs.Prelude.{Some, codes}
use Rattle.std.specs.List.{list_all}
use Rattle.sh_words.specs.declared.changes.EnvironmentChange.{EnvironmentChange}
use Rattle.sh_words.specs.declared.changes.EnvironmentChange.TheVariants.{Removed, Set}
use Rattle.sh_words.specs.Quoting.{quote, quoted_words}
use Rattle.sh_words.specs.Reading.{before, after, outside, with_byte, word_ends, command_ends, is_name_byte, is_name, reading, sh_commands}
use Rattle.sh_words.specs.Changes.{assignment, change_text, changes_text, change_command, change_commands, AreNamed}
use Rattle.sh_words.specs.Terminal.{Words, settings_text, settings_commands, command_text, commands}
use Rattle.sh_words.proofs.WordReads.{with_bytes, with_bytes-Some, Ends, words_read, words_last}

not_this : (b c : ℕ) → is_name_byte b ≡ true → is_name_byte c ≡ false → eqb b c ≡ false
not_this b c named other =
    elim (eqb_tells b c) [ inl same ↦ absurd (true≢false (sym named ∙ ap is_name_byte same.1 ∙ other)) | inr differ ↦ differ.0 ]

-- A byte of a name is read as itself.
name_byte_outside : (b : ℕ) (rest : List ℕ) → is_name_byte b ≡ true → reading (b ∷ rest) outside ≡ with_byte b (reading rest outside)
unfolding reading
name_byte_outside b rest named =
    simp (not_this b 32 named refl, not_this b 9 named refl, not_this b 59 named refl, not_this b 39 named refl, not_this b 92 named refl, named)

name_byte_after : (b : ℕ) (rest : List ℕ) → is_name_byte b ≡ true → reading (b ∷ rest) after ≡ with_byte b (reading rest outside)
unfolding reading
name_byte_after b rest named =
    simp (not_this b 32 named refl, not_this b 9 named refl, not_this b 59 named refl, not_this b 39 named refl, not_this b 92 named refl, named)

name_byte_before : (b : ℕ) (rest : List ℕ) → is_name_byte b ≡ true → reading (b ∷ rest) before ≡ with_byte b (reading rest outside)
unfolding reading
name_byte_before b rest named =
    simp (not_this b 32 named refl, not_this b 9 named refl, not_this b 39 named refl, not_this b 92 named refl, named)

name_outside : (bytes rest : List ℕ) → list_all is_name_byte bytes ≡ true → reading (bytes ++ rest) outside ≡ with_bytes bytes (reading rest outside)
name_outside [] rest named = refl
name_outside (b ∷ bytes) rest named =
    let parts = and_parts (is_name_byte b) (list_all is_name_byte bytes) named in
    name_byte_outside b (bytes ++ rest) parts.0 ∙ ap (with_byte b) (name_outside bytes rest parts.1)

-- A blank ends a word.
blank_ends : (rest : List ℕ) → reading (32 ∷ rest) outside ≡ word_ends (reading rest after)
unfolding reading
blank_ends rest = refl

-- The first word of a command, in bytes of names, and the words after it.
command_read : (b : ℕ) (bytes rest : List ℕ) (words : Words) (commands : List Words) → list_all is_name_byte (b ∷ bytes) ≡ true → reading rest after ≡ Some (words ∷ commands)
    → reading ((b ∷ bytes) ++ 32 ∷ rest) before ≡ Some (((b ∷ bytes) ∷ words) ∷ commands)
command_read b bytes rest words commands named read =
    let parts = and_parts (is_name_byte b) (list_all is_name_byte bytes) named in
    name_byte_before b (bytes ++ 32 ∷ rest) parts.0
    ∙ ap (with_byte b) (name_outside bytes (32 ∷ rest) parts.1 ∙ ap (with_bytes bytes) (blank_ends rest ∙ ap word_ends read))
    ∙ with_bytes-Some (b ∷ bytes) [] words commands
    ∙ ap (λ w. Some ((w ∷ words) ∷ commands)) (append-nil (b ∷ bytes))

-- A `;` and a blank end a command.
command_over : (rest : List ℕ) (commands : List Words) → reading rest before ≡ Some commands → Ends (59 ∷ 32 ∷ rest) commands
unfolding reading
command_over rest commands read = record { in_word = ap (λ r. word_ends (command_ends r)) read; between_words = ap command_ends read }

-- A name, as the last word of a command.
name_read : (name rest : List ℕ) (commands : List Words) → is_name name ≡ true → Ends rest commands → reading (name ++ rest) after ≡ Some ((name ∷ []) ∷ commands)
name_read [] rest commands named ends = absurd (true≢false (sym named))
name_read (b ∷ bytes) rest commands named ends =
    let all = (and_parts _ (list_all is_name_byte (b ∷ bytes)) named).1 in
    let parts = and_parts (is_name_byte b) (list_all is_name_byte bytes) all in
    name_byte_after b (bytes ++ rest) parts.0
    ∙ ap (with_byte b) (name_outside bytes rest parts.1)
    ∙ ap (with_bytes (b ∷ bytes)) ends.in_word
    ∙ with_bytes-Some (b ∷ bytes) [] [] commands
    ∙ ap (λ w. Some ((w ∷ []) ∷ commands)) (append-nil (b ∷ bytes))

removed_read : (name rest : List ℕ) (commands : List Words) → is_name name ≡ true → reading rest before ≡ Some commands
    → reading (change_text (Removed name) ++ rest) before ≡ Some (change_command (Removed name) ∷ commands)
removed_read name rest commands named read =
    command_read 117 (codes "nset") ((name ++ codes "; ") ++ rest) (name ∷ []) commands refl (
    ap (λ s. reading s after) (append_assoc name (codes "; ") rest) ∙ name_read name (codes "; " ++ rest) commands named (command_over rest commands read)
    )

set_read : (name value rest : List ℕ) (commands : List Words) → reading rest before ≡ Some commands
    → reading (change_text (Set name value) ++ rest) before ≡ Some (change_command (Set name value) ∷ commands)
set_read name value rest commands read =
    let word = assignment name value in
    command_read 101 (codes "xport") ((quote word ++ codes "; ") ++ rest) (word ∷ []) commands refl (
    ap (λ s. reading s after) (append_assoc (quote word) (codes "; ") rest ∙ ap (λ q. q ++ (codes "; " ++ rest)) (sym (append-nil (quote word))))
    ∙ words_read (word ∷ []) (codes "; " ++ rest) commands (command_over rest commands read)
    )

changes_before : (changes : List EnvironmentChange) (rest : List ℕ) (commands : List Words) → AreNamed changes → reading rest before ≡ Some commands
    → reading (changes_text changes ++ rest) before ≡ Some (change_commands changes ++ commands)
changes_before [] rest commands named read = read
changes_before (Removed name ∷ changes) rest commands named read =
    ap (λ s. reading s before) (append_assoc (change_text (Removed name)) (changes_text changes) rest)
    ∙ removed_read name (changes_text changes ++ rest) (change_commands changes ++ commands) named.0 (changes_before changes rest commands named.1 read)
changes_before (Set name value ∷ changes) rest commands named read =
    ap (λ s. reading s before) (append_assoc (change_text (Set name value)) (changes_text changes) rest)
    ∙ set_read name value (changes_text changes ++ rest) (change_commands changes ++ commands) (changes_before changes rest commands named read)

-- Nothing is a text without commands.
nothing_read : reading [] before ≡ Some []
unfolding reading
nothing_read = refl

pub changes_read : (changes : List EnvironmentChange) → AreNamed changes → sh_commands (changes_text changes) ≡ Some (change_commands changes)
changes_read changes named =
    ap sh_commands (sym (append-nil (changes_text changes)))
    ∙ changes_before changes [] [] named nothing_read
    ∙ ap (λ commands. Some commands) (append-nil (change_commands changes))

settings_before : (settings : Words) (rest : List ℕ) (commands : List Words) → reading rest before ≡ Some commands
    → reading (settings_text settings ++ rest) before ≡ Some (settings_commands settings ++ commands)
settings_before [] rest commands read = read
settings_before (setting ∷ settings) rest commands read =
    command_read 115 (codes "tty") ((quoted_words (setting ∷ settings) ++ codes "; ") ++ rest) (setting ∷ settings) commands refl (
    ap (λ s. reading s after) (append_assoc (quoted_words (setting ∷ settings)) (codes "; ") rest)
    ∙ words_read (setting ∷ settings) (codes "; " ++ rest) commands (command_over rest commands read)
    )

exec_read : (words : Words) → reading (codes "exec " ++ quoted_words words) before ≡ Some ((codes "exec" ∷ words) ∷ [])
exec_read words = command_read 101 (codes "xec") (quoted_words words) words [] refl (words_last words)

pub command_text_read : (words settings : Words) (changes : List EnvironmentChange) → AreNamed changes → sh_commands (command_text words settings changes) ≡ Some (commands words settings changes)
command_text_read words settings changes named =
    ap sh_commands (
    append_assoc (settings_text settings ++ changes_text changes) (codes "exec ") (quoted_words words)
    ∙ append_assoc (settings_text settings) (changes_text changes) (codes "exec " ++ quoted_words words)
    )
    ∙ settings_before settings (changes_text changes ++ (codes "exec " ++ quoted_words words)) (change_commands changes ++ (codes "exec" ∷ words) ∷ []) (
    changes_before changes (codes "exec " ++ quoted_words words) ((codes "exec" ∷ words) ∷ []) named (exec_read words)
    )
    ∙ ap (λ read. Some read) (sym (append_assoc (settings_commands settings) (change_commands changes) ((codes "exec" ∷ words) ∷ [])))
