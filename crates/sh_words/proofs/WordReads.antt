-- The shell reads quoted words back as they were.
use Rattle.std.proofs.Common.{◌≡◌, ◌∙◌, ℕ, List, [], ◌∷◌, ◌++◌, refl, sym, ap, subst, append_assoc, append-nil, inl, inr}
use Rattle.std.proofs.lemmas.Bool.Decides.{eqb_tells}
use Rattle.std.specs.Prelude.{Some}
use Rattle.std.specs.List.{flat_map}
use Rattle.sh_words.specs.Quoting.{single_quote, quoted_byte, quote, spaced, quoted_words}
use Rattle.sh_words.specs.Reading.{before, after, outside, within, Commands, with_byte, word_ends, words_in, reading, sh_words}

-- Bytes of the word.
abbrev pub with_bytes : List ℕ → Commands → Commands
with_bytes [] read = read
with_bytes (b ∷ bytes) read = with_byte b (with_bytes bytes read)

pub with_bytes-Some : (bytes word : List ℕ) (words : List (List ℕ)) (commands : List (List (List ℕ))) → with_bytes bytes (Some ((word ∷ words) ∷ commands)) ≡ Some (((bytes ++ word) ∷ words) ∷ commands)
with_bytes-Some [] word words commands = refl
with_bytes-Some (b ∷ bytes) word words commands = ap (with_byte b) (with_bytes-Some bytes word words commands)

-- A byte within single quotes is read as itself.
quoted_byte_read : (b : ℕ) (rest : List ℕ) → reading (quoted_byte b ++ rest) within ≡ with_byte b (reading rest within)
unfolding reading
quoted_byte_read b rest =
    elim (eqb_tells b single_quote) [
      | inl is ↦ subst (λ x. reading (quoted_byte x ++ rest) within ≡ with_byte x (reading rest within)) (sym is.1) refl
      | inr is_not ↦ simp is_not.0
    ]

within_read : (word rest : List ℕ) → reading (flat_map quoted_byte word ++ single_quote ∷ rest) within ≡ with_bytes word (reading rest outside)
unfolding reading
within_read [] rest = refl
within_read (b ∷ word) rest =
    ap (λ s. reading s within) (append_assoc (quoted_byte b) (flat_map quoted_byte word) (single_quote ∷ rest))
    ∙ quoted_byte_read b (flat_map quoted_byte word ++ single_quote ∷ rest)
    ∙ ap (with_byte b) (within_read word rest)

pub quote_first : (word rest : List ℕ) → reading (quote word ++ rest) before ≡ with_bytes word (reading rest outside)
unfolding reading
quote_first word rest = ap (λ s. reading s within) (append_assoc (flat_map quoted_byte word) (single_quote ∷ []) rest) ∙ within_read word rest

pub quote_after : (word rest : List ℕ) → reading (quote word ++ rest) after ≡ with_bytes word (reading rest outside)
unfolding reading
quote_after word rest = ap (λ s. reading s within) (append_assoc (flat_map quoted_byte word) (single_quote ∷ []) rest) ∙ within_read word rest

-- A command ends where this text begins.
pub record Ends (rest : List ℕ) (commands : List (List (List ℕ))) : Type 0 where
  pub in_word : reading rest outside ≡ Some (([] ∷ []) ∷ commands)
  pub between_words : reading rest after ≡ Some ([] ∷ commands)

pub text_ends : Ends [] []
unfolding reading
text_ends = record { in_word = refl; between_words = refl }

-- A word, once what follows it is read.
read_with : (word rest : List ℕ) (words : List (List ℕ)) (commands : List (List (List ℕ))) → reading rest outside ≡ Some (([] ∷ words) ∷ commands) → with_bytes word (reading rest outside) ≡ Some ((word ∷ words) ∷ commands)
read_with word rest words commands read =
    ap (with_bytes word) read ∙ with_bytes-Some word [] words commands ∙ ap (λ w. Some ((w ∷ words) ∷ commands)) (append-nil word)

pub spaced_read : (words : List (List ℕ)) (rest : List ℕ) (commands : List (List (List ℕ))) → Ends rest commands → reading (spaced words ++ rest) outside ≡ Some (([] ∷ words) ∷ commands)
unfolding reading
spaced_read [] rest commands ends = ends.in_word
spaced_read (word ∷ words) rest commands ends =
    ap (λ s. word_ends (reading s after)) (append_assoc (quote word) (spaced words) rest)
    ∙ ap word_ends (quote_after word (spaced words ++ rest) ∙ read_with word (spaced words ++ rest) words commands (spaced_read words rest commands ends))

pub words_read : (words : List (List ℕ)) (rest : List ℕ) (commands : List (List (List ℕ))) → Ends rest commands → reading (quoted_words words ++ rest) after ≡ Some (words ∷ commands)
words_read [] rest commands ends = ends.between_words
words_read (word ∷ words) rest commands ends =
    ap (λ s. reading s after) (append_assoc (quote word) (spaced words) rest)
    ∙ quote_after word (spaced words ++ rest)
    ∙ read_with word (spaced words ++ rest) words commands (spaced_read words rest commands ends)

-- Words that end with the text.
spaced_last : (words : List (List ℕ)) → reading (spaced words) outside ≡ Some (([] ∷ words) ∷ [])
spaced_last words = ap (λ s. reading s outside) (sym (append-nil (spaced words))) ∙ spaced_read words [] [] text_ends

pub words_last : (words : List (List ℕ)) → reading (quoted_words words) after ≡ Some (words ∷ [])
words_last words = ap (λ s. reading s after) (sym (append-nil (quoted_words words))) ∙ words_read words [] [] text_ends

pub words_alone : (words : List (List ℕ)) → sh_words (quoted_words words) ≡ Some words
unfolding reading
words_alone [] = refl
words_alone (word ∷ words) = ap words_in (quote_first word (spaced words) ∙ read_with word (spaced words) words [] (spaced_last words))

pub quote_alone : (word : List ℕ) → sh_words (quote word) ≡ Some (word ∷ [])
quote_alone word = ap sh_words (sym (append-nil (quote word))) ∙ words_alone (word ∷ [])
