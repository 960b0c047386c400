-- The grammar of commands, as in Tcl(n), rule by rule. `X s v r` means that the bytes s begin with an X whose value is
-- v, and that r is the rest. `Bytes` of `tcl_words` names the bytes.
use Rattle.std.specs.Prelude.{◌≡◌, ◌≢◌, ℕ, suc, ◌+◌, ◌*◌, ◌<◌, ◌≤◌, Bool, true, false, not, ◌&&◌, ◌||◌, List, [], ◌∷◌, ◌++◌, length, drop, encode_utf8, Some, None, ◌==◌}
use Rattle.tcl_words.specs.Backslash.{digit, escaped}
use Rattle.tcl_words.specs.Lists.{begins_with}
use Rattle.tcl_words.specs.Pieces.{Pieces, no_pieces, piece, literal, variable, member, script, Spelled}
use Rattle.tcl_words.specs.Commands.{is_name_byte, Token, text_token, substitution, put_token}
use Rattle.tcl_words.specs.Bytes.{tab, newline, vertical_tab, form_feed, carriage_return, space, quote, hash, dollar, open_paren, close_paren, star, semicolon, open_bracket, backslash, close_bracket, letter_u, letter_x, open_brace, close_brace}

-- ---- Bytes

-- White space between words.
abbrev pub is_blank : ℕ → Bool
is_blank b = b == space || b == tab || b == vertical_tab || b == form_feed || b == carriage_return

-- The end of a command.
abbrev pub ends_command : ℕ → Bool
ends_command b = b == newline || b == semicolon

-- The end of a word: white space, a backslash before a newline, or the end of the command.
abbrev pub is_gap : ℕ → List ℕ → Bool
is_gap b s = is_blank b || ends_command b || (b == backslash && begins_with newline s)

-- Spaces and tabs, which belong to a backslash and a newline before them.
abbrev pub is_indent : ℕ → Bool
is_indent b = b == space || b == tab

abbrev pub no_close_brace : ℕ → Bool
no_close_brace b = not (b == close_brace)

-- `Span test s t r`: t is the longest front of s whose bytes all pass the test. r is the rest.
pub data Span (test : ℕ → Bool) : List ℕ → List ℕ → List ℕ → Type 0 where
  over : Span test [] [] []
  stop : (b : ℕ) (s : List ℕ) → test b ≡ false → Span test (b ∷ s) [] (b ∷ s)
  more : (b : ℕ) (s t r : List ℕ) → test b ≡ true → Span test s t r → Span test (b ∷ s) (b ∷ t) r

-- ---- Backslash substitution

-- `Digits base top most v s w r`: at most `most` further digits change the number v to w. A digit that would exceed
-- `top` isn't read.
pub data Digits (base top : ℕ) : ℕ → ℕ → List ℕ → ℕ → List ℕ → Type 0 where
  full : (v : ℕ) (s : List ℕ) → Digits base top 0 v s v s
  over : (most v : ℕ) → Digits base top (suc most) v [] v []
  stop : (most v b : ℕ) (s : List ℕ) → digit base b ≡ None → Digits base top (suc most) v (b ∷ s) v (b ∷ s)
  above : (most v b d : ℕ) (s : List ℕ) → digit base b ≡ Some d → top < base * v + d → Digits base top (suc most) v (b ∷ s) v (b ∷ s)
  more : (most v b d w : ℕ) (s r : List ℕ) → digit base b ≡ Some d → base * v + d ≤ top → Digits base top most (base * v + d) s w r
      → Digits base top (suc most) v (b ∷ s) w r

-- The text doesn't begin with a hexadecimal digit.
abbrev pub NoHex : List ℕ → Type 0
NoHex [] = Unit {0}
NoHex (b ∷ s) = digit 16 b ≡ None

-- `Escape s t r`: a backslash followed by s stands for the text t.
pub data Escape : List ℕ → List ℕ → List ℕ → Type 0 where
  -- A newline, with the spaces and tabs after it: a space.
  line : (s t r : List ℕ) → Span is_indent s t r → Escape (newline ∷ s) (space ∷ []) r
  -- One to three octal digits: the byte with that number.
  octal : (c d n : ℕ) (s r : List ℕ) → digit 8 c ≡ Some d → Digits 8 255 2 d s n r → Escape (c ∷ s) (n ∷ []) r
  -- `x` and one or two hexadecimal digits: the byte with that number.
  hex : (c d n : ℕ) (s r : List ℕ) → digit 16 c ≡ Some d → Digits 16 255 1 d s n r → Escape (letter_x ∷ c ∷ s) (n ∷ []) r
  -- `u` and one to four hexadecimal digits: the UTF-8 bytes of that number.
  unicode : (c d n : ℕ) (s r : List ℕ) → digit 16 c ≡ Some d → Digits 16 65535 3 d s n r → Escape (letter_u ∷ c ∷ s) (encode_utf8 n) r
  -- `x` or `u` without digits: that letter.
  no_hex : (s : List ℕ) → NoHex s → Escape (letter_x ∷ s) (letter_x ∷ []) s
  no_unicode : (s : List ℕ) → NoHex s → Escape (letter_u ∷ s) (letter_u ∷ []) s
  -- One of `a b f n r t v`: its control character. Any other byte: that byte.
  other : (c : ℕ) (s : List ℕ) → c ≢ newline → c ≢ letter_x → c ≢ letter_u → digit 8 c ≡ None → Escape (c ∷ s) (escaped c ∷ []) s
  -- At the end of the text: a backslash.
  over : Escape [] (backslash ∷ []) []

-- ---- White space, comments and ends of commands

-- White space between words.
pub data White : List ℕ → List ℕ → Type 0 where
  -- A single byte of white space.
  blank : (b : ℕ) (s : List ℕ) → is_blank b ≡ true → White (b ∷ s) s
  -- A backslash and a newline, with the spaces and tabs after them.
  line : (s t r : List ℕ) → Span is_indent s t r → White (backslash ∷ newline ∷ s) r

-- A comment, after its `#`.
pub data Comment : List ℕ → List ℕ → Type 0 where
  -- It may end with the text.
  over : Comment [] []
  -- It ends after a newline.
  line : (s : List ℕ) → Comment (newline ∷ s) s
  -- A backslash at the end of the text.
  last : Comment (backslash ∷ []) []
  -- A backslash and the next byte. An escaped newline doesn't end the comment.
  pair : (b : ℕ) (s r : List ℕ) → Comment s r → Comment (backslash ∷ b ∷ s) r
  -- Any other byte.
  plain : (b : ℕ) (s r : List ℕ) → b ≢ newline → b ≢ backslash → Comment s r → Comment (b ∷ s) r

-- What precedes the first word of a command.
pub data Before : List ℕ → List ℕ → Type 0 where
  -- At the end of the text there is no further command.
  over : Before [] []
  -- White space.
  white : (s m r : List ℕ) → White s m → Before m r → Before s r
  -- Newlines and semicolons.
  end : (b : ℕ) (s r : List ℕ) → ends_command b ≡ true → Before s r → Before (b ∷ s) r
  -- A comment: a `#` in the place of a command's first word.
  comment : (s m r : List ℕ) → Comment s m → Before m r → Before (hash ∷ s) r
  -- Any other byte begins the command.
  word : (b : ℕ) (s : List ℕ) → is_gap b s ≡ false → b ≢ hash → Before (b ∷ s) (b ∷ s)

-- ---- Braces

-- `Braced n s t r`: after an opening brace, with n further ones open, the text t is followed by the brace that closes
-- the first.
pub data Braced : ℕ → List ℕ → List ℕ → List ℕ → Type 0 where
  -- The closing brace.
  last : (s : List ℕ) → Braced 0 (close_brace ∷ s) [] s
  -- Braces nest.
  closes : (n : ℕ) (s t r : List ℕ) → Braced n s t r → Braced (suc n) (close_brace ∷ s) (close_brace ∷ t) r
  opens : (n : ℕ) (s t r : List ℕ) → Braced (suc n) s t r → Braced n (open_brace ∷ s) (open_brace ∷ t) r
  -- A backslash and a newline, with the spaces and tabs after them, are replaced by a space. This is the only
  -- substitution.
  line : (n : ℕ) (s u m t r : List ℕ) → Span is_indent s u m → Braced n m t r → Braced n (backslash ∷ newline ∷ s) (space ∷ t) r
  -- A backslash and the next byte are kept. An escaped brace isn't counted.
  pair : (n b : ℕ) (s t r : List ℕ) → b ≢ newline → Braced n s t r → Braced n (backslash ∷ b ∷ s) (backslash ∷ b ∷ t) r
  -- Any other byte stands for itself.
  plain : (n b : ℕ) (s t r : List ℕ) → b ≢ close_brace → b ≢ open_brace → b ≢ backslash → Braced n s t r → Braced n (b ∷ s) (b ∷ t) r

-- ---- Words and commands

-- The context of a word's parts: a word without quotes at the top level or in brackets, a word in quotes, or an array
-- index.
pub data Place : Type 0 where
  top : Place
  brackets : Place
  quotes : Place
  index : Place

-- The byte ends the parts.
abbrev pub ends : Place → ℕ → List ℕ → Bool
ends top b s = is_gap b s
ends brackets b s = is_gap b s || b == close_bracket
ends quotes b s = b == quote
ends index b s = b == close_paren

-- The rest after the parts. What ends a word is not read; a closing quote or parenthesis is.
abbrev pub left_at : Place → ℕ → List ℕ → List ℕ
left_at top b s = b ∷ s
left_at brackets b s = b ∷ s
left_at quotes b s = s
left_at index b s = s

-- The parts may end with the text.
abbrev pub ends_with_text : Place → Bool
ends_with_text top = true
ends_with_text brackets = true
ends_with_text quotes = false
ends_with_text index = false

-- A word may end before the text.
abbrev pub may_end : Place → List ℕ → Bool
may_end place [] = true
may_end place (b ∷ s) = ends place b s

-- A word that is one word of the command, and one whose value is split as a list.
abbrev pub single : Pieces → Spelled
single ps = record { expand = false; pieces = ps }

abbrev pub split : Pieces → Spelled
split ps = record { expand = true; pieces = ps }

-- In each of these, brackets and indexes nest at most d deep.
mutual
  -- A part of a word: bytes, or a substitution.
  pub data Part : ℕ → List ℕ → Token → List ℕ → Type 0 where
    -- A byte that stands for itself.
    plain : (d b : ℕ) (s : List ℕ) → b ≢ backslash → b ≢ dollar → b ≢ open_bracket → Part d (b ∷ s) (text_token (b ∷ [])) s
    -- Backslash substitution.
    slash : (d : ℕ) (s t r : List ℕ) → Escape s t r → Part d (backslash ∷ s) (text_token t) r
    -- Variable substitution, `$name`: one or more letters, digits and underscores.
    name : (d b : ℕ) (s n r : List ℕ) → Span is_name_byte s (b ∷ n) r → begins_with open_paren r ≡ false
        → Part d (dollar ∷ s) (substitution (variable (b ∷ n))) r
    -- Variable substitution, `${name}`: any bytes except `}`.
    braced_name : (d : ℕ) (s n r : List ℕ) → Span no_close_brace s n (close_brace ∷ r) → Part d (dollar ∷ open_brace ∷ s) (substitution (variable n)) r
    -- Variable substitution, `$name(index)`. The name may be empty, and all substitutions are made in the index.
    element : (d : ℕ) (s n m r : List ℕ) (ps : Pieces) → Span is_name_byte s n (open_paren ∷ m) → Run d index m ps r
        → Part (suc d) (dollar ∷ s) (substitution (member n ps)) r
    -- A `$` followed by none of these stands for itself.
    lone : (d : ℕ) (s : List ℕ) → Span is_name_byte s [] s → begins_with open_paren s ≡ false → begins_with open_brace s ≡ false
        → Part d (dollar ∷ s) (text_token (dollar ∷ [])) s
    -- Command substitution, `[script]`.
    bracketed : (d : ℕ) (text r : List ℕ) → Script d (text ++ close_bracket ∷ r) r
        → Part (suc d) (open_bracket ∷ (text ++ close_bracket ∷ r)) (substitution (script text)) r

  -- A run of parts.
  pub data Run : ℕ → Place → List ℕ → Pieces → List ℕ → Type 0 where
    -- It may end with the text.
    over : (d : ℕ) (place : Place) → ends_with_text place ≡ true → Run d place [] no_pieces []
    -- It ends before a byte that ends it.
    end : (d b : ℕ) (place : Place) (s : List ℕ) → ends place b s ≡ true → Run d place (b ∷ s) no_pieces (left_at place b s)
    -- Otherwise it continues with a part.
    part : (d b : ℕ) (place : Place) (s m r : List ℕ) (t : Token) (ps : Pieces) → ends place b s ≡ false → Part d (b ∷ s) t m → Run d place m ps r
        → Run d place (b ∷ s) (put_token t ps) r

  -- A word of a command.
  pub data Word : ℕ → Place → List ℕ → Spelled → List ℕ → Type 0 where
    -- A word without quotes or braces.
    bare : (d b : ℕ) (place : Place) (s r : List ℕ) (ps : Pieces) → b ≢ quote → b ≢ open_brace → ends place b s ≡ false → Run d place (b ∷ s) ps r
        → Word d place (b ∷ s) (single ps) r
    -- A word in quotes, up to the next quote. White space or the end of the command must follow.
    quoted : (d : ℕ) (place : Place) (s r : List ℕ) (ps : Pieces) → Run d quotes s ps r → may_end place r ≡ true → Word d place (quote ∷ s) (single ps) r
    -- A word in braces, up to the matching brace. White space or the end of the command must follow.
    braced : (d : ℕ) (place : Place) (s t r : List ℕ) → Braced 0 s t r → may_end place r ≡ true
        → Word d place (open_brace ∷ s) (single (piece (literal t) no_pieces)) r
    -- Argument expansion: `{*}` directly before one of these.
    expanded : (d : ℕ) (place : Place) (s r : List ℕ) (ps : Pieces) → Word d place s (single ps) r
        → Word d place (open_brace ∷ star ∷ close_brace ∷ s) (split ps) r

  -- The rest of a command.
  pub data Words : ℕ → Place → List ℕ → List Spelled → List ℕ → Type 0 where
    -- It ends with the text, except in brackets.
    at_end : (d : ℕ) → Words d top [] [] []
    -- It ends after a newline or semicolon.
    at_newline : (d b : ℕ) (place : Place) (s : List ℕ) → ends_command b ≡ true → Words d place (b ∷ s) [] s
    -- In brackets it ends before the `]`.
    at_bracket : (d : ℕ) (s : List ℕ) → Words d brackets (close_bracket ∷ s) [] (close_bracket ∷ s)
    -- White space.
    white : (d : ℕ) (place : Place) (s m r : List ℕ) (ws : List Spelled) → White s m → Words d place m ws r → Words d place s ws r
    -- A word.
    word : (d : ℕ) (place : Place) (s m r : List ℕ) (w : Spelled) (ws : List Spelled) → Word d place s w m → Words d place m ws r
        → Words d place s (w ∷ ws) r

  -- A command.
  pub data Command : ℕ → Place → List ℕ → List Spelled → List ℕ → Type 0 where
    -- It consists of one or more words.
    some_words : (d : ℕ) (place : Place) (s m n r : List ℕ) (w : Spelled) (ws : List Spelled) → Before s m → Word d place m w n → Words d place n ws r
        → Command d place s (w ∷ ws) r

  -- A script in brackets.
  pub data Script : ℕ → List ℕ → List ℕ → Type 0 where
    -- It ends after the `]`.
    close : (d : ℕ) (s r : List ℕ) → Before s (close_bracket ∷ r) → Script d s r
    -- Otherwise it is a command, followed by a script.
    command : (d : ℕ) (s m r : List ℕ) (ws : List Spelled) → Command d brackets s ws m → Script d m r → Script d s r

-- The greatest nesting of brackets and indexes, by a rule of this language.
abbrev pub deepest : ℕ
deepest = 200

-- From index `at` on, the next command of the text has these words. It ends before index `next`.
abbrev pub IsNext : List ℕ → ℕ → List Spelled → ℕ → Type 0
IsNext text at ws next = (next ≤ length text) × Command deepest top (drop at text) ws (drop next text)

-- From index `at` on, the text has no further command.
abbrev pub IsLast : List ℕ → ℕ → Type 0
IsLast text at = Before (drop at text) []
