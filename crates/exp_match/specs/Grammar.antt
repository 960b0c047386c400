-- The grammar of regular patterns, rule by rule: the part of re_syntax(n) that `expect` supports. `X s t` means that the
-- characters s begin with an X and that t is the rest.
use Rattle.std.specs.Prelude.{◌≡◌, ℕ, suc, ◌+◌, ◌*◌, ◌<◌, ◌≤◌, true, false, List, [], ◌∷◌, ◌++◌, ◌==◌, length, slice_index, Some, chars, codes}
use Rattle.std.specs.Char.{digit_value}
use Rattle.std.specs.Str.{IsUtf8}
use Rattle.tcl_words.specs.Bytes as ascii
use Rattle.exp_match.specs.Scan.{is_special, quoted, is_hex, is_surrogate, letter_u, is_set, is_class_char, is_digit}

-- A number of two hexadecimal digits.
pub data Pair : ℕ → List ℕ → List ℕ → Type 0 where
  digits : (h i : ℕ) (s : List ℕ) → is_hex h ≡ true → is_hex i ≡ true → Pair (16 * digit_value h + digit_value i) (h ∷ i ∷ s) s

-- An escape after its backslash. It stands for the character v.
pub data Escape : ℕ → List ℕ → List ℕ → Type 0 where
  -- An ASCII character that is no letter and no digit stands for itself, and one of `a e f n r t v` for a control character.
  quote : (c v : ℕ) (s : List ℕ) → quoted c ≡ Some v → Escape v (c ∷ s) s
  -- `\xhh`.
  byte : (v : ℕ) (s t : List ℕ) → Pair v s t → Escape v (ascii.letter_x ∷ s) t
  -- `\uhhhh`.
  unicode : (v w : ℕ) (s t u : List ℕ) → Pair v s t → Pair w t u → is_surrogate (256 * v + w) ≡ false → Escape (256 * v + w) (letter_u ∷ s) u

-- An item of a class. It stands for the character v.
pub data Item : ℕ → List ℕ → List ℕ → Type 0 where
  plain : (c : ℕ) (s : List ℕ) → is_class_char c s ≡ true → Item c (c ∷ s) s
  escape : (v : ℕ) (s t : List ℕ) → Escape v s t → Item v (ascii.backslash ∷ s) t

-- The name of a class, with the `:]` after it.
pub data Name : List ℕ → List ℕ → Type 0 where
  alnum : (s : List ℕ) → Name (codes "alnum:]" ++ s) s
  alpha : (s : List ℕ) → Name (codes "alpha:]" ++ s) s
  cntrl : (s : List ℕ) → Name (codes "cntrl:]" ++ s) s
  digit : (s : List ℕ) → Name (codes "digit:]" ++ s) s
  lower : (s : List ℕ) → Name (codes "lower:]" ++ s) s
  print : (s : List ℕ) → Name (codes "print:]" ++ s) s
  space : (s : List ℕ) → Name (codes "space:]" ++ s) s
  upper : (s : List ℕ) → Name (codes "upper:]" ++ s) s
  xdigit : (s : List ℕ) → Name (codes "xdigit:]" ++ s) s

-- A member of a class: an item, a range from a character to one that isn't below it, a set such as `\d`, or a named
-- class such as `[:alpha:]`.
pub data Member : List ℕ → List ℕ → Type 0 where
  one : (v : ℕ) (s t : List ℕ) → Item v s t → Member s t
  range : (v w : ℕ) (s t u : List ℕ) → Item v s (ascii.minus ∷ t) → Item w t u → v ≤ w → Member s u
  set : (c : ℕ) (s : List ℕ) → is_set c ≡ true → Member (ascii.backslash ∷ c ∷ s) s
  named : (s t : List ℕ) → Name s t → Member (ascii.open_bracket ∷ ascii.colon ∷ s) t

-- Any number of members, and the end of the class: `]`, or a last `-` and `]`.
pub data Members : List ℕ → List ℕ → Type 0 where
  over : (s : List ℕ) → Members (ascii.close_bracket ∷ s) s
  dash : (s : List ℕ) → Members (ascii.minus ∷ ascii.close_bracket ∷ s) s
  more : (s t u : List ℕ) → Member s t → Members t u → Members s u

-- The rest of a class after `[` or `[^`, with its `]`. It has a member, and the first may be `]` or `-`.
pub data Class : List ℕ → List ℕ → Type 0 where
  bracket_first : (s t : List ℕ) → Members s t → Class (ascii.close_bracket ∷ s) t
  dash_first : (s t : List ℕ) → Members s t → Class (ascii.minus ∷ s) t
  member_first : (s t u : List ℕ) → Member s t → Members t u → Class s u

-- A number of at most 255, without leading zeros.
pub data Number : ℕ → List ℕ → List ℕ → Type 0 where
  one_digit : (a : ℕ) (s : List ℕ) → a < 10 → Number a ((ascii.digit_0 + a) ∷ s) s
  two_digits : (a b : ℕ) (s : List ℕ) → 0 < a → a < 10 → b < 10 → Number (10 * a + b) ((ascii.digit_0 + a) ∷ (ascii.digit_0 + b) ∷ s) s
  three_digits : (a b c : ℕ) (s : List ℕ) → 0 < a → a < 10 → b < 10 → c < 10 → 100 * a + 10 * b + c ≤ 255
      → Number (100 * a + 10 * b + c) ((ascii.digit_0 + a) ∷ (ascii.digit_0 + b) ∷ (ascii.digit_0 + c) ∷ s) s

-- How often an atom repeats: `*` `+` `?` `{m}` `{m,}` `{m,n}`.
pub data Times : List ℕ → List ℕ → Type 0 where
  star : (s : List ℕ) → Times (ascii.star ∷ s) s
  plus : (s : List ℕ) → Times (ascii.plus ∷ s) s
  optional : (s : List ℕ) → Times (ascii.question ∷ s) s
  exactly : (m : ℕ) (s t : List ℕ) → Number m s (ascii.close_brace ∷ t) → Times (ascii.open_brace ∷ s) t
  at_least : (m : ℕ) (s t : List ℕ) → Number m s (ascii.comma ∷ ascii.close_brace ∷ t) → Times (ascii.open_brace ∷ s) t
  between : (m n : ℕ) (s t u : List ℕ) → Number m s (ascii.comma ∷ t) → Number n t (ascii.close_brace ∷ u) → m ≤ n → Times (ascii.open_brace ∷ s) u

-- A repetition. With a `?` after it, it takes as few as it can.
pub data Repeat : List ℕ → List ℕ → Type 0 where
  greedy : (s t : List ℕ) → Times s t → Repeat s t
  lazy : (s t : List ℕ) → Times s (ascii.question ∷ t) → Repeat s t

-- Alternatives, sequences, pieces and atoms. A piece is `^`, `$` or an atom with an optional repetition. Groups nest at
-- most d deep.
mutual
  pub data Re : ℕ → List ℕ → List ℕ → Type 0 where
    alone : (d : ℕ) (s t : List ℕ) → Seq d s t → Re d s t
    either : (d : ℕ) (s t u : List ℕ) → Seq d s (ascii.bar ∷ t) → Re d t u → Re d s u

  pub data Seq : ℕ → List ℕ → List ℕ → Type 0 where
    empty : (d : ℕ) (s : List ℕ) → Seq d s s
    next : (d : ℕ) (s t u : List ℕ) → Piece d s t → Seq d t u → Seq d s u

  pub data Piece : ℕ → List ℕ → List ℕ → Type 0 where
    start : (d : ℕ) (s : List ℕ) → Piece d (ascii.caret ∷ s) s
    end : (d : ℕ) (s : List ℕ) → Piece d (ascii.dollar ∷ s) s
    once : (d : ℕ) (s t : List ℕ) → Atom d s t → Piece d s t
    repeated : (d : ℕ) (s t u : List ℕ) → Atom d s t → Repeat t u → Piece d s u

  pub data Atom : ℕ → List ℕ → List ℕ → Type 0 where
    any : (d : ℕ) (s : List ℕ) → Atom d (ascii.dot ∷ s) s
    group : (d : ℕ) (s t : List ℕ) → Re d s (ascii.close_paren ∷ t) → Atom (suc d) (ascii.open_paren ∷ s) t
    plain_group : (d : ℕ) (s t : List ℕ) → Re d s (ascii.close_paren ∷ t) → Atom (suc d) (ascii.open_paren ∷ ascii.question ∷ ascii.colon ∷ s) t
    class : (d : ℕ) (s t : List ℕ) → (slice_index s 0 == ascii.caret) ≡ false → Class s t → Atom d (ascii.open_bracket ∷ s) t
    class_without : (d : ℕ) (s t : List ℕ) → Class s t → Atom d (ascii.open_bracket ∷ ascii.caret ∷ s) t
    character : (d v : ℕ) (s t : List ℕ) → Escape v s t → Atom d (ascii.backslash ∷ s) t
    set : (d c : ℕ) (s : List ℕ) → is_set c ≡ true → Atom d (ascii.backslash ∷ c ∷ s) s
    literal : (d c : ℕ) (s : List ℕ) → is_special c ≡ false → Atom d (c ∷ s) s
    -- A `{` that no digit follows.
    brace : (d : ℕ) (s : List ℕ) → is_digit (slice_index s 0) ≡ false → Atom d (ascii.open_brace ∷ s) s

-- A regular pattern: UTF-8 of at most 4,096 bytes that the grammar derives, with groups nested at most 50 deep.
abbrev pub RePattern : List ℕ → Type 0
RePattern text = (length text ≤ 4096) × IsUtf8 text × Re 50 (chars text) []
