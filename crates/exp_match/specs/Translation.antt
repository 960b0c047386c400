-- The text that `regex` gets for a regular pattern. It is the pattern's own, except for these characters: a literal `{`,
-- `}` or `]`, a `]` first in a class, and `[ ^ & ~` as members of a class get a backslash before them; `\e`, `\<` and
-- `\>` are written by their numbers. To `regex`, `\<` and `\>` are assertions.
use Rattle.std.specs.Prelude.{ℕ, Bool, false, not, ◌&&◌, ◌||◌, ◌==◌, if◌then◌else◌, List, [], ◌∷◌, ◌++◌, slice_index, codes}
use Rattle.tcl_words.specs.Bytes as ascii
use Rattle.exp_match.specs.Scan.{is_digit}
use Rattle.exp_match.specs.declared.translation.Context.{Context}
use Rattle.exp_match.specs.declared.translation.Context.TheVariants as context

-- Where a pattern goes on after a character c of a class, before d.
abbrev pub in_class : ℕ → ℕ → Context
in_class c d =
    if c == ascii.backslash then context.ClassEscape else (if c == ascii.open_bracket && d == ascii.colon then context.Name else context.Class)

-- Where a pattern goes on after a character c outside classes and counts, before d.
abbrev pub outside : ℕ → ℕ → Context
outside c d =
    if c == ascii.backslash then context.Escape
    else (if c == ascii.open_bracket then context.Opening
    else (if c == ascii.open_brace && is_digit d then context.Count
    else context.Outside))

-- Where a pattern goes on after a character c of a count.
abbrev pub in_count : ℕ → Context
in_count c = if c == ascii.close_brace then context.Outside else context.Count

-- Where a pattern goes on after a character c that may be the first of a class, before d.
abbrev pub at_first : ℕ → ℕ → Context
at_first c d = if c == ascii.close_bracket then context.Class else in_class c d

-- Where a pattern goes on after a character c directly after the `[` of a class, before d.
abbrev pub at_opening : ℕ → ℕ → Context
at_opening c d = if c == ascii.caret then context.First else at_first c d

-- Where a pattern goes on after a character c after the first member of a class, before d.
abbrev pub at_member : ℕ → ℕ → Context
at_member c d = if c == ascii.close_bracket then context.Outside else in_class c d

-- Where a pattern goes on after a character c of the name of a class.
abbrev pub in_name : ℕ → Context
in_name c = if c == ascii.close_bracket then context.Class else context.Name

-- Where a pattern goes on after a character c that stands somewhere, before d.
abbrev pub goes_on : Context → ℕ → ℕ → Context
goes_on context.Outside c d = outside c d
goes_on context.Escape c d = context.Outside
goes_on context.Count c d = in_count c
goes_on context.Opening c d = at_opening c d
goes_on context.First c d = at_first c d
goes_on context.Class c d = at_member c d
goes_on context.ClassEscape c d = context.Class
goes_on context.Name c d = in_name c

-- A member of a class that `regex` would read otherwise.
abbrev pub is_operator : ℕ → ℕ → Bool
is_operator c d = c == ascii.ampersand || c == ascii.tilde || (c == ascii.open_bracket && not (d == ascii.colon))

-- The character gets a backslash before it.
abbrev pub needs_backslash : Context → ℕ → ℕ → Bool
needs_backslash context.Outside c d = c == ascii.close_brace || c == ascii.close_bracket || (c == ascii.open_brace && not (is_digit d))
needs_backslash context.Opening c d = c == ascii.close_bracket || is_operator c d
needs_backslash context.First c d = c == ascii.close_bracket || c == ascii.caret || is_operator c d
needs_backslash context.Class c d = c == ascii.caret || is_operator c d
needs_backslash k c d = false

-- The text of a character after a backslash.
abbrev pub escape_text : ℕ → List ℕ
escape_text c =
    if c == ascii.letter_e then codes "x1B"
    else (if c == ascii.less then codes "x3C"
    else (if c == ascii.greater then codes "x3E"
    else c ∷ []))

-- The text of a character c that stands somewhere, before d.
abbrev pub text_of : Context → ℕ → ℕ → List ℕ
text_of context.Escape c d = escape_text c
text_of context.ClassEscape c d = escape_text c
text_of k c d = if needs_backslash k c d then ascii.backslash ∷ c ∷ [] else c ∷ []

-- The text of the rest of a pattern.
abbrev pub text_from : Context → List ℕ → List ℕ
text_from k [] = []
text_from k (c ∷ s) = text_of k c (slice_index s 0) ++ text_from (goes_on k c (slice_index s 0)) s

-- The characters that `regex` gets for those of a pattern.
unfoldable pub translated : List ℕ → List ℕ
translated s = text_from context.Outside s
