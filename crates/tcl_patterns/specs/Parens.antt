-- How many groups a regular pattern has. A group opens with `(` that is not in a class, not after a backslash, and not
-- before `?`.
use Rattle.std.specs.Prelude.{ℕ, ◌+◌, ◌==◌, Bool, false, not, ◌&&◌, List, [], ◌∷◌, slice_index_or, if◌then◌else◌}
use Rattle.tcl_words.specs.Bytes as ascii
use Rattle.tcl_patterns.specs.declared.parens.PatternState.{PatternState}
use Rattle.tcl_patterns.specs.declared.parens.PatternState.TheVariants as place

-- Where a pattern goes on after a byte c of a class, before d.
abbrev pub in_class : ℕ → ℕ → PatternState
in_class c d =
    if c == ascii.backslash then place.ClassEscape
    else if c == ascii.open_bracket && d == ascii.colon then place.Name
    else place.Class

-- Where a pattern goes on after a byte c outside of classes.
abbrev pub outside : ℕ → PatternState
outside c =
    if c == ascii.backslash then place.Escape
    else if c == ascii.open_bracket then place.Opening
    else place.Outside

-- Where a pattern goes on after a byte c, before d.
abbrev pub goes_on : PatternState → ℕ → ℕ → PatternState
goes_on place.Outside c d = outside c
goes_on place.Escape c d = place.Outside
goes_on place.Opening c d =
    if c == ascii.caret then place.First
    else if c == ascii.close_bracket then place.Class
    else in_class c d
goes_on place.First c d = if c == ascii.close_bracket then place.Class else in_class c d
goes_on place.Class c d = if c == ascii.close_bracket then place.Outside else in_class c d
goes_on place.ClassEscape c d = place.Class
goes_on place.Name c d = if c == ascii.close_bracket then place.Class else place.Name

-- How many groups open with a byte c, before d: 0 or 1.
abbrev pub opened : PatternState → ℕ → ℕ → ℕ
opened place.Outside c d = if c == ascii.open_paren && not (d == ascii.question) then 1 else 0
opened other c d = 0

-- How many groups open in the rest of a pattern.
abbrev pub groups_from : PatternState → List ℕ → ℕ
groups_from p [] = 0
groups_from p (c ∷ s) = opened p c (slice_index_or s 0 0) + groups_from (goes_on p c (slice_index_or s 0 0)) s

unfoldable pub group_count : List ℕ → ℕ
group_count pattern = groups_from place.Outside pattern
