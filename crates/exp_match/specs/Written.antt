-- What a regular pattern matches, given its text: the grammar of `regex_syntax` reads the translated text, and `find`
-- of `regex_hir` searches leftmost-first.
use Rattle.std.specs.Prelude.{◌≡◌, ℕ, zero, suc, ◌+◌, ◌*◌, ◌<◌, ◌≤◌, Bool, true, false, List, [], ◌∷◌, length, slice_index_or, Option, Some, None, MatchOption, IfSome, IsSome, IsSomeAnd, is_some, option_map, option_and_then, chars}
use Rattle.std.specs.List.{slice_get}
use Rattle.regex.specs.Patterns.{Match, Re, SameCaptures, find, slot_of, default_config, Config}
use Rattle.regex.specs.Writes.{both}
use Rattle.regex_syntax.specs.Brackets.{Nested}
use Rattle.regex_syntax.specs.Grammar.{Names, read}
use Rattle.exp_match.specs.Translation.{translated}

-- A regular pattern: its text in UTF-8, whether case is ignored, and whether `^` and `$` hold at the start and the end of
-- each line.
pub record Written : Type 0 where
  pub source : List ℕ
  pub nocase : Bool
  pub lines : Bool

-- `.` matches each character, also a newline. With `lines`, `^` also holds after each newline and `$` before each.
abbrev pub config_of : Bool → Bool → Config
config_of nocase lines =
    record default_config { utf8 = false; flags = record (default_config.flags) { dot_matches_new_line = true; case_insensitive = nocase; multi_line = lines } }

-- The tree and the names that the grammar reads in the pattern's text.
abbrev pub reading : Written → Option (Nested Re × Names)
reading w = read (config_of w.nocase w.lines) (translated (chars w.source))

-- A tree matches as the pattern's text says.
abbrev pub IsReadAs : Written → Re → Type 0
IsReadAs w re = IsSomeAnd (reading w) (λ p. SameCaptures re p.0.value)

-- The visible part of a match: its start, its end, and the bounds of each group.
abbrev pub Seen : Type 0
Seen = ℕ × ℕ × (ℕ → Option ℕ)

abbrev pub seen_of : Match → Seen
seen_of m = (m.start, m.trace.end, slot_of m)

-- The spans are those of the match and of the groups 1 to 9.
abbrev pub AreGroupsOf : Seen → List (Option (ℕ × ℕ)) → Type 0
AreGroupsOf m spans =
    (slice_get spans 0 ≡ Some (Some (m.0, m.1)))
    × ((n : ℕ) → 1 ≤ n → n < 10 → slice_get spans n ≡ Some (both (m.2 (2 * n)) (m.2 (2 * n + 1))))

-- The spans of a match, or `None` if there is no match.
abbrev pub Shows : Option Seen → Option (List (Option (ℕ × ℕ))) → Type 0
Shows seen found = MatchOption found (seen ≡ None) (λ spans. (m : Seen) × (seen ≡ Some m) × AreGroupsOf m spans)

-- The spans of the first match of a pattern that begins at or after a place. Anchors see the bytes before the place.
abbrev pub FindsFrom : Written → List ℕ → ℕ → Option (List (Option (ℕ × ℕ))) → Type 0
FindsFrom w bytes start found = IsSomeAnd (reading w) (λ p. Shows (option_map seen_of (find p.0.value bytes start)) found)

-- The spans of the first match of a pattern in these bytes.
abbrev pub FindsAsWritten : Written → List ℕ → Option (List (Option (ℕ × ℕ))) → Type 0
FindsAsWritten w bytes found = FindsFrom w bytes 0 found

-- The spans of a match and its groups lie between two places. Each ends at or after its start. That of the match is
-- there, and a group that took no part has none.
abbrev pub AreWithin : ℕ → ℕ → List (Option (ℕ × ℕ)) → Type 0
AreWithin low high spans =
    (length spans ≡ 10)
    × IsSome (slice_index_or spans 0 None)
    × ((n : ℕ) → IfSome (slice_index_or spans n None) (λ s. (low ≤ s.0) × (s.0 ≤ s.1) × (s.1 ≤ high)))

-- The same searches as functions.

-- The spans of `count` groups, from group n on.
abbrev pub groups_from : Seen → ℕ → ℕ → List (Option (ℕ × ℕ))
groups_from m zero n = []
groups_from m (suc count) n = both (m.2 (2 * n)) (m.2 (2 * n + 1)) ∷ groups_from m count (n + 1)

-- The spans of the match and of the groups 1 to 9.
abbrev pub groups_of : Seen → List (Option (ℕ × ℕ))
groups_of m = Some (m.0, m.1) ∷ groups_from m 9 1

-- The spans of the first match of a pattern that begins at or after a place.
unfoldable pub find_from : Written → List ℕ → ℕ → Option (List (Option (ℕ × ℕ)))
find_from w bytes start = option_and_then (λ p. option_map groups_of (option_map seen_of (find p.0.value bytes start))) (reading w)

-- The spans of the first match of a pattern in these bytes.
abbrev pub find_written : Written → List ℕ → Option (List (Option (ℕ × ℕ)))
find_written w bytes = find_from w bytes 0

-- A pattern matches somewhere in these bytes.
abbrev pub finds : Written → List ℕ → Bool
finds w bytes = is_some (find_from w bytes 0)
