-- What a compiled pattern finds is what the pattern's text says.
use Rattle.std.proofs.Common.{◌≡◌, ℕ, ◌<◌, Bool, List, All, Option, Some, None, IsSomeAnd, option_map, ap, ◌∙◌, subst, arith}
use Rattle.std.specs.List.{slice_get}
use Rattle.std.specs.Str.{chars}
use Rattle.regex.specs.Patterns.{Re, Match, SameCaptures, find, Reads}
use Rattle.regex.specs.Bytes.{regex_pattern, regex_source, regex_config, IsReadFromSource, IsCapturesOf, captures_span}
use Rattle.regex.specs.Search.{group_span}
use Rattle.regex.specs.declared.bytes.captures.Captures.{Captures}
use Rattle.regex.specs.declared.bytes.regex.Regex.{Regex}
use Rattle.regex_syntax.specs.Brackets.{Nested}
use Rattle.regex_syntax.specs.Grammar.{Names, read}
use Rattle.regex_syntax.specs.declared.Config.{Config}
use Rattle.regex_syntax.proofs.CapturesLemmas.{find_alike}
use Rattle.exp_match.specs.Unbuilt.{IsGivenFor}
use Rattle.exp_match.specs.Written.{Written, IsReadAs, FindsFrom, Shows, AreGroupsOf, config_of, reading, seen_of}

module _ (a : Re) (hay : List ℕ) (start : ℕ) (bytes : All (λ x. x < 256) hay) (found : Option (List (Option (ℕ × ℕ))))
    (shows : Shows (option_map seen_of (find a hay start)) found) where
  by_reading : (Q : Nested Re × Names → Type 0) → ((x : Nested Re × Names) → Q x → SameCaptures a x.0.value) → (o : Option (Nested Re × Names)) → IsSomeAnd o Q
      → IsSomeAnd o (λ p. Shows (option_map seen_of (find p.0.value hay start)) found)
  by_reading Q same None p = absurd p
  by_reading Q same (Some x) p = subst (λ s. Shows s found) (find_alike a x.0.value (same x p) hay bytes start) shows

pub found_as_written : (w : Written) (a : Re) → IsReadAs w a → (hay : List ℕ) (start : ℕ) → All (λ x. x < 256) hay
    → (found : Option (List (Option (ℕ × ℕ)))) → Shows (option_map seen_of (find a hay start)) found → FindsFrom w hay start found
found_as_written w a is_read hay start bytes found shows =
    by_reading a hay start bytes found shows _ (λ x same. same) (reading w) is_read

same_captures : (a : Re) (Q : Nested Re × Names → Type 0) → ((x : Nested Re × Names) → Q x → SameCaptures a x.0.value) → (o : Option (Nested Re × Names)) → IsSomeAnd o Q
    → IsSomeAnd o (λ p. SameCaptures a p.0.value)
same_captures a Q same None p = absurd p
same_captures a Q same (Some x) p = same x p

-- a compiled pattern is read as the pattern whose translated text it has
pub read_as : (r : Regex) (nocase lines : Bool) (source : List ℕ) → regex_config r ≡ config_of nocase lines → IsReadFromSource r → IsGivenFor source (regex_source r)
    → IsReadAs (record { source = source; nocase = nocase; lines = lines }) (regex_pattern r)
unfolding Reads
read_as r nocase lines source config is_read for =
    subst (λ (text : List ℕ). IsSomeAnd (read (config_of nocase lines) text) (λ p. SameCaptures (regex_pattern r) p.0.value)) for
    (subst (λ (k : Config). IsSomeAnd (read k (chars (regex_source r))) (λ p. SameCaptures (regex_pattern r) p.0.value)) config
    (same_captures (regex_pattern r) _ (λ x q. q.1) (read (regex_config r) (chars (regex_source r))) is_read))

pub groups_shown : (c : Captures) (m : Match) (hay : List ℕ) → IsCapturesOf hay m c → (spans : List (Option (ℕ × ℕ)))
    → ((n : ℕ) → n < 10 → slice_get spans n ≡ Some (captures_span c n)) → AreGroupsOf (seen_of m) spans
unfolding group_span
groups_shown c m hay is spans are = (
  are 0 (omega arith) ∙ ap (λ (s : ℕ × ℕ). Some (Some s)) is.1.whole_is,
  λ n some ten. are n ten ∙ ap Some (is.2 n some),
)
