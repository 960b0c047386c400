-- Which listed pattern is chosen. Patterns are tested in their order, as in expect(1).
use Rattle.std.specs.Prelude.{◌≡◌, ℕ, ◌<◌, ◌≤◌, Bool, true, false, not, ◌&&◌, ◌==◌, List, [], ◌∷◌, length, drop, Option, Some, None, IsSome, option_map, position}
use Rattle.std.specs.List.{slice_get, list_any}
use Rattle.exp_glob.specs.Spans.{FindsFirst}
use Rattle.exp_match.specs.Written.{FindsAsWritten}
use Rattle.exp_match.specs.Exact.{FindsExact}
use Rattle.exp_match.specs.Reach.{IsBounded}
use Rattle.exp_match.specs.declared.entry.Entry.{Entry}
use Rattle.exp_match.specs.declared.entry.Keyword.TheVariants as keyword
use Rattle.exp_match.specs.declared.entry.Want.{Want}
use Rattle.exp_match.specs.declared.entry.Want.TheVariants as want
use Rattle.exp_match.specs.declared.chosen.Chosen.{Chosen}
use Rattle.exp_match.specs.declared.chosen.Chosen.TheVariants as chosen
use Rattle.exp_match.specs.declared.chosen.Picked.{Picked}
use Rattle.exp_match.specs.declared.chosen.Picked.TheVariants as picked

abbrev pub Found : Type 0
Found = List (Option (ℕ × ℕ))

-- The spans of a match without groups.
abbrev pub alone : ℕ × ℕ → Found
alone s = Some s ∷ None ∷ None ∷ None ∷ None ∷ None ∷ None ∷ None ∷ None ∷ None ∷ []

-- The spans of an entry's first match in these bytes, or `None`. A keyword matches no bytes.
abbrev pub Finds : Want → List ℕ → Option Found → Type 0
Finds (want.Exact text nocase) bytes found = (span : Option (ℕ × ℕ)) × FindsExact nocase text bytes span × (found ≡ option_map alone span)
Finds (want.Glob glob nocase) bytes found = (span : Option (ℕ × ℕ)) × FindsFirst glob nocase bytes span × (found ≡ option_map alone span)
Finds (want.Regular written) bytes found = FindsAsWritten written bytes found
Finds (want.Keyword k) bytes found = found ≡ None

-- The entry belongs to one of the groups.
abbrev pub in_groups : List ℕ → Entry → Bool
in_groups groups e = list_any (λ g. g == e.group) groups

-- The entry is `eof` or `default`.
abbrev pub waits_for_end : Want → Bool
waits_for_end (want.Keyword keyword.Eof) = true
waits_for_end (want.Keyword keyword.Default) = true
waits_for_end w = false

-- The entry is `timeout` or `default`.
abbrev pub waits_for_time : Want → Bool
waits_for_time (want.Keyword keyword.Timeout) = true
waits_for_time (want.Keyword keyword.Default) = true
waits_for_time w = false

-- The entry is `full_buffer`.
abbrev pub waits_for_full : Want → Bool
waits_for_full (want.Keyword keyword.FullBuffer) = true
waits_for_full w = false

-- The entry is `timeout`.
abbrev pub waits_for_time_alone : Want → Bool
waits_for_time_alone (want.Keyword keyword.Timeout) = true
waits_for_time_alone w = false

-- The index of the first entry of the groups that passes a test.
abbrev pub first_in : (Want → Bool) → List ℕ → List Entry → Option ℕ
first_in test groups = position (λ e. in_groups groups e && test e.want)

-- The group has an entry other than `timeout`.
abbrev pub serves : ℕ → List Entry → Bool
serves g = list_any (λ e. e.group == g && not (waits_for_time_alone e.want))

-- The first match of an entry that belongs to one of the groups. Other entries are not tried.
abbrev pub FindsIn : List ℕ → Entry → List ℕ → Option Found → Type 0
FindsIn groups e bytes None = in_groups groups e ≡ true → Finds e.want bytes None
FindsIn groups e bytes (Some spans) = (in_groups groups e ≡ true) × Finds e.want bytes (Some spans)

-- No entry of the groups before index n matches.
abbrev pub NoneBefore : List Entry → List ℕ → List ℕ → ℕ → Type 0
NoneBefore entries groups bytes n =
    (k : ℕ) (e : Entry) → k < n → slice_get entries k ≡ Some e → FindsIn groups e bytes None

-- The entry at index n belongs to one of the groups and matches with these spans.
abbrev pub FindsAt : List Entry → List ℕ → List ℕ → ℕ → Found → Type 0
FindsAt entries groups bytes n spans =
    (e : Entry) × (slice_get entries n ≡ Some e) × FindsIn groups e bytes (Some spans)

-- The groups have a `full_buffer`, and there are at least `most` bytes.
abbrev pub IsFull : List Entry → List ℕ → List ℕ → ℕ → Type 0
IsFull entries groups bytes most = IsSome (first_in waits_for_full groups entries) × (most ≤ length bytes)

-- The choice, given the picked entry and the spans of its match.
abbrev pub with_spans : Picked → Found → Chosen
with_spans (picked.Pattern n) spans = chosen.Pattern n spans
with_spans picked.Full spans = chosen.Full
with_spans picked.None spans = chosen.None

-- The first listed pattern that matches. Otherwise full, if `IsFull` holds. Otherwise none.
abbrev pub Decides : List Entry → List ℕ → List ℕ → ℕ → Chosen → Type 0
Decides entries groups bytes most (chosen.Pattern n spans) = FindsAt entries groups bytes n spans × NoneBefore entries groups bytes n
Decides entries groups bytes most chosen.Full = NoneBefore entries groups bytes (length entries) × IsFull entries groups bytes most
Decides entries groups bytes most chosen.None = NoneBefore entries groups bytes (length entries) × (¬ IsFull entries groups bytes most)

-- A chosen pattern is one of n entries.
abbrev pub IsListed : ℕ → Chosen → Type 0
IsListed n (chosen.Pattern k spans) = k < n
IsListed n chosen.Full = Unit {0}
IsListed n chosen.None = Unit {0}

-- If the entry doesn't match in some bytes, it doesn't match in the last of them either. Excluded are regular patterns
-- without a bound of their opening, and globs that begin with `^`.
abbrev pub Lasts : Want → Type 0
Lasts (want.Exact text nocase) = Unit {0}
Lasts (want.Glob glob nocase) = glob.anchored ≡ false
Lasts (want.Regular written) = IsBounded written
Lasts (want.Keyword k) = Unit {0}

-- These entries of the groups match neither in the bytes nor in the last of them.
abbrev pub HasNone : List Entry → List ℕ → List ℕ → Type 0
HasNone entries groups bytes =
    (k : ℕ) (e : Entry) → slice_get entries k ≡ Some e → in_groups groups e ≡ true → Lasts e.want
    → (d : ℕ) → Finds e.want (drop d bytes) None

-- If nothing is chosen, they match nothing.
abbrev pub LeavesNone : List Entry → List ℕ → List ℕ → Chosen → Type 0
LeavesNone entries groups bytes chosen.None = HasNone entries groups bytes
LeavesNone entries groups bytes c = Unit {0}
