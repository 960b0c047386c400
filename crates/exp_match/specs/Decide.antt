-- Which listed pattern is chosen, as a function. `Decides` in `Choice` states its result without a computation.
use Rattle.std.specs.Prelude.{ℕ, ◌+◌, nat_le, Bool, ◌&&◌, if◌then◌else◌, List, [], ◌∷◌, length, Option, Some, None, option_map, is_some}
use Rattle.exp_glob.specs.Search.{first_span}
use Rattle.exp_match.specs.Choice.{Found, alone, in_groups, waits_for_full, first_in}
use Rattle.exp_match.specs.Exact.{find_text}
use Rattle.exp_match.specs.Written.{find_written}
use Rattle.exp_match.specs.declared.entry.Entry.{Entry}
use Rattle.exp_match.specs.declared.entry.Want.{Want}
use Rattle.exp_match.specs.declared.entry.Want.TheVariants as want
use Rattle.exp_match.specs.declared.chosen.Chosen.{Chosen}
use Rattle.exp_match.specs.declared.chosen.Chosen.TheVariants as chosen

-- The spans of the first match in these bytes, or `None`. A keyword matches no bytes.
abbrev pub found_by : Want → List ℕ → Option Found
found_by (want.Exact text nocase) bytes = option_map alone (find_text nocase text bytes)
found_by (want.Glob glob nocase) bytes = option_map alone (first_span glob nocase bytes)
found_by (want.Regular written) bytes = find_written written bytes
found_by (want.Keyword k) bytes = None

-- The same for an entry that belongs to one of the groups. Other entries give `None`.
abbrev pub found_in : List ℕ → Entry → List ℕ → Option Found
found_in groups e bytes = if in_groups groups e then found_by e.want bytes else None

-- The entry with number n, if it matched. Otherwise the other choice.
abbrev pub chosen_or : ℕ → Option Found → Chosen → Chosen
chosen_or n (Some spans) other = chosen.Pattern n spans
chosen_or n None other = other

-- The first of these entries that matches. They are numbered from n on.
abbrev pub decide_from : ℕ → List Entry → List ℕ → List ℕ → Chosen → Chosen
decide_from n [] groups bytes other = other
decide_from n (e ∷ entries) groups bytes other = chosen_or n (found_in groups e bytes) (decide_from (n + 1) entries groups bytes other)

-- The groups have a `full_buffer`, and there are at least `most` bytes.
abbrev pub is_full : List Entry → List ℕ → List ℕ → ℕ → Bool
is_full entries groups bytes most = nat_le most (length bytes) && is_some (first_in waits_for_full groups entries)

abbrev pub full_or_none : List Entry → List ℕ → List ℕ → ℕ → Chosen
full_or_none entries groups bytes most = if is_full entries groups bytes most then chosen.Full else chosen.None

-- The first entry of the groups that matches, with its spans. Otherwise full or none.
unfoldable pub decide : List Entry → List ℕ → List ℕ → ℕ → Chosen
decide entries groups bytes most = decide_from 0 entries groups bytes (full_or_none entries groups bytes most)
