-- Children that needn't be tested again. A test of their bytes chose nothing and dropped nothing, and the bytes haven't
-- changed since.
use Rattle.std.specs.Prelude.{◌≡◌, ◌⊎◌, ℕ, ◌<◌, ◌≤◌, ◌==◌, List, [], length, replicate, Bool, true, false, nat_lt, if◌then◌else◌, slice_index_or, Option, Some, None}
use Rattle.circular_buffer.specs.Buffer.{keep_last}
use Rattle.exp_match.specs.declared.chosen.Chosen.TheVariants as chosen
use Rattle.expect_core.specs.declared.plan.Plan.{Plan}
use Rattle.expect_core.specs.declared.phase.Heard.{Heard}
use Rattle.expect_core.specs.declared.own.Own.{Own}
use Rattle.expect_core.specs.Owned.{child_of, bytes_of, trimmed}
use Rattle.expect_core.specs.Heard.{Watch, watched, chosen_of}

-- A test of a child's match buffer chooses nothing, and drops no bytes.
abbrev pub IsQuiet : Plan → Watch → Own → Type 0
IsQuiet p w o = (chosen_of p w o ≡ chosen.None) × (keep_last (child_of w.0 o).kept.size (bytes_of w.0 o) ≡ bytes_of w.0 o)

-- The child at an index among those that take part.
abbrev pub side : Plan → ℕ → Watch
side p n = slice_index_or (watched p) n (16, [])

-- Whether there is a mark at an index.
abbrev pub marked : ℕ → List Bool → Bool
marked n marks = slice_index_or marks n false

-- The child needn't be tested: there is a mark at its index, and its bytes haven't changed. `i` is its place.
abbrev pub spared : ℕ → ℕ → Option ℕ → List Bool → Bool
spared n i None marks = marked n marks
spared n i (Some changed) marks = if changed == i then false else marked n marks

-- For a single child nothing is remembered.
abbrev pub unmarked : ℕ → List Bool
unmarked n = if nat_lt n 2 then [] else replicate n false

-- All marked children are quiet.
abbrev pub AreQuiet : Plan → List Bool → Own → Type 0
AreQuiet p marks o = (n : ℕ) → n < length (watched p) → marked n marks ≡ true → IsQuiet p (side p n) o

-- All marked children are quiet. The one that has changed need not be, if its test at index `at` or later is to come.
abbrev pub AreQuietBut : Option ℕ → ℕ → Plan → List Bool → Own → Type 0
AreQuietBut changed at p marks o = (n : ℕ) → n < length (watched p) → marked n marks ≡ true → IsQuiet p (side p n) o ⊎ ((at ≤ n) × (Some (side p n).0 ≡ changed))

-- The marks are right if the wait goes on after a test.
abbrev pub GoesOnQuiet : Option Heard → Plan → List Bool → Own → Type 0
GoesOnQuiet None p marks o = AreQuiet p marks o
GoesOnQuiet (Some h) p marks o = Unit {0}

abbrev pub GoesOnQuietBut : Option Heard → Option ℕ → ℕ → Plan → List Bool → Own → Type 0
GoesOnQuietBut None changed at p marks o = AreQuietBut changed at p marks o
GoesOnQuietBut (Some h) changed at p marks o = Unit {0}

-- If nothing is chosen, the child's match buffer is trimmed to its size.
abbrev pub TrimsNone : Option Heard → Plan → Watch → Own → Own → Type 0
TrimsNone None p w old new = (chosen_of p w old ≡ chosen.None) × (new ≡ trimmed w.0 old)
TrimsNone (Some h) p w old new = Unit {0}
