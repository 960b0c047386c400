-- Bytes that were searched without a match. Most patterns that match nothing in some bytes match nothing in their last
-- ones, and are not sought there again.
use Rattle.std.specs.Prelude.{◌≡◌, ◌≢◌, ◌⊎◌, ℕ, ◌<◌, ◌≤◌, List, length, take, slice_index, replicate, Option, Some, None}
use Rattle.exp_match.specs.Choice.{HasNone}
use Rattle.expect_core.specs.declared.plan.Plan.{Plan}
use Rattle.expect_core.specs.declared.phase.Heard.{Heard}
use Rattle.expect_core.specs.declared.own.Own.{Own}
use Rattle.expect_core.specs.Owned.{bytes_of}
use Rattle.expect_core.specs.Heard.{Watch, watched}
use Rattle.expect_core.specs.Quiet.{side}

-- The match buffer has at least n bytes. If n is not 0, the child's patterns find nothing in the first n bytes.
abbrev pub IsSought : Plan → Watch → ℕ → Own → Type 0
IsSought p w n o = (n ≤ length (bytes_of w.0 o)) × (0 < n → HasNone p.list.entries w.1 (take n (bytes_of w.0 o)))

-- The same for each child that takes part, by its index.
abbrev pub AreSought : Plan → List ℕ → Own → Type 0
AreSought p counts o = (k : ℕ) → k < length (watched p) → IsSought p (side p k) (slice_index counts k) o

-- The counts are right if the wait goes on after a test.
abbrev pub GoesOnSought : Option Heard → Plan → List ℕ → Own → Type 0
GoesOnSought None p counts o = AreSought p counts o
GoesOnSought (Some h) p counts o = Unit {0}

-- If nothing is chosen, the child's patterns found nothing in its bytes.
abbrev pub FoundNone : Option Heard → Plan → Watch → Own → Type 0
FoundNone None p w o = HasNone p.list.entries w.1 (bytes_of w.0 o)
FoundNone (Some h) p w o = Unit {0}

-- The count of the child at place i is 0 afterwards. Every other count is unchanged or 0.
abbrev pub Forgets : ℕ → Plan → ℕ → List ℕ → List ℕ → Type 0
Forgets i p n old new = (k : ℕ) → k < n → (slice_index new k ≡ 0) ⊎ ((slice_index new k ≡ slice_index old k) × ((side p k).0 ≢ i))

-- Nothing is known at first.
abbrev pub nothing_sought : ℕ → List ℕ
nothing_sought n = replicate n 0
