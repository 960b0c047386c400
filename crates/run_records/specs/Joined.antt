-- One record of the records of several workers.
use Rattle.std.specs.Prelude.{◌≡◌, ◌≢◌, ℕ, ◌+◌, ◌-◌, ◌*◌, ◌≤◌, ◌==◌, List, [], ◌∷◌, ◌++◌, map, length, slice_get, Option, None, Some}
use Rattle.std.specs.List.{filter}
use Rattle.child_events.specs.declared.child_numbers.ChildNumbers.TheVariants.{To16}
use Rattle.child_events.specs.declared.event.HallEvent.{HallEvent}
use Rattle.child_events.specs.declared.event.HallEvent.TheVariants as hall
use Rattle.child_events.specs.World.{own}
use Rattle.child_events.specs.Log.{AllFit}
use Rattle.tcl_host.specs.declared.ending.Ending.TheVariants.{Waiting}
use Rattle.expect_core.specs.declared.settings.Settings.{Settings}
use Rattle.session.specs.Meaning.{meaning}
use Rattle.session.specs.Growth.{Continues}
use Rattle.dialogue_sched.specs.Ticks.{WithTicks}
use Rattle.child_hands.specs.Record.{moment_in, Ascends}

-- The number of a script among all. Workers are counted from 0. Worker `w` has the scripts w + 1, w + 1 + workers, ..
-- Its own hall numbers them 1, 2, ..
abbrev pub script_of : ℕ → ℕ → ℕ → ℕ
script_of workers w number = (number - 1) * workers + w + 1

-- An event of a worker's record, with the number that its script has among all.
abbrev pub numbered : ℕ → ℕ → HallEvent → HallEvent
numbered workers w (hall.Child s c m x) = hall.Child (script_of workers w s) c m x
numbered workers w (hall.Tick m) = hall.Tick m

-- The records, one after another, from that of worker `w` on.
abbrev pub all_from : ℕ → ℕ → List (List HallEvent) → List HallEvent
all_from workers w [] = []
all_from workers w (r ∷ rs) = map (numbered workers w) r ++ all_from workers (w + 1) rs

abbrev pub all_of : List (List HallEvent) → List HallEvent
all_of records = all_from (length records) 0 records

-- The events of a moment.
abbrev pub at_moment : ℕ → List HallEvent → List HallEvent
at_moment m es = filter (λ e. moment_in e == m) es

-- In the record of worker `w`, moments don't decrease. Its events are within the limits, with the numbers of its own
-- hall and with those among all.
pub record Fits (workers w : ℕ) (r : List HallEvent) : Type 0 where
  pub ascends : Ascends r
  pub here : AllFit To16 r
  pub among : AllFit To16 (map (numbered workers w) r)

abbrev pub AllFitFrom : ℕ → ℕ → List (List HallEvent) → Type 0
AllFitFrom workers w [] = Unit {0}
AllFitFrom workers w (r ∷ rs) = Fits workers w r × AllFitFrom workers (w + 1) rs

abbrev pub AllFits : List (List HallEvent) → Type 0
AllFits records = AllFitFrom (length records) 0 records

-- The joined record has the events in order of moments. Events of one moment are in order of workers, and each worker's
-- are in the order of its record.
pub record IsJoined (records : List (List HallEvent)) (es : List HallEvent) : Type 0 where
  pub ascends : Ascends es
  pub ties : (m : ℕ) → at_moment m es ≡ at_moment m (all_of records)

-- What a script sees of the joined record is what it sees of its worker's, with ticks inserted.
abbrev pub EachSees : List (List HallEvent) → List HallEvent → Type 0
EachSees records es = (w number : ℕ) (r : List HallEvent) → slice_get records w ≡ Some r → 1 ≤ number → WithTicks (own number r) (own (script_of (length records) w number) es)

-- A script therefore means the same over both, once it has an ending. Until then the joined record only continues it.
abbrev pub EachMeans : List (List HallEvent) → List HallEvent → Type 0
EachMeans records es = (w number : ℕ) (r : List HallEvent) → slice_get records w ≡ Some r → 1 ≤ number → (source : List ℕ) (settings : Settings) →
    ((meaning source settings (own number r)).ending ≢ Waiting → meaning source settings (own (script_of (length records) w number) es) ≡ meaning source settings (own number r))
    × Continues (meaning source settings (own number r)) (meaning source settings (own (script_of (length records) w number) es))
