-- Ticks inserted into a script's events: more frequent ticks of the clock.
use Rattle.std.specs.Prelude.{◌≡◌, ◌≢◌, ℕ, ◌≤◌, List, [], ◌∷◌, ◌++◌}
use Rattle.child_events.specs.declared.event.Event.{Event}
use Rattle.child_events.specs.declared.event.Event.TheVariants as event
use Rattle.child_events.specs.World.{moment_of, horizon_of}
use Rattle.tcl_host.specs.declared.ending.Ending.TheVariants.{Waiting}
use Rattle.expect_core.specs.declared.settings.Settings.{Settings}
use Rattle.session.specs.Meaning.{meaning}
use Rattle.session.specs.Growth.{Continues}

-- The moments don't decrease, and none is below `least`.
abbrev pub RisesFrom : ℕ → List Event → Type 0
RisesFrom least [] = Unit {0}
RisesFrom least (e ∷ es) = (least ≤ moment_of e) × RisesFrom (moment_of e) es

-- The moments don't decrease.
abbrev pub Rises : List Event → Type 0
Rises es = RisesFrom 0 es

-- The second list is the first one with ticks inserted.
pub data WithTicks : List Event → List Event → Type 0 where
  none : WithTicks [] []
  kept : (e : Event) (es more : List Event) → WithTicks es more → WithTicks (e ∷ es) (e ∷ more)
  tick : (m : ℕ) (es more : List Event) → WithTicks es more → WithTicks es (event.Tick m ∷ more)

-- If the moments still don't decrease, inserted ticks mean the same as one tick at the end, at the greatest moment.
abbrev pub TicksAreOne : Type 0
TicksAreOne = (source : List ℕ) (settings : Settings) (events more : List Event) → Rises more → WithTicks events more →
    meaning source settings more ≡ meaning source settings (events ++ event.Tick (horizon_of more) ∷ [])

-- Inserted ticks therefore change nothing if the script has an ending.
abbrev pub TicksChangeNothing : Type 0
TicksChangeNothing = (source : List ℕ) (settings : Settings) (events more : List Event) → Rises more → WithTicks events more →
    (meaning source settings events).ending ≢ Waiting → meaning source settings more ≡ meaning source settings events

-- Inserted ticks undo no request and no output.
abbrev pub TicksOnlyAdd : Type 0
TicksOnlyAdd = (source : List ℕ) (settings : Settings) (events more : List Event) → Rises more → WithTicks events more →
    Continues (meaning source settings events) (meaning source settings more)
