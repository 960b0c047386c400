-- A time limit ends scripts.
use Rattle.std.specs.Prelude.{◌≡◌, ◌≢◌, ℕ, ◌+◌, ◌<◌, List, ◌∷◌, ◌++◌, slice_get, Some, Ok}
use Rattle.child_events.specs.declared.event.HallEvent.{HallEvent}
use Rattle.child_events.specs.declared.event.HallEvent.TheVariants.{Tick}
use Rattle.child_events.specs.World.{own, horizon_of}
use Rattle.tcl_host.specs.declared.ending.Ending.TheVariants.{Waiting}
use Rattle.session.specs.declared.report.Report.{Report}
use Rattle.session.specs.Left.{Kept}
use Rattle.session.specs.Spent.{Reports}
use Rattle.dialogue_sched.specs.declared.script.Script.{Script}
use Rattle.dialogue_sched.specs.Reached.{Reached}
use Rattle.dialogue_sched.specs.Run.{Runs}

-- No report of a run says that its script waits, if the greatest moment of the script's own events is past the script's
-- limit.
abbrev pub RunsEnd : Type 0
RunsEnd = (ss : List Script) (es : List HallEvent) (rs : List Report) (i : ℕ) (s : Script) (r : Report) (limit : ℕ) →
    Runs ss es (Ok rs) → slice_get ss i ≡ Some s → slice_get rs i ≡ Some r →
    s.settings.limit_ms ≡ Some limit → limit < horizon_of (own (i + 1) es) → r.ending ≢ Waiting

-- The same for the report of a hall's session.
abbrev pub SessionsEnd : Type 0
SessionsEnd = (ss : List Script) (es : List HallEvent) (i : ℕ) (s : Script) (ks : List Kept) (k : Kept) (r : Report) (limit : ℕ) →
    Reached 1 ss es ks → slice_get ss i ≡ Some s → slice_get ks i ≡ Some k → Reports k r →
    s.settings.limit_ms ≡ Some limit → limit < horizon_of (own (i + 1) es) → r.ending ≢ Waiting

-- A tick past a limit takes the events of each script past it.
abbrev pub TicksPass : Type 0
TicksPass = (n limit m : ℕ) (es fs : List HallEvent) → limit < m → limit < horizon_of (own n (es ++ Tick m ∷ fs))
