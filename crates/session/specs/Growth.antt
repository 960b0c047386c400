-- More events only continue a waiting script. Requests and output are not undone, and an ending stays.
use Rattle.std.specs.Prelude.{◌≡◌, ◌≢◌, ℕ, List, ◌++◌}
use Rattle.child_events.specs.declared.event.Event.{Event}
use Rattle.tcl_host.specs.declared.ending.Ending.TheVariants.{Waiting}
use Rattle.expect_core.specs.declared.request.Request.{Request}
use Rattle.expect_core.specs.declared.settings.Settings.{Settings}
use Rattle.session.specs.declared.report.Report.{Report}
use Rattle.session.specs.Meaning.{meaning}

-- The first report's requests and transcript are prefixes of the second's.
pub record Continues (first second : Report) : Type 0 where
  pub more : List Request
  pub asked : second.requests ≡ first.requests ++ more
  pub further : List ℕ
  pub told : second.transcript ≡ first.transcript ++ further

-- Later events don't change a report with an ending.
abbrev pub EndingStays : Type 0
EndingStays = (source : List ℕ) (settings : Settings) (events later : List Event) →
    (meaning source settings events).ending ≢ Waiting → meaning source settings (events ++ later) ≡ meaning source settings events

-- Later events undo no request and no output.
abbrev pub OnlyGrows : Type 0
OnlyGrows = (source : List ℕ) (settings : Settings) (events later : List Event) →
    Continues (meaning source settings events) (meaning source settings (events ++ later))
