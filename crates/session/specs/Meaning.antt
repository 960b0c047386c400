-- What a script means over all its events.
use Rattle.std.specs.Prelude.{ℕ, nat_lt, List, [], if◌then◌else◌}
use Rattle.tcl_eval.specs.Meaning.{eval}
use Rattle.tcl_eval.specs.Suspended.{at_the_end}
use Rattle.tcl_eval.specs.Tree.{Tree}
use Rattle.child_events.specs.declared.event.Event.{Event}
use Rattle.expect_core.specs.declared.settings.Settings.{Settings}
use Rattle.expect_core.specs.Lanes.{extended}
use Rattle.expect_core.specs.Calls.{fresh}
use Rattle.session.specs.declared.report.Report.{Report}
use Rattle.session.specs.First.{first_variables}
use Rattle.session.specs.Play.{play, told}

-- A limit above 1,000,000,000,000 steps counts as that number.
abbrev pub steps_of : ℕ → ℕ
steps_of n = if nat_lt n 1000000000000 then n else 1000000000000

-- The tree of a source. At most 200 scripts are nested. It is unfoldable because it is slow to compute.
unfoldable pub tree_of : List ℕ → Settings → Tree
tree_of source settings = eval 200 source at_the_end (record { vars = first_variables settings.host settings.vars; procs = []; left = steps_of settings.steps; trail = [] })

-- The meaning of a source, settings and the script's own events. The moment of each event is raised to the greatest one
-- before it. Each call sees all events.
abbrev pub meaning : List ℕ → Settings → List Event → Report
meaning source settings events = told settings.tells_vars (play (steps_of settings.steps) (tree_of source settings) (extended events (fresh settings)))
