-- Whether exprun itself closed a child's output. A run does so when the script closes the child, and when the script
-- has ended.
use Rattle.std.specs.Prelude.{ℕ, List, Bool, true, false, ◌==◌, ◌&&◌, ◌||◌}
use Rattle.std.specs.List.{list_any}
use Rattle.child_events.specs.declared.event.What.{What}
use Rattle.child_events.specs.declared.event.What.TheVariants as what
use Rattle.child_events.specs.declared.event.HallEvent.{HallEvent}
use Rattle.child_events.specs.declared.event.HallEvent.TheVariants as hall
use Rattle.expect_core.specs.declared.request.Act.{Act}
use Rattle.expect_core.specs.declared.request.Act.TheVariants as act
use Rattle.expect_core.specs.declared.request.Request.{Request}
use Rattle.tcl_host.specs.declared.ending.Ending.{Ending}
use Rattle.tcl_host.specs.declared.ending.Ending.TheVariants as ending

-- Whether a script has ended.
abbrev pub is_over : Ending → Bool
is_over ending.Waiting = false
is_over how = true

abbrev pub is_close : Act → Bool
is_close act.Close = true
is_close a = false

-- Whether a request closes this child.
abbrev pub closes : ℕ → Request → Bool
closes c r = (r.child == c) && is_close r.act

-- Whether reading a child's output failed.
abbrev pub is_loss : What → Bool
is_loss (what.ReadFail cause) = true
is_loss w = false

-- Whether an event says that reading a child's output failed, after the script had ended or had asked to close that
-- child.
abbrev pub is_closed : List Request → Ending → HallEvent → Bool
is_closed asked how (hall.Child s c m w) = is_loss w && (is_over how || list_any (closes c) asked)
is_closed asked how (hall.Tick m) = false
