-- How a child that outlives its script is ended. It gets SIGHUP after its grace period, as at a terminal's hang-up
-- (POSIX XBD 11.1.10). It gets SIGKILL a second later, and once a second from then on. SIGKILL can't be caught (POSIX
-- XBD signal.h).
use Rattle.std.specs.Prelude.{ℕ, ◌-◌, nat_lt, if◌then◌else◌}
use Rattle.child_pipes.specs.declared.stage.Stage.{Stage}
use Rattle.child_pipes.specs.declared.stage.Stage.TheVariants.{Kept, LetGo, HungUp, Killed}

-- The stage at a check, with this grace period. Times are in milliseconds.
abbrev pub stage_after : Stage → ℕ → ℕ → Stage
stage_after Kept grace now = if nat_lt 0 grace then LetGo now else HungUp now
stage_after (LetGo since) grace now = if nat_lt (now - since) grace then LetGo since else HungUp now
stage_after (HungUp since) grace now = if nat_lt (now - since) 1000 then HungUp since else Killed now
stage_after (Killed since) grace now = if nat_lt (now - since) 1000 then Killed since else Killed now
