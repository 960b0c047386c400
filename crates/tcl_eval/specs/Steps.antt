-- The number of steps that a meter has left.
use Rattle.std.specs.Prelude.{ℕ, ◌-◌}
use Rattle.tcl_eval.specs.declared.meter.Meter.{Meter}

abbrev pub left_of : Meter → ℕ
left_of m = m.bound - m.count
