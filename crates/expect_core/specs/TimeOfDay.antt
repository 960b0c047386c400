-- The time of day. A script learns it once, of date(1), and then reckons with its own clock. So a replay has the times of
-- the run.
use Rattle.std.specs.Prelude.{ℕ, ◌+◌, ◌*◌, ◌-◌, ◌/◌, nat_lt, min, List, Option, None, Some, option_and_then, if◌then◌else◌}
use Rattle.std.specs.Fmt.{decimal}
use Rattle.command_table.specs.declared.options.ClockOption.{ClockOption}
use Rattle.command_table.specs.declared.options.ClockOption.TheVariants.{Seconds, Milliseconds}
use Rattle.expect_core.specs.Sleeping.{digits}
use Rattle.expect_core.specs.Channels.{without_newline}

-- A time of day in milliseconds, and the clock's moment when it was that.
abbrev pub Known : Type 0
Known = ℕ × ℕ

-- The time of day at a moment of the clock.
abbrev pub time_at : ℕ → Known → ℕ
time_at clock known = min (known.0 + clock) 18446744073709551615 - known.1

-- A time as `clock seconds` or `clock milliseconds` gives it.
abbrev pub as_text : ClockOption → ℕ → List ℕ
as_text Seconds time = decimal (time / 1000)
as_text Milliseconds time = decimal time

-- A time in seconds, in milliseconds. More than 9,000,000,000,000 seconds are none.
abbrev pub time_of : ℕ → Option ℕ
time_of n = if nat_lt 9000000000000 n then None else Some (n * 1000)

-- What date(1) told, if it is a time.
abbrev pub told : List ℕ → Option ℕ
told bytes = option_and_then time_of (digits (without_newline bytes))
