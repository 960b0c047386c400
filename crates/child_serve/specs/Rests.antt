-- The moment of what came while a desk rested.
use Rattle.std.specs.Prelude.{ℕ, ◌-◌, nat_lt, nat_le, ◌&&◌, if◌then◌else◌, Option, Some, None}

-- The deadline, if it passed at most 1,000 ms before the desk woke. Otherwise the moment at which the desk woke.
abbrev pub woken_of : Option ℕ → ℕ → ℕ
woken_of None woken = woken
woken_of (Some last) woken = if nat_lt last woken && nat_le (woken - last) 1000 then last else woken
