-- Numbers of arguments.
use Rattle.std.specs.Prelude.{ℕ, nat_le, Bool, ◌&&◌, Option, Some, None}
use Rattle.command_table.specs.declared.counts.Count.{Count}

abbrev pub between : ℕ → ℕ → Count
between least most = record { least = least; most = Some most }

abbrev pub exactly : ℕ → Count
exactly n = between n n

abbrev pub at_least : ℕ → Count
at_least n = record { least = n; most = None }

abbrev pub within : ℕ → ℕ → Option ℕ → Bool
within n least None = nat_le least n
within n least (Some most) = nat_le least n && nat_le n most

-- A command may have this number of arguments.
abbrev pub fits : Count → ℕ → Bool
fits c n = within n c.least c.most
