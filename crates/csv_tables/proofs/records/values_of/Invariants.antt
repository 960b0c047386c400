use Rattle.std.proofs.Common.{◌≡◌, take}
use Rattle.csv.specs.Records.{fields_of}
use Rattle.csv_tables.proofs.records.values_of.Given as goal

abbrev pub invariant-loop-i : goal.invariant-loop-i
invariant-loop-i l = l.values ≡ take l.i (fields_of l.row)
