use Rattle.std.proofs.Common.{◌≡◌, ◌<◌, ℕ, List, Some}
use Rattle.csv.specs.Reading.{Reached, Ready, default_config, source_of, strip_bom}
use Rattle.csv.specs.declared.parser.State.TheVariants.{StartRecord}
use Rattle.csv.specs.declared.reader.Trim.TheVariants as trim
use Rattle.csv_tables.proofs.records.records_of.Given as goal

-- The records so far lead from the start of the text to what the reader has left.
abbrev pub invariant-loop-row : goal.invariant-loop-row
invariant-loop-row l =
    (left : List ℕ)
    × (source_of (λ s. Some s.now) l.row-iterator.rdr ≡ Some left)
    × Reached default_config StartRecord (strip_bom l.fn.text) l.records.items l.row-iterator.rdr.state left
    × Ready l.row-iterator.rdr
    × (l.row-iterator.rdr.trim ≡ trim.None)
    × (l.row-iterator.rdr.config ≡ default_config)
    × (0 < l.row-iterator.left)
