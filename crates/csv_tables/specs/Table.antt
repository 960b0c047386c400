-- Tables of texts in CSV (RFC 4180): the names of the columns in the first record, and a row of as many values in each
-- later one.
use Rattle.std.specs.Prelude.{◌≡◌, ◌+◌, ◌==◌, ℕ, not, List, [], ◌∷◌, length, position, Option, Some, None, Result, Ok, Err}
use Rattle.std.specs.Global.{Vec}
use Rattle.csv.specs.Reading.{AreRecords, default_config, strip_bom}
use Rattle.csv.specs.declared.parser.State.TheVariants.{StartRecord}
use Rattle.csv_tables.specs.declared.table.TableFault.{TableFault}
use Rattle.csv_tables.specs.declared.table.TableFault.TheVariants as fault

abbrev pub Row : Type 0
Row = List (List ℕ)

-- These are the records of a text. A byte order mark at its start is no part of it.
abbrev pub AreRecordsOf : List ℕ → List Row → Type 0
AreRecordsOf text records = AreRecords default_config StartRecord (strip_bom text) records

-- The index of the first row that doesn't have `count` values.
abbrev pub uneven_at : ℕ → List Row → Option ℕ
uneven_at count rows = position (λ row. not (length row == count)) rows

abbrev pub uneven : Option ℕ → Option TableFault
uneven None = None
uneven (Some i) = Some (fault.Uneven (i + 1))

-- What is wrong in records that are no table: there are no names, or a row doesn't have a value per name.
abbrev pub fault_in : List Row → Option TableFault
fault_in [] = Some fault.NoNames
fault_in (names ∷ rows) = uneven (uneven_at (length names) rows)

-- The table in a text, or what is wrong in its records.
abbrev pub IsTableOf : List ℕ → Result (Vec Row) TableFault → Type 0
IsTableOf text (Ok table) = AreRecordsOf text table.items × (fault_in table.items ≡ None)
IsTableOf text (Err fault.Memory) = Unit {0}
IsTableOf text (Err fault) = (records : List Row) × AreRecordsOf text records × (fault_in records ≡ Some fault)
