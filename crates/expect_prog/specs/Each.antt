-- Scripts that run once per row of a list. The list is a table in CSV: its columns are named after variables.
use Rattle.std.specs.Prelude.{◌≡◌, ◌+◌, ◌<◌, ℕ, not, List, [], ◌∷◌, ◌++◌, length, map, position, codes, IsUtf8, Option, Some, None, option_map}
use Rattle.std.specs.List.{flat_map, zip}
use Rattle.std.specs.Borrow.{Bor}
use Rattle.csv_tables.specs.Table.{AreRecordsOf, fault_in}
use Rattle.csv_tables.specs.declared.table.TableFault.TheVariants.{Uneven}
use Rattle.expect_prog.specs.Variables.{Variables, is_settable}
use Rattle.expect_prog.specs.declared.complaint.Complaint.{Complaint}
use Rattle.expect_prog.specs.declared.complaint.Complaint.TheVariants as line

-- The variables that each row of a table sets: the names of the columns, with the row's values.
abbrev pub AreRowsIn : List (List (List ℕ)) → List Variables → Type 0
AreRowsIn [] rows = ⊥
AreRowsIn (names ∷ values) rows = rows ≡ map (zip names) values

-- The variables that each row of a list sets.
abbrev pub AreRows : List ℕ → List Variables → Type 0
AreRows list rows = (table : List (List (List ℕ))) × AreRecordsOf list table × (fault_in table ≡ None) × AreRowsIn table rows

-- Without a list there is one row, which sets no variables.
abbrev pub AreRowsGiven : (List ℕ → List ℕ → Type 0) → Option (Bor (List ℕ)) → List Variables → Type 0
AreRowsGiven holds None rows = rows ≡ [] ∷ []
AreRowsGiven holds (Some path) rows = (list : List ℕ) × holds path.now list × AreRows list rows

-- The name that reports give a script: its file, and behind a colon the first value of its row.
abbrev pub name_in : Variables → List ℕ → List ℕ
name_in [] file = file
name_in (v ∷ row) file = file ++ codes ":" ++ v.1

-- The names of scripts that run once per row.
abbrev pub names_given : List Variables → List (List ℕ) → List (List ℕ)
names_given rows files = flat_map (λ row. map (name_in row) files) rows

-- The index of the first column whose name no variable can have.
abbrev pub bad_column : List (List ℕ) → Option ℕ
bad_column names = position (λ name. not (is_settable name)) names

-- The line for what is wrong in a table at a path: it has no rows, a column that names no variable, or too many rows.
abbrev pub TableLine : Bor (List ℕ) → List (List (List ℕ)) → Complaint → Type 0
TableLine path table (line.NoRows named) = (named ≡ path) × (length table < 2)
TableLine path [] c = ⊥
TableLine path (names ∷ rows) (line.BadColumn named n) = (named ≡ path) × (option_map (λ i. i + 1) (bad_column names) ≡ Some n)
TableLine path (names ∷ rows) line.TooManyScripts = (bad_column names ≡ None) × 64 < length rows
TableLine path (names ∷ rows) line.Memory = Unit {0}
TableLine path (names ∷ rows) c = ⊥

-- The line for what is wrong in a list at a path.
abbrev pub ListLine : Bor (List ℕ) → List ℕ → Complaint → Type 0
ListLine path list (line.LongList named) = (named ≡ path) × 1048576 < length list
ListLine path list (line.NotText named) = (named ≡ path) × ¬ IsUtf8 list
ListLine path list (line.UnevenRow named n) = (named ≡ path) × (table : List (List (List ℕ))) × AreRecordsOf list table × (fault_in table ≡ Some (Uneven n))
ListLine path list line.Memory = Unit {0}
ListLine path list c = (table : List (List (List ℕ))) × AreRecordsOf list table × TableLine path table c
