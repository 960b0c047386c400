-- Reports that are written one by one.
use Rattle.std.specs.Prelude.{◌≡◌, ℕ, ◌+◌, ◌≤◌, ◌⊎◌, List, [], length, vec_capacity, slice_get, Bool, Option, Some, Result, IfOk}
use Rattle.session.specs.declared.report.Report.{Report}
use Rattle.session.specs.Spent.{memory_report}
use Rattle.dialogue_sched.specs.Pairs.{Paired}
use Rattle.report_texts.specs.declared.devices.Unwritten.{Unwritten}
use Rattle.report_texts.specs.Devices.{Writes}
use Rattle.report_texts.specs.Report.{all_done}
use Rattle.report_texts.specs.Form.{part_bytes, parts_bytes, opening, endings_of, told_bytes}
use Rattle.report_texts.specs.declared.form.Form.{Form}
use Rattle.report_texts.specs.declared.form.Spares.{Spares}
use Rattle.tcl_host.specs.declared.ending.Ending.{Ending}

-- The parts of this number of scripts that were refused memory, beginning with script 1.
pub record AreParts (form : Form) (count : ℕ) (texts : List (List ℕ)) : Type 0 where
  pub many : length texts ≡ count
  pub each : (i : ℕ) (text : List ℕ) → slice_get texts i ≡ Some text → text ≡ part_bytes form (i + 1) memory_report

-- The texts prepared before reports are written: the text before their parts, the parts of scripts that were refused
-- memory, and room for endings.
pub record AreSpares (form : Form) (count : ℕ) (spares : Spares) : Type 0 where
  pub front : spares.opening ≡ opening form.format count
  pub parts : AreParts form count spares.parts.items
  pub none : spares.endings.items ≡ []
  pub room : count ≤ vec_capacity spares.endings

-- What is written for a report: the report itself, or that of a script that was refused memory if the report's text is
-- refused memory.
abbrev pub StandsFor : Report → Report → Type 0
StandsFor r told = (told ≡ r) ⊎ (told ≡ memory_report)

abbrev pub AllStandFor : List Report → List Report → Type 0
AllStandFor rs told = Paired StandsFor rs told

-- The part of script n's report, or of its replacement, is written. Its ending is returned.
pub record WritesOne (form : Form) (n : ℕ) (r : Report) (old new : Option (List ℕ)) (failures calls : ℕ) (result : Result Ending Unwritten) : Type 0 where
  pub told : Report
  pub stands : StandsFor r told
  pub writes : Writes (part_bytes form n told) old new failures calls result
  pub ended : IfOk result (λ ending. ending ≡ told.ending)

-- The parts of all reports are written, in order, with their endings.
pub record WritesParts (form : Form) (rs : List Report) (old new : Option (List ℕ)) (failures calls : ℕ) (endings : List Ending) (result : Result Bool Unwritten) : Type 0 where
  pub told : List Report
  pub stand : AllStandFor rs told
  pub writes : Writes (parts_bytes form 1 told) old new failures calls result
  pub done : IfOk result (λ well. (well ≡ all_done told) × (endings ≡ endings_of told))

-- The whole text is written.
pub record WritesAll (form : Form) (rs : List Report) (old new : Option (List ℕ)) (failures calls : ℕ) (result : Result Bool Unwritten) : Type 0 where
  pub told : List Report
  pub stand : AllStandFor rs told
  pub writes : Writes (told_bytes form told) old new failures calls result
  pub done : IfOk result (λ well. well ≡ all_done told)
