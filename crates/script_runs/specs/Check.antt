-- The lines of a check's findings, and what checking a source returns and writes.
use Rattle.std.specs.Prelude.{◌≡◌, ◌≤◌, ℕ, Bool, true, false, List, [], ◌∷◌, ◌++◌, codes, nat_lt, if◌then◌else◌, Option, Result, Ok, Err}
use Rattle.std.specs.Io.KnownBytes.{Appends}
use Rattle.tcl_words.specs.Bytes as ascii
use Rattle.script_check.specs.declared.problem.Finding.{Finding}
use Rattle.script_check.specs.Findings.{findings}
use Rattle.script_check.specs.Lines.{line_of}
use Rattle.script_check.specs.Texts.{text_of}
use Rattle.script_runs.specs.declared.checking.CheckFault.{CheckFault}
use Rattle.script_runs.specs.declared.checking.CheckFault.TheVariants.{Write, Memory}
use Rattle.report_texts.specs.Report.{labelled}
use Rattle.report_texts.specs.declared.escape.Escaping.TheVariants.{Lines, Quotes}
use Rattle.report_texts.specs.Escape.{escaped}
use Rattle.report_texts.specs.Devices.{WasPut, GaveUp}

-- Whether a byte is an ASCII control character other than DEL.
abbrev pub is_control : ℕ → Bool
is_control b = nat_lt b ascii.space

-- A byte, escaped if it could end the line.
abbrev pub within_line : ℕ → List ℕ
within_line b = if is_control b then escaped Quotes (b ∷ []) else b ∷ []

abbrev pub lines_within : List ℕ → List ℕ
lines_within [] = []
lines_within (b ∷ bs) = within_line b ++ lines_within bs

-- Bytes as text that does nothing on a terminal and ends no line.
abbrev pub in_line : List ℕ → List ℕ
in_line bytes = lines_within (escaped Lines bytes)

-- The text of a finding: the file, the line on which the command begins, and what is wrong.
unfoldable pub finding_text : List ℕ → List ℕ → Finding → List ℕ
finding_text file source f = file ++ labelled (codes ":") (line_of source f.at) ++ codes ": " ++ text_of f.what

unfoldable pub finding_line : List ℕ → List ℕ → Finding → List ℕ
finding_line file source f = in_line (finding_text file source f) ++ ascii.newline ∷ []

abbrev pub finding_lines : List ℕ → List ℕ → List Finding → List ℕ
finding_lines file source [] = []
finding_lines file source (f ∷ fs) = finding_line file source f ++ finding_lines file source fs

-- The lines of all findings in the source of a file.
abbrev pub checked : List ℕ → List ℕ → List ℕ
checked file source = finding_lines file source (findings source)

abbrev pub is_nothing : List ℕ → Bool
is_nothing [] = true
is_nothing (b ∷ bs) = false

-- What checking the source of a file returns, and what it appends to the output: the lines of all findings, and whether
-- there are none.
abbrev pub Checks : List ℕ → List ℕ → Option (List ℕ) → Option (List ℕ) → ℕ → ℕ → Result Bool CheckFault → Type 0
Checks file source old new failures calls (Ok well) = Appends old new (checked file source) × (failures ≡ 0) × (calls ≤ 1099511627776) × (well ≡ is_nothing (checked file source))
Checks file source old new failures calls (Err Write) = WasPut old new (checked file source) × GaveUp failures calls
Checks file source old new failures calls (Err Memory) = Appends old new [] × (failures ≡ 0)
