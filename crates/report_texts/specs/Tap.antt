-- Reports as tests of the Test Anything Protocol.
use Rattle.std.specs.Prelude.{ℕ, List, [], ◌∷◌, ◌++◌, codes, ◌==◌, if◌then◌else◌}
use Rattle.tcl_words.specs.Bytes as ascii
use Rattle.tcl_host.specs.declared.ending.Ending.{Ending}
use Rattle.tcl_host.specs.declared.ending.Ending.TheVariants.{Exit, Error, StepLimit, TimeLimit, Memory, Waiting}
use Rattle.session.specs.declared.report.Report.{Report}
use Rattle.report_texts.specs.Report.{labelled, ending_text, is_done}
use Rattle.report_texts.specs.Line.{line_byte, line_text}

-- A byte of a test's name. A number sign, which would begin a directive, is escaped.
abbrev pub name_byte : ℕ → List ℕ
name_byte b = if b == ascii.hash then ascii.backslash ∷ ascii.hash ∷ [] else line_byte b

abbrev pub name_text : List ℕ → List ℕ
name_text [] = []
name_text (b ∷ bs) = name_byte b ++ name_text bs

-- The version, and the plan for this number of tests.
unfoldable pub plan : ℕ → List ℕ
plan count = codes "TAP version 13\n" ++ labelled (codes "1..") count ++ ascii.newline ∷ []

-- A test that passed.
unfoldable pub passed : List ℕ → ℕ → List ℕ
passed file n = labelled (codes "ok ") n ++ codes " - " ++ name_text file ++ ascii.newline ∷ []

-- A test that failed, with the ending of its script.
unfoldable pub not_passed : List ℕ → ℕ → Ending → List ℕ
not_passed file n e = labelled (codes "not ok ") n ++ codes " - " ++ name_text file ++ codes ": " ++ ending_text e ++ ascii.newline ∷ []

-- The text of an error, as a diagnostic in one line.
abbrev pub diagnostic : Ending → List ℕ → List ℕ
diagnostic Error fault = codes "# " ++ line_text fault ++ ascii.newline ∷ []
diagnostic (Exit n) fault = []
diagnostic StepLimit fault = []
diagnostic TimeLimit fault = []
diagnostic Memory fault = []
diagnostic Waiting fault = []

-- The test of script n. It passes if the script ended with status 0.
abbrev pub tap_test : List ℕ → ℕ → Report → List ℕ
tap_test file n r = if is_done r.ending then passed file n else not_passed file n r.ending ++ diagnostic r.ending r.fault
