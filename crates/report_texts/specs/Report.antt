-- The text of reports.
use Rattle.std.specs.Prelude.{ℕ, List, [], ◌∷◌, ◌++◌, length, sum, codes, Bool, true, false, ◌&&◌, ◌==◌, if◌then◌else◌}
use Rattle.std.specs.Fmt.{decimal}
use Rattle.tcl_words.specs.Bytes as ascii
use Rattle.child_events.specs.Log.{hex_text}
use Rattle.tcl_host.specs.declared.ending.Ending.{Ending}
use Rattle.tcl_host.specs.declared.ending.Ending.TheVariants.{Exit, Error, StepLimit, TimeLimit, Memory, Waiting}
use Rattle.session.specs.declared.report.Report.{Report}
use Rattle.expect_core.specs.declared.request.Request.{Request}
use Rattle.report_texts.specs.declared.acts.Spelling.TheVariants.{Hex}
use Rattle.report_texts.specs.declared.texts.Shown.{Shown}
use Rattle.report_texts.specs.declared.escape.Escaping.TheVariants.{Lines}
use Rattle.report_texts.specs.Acts.{act_text}
use Rattle.report_texts.specs.Escape.{escaped}

-- A label followed by a number. It is closed, so that the text of a line stays in pieces.
unfoldable pub labelled : List ℕ → ℕ → List ℕ
labelled label n = label ++ decimal n

abbrev pub ending_text : Ending → List ℕ
ending_text (Exit n) = labelled (codes "exit:") n
ending_text Error = codes "error"
ending_text StepLimit = codes "steplimit"
ending_text TimeLimit = codes "timelimit"
ending_text Memory = codes "memory"
ending_text Waiting = codes "waiting"

unfoldable pub ended_text : Ending → List ℕ
ended_text e = codes " end=" ++ ending_text e

-- The words of the first line of script n's report.
unfoldable pub head_words : ℕ → Report → List ℕ
head_words n r =
    labelled (codes "script ") n ++ ended_text r.ending ++ labelled (codes " steps=") r.steps
    ++ labelled (codes " sent=") (sum r.sent) ++ labelled (codes " transcript=") (length r.transcript)

abbrev pub head_line : ℕ → Report → List ℕ
head_line n r = head_words n r ++ ascii.newline ∷ []

-- Only for an error: the length of its text in bytes, and the text as it is written.
abbrev pub fault_part : Ending → ℕ → List ℕ → List ℕ
fault_part Error size told = labelled (codes "error ") size ++ ascii.newline ∷ [] ++ told ++ ascii.newline ∷ []
fault_part (Exit n) size told = []
fault_part StepLimit size told = []
fault_part TimeLimit size told = []
fault_part Memory size told = []
fault_part Waiting size told = []

-- A name and its value, each in lower-case hexadecimal, or `-` if empty.
unfoldable pub var_line : List ℕ × List ℕ → List ℕ
var_line (name, value) = codes "var " ++ hex_text name ++ ascii.space ∷ [] ++ hex_text value ++ ascii.newline ∷ []

abbrev pub vars_lines : List (List ℕ × List ℕ) → List ℕ
vars_lines [] = []
vars_lines (v ∷ vs) = var_line v ++ vars_lines vs

abbrev pub vars_part : Bool → List (List ℕ × List ℕ) → List ℕ
vars_part shown vars = if shown then vars_lines vars else []

-- A request, with the number of its child.
unfoldable pub ask_words : Request → List ℕ
ask_words r = labelled (codes "ask ") r.child ++ ascii.space ∷ [] ++ act_text Hex r.act

abbrev pub ask_line : Request → List ℕ
ask_line r = ask_words r ++ ascii.newline ∷ []

abbrev pub ask_lines : List Request → List ℕ
ask_lines [] = []
ask_lines (r ∷ rs) = ask_line r ++ ask_lines rs

abbrev pub asks_part : Bool → List Request → List ℕ
asks_part shown requests = if shown then ask_lines requests else []

-- The text after the transcript, with the text of an error as it is written.
abbrev pub tail_part : Shown → List ℕ → Report → List ℕ
tail_part shown told r = ascii.newline ∷ [] ++ fault_part r.ending (length r.fault) told ++ vars_part shown.vars r.vars ++ asks_part shown.requests r.requests

abbrev pub report_bytes : Shown → ℕ → Report → List ℕ
report_bytes shown n r = head_line n r ++ r.transcript ++ tail_part shown r.fault r

-- A report without the transcript.
abbrev pub bare_report : Shown → ℕ → Report → List ℕ
bare_report shown n r = head_line n r ++ tail_part shown r.fault r

-- A report for a terminal.
abbrev pub escaped_report : Shown → ℕ → Report → List ℕ
escaped_report shown n r = head_line n r ++ escaped Lines r.transcript ++ tail_part shown (escaped Lines r.fault) r

abbrev pub is_done : Ending → Bool
is_done (Exit n) = n == 0
is_done Error = false
is_done StepLimit = false
is_done TimeLimit = false
is_done Memory = false
is_done Waiting = false

-- Each script ended with status 0.
abbrev pub all_done : List Report → Bool
all_done [] = true
all_done (r ∷ rs) = is_done r.ending && all_done rs
