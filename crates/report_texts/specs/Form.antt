-- The text of reports in a given form.
use Rattle.std.specs.Prelude.{ℕ, ◌+◌, ◌-◌, List, [], ◌∷◌, ◌++◌, map, length, slice_get, unwrap_or, codes}
use Rattle.tcl_host.specs.declared.ending.Ending.{Ending}
use Rattle.session.specs.declared.report.Report.{Report}
use Rattle.report_texts.specs.declared.texts.Shown.{Shown}
use Rattle.report_texts.specs.declared.form.Form.{Form}
use Rattle.report_texts.specs.declared.form.Format.{Format}
use Rattle.report_texts.specs.declared.form.Format.TheVariants.{Text, Bare, Escaped, Summary, Json, JsonLines, Tap}
use Rattle.report_texts.specs.Report.{report_bytes, bare_report, escaped_report}
use Rattle.report_texts.specs.Line.{summary_line, counts_line}
use Rattle.report_texts.specs.Json.{array_item, object_line}
use Rattle.report_texts.specs.Tap.{plan, tap_test}

-- The file of script n. `files` begins with that of script 1. Empty if there is none.
abbrev pub file_of : List (List ℕ) → ℕ → List ℕ
file_of files n = unwrap_or (slice_get files (n - 1)) []

-- The part of script n with this file.
abbrev pub part_of : Format → Shown → List ℕ → ℕ → Report → List ℕ
part_of Text shown file n r = report_bytes shown n r
part_of Bare shown file n r = bare_report shown n r
part_of Escaped shown file n r = escaped_report shown n r
part_of Summary shown file n r = summary_line file n r
part_of Json shown file n r = array_item shown file n r
part_of JsonLines shown file n r = object_line shown file n r
part_of Tap shown file n r = tap_test file n r

abbrev pub part_bytes : Form → ℕ → Report → List ℕ
part_bytes form n r = part_of form.format form.shown (file_of form.files n) n r

-- The parts of all reports, in order. n is the number of the first script.
abbrev pub parts_bytes : Form → ℕ → List Report → List ℕ
parts_bytes form n [] = []
parts_bytes form n (r ∷ rs) = part_bytes form n r ++ parts_bytes form (n + 1) rs

-- The bytes of a transcript that are written unchanged.
abbrev pub middle : Format → List ℕ → List ℕ
middle Text transcript = transcript
middle Bare transcript = []
middle Escaped transcript = []
middle Summary transcript = []
middle Json transcript = []
middle JsonLines transcript = []
middle Tap transcript = []

-- The text before the parts of this number of reports.
abbrev pub opening : Format → ℕ → List ℕ
opening Text count = []
opening Bare count = []
opening Escaped count = []
opening Summary count = []
opening Json count = codes "["
opening JsonLines count = []
opening Tap count = plan count

-- The text after the parts of reports with these endings.
abbrev pub closing : Format → List Ending → List ℕ
closing Text es = []
closing Bare es = []
closing Escaped es = []
closing Summary es = counts_line es
closing Json es = codes "\n]\n"
closing JsonLines es = []
closing Tap es = []

abbrev pub endings_of : List Report → List Ending
endings_of rs = map (λ r. r.ending) rs

-- The text of all reports, beginning with script 1.
abbrev pub told_bytes : Form → List Report → List ℕ
told_bytes form rs = opening form.format (length rs) ++ (parts_bytes form 1 rs ++ closing form.format (endings_of rs))
