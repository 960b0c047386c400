-- Names and errors in a line, and the lines of a summary.
use Rattle.std.specs.Prelude.{ℕ, ◌+◌, List, [], ◌∷◌, ◌++◌, length, codes, Bool, true, false, ◌||◌, ◌==◌, nat_lt, if◌then◌else◌}
use Rattle.tcl_words.specs.Bytes as ascii
use Rattle.hex.specs.Hex.{encode_lower}
use Rattle.tcl_host.specs.declared.ending.Ending.{Ending}
use Rattle.tcl_host.specs.declared.ending.Ending.TheVariants.{Exit, Error, StepLimit, TimeLimit, Memory, Waiting}
use Rattle.session.specs.declared.report.Report.{Report}
use Rattle.report_texts.specs.declared.tally.Kind.{Kind}
use Rattle.report_texts.specs.declared.tally.Kind.TheVariants as kind
use Rattle.report_texts.specs.Report.{labelled, head_words, is_done}

-- A byte that would end a line or is no text: an ASCII control character.
abbrev pub is_control : ℕ → Bool
is_control b = nat_lt b ascii.space || (b == ascii.delete)

-- A byte in a line. A backslash is doubled, and a control character is written as two hexadecimal digits.
abbrev pub line_byte : ℕ → List ℕ
line_byte b =
    if b == ascii.backslash then ascii.backslash ∷ ascii.backslash ∷ []
    else if is_control b then codes "\\x" ++ encode_lower (b ∷ [])
    else b ∷ []

abbrev pub line_text : List ℕ → List ℕ
line_text [] = []
line_text (b ∷ bs) = line_byte b ++ line_text bs

-- The line of script n in a summary: the first line of its report, and its file.
unfoldable pub summary_line : List ℕ → ℕ → Report → List ℕ
summary_line file n r = head_words n r ++ codes " file=" ++ line_text file ++ ascii.newline ∷ []

-- The kind counts this ending.
abbrev pub is_of : Kind → Ending → Bool
is_of kind.Well e = is_done e
is_of kind.Exit (Exit n) = true
is_of kind.Exit e = false
is_of kind.Error Error = true
is_of kind.Error e = false
is_of kind.StepLimit StepLimit = true
is_of kind.StepLimit e = false
is_of kind.TimeLimit TimeLimit = true
is_of kind.TimeLimit e = false
is_of kind.Memory Memory = true
is_of kind.Memory e = false
is_of kind.Waiting Waiting = true
is_of kind.Waiting e = false

abbrev pub how_many : Kind → List Ending → ℕ
how_many k [] = 0
how_many k (e ∷ es) = (if is_of k e then 1 else 0) + how_many k es

abbrev pub kind_label : Kind → List ℕ
kind_label kind.Well = codes " well="
kind_label kind.Exit = codes " exit="
kind_label kind.Error = codes " error="
kind_label kind.StepLimit = codes " steplimit="
kind_label kind.TimeLimit = codes " timelimit="
kind_label kind.Memory = codes " memory="
kind_label kind.Waiting = codes " waiting="

abbrev pub kinds_text : List Kind → List Ending → List ℕ
kinds_text [] es = []
kinds_text (k ∷ ks) es = labelled (kind_label k) (how_many k es) ++ kinds_text ks es

-- The kinds in the order of a summary.
abbrev pub all_kinds : List Kind
all_kinds = kind.Well ∷ kind.Exit ∷ kind.Error ∷ kind.StepLimit ∷ kind.TimeLimit ∷ kind.Memory ∷ kind.Waiting ∷ []

-- The last line of a summary: the number of scripts, of those that ended with status 0, and of those with each ending.
abbrev pub counts_line : List Ending → List ℕ
counts_line es = labelled (codes "scripts=") (length es) ++ (kinds_text all_kinds es ++ ascii.newline ∷ [])
