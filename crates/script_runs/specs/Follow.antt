-- How a script's output is printed while the script runs.
use Rattle.std.specs.Prelude.{◌≡◌, ℕ, Bool, true, ◌==◌, if◌then◌else◌, List, [], ◌∷◌, ◌++◌, codes}
use Rattle.tcl_words.specs.Bytes as ascii
use Rattle.report_texts.specs.declared.escape.Escaping.TheVariants.{Lines}
use Rattle.script_runs.specs.declared.following.Manner.{Manner}
use Rattle.script_runs.specs.declared.following.Manner.TheVariants.{Plain, Escaped, Numbered}
use Rattle.report_texts.specs.Report.{labelled}
use Rattle.report_texts.specs.Escape.{escaped}

-- The mark before each line of script `n`.
abbrev pub mark_of : ℕ → List ℕ
mark_of n = labelled (codes "script ") n ++ codes ": "

-- A byte, after a mark if it begins a line.
abbrev pub marked_byte : List ℕ → Bool → ℕ → List ℕ
marked_byte mark begins b = if begins then mark ++ b ∷ [] else b ∷ []

-- A text with a mark before each of its lines. `begins` says whether the text begins a line.
abbrev pub marked : List ℕ → Bool → List ℕ → List ℕ
marked mark begins [] = []
marked mark begins (b ∷ bs) = marked_byte mark begins b ++ marked mark (b == ascii.newline) bs

-- Bytes as they are printed.
unfoldable pub told_so : Manner → List ℕ → List ℕ
told_so Plain bytes = bytes
told_so Escaped bytes = escaped Lines bytes
told_so (Numbered n) bytes = marked (mark_of n) true (escaped Lines bytes)
