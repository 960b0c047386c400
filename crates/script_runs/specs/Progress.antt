-- The line of a terminal that shows a run's progress.
use Rattle.std.specs.Prelude.{ℕ, ◌+◌, ◌-◌, ◌/◌, nat_lt, Bool, false, not, if◌then◌else◌, Option, Some, None, is_some, List, [], ◌∷◌, ◌++◌, codes}
use Rattle.tcl_words.specs.Bytes as ascii
use Rattle.script_runs.specs.declared.progress.Course.{Course}
use Rattle.script_runs.specs.declared.progress.Quiet.{Quiet}
use Rattle.report_texts.specs.Report.{labelled}

-- The byte that begins a control sequence.
abbrev pub escape : ℕ
escape = 27

-- Moves to the start of the terminal's line and erases the line (ECMA-48, EL).
abbrev pub erased : List ℕ
erased = ascii.carriage_return ∷ escape ∷ codes "[K"

-- The script that has shown nothing for longer, of two. The first one if both are equal.
abbrev pub quieter : Option Quiet → Option Quiet → Option Quiet
quieter p None = p
quieter None (Some q) = Some q
quieter (Some p) (Some q) = Some (if nat_lt q.since p.since then q else p)

-- The script that has shown nothing for longest, among `p` and these. The first one if several are equal.
abbrev pub quietest : Option Quiet → List (Option Quiet) → Option Quiet
quietest p [] = p
quietest p (q ∷ qs) = quietest (quieter p q) qs

-- Since when a script has shown nothing. `None` if it has ended.
abbrev pub quiet_of : Course → Option Quiet
quiet_of c = if is_some c.end then None else Some (record { number = c.number; since = c.since })

-- The script that has shown nothing for longest, among `p` and those that have not ended.
abbrev pub quietest_among : Option Quiet → List Course → Option Quiet
quietest_among p [] = p
quietest_among p (c ∷ cs) = quietest_among (quieter p (quiet_of c)) cs

-- The number of scripts that have ended.
abbrev pub over_among : List Course → ℕ
over_among [] = 0
over_among (c ∷ cs) = (if is_some c.end then 1 else 0) + over_among cs

-- Whether a script has ended with a status other than 0.
abbrev pub has_failed : Option Bool → Bool
has_failed None = false
has_failed (Some well) = not well

-- The number of scripts that have failed.
abbrev pub failed_among : List Course → ℕ
failed_among [] = 0
failed_among (c ∷ cs) = (if has_failed c.end then 1 else 0) + failed_among cs

-- A script, and for how many seconds it has shown nothing at a moment. The moment is in milliseconds.
unfoldable pub quiet_words : ℕ → Quiet → List ℕ
quiet_words moment q = labelled (codes "; script ") q.number ++ labelled (codes " quiet for ") ((moment - q.since) / 1000) ++ codes " s"

-- The same for a script, if there is one.
abbrev pub quiet_part : ℕ → Option Quiet → List ℕ
quiet_part moment None = []
quiet_part moment (Some q) = quiet_words moment q

-- The progress of a run at a moment: the number of scripts that have ended, the number of scripts, the number that
-- failed, and the script that is quiet for longest.
unfoldable pub progress_line : ℕ → ℕ → ℕ → ℕ → Option Quiet → List ℕ
progress_line over all failed moment q =
    erased ++ labelled (codes "exprun: ") over ++ labelled (codes " of ") all ++ labelled (codes " over, ") failed ++ codes " failed"
    ++ quiet_part moment q
