-- The body that `switch` evaluates (switch(n)): switch ?-exact|-glob|-regexp? ?--? string {pattern body ?pattern body ...?},
-- or the patterns and bodies as arguments.
use Rattle.std.specs.Prelude.{ℕ, ◌-◌, ◌%◌, ◌==◌, nat_lt, Bool, true, false, not, ◌&&◌, List, [], ◌∷◌, length, slice_index_or, codes, bytes_eq, Option, Some, None, Ok, Err, if◌then◌else◌}
use Rattle.exp_glob.specs.Whole.{matches}
use Rattle.exp_match.specs.Written.{finds}
use Rattle.command_table.specs.declared.switches.Switches.TheVariants.{Choice}
use Rattle.tcl_control.specs.declared.choosing.Cases.{Cases}
use Rattle.tcl_control.specs.declared.choosing.Cases.TheVariants.{Listed, Words}
use Rattle.tcl_results.specs.declared.ways.Way.{Way}
use Rattle.tcl_results.specs.declared.ways.Way.TheVariants as ways
use Rattle.tcl_results.specs.Front.{front}
use Rattle.tcl_results.specs.Ways.{pattern_of}
use Rattle.tcl_results.specs.Texts.{wrong_args}
use Rattle.tcl_results.specs.Said.{Said, ◌>>=◌, list_of}

-- The body `-` stands for the next one.
abbrev pub is_dash : List ℕ → Bool
is_dash body = bytes_eq body (codes "-")

-- Patterns and bodies in turn: an even number of words. The last body isn't `-`.
abbrev pub are_cases : List (List ℕ) → Bool
are_cases ws = nat_lt 0 (length ws) && length ws % 2 == 0 && not (is_dash (slice_index_or ws (length ws - 1) []))

-- The body after a pattern.
abbrev pub body : List (List ℕ) → Option (List ℕ)
body (p ∷ b ∷ more) = if is_dash b then body more else Some b
body other = None

-- A regular pattern matches in the text.
abbrev pub matches_in : List ℕ → List ℕ → Said Bool
matches_in text pattern = pattern_of false false pattern >>= λ w. Ok (finds w text)

abbrev pub fits_text : Way → List ℕ → List ℕ → Said Bool
fits_text ways.Exact text pattern = Ok (bytes_eq pattern text)
fits_text ways.Glob text pattern = Ok (matches false pattern text)
fits_text ways.Regular text pattern = matches_in text pattern

-- The text has this pattern. Every text has a last pattern `default`.
abbrev pub is_taken : Way → List ℕ → List ℕ → Bool → Said Bool
is_taken way text pattern last = if last && bytes_eq pattern (codes "default") then Ok true else fits_text way text pattern

abbrev pub is_over : List (List ℕ) → Bool
is_over [] = true
is_over (w ∷ ws) = false

-- The body of the first pattern that the text has. Patterns after it aren't read.
abbrev pub chosen : Way → List ℕ → List (List ℕ) → Said (Option (List ℕ))
chosen way text (p ∷ b ∷ more) = is_taken way text p (is_over more) >>= λ t. if t then Ok (body (p ∷ b ∷ more)) else chosen way text more
chosen way text other = Ok None

-- The patterns and bodies: the elements of the only argument, or the arguments.
abbrev pub words_of : List (List ℕ) → Said (List (List ℕ))
words_of (l ∷ []) = list_of l
words_of words = Ok words

unfoldable pub chosen_of : List ℕ → Way → List ℕ → List (List ℕ) → Said (Option (List ℕ))
chosen_of command way text ws = if are_cases ws then chosen way text ws else Err (wrong_args command)

abbrev pub switched : List ℕ → Way → List (List ℕ) → Said (Option (List ℕ))
switched command way (text ∷ w ∷ words) = words_of (w ∷ words) >>= λ ws. chosen_of command way text ws
switched command way other = Err (wrong_args command)

abbrev pub way_by : List ℕ → Way
way_by flag =
    if bytes_eq flag (codes "-glob") then ways.Glob
    else if bytes_eq flag (codes "-regexp") then ways.Regular
    else ways.Exact

-- The last of `-exact`, `-glob` and `-regexp` counts.
abbrev pub way_of : List (List ℕ) → Way
way_of flags = way_by (slice_index_or flags (length flags - 1) [])

-- The body that is evaluated, if there is one.
abbrev pub body_of_switch : List ℕ → List (List ℕ) → Said (Option (List ℕ))
body_of_switch command args = front Choice 2 args >>= λ p. switched command (way_of p.0) p.1

-- What the code sees of the patterns and bodies.
abbrev pub case_words : Cases → List (List ℕ)
case_words (Listed elements) = elements
case_words (Words words) = words.now
