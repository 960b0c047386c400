-- Searches with regular patterns (regexp(n)).
use Rattle.std.specs.Prelude.{ℕ, ◌+◌, ◌==◌, Bool, List, [], ◌∷◌, length, drop, codes, Option, Ok, if◌then◌else◌}
use Rattle.command_table.specs.declared.switches.Switches.TheVariants as switches
use Rattle.tcl_subst.specs.Variables.{Variables, with_value}
use Rattle.tcl_subst.specs.Writes.{set_to}
use Rattle.tcl_results.specs.Front.{front_of, has_flag}
use Rattle.tcl_results.specs.Given.{arg}
use Rattle.tcl_patterns.specs.Inlining.{inlined}
use Rattle.tcl_results.specs.Ways.{Match, no_match}
use Rattle.tcl_patterns.specs.Matches.{group, sought, all_of}
use Rattle.tcl_results.specs.Said.{Said, ◌>>=◌, Outcome, told, on_said, on_changed}
use Rattle.tcl_patterns.specs.Shown.{shown}
use Rattle.tcl_results.specs.Values.{count_text}
use Rattle.tcl_results.specs.Texts.{not_set}

-- The last match.
abbrev pub last_of : Match → List Match → Match
last_of m [] = m
last_of m (next ∷ ms) = last_of next ms

-- The number of matches, and the last one.
abbrev pub counted : List Match → ℕ × Match
counted ms = (length ms, last_of no_match ms)

-- The matches that are found.
abbrev pub found : List (List ℕ) → List ℕ → List ℕ → Said (ℕ × Match)
found flags pattern text = sought flags pattern text >>= λ p. Ok (counted (all_of flags text p))

-- Sets names to the groups from n on, in order, up to the first that can't be set.
abbrev pub named : List ℕ → (Option (ℕ × ℕ) → List ℕ) → Match → ℕ → List (List ℕ) → Variables → Outcome
named answer show m n [] vars = told (Ok answer) vars
named answer show m n (name ∷ names) vars = on_changed vars (not_set name) (with_value (set_to (show (group n m))) name vars) (named answer show m (n + 1) names)

-- The value is the number of matches. The names get the last match and its groups. Without a match nothing is set.
abbrev pub answered : Bool → List ℕ → List (List ℕ) → ℕ → Match → Variables → Outcome
answered indices text names count m vars =
    if count == 0 then told (Ok (count_text 0)) vars else named (count_text count) (shown indices text) m 0 names vars

abbrev pub named_by : List (List ℕ) → List (List ℕ) → Variables → Outcome
named_by flags words vars =
    on_said (found flags (arg 0 words) (arg 1 words)) vars (λ p. answered (has_flag (codes "-indices") flags) (arg 1 words) (drop 2 words) p.0 p.1 vars)

-- With `-inline` the value is the list of the matches.
abbrev pub matched : List (List ℕ) → List (List ℕ) → Variables → Outcome
matched flags words vars = if has_flag (codes "-inline") flags then told (inlined flags words) vars else named_by flags words vars

-- regexp ?-all? ?-indices? ?-inline? ?-lineanchor? ?-nocase? ?-start index? ?--? exp string ?matchVar? ?subMatchVar subMatchVar ...?
abbrev pub regexp : List ℕ → List (List ℕ) → Variables → Outcome
regexp command args vars = on_said (front_of switches.Match command args) vars (λ p. matched p.0 p.1 vars)
