-- The command upvar (Tcl(n): upvar). It links names of the current scope to variables of scopes further out.
use Rattle.std.specs.Prelude.{ℕ, ◌%◌, Bool, ◌&&◌, bytes_eq, nat_le, List, [], ◌∷◌, length, drop, codes, Option, Some, None, is_some, Result, Ok, Err, ℤ, pos, negsuc, ◌==◌, if◌then◌else◌}
use Rattle.tcl_words.specs.Bytes as ascii
use Rattle.tcl_expr.specs.Number.{number_of}
use Rattle.tcl_subst.specs.declared.faults.SubstFault.{SubstFault}
use Rattle.tcl_subst.specs.Slots.{element}
use Rattle.tcl_subst.specs.Variables.{Variables, linked_up}
use Rattle.tcl_results.specs.Given.{arg}
use Rattle.tcl_results.specs.Said.{Said, Outcome, told, on_said}
use Rattle.tcl_results.specs.Texts.{quoted, not_set}

-- A number of calls, of those under way.
abbrev pub counted : ℕ → Option ℤ → Option ℕ
counted depth None = None
counted depth (Some (pos n)) = if nat_le 1 n && nat_le n depth then Some n else None
counted depth (Some (negsuc n)) = None

-- How many calls further out a level is: a number, or all for `#0` within a call.
abbrev pub calls_of : List ℕ → ℕ → Option ℕ
calls_of level depth = if bytes_eq level (codes "#0") then counted depth (Some (pos depth)) else counted depth (number_of level)

abbrev pub is_element : List ℕ → Bool
is_element name = is_some (element name)

abbrev pub bad_name : List ℕ → List ℕ
bad_name name = quoted (codes "bad variable name ") name

abbrev pub or_not_linked : List ℕ → Result Variables SubstFault → Said Variables
or_not_linked my (Ok vars) = Ok vars
or_not_linked my (Err f) = Err (not_set my f)

-- Links one name, if neither is that of an element.
abbrev pub link_pair : ℕ → List ℕ → List ℕ → Variables → Said Variables
link_pair calls other my vars =
    if is_element my then Err (bad_name my)
    else if is_element other then Err (bad_name other)
    else or_not_linked my (linked_up calls other my vars)

-- Links names in order, each given behind the one that it is to lead to. What was linked before an error stays.
abbrev pub link_pairs : ℕ → List (List ℕ) → Variables → Outcome
link_pairs calls [] vars = told (Ok []) vars
link_pairs calls (other ∷ []) vars = told (Ok []) vars
link_pairs calls (other ∷ my ∷ more) vars = on_said (link_pair calls other my vars) vars (link_pairs calls more)

abbrev pub link_at : List ℕ → Option ℕ → List (List ℕ) → Variables → Outcome
link_at level None names vars = told (Err (quoted (codes "bad level ") level)) vars
link_at level (Some calls) names vars = link_pairs calls names vars

-- upvar ?level? otherVar myVar ?otherVar myVar ...?
abbrev pub upvar : List (List ℕ) → Variables → Outcome
upvar args vars =
    if length args % 2 == 0 then link_at (ascii.digit_1 ∷ []) (calls_of (ascii.digit_1 ∷ []) (length vars.locals)) args vars
    else link_at (arg 0 args) (calls_of (arg 0 args) (length vars.locals)) (drop 1 args) vars
