-- Scripts that have ended.
use Rattle.std.specs.Prelude.{◌≡◌, ℕ, List, Bool, true, false, Option, Some, None}
use Rattle.tcl_host.specs.declared.ending.Ending.{Ending}
use Rattle.tcl_host.specs.declared.ending.Ending.TheVariants.{Exit, Error, StepLimit, TimeLimit, Memory, Waiting}
use Rattle.session.specs.Left.{Kept}
use Rattle.dialogue_sched.specs.Hall.{EndsAt}

-- Whether a script with this ending has ended.
abbrev pub is_end : Option Ending → Bool
is_end None = false
is_end (Some (Exit n)) = true
is_end (Some Error) = true
is_end (Some StepLimit) = true
is_end (Some TimeLimit) = true
is_end (Some Memory) = true
is_end (Some Waiting) = false

-- The script with this number has ended: no event changes its report any more.
abbrev pub HasEnded : ℕ → List Kept → Type 0
HasEnded n ks = (e : Option Ending) × (EndsAt n ks e × (is_end e ≡ true))
