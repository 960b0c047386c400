-- A run up to where it pauses.
use Rattle.std.proofs.Common.{◌≡◌, ℕ, suc, ap}
use Rattle.tcl_subst.specs.Variables.{Variables}
use Rattle.expect_core.specs.declared.turn.Turn.{Turn}
use Rattle.expect_core.specs.declared.dialogue.Dialogue.{Dialogue}
use Rattle.expect_core.specs.Effects.{performed}
use Rattle.expect_core.specs.Running.{turned, run}

-- where a turn is left, a run takes it, and then those that are left behind it
pub turn_is : (left n : ℕ) (t : Turn) (vars : Variables) (st : Dialogue) → left ≡ suc n → run left t vars st ≡ turned (run n) n t.stage (performed t.child t.effects vars st.own) st
turn_is left n t vars st is = ap (λ (m : ℕ). run m t vars st) is
