-- What follows a stage, an answer or an item, given what follows that.
use Rattle.std.specs.Prelude.{ℕ, Option, Some, None}
use Rattle.tcl_subst.specs.Variables.{Variables}
use Rattle.tcl_host.specs.declared.host.HostStep.TheVariants.{Wait}
use Rattle.expect_core.specs.declared.run.Went.{Went}
use Rattle.expect_core.specs.declared.run.Went.TheVariants as went
use Rattle.expect_core.specs.declared.turn.Want.{Want}
use Rattle.expect_core.specs.declared.turn.Turn.{Turn}
use Rattle.expect_core.specs.declared.own.Own.{Own}
use Rattle.expect_core.specs.declared.dialogue.Dialogue.{Dialogue}
use Rattle.expect_core.specs.Answered.{Outcome}
use Rattle.expect_core.specs.Running.{To, none_yet}

abbrev pub goes : Went → To → Variables → Dialogue → Outcome
goes (went.Turn t) k vars st = k t vars st
goes (went.Over step) k vars st = (step, vars, st)
goes (went.Listens known) k vars st = (Wait, vars, st)

-- What follows something that came, or a wait for it.
abbrev pub after : {Y : Type 0} → To → ℕ → Want → (Y → Own → Turn) → Option Y → Variables → Dialogue → Outcome
after k n w made None vars st = none_yet n w vars st
after k n w made (Some y) vars st = k (made y st.own) vars st
