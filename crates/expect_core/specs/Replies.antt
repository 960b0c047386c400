-- A step, unless memory was refused.
use Rattle.std.specs.Prelude.{◌≡◌, false, IsTrue, Result, Ok, Err}
use Rattle.tcl_host.specs.declared.host.HostStep.{HostStep}
use Rattle.expect_core.specs.declared.known.Known.{Known}
use Rattle.expect_core.specs.declared.run.Paused.{Paused}
use Rattle.expect_core.specs.declared.dialogue.Dialogue.{Dialogue}
use Rattle.expect_core.specs.Known.{KnowsIn}

-- Without a refusal, a living dialogue stays as it was, and the step is that of the call. After a refusal it doesn't
-- live.
abbrev pub OrMemory : {E : Type 0} → Dialogue → Result Paused E → HostStep → Dialogue → Type 0
OrMemory old (Ok p) step new = (new.lives ≡ old.lives) × (IsTrue new.lives → (step ≡ p.step) × (new ≡ old))
OrMemory old (Err e) step new = new.lives ≡ false

-- What is remembered is true of the dialogue, if it was when the call paused.
abbrev pub StillKnows : {E : Type 0} → Dialogue → Result Paused E → Known → Dialogue → Type 0
StillKnows old (Ok p) k new = KnowsIn p.known old → KnowsIn k new
StillKnows old (Err e) k new = KnowsIn k new
