use Rattle.std.proofs.Common.{◌≢◌, Bool, subst, ap, ◌∙◌}
use Rattle.std.specs.Prelude.{IsTrue}
use Rattle.tcl_eval.specs.Steps.{left_of}
use Rattle.tcl_eval.specs.declared.machine.Pause.TheVariants as pause
use Rattle.expect_core.specs.declared.dialogue.Dialogue.{Dialogue}
use Rattle.session.proofs.Suspending.{ran, unless}
use Rattle.session.proofs.session.run_on.Goals as goal

pub returns : goal.returns
returns c = λ h.
    let differs : c.run-pause.result ≢ pause.Memory = unless c.is_memory.result c.if-is_memory.false c.is_memory.ensures in
    ran c.run-pause.result c.args.machine.now.engine c.args.machine.now.mode (left_of c.args.meter.now) c.args.dialogue.now c.run-pause.new.self.engine c.run-pause.new.self.mode (left_of c.run-pause.new.meter) c.run-pause.new.host c.requires differs
    (subst (λ (b : Bool). IsTrue b) (c.lives.ensures ∙ ap (λ (d : Dialogue). d.lives) c.state.ensures) h)
    (c.run-pause.ensures.leads differs)
