use Rattle.std.proofs.Common.{◌≢◌, Bool, subst, ap, ◌∙◌}
use Rattle.std.specs.Prelude.{IsTrue}
use Rattle.tcl_eval.specs.Rest.{engine_rest}
use Rattle.tcl_eval.specs.Steps.{left_of}
use Rattle.tcl_eval.specs.declared.machine.Pause.TheVariants as pause
use Rattle.expect_core.specs.declared.dialogue.Dialogue.{Dialogue}
use Rattle.session.proofs.Suspending.{ran, leads_lived, unless}
use Rattle.session.proofs.Watching.{leads_of, sights_of}
use Rattle.session.proofs.session.run_over_watched.Goals as goal

pub returns-clause-ran : goal.returns-clause-ran
returns-clause-ran g c = λ h.
    let old = c.args.machine.now in
    let new = c.run-pause.new.self in
    let had = left_of c.args.meter.now in
    let has = left_of c.run-pause.new.meter in
    let differs : c.run-pause.result ≢ pause.Memory = unless c.is_memory.result c.if-is_memory.false c.is_memory.ensures in
    let led = c.run-pause.ensures.leads differs in
    ran c.run-pause.result old.engine old.mode had c.args.watched.now.dialogue new.engine new.mode has c.run-pause.new.host.dialogue c.requires differs
    (subst (λ (b : Bool). IsTrue b) (c.lives.ensures ∙ ap (λ (d : Dialogue). d.lives) c.state.ensures) h) (
      led.0,
      leads_of (λ w. w.dialogue) (λ w. w.watcher) g.W.Watcher.sees led.0 (engine_rest old.engine had old.mode) c.args.watched.now (engine_rest new.engine has new.mode) c.run-pause.new.host led.1,
      led.2,
    )

pub returns-clause-seen : goal.returns-clause-seen
returns-clause-seen g c = λ h.
    let old = c.args.machine.now in
    let new = c.run-pause.new.self in
    let had = left_of c.args.meter.now in
    let has = left_of c.run-pause.new.meter in
    let differs : c.run-pause.result ≢ pause.Memory = unless c.is_memory.result c.if-is_memory.false c.is_memory.ensures in
    let led = c.run-pause.ensures.leads differs in
    let lives = subst (λ (b : Bool). IsTrue b) (c.lives.ensures ∙ ap (λ (d : Dialogue). d.lives) c.state.ensures) h in
    let before = engine_rest old.engine had old.mode in
    let behind = engine_rest new.engine has new.mode in
    let lived = leads_lived led.0 before c.args.watched.now.dialogue behind c.run-pause.new.host.dialogue
    (leads_of (λ w. w.dialogue) (λ w. w.watcher) g.W.Watcher.sees led.0 before c.args.watched.now behind c.run-pause.new.host led.1) lives in
    sights_of (λ w. w.dialogue) (λ w. w.watcher) g.W.Watcher.sees led.0 before c.args.watched.now behind c.run-pause.new.host (c.requires lived) led.1 lives
