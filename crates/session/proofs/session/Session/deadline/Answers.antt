use Rattle.std.proofs.Common.{◌≡◌, Option, None, sym, ap, ◌∙◌}
use Rattle.tcl_eval.specs.Suspended.{end_of}
use Rattle.expect_core.specs.declared.dialogue.Dialogue.{Dialogue}
use Rattle.expect_core.specs.Deadlines.{deadline_of}
use Rattle.session.specs.Quiet.{waits_until}
use Rattle.session.specs.Sound.{kept_of}
use Rattle.session.proofs.Quieting.{waits_as_long, stays_quiet}
use Rattle.session.proofs.session.Session.deadline.Goals as goal

pub returns-in-None : goal.returns-in-None
returns-in-None c =
    let none : end_of c.self.inside.machine.mode ≡ None = cc in
    let until : c.deadline.result ≡ waits_until (kept_of c.self.inside) =
    c.deadline.ensures ∙ ap (λ (d : Dialogue). deadline_of d) c.state.ensures ∙ sym (waits_as_long c.self.inside c.if-not-self.false none) in
    rw (← c.self.view_is) (record { value = until; quiet = λ lives. stays_quiet c.self.inside c.deadline.result c.self.invariant lives until })
