use Rattle.std.proofs.Common.{false, [], ◌∷◌, ◌∙◌, ap, refl}
use Rattle.tcl_eval.specs.declared.frame.Asked.{Asked}
use Rattle.tcl_eval.specs.declared.frame.Mode.TheVariants.{Call as CallHost, Define}
use Rattle.tcl_eval.specs.declared.engine.Engine.{Engine}
use Rattle.tcl_eval.specs.Rest.{rest_of}
use Rattle.tcl_eval.specs.Tree.{follow}
use Rattle.tcl_host.specs.Calls.{Reply, Stepped}
use Rattle.tcl_eval.proofs.Led.{leads_reply, pauses_never, pauses_waiting}
use Rattle.tcl_eval.proofs.engine.Engine.ask.Goals as goal

-- the reply is what the call returned, with the variables as it left them
pub returns-in_ok-asked-in-Call-clause-leads : goal.returns-in_ok-asked-in-Call-clause-leads
returns-in_ok-asked-in-Call-clause-leads g c =
    let r : Reply = Stepped c.call-step.result c.call-step.new.self.vars in (
      r ∷ [],
      leads_reply g.H.Host.answers (rest_of c.args.self.now) c.args.mode (CallHost c.in-Call.call c.in-Call.depth c.in-Call.resumed) _ r _ _ c.in-Call.is
          c.call-step.ensures.answered
          (c.in_ok-asked-in-Call.ensures.rest ∙ ap (λ (m : Engine). follow (rest_of m (CallHost c.in-Call.call c.in-Call.depth false)) r) c.call-step.ensures.same),
      λ p. pauses_waiting _ r (c.in_ok-asked-in-Call.ensures.asking p) (c.in_ok-asked-in-Call.ensures.paused p),
    )

pub returns-in_ok-mode-in-Define-clause-leads : goal.returns-in_ok-mode-in-Define-clause-leads
returns-in_ok-mode-in-Define-clause-leads g c =
    let a = c.in_ok-mode-in-Define.ensures.answered in
    let goes_on = c.on-in-Define.ensures in (
      a.0 ∷ [],
      leads_reply g.H.Host.answers (rest_of c.args.self.now) c.args.mode (Define c.in-Define.name c.in-Define.formals c.in-Define.body) _ a.0 _ _ c.in-Define.is a.1
          (ap (λ (x : Asked). rest_of c.ask_known.new.self x.mode) goes_on ∙ a.2),
      pauses_never _ _ _ goes_on,
    )

pub returns-in-Ended-clause-leads : goal.returns-in-Ended-clause-leads
returns-in-Ended-clause-leads g c =
    ([], (ap (rest_of c.args.self.now) c.in-Ended.is, refl), λ p. tt)
