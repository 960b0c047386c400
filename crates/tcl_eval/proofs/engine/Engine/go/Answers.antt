use Rattle.std.proofs.Common.{sym, ◌++◌, ◌∙◌, arith}
use Rattle.tcl_eval.proofs.Led.{leads_along, leads_append, pauses_append}
use Rattle.tcl_eval.proofs.engine.Engine.go.Goals as goal

pub returns-then-asked-clause-leads : goal.returns-then-asked-clause-leads
returns-then-asked-clause-leads g c =
    let i = c.rounds.invariant.led in
    let a = c.in_ok-asked.ensures.leads in (
      i.0 ++ a.0,
      leads_append g.H.Host.answers i.0 a.0 _ _ _ _ _ _ (leads_along g.H.Host.answers i.0 _ _ _ _ _ i.1 (sym c.in_ok-mode.ensures.rest)) a.1,
      pauses_append _ i.0 a.0 (a.2 c.if-asked.true),
    )

pub rounds-preserved : goal.rounds-preserved
rounds-preserved g c = record {
  led =
      let i = c.rounds.invariant.led in
      let a = c.in_ok-asked.ensures.leads in (
        i.0 ++ a.0,
        leads_append g.H.Host.answers i.0 a.0 _ _ _ _ _ _ (leads_along g.H.Host.answers i.0 _ _ _ _ _ i.1 (sym c.in_ok-mode.ensures.rest)) a.1,
      );
  less = omega (arith, c.ask.ensures.less, c.settle.ensures.less, c.rounds.invariant.less);
}
