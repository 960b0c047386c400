use Rattle.std.proofs.Common.{ℕ, List, subst}
use Rattle.tcl_host.specs.Calls.{Reply, Knows, Known}
use Rattle.tcl_eval.proofs.engine.Engine.ask_known.Goals as goal

-- the reply is what the call returned
pub returns-clause-answered : goal.returns-clause-answered
returns-clause-answered g c =
    let r : Reply = Known c.knows-is_known.result in (
      r,
      subst (λ (name : List ℕ). g.H.Host.answers c.args.host.now (Knows name) r c.args.host.now) c.as_slice.ensures c.knows-is_known.ensures,
      c.in_ok-mode.ensures.rest,
    )
