use Rattle.std.proofs.Common.{◌≤◌, List}
use Rattle.tcl_eval.specs.Rest.{rest_of}
use Rattle.tcl_host.specs.Calls.{Reply}
use Rattle.tcl_eval.specs.Tree.{Leads}
use Rattle.tcl_eval.specs.Potential.{potential}
use Rattle.tcl_eval.proofs.engine.Engine.go.Given as goal

abbrev pub invariant-rounds : goal.invariant-rounds
invariant-rounds g l = record {
  led :
      (replies : List Reply)
      × Leads g.H.Host.answers replies (rest_of l.initial.self l.initial.mode) l.initial.host (rest_of l.self l.mode) l.host;
  less : l.self.left ≤ l.initial.self.left;
}

abbrev pub decreases-rounds : goal.decreases-rounds
decreases-rounds g l = potential l.self l.mode
