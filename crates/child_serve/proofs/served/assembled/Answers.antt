use Rattle.std.proofs.Common.{ap, ◌∙◌}
use Rattle.child_serve.specs.Turns.{in_turn}
use Rattle.child_serve.proofs.served.assembled.Goals as goal

pub returns : goal.returns
returns c = record {
  reports = c.in_ok-reports.ensures ∙ ap (in_turn c.args.count) c.in_ok-apart.ensures.reports;
  unsettled = c.in_ok-apart.ensures.unsettled;
  stopped = c.in_ok-apart.ensures.stopped;
}
