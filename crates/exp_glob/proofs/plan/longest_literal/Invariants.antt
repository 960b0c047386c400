use Rattle.std.proofs.Common.{◌≤◌}
use Rattle.exp_glob.proofs.Made.{Onwards}
use Rattle.exp_glob.proofs.plan.longest_literal.Given as goal

abbrev pub invariant-loop-i : goal.invariant-loop-i
invariant-loop-i l = record {
  within : l.best ≤ l.i;
  begun : l.start ≤ l.i;
  best : Onwards l.nocase l.elements l.best;
  start : Onwards l.nocase l.elements l.start;
  onwards : Onwards l.nocase l.elements l.i;
}
