use Rattle.std.proofs.Common.{◌≡◌, length}
use Rattle.exp_glob.specs.Literals.{IsLiteral}
use Rattle.exp_glob.proofs.Made.{Onwards}
use Rattle.exp_glob.proofs.plan.front_bytes.Given as goal

abbrev pub invariant-loop-element : goal.invariant-loop-element
invariant-loop-element l = record {
  long : length l.bytes.items ≡ l.element-index;
  literal : IsLiteral l.nocase l.elements 0 l.bytes.items;
  onwards : Onwards l.nocase l.elements l.element-index;
}
