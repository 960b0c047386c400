use Rattle.std.proofs.Common.{◌+◌, ◌-◌, ◌*◌, ◌<◌, ◌≤◌, length}
use Rattle.tcl_expr.specs.Grammar.{inside_of, term, level}
use Rattle.tcl_expr.proofs.Writings.{LevelTo, PowersTo}
use Rattle.tcl_expr.proofs.grammar.+expression.Given as goal

abbrev pub decreases-inner : goal.decreases-inner
decreases-inner l = 64 * l.depth

abbrev pub decreases-inner_term : goal.decreases-inner_term
decreases-inner_term l = 64 * l.depth

abbrev pub decreases-in_parens : goal.decreases-in_parens
decreases-in_parens l = 64 * l.depth + 2

abbrev pub decreases-prefixed : goal.decreases-prefixed
decreases-prefixed l = 64 * l.depth + 2

abbrev pub decreases-term : goal.decreases-term
decreases-term l = 64 * l.depth + 3

abbrev pub decreases-operands : goal.decreases-operands
decreases-operands l = 64 * l.depth + 4

abbrev pub decreases-powers : goal.decreases-powers
decreases-powers l = 64 * l.depth + 5

abbrev pub decreases-level : goal.decreases-level
decreases-level l = 64 * l.depth + 4 + 2 * l.loosest

abbrev pub decreases-right : goal.decreases-right
decreases-right l = 64 * l.depth + 5 + 2 * l.loosest

abbrev pub decreases-branches : goal.decreases-branches
decreases-branches l = 64 * l.depth + 32

abbrev pub decreases-whole : goal.decreases-whole
decreases-whole l = 64 * l.depth + 33

abbrev pub invariant-operands-loop-at : goal.invariant-operands-loop-at
invariant-operands-loop-at l = record {
  within : l.at ≤ length l.text;
  few : l.count ≤ l.at;
  to : PowersTo (term (inside_of l.depth)) l.text l.at l.count (level (inside_of l.depth) 1 l.text) l.fn.code l.code;
}

abbrev pub decreases-operands-loop-at : goal.decreases-operands-loop-at
decreases-operands-loop-at l = length l.text - l.at

abbrev pub invariant-level-loop-at : goal.invariant-level-loop-at
invariant-level-loop-at l = record {
  within : l.at ≤ length l.text;
  some : 1 < l.loosest;
  to : LevelTo (level (inside_of l.depth) (l.loosest - 1)) l.loosest l.text l.at (level (inside_of l.depth) l.loosest l.text) l.fn.code l.code;
}

abbrev pub decreases-level-loop-at : goal.decreases-level-loop-at
decreases-level-loop-at l = length l.text - l.at
