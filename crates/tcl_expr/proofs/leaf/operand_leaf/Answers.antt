use Rattle.std.proofs.Common.{ap, ◌∙◌, refl}
use Rattle.tcl_words.specs.Pieces.{word_view}
use Rattle.tcl_expr.specs.Tree.{operand}
use Rattle.tcl_expr.specs.Instr.{postfix}
use Rattle.tcl_expr.specs.Leaf.{operand_leaf}
use Rattle.tcl_expr.proofs.leaf.operand_leaf.Goals as goal

pub returns-in_ok-push-in-Ok-Some-clause-value : goal.returns-in_ok-push-in-Ok-Some-clause-value
unfolding postfix
returns-in_ok-push-in-Ok-Some-clause-value c = record {
  tree = operand (word_view c.in-Ok-Some.word);
  is = ap (operand_leaf c.args.text.now) (rw c.in-Ok-Some.field-0-is at c.in-Ok-Some.ensures.value) ∙ rw c.gap.ensures.value refl;
  code = c.in_ok-push-in-Ok-Some.ensures.pushed;
}
