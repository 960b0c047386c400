use Rattle.std.proofs.Common.{ap, ◌∙◌, refl}
use Rattle.tcl_expr.specs.Tree.{word}
use Rattle.tcl_expr.specs.Instr.{postfix}
use Rattle.tcl_expr.specs.Leaf.{word_leaf}
use Rattle.tcl_expr.proofs.leaf.word_leaf.Goals as goal

pub returns-in_ok-push-in-Some-clause-value : goal.returns-in_ok-push-in-Some-clause-value
unfolding postfix
returns-in_ok-push-in-Some-clause-value c = record {
  tree = word c.in-Some.w;
  is = ap (word_leaf c.args.text.now c.args.n) c.in-Some.is ∙ rw c.gap.ensures.value refl;
  code = c.in_ok-push-in-Some.ensures.pushed;
}
