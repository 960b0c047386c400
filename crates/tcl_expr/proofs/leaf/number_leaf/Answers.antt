use Rattle.std.proofs.Common.{◌<◌, ◌^◌, pos, ap, ◌∙◌, refl, arith}
use Rattle.std.proofs.lemmas.Int.{to_z_pos}
use mir.Syntax.{w64}
use Rattle.tcl_expr.specs.Tree.{number}
use Rattle.tcl_expr.specs.Instr.{postfix}
use Rattle.tcl_expr.specs.Leaf.{number_leaf}
use Rattle.tcl_expr.proofs.leaf.number_leaf.Goals as goal

pub returns-in_ok-push-in-Some-clause-value : goal.returns-in_ok-push-in-Some-clause-value
unfolding postfix
returns-in_ok-push-in-Some-clause-value c =
    let fits : c.in-Some.v < 2 ^ 63 = omega (arith, rw c.in-Some.is at c.requires.fits) in
    record {
      tree = number (pos c.in-Some.v);
      is = ap (number_leaf c.args.text.now c.args.n) c.in-Some.is ∙ rw c.gap.ensures.value refl;
      code = rw (← to_z_pos w64 c.in-Some.v fits) c.in_ok-push-in-Some.ensures.pushed;
    }
