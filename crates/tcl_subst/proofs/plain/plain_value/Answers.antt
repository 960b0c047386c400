use Rattle.std.proofs.Common.{arith}
use Rattle.std.proofs.lemmas.Bool.Decides.{nat_tests}
use Rattle.tcl_words.specs.Pieces.{parts_view}
use Rattle.tcl_subst.specs.Filling.{fill}
use Rattle.tcl_subst.proofs.OnePart.{no_part, several_parts}
use Rattle.tcl_subst.proofs.plain.plain_value.Goals as goal
use Rattle.tcl_subst.proofs.plain.plain_value.Goals.{in_default-via-then-as_slice-lt1, in_default-via-else-as_slice-lt1+else-this-lt2}

pub returns-in_default-clause-value : goal.returns-in_default-clause-value
returns-in_default-clause-value c =
    let parts = c.args.word.now.parts.items in
    elim c.in_default.branch [
      | in_default-via-then-as_slice-lt1 w ↦ no_part parts (fill (parts_view parts) c.args.vars.now) (grind (arith, nat_tests))
      | in_default-via-else-as_slice-lt1+else-this-lt2 w ↦ several_parts parts (fill (parts_view parts) c.args.vars.now) (grind (arith, nat_tests))
    ]
