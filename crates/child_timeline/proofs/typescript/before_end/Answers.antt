use Rattle.std.proofs.Common.{sym, ap, ◌∙◌}
use Rattle.std.proofs.lemmas.List.{take_rest}
use Rattle.child_timeline.specs.Typescript.{is_end}
use Rattle.child_timeline.proofs.Taping.{shown_more}
use Rattle.child_timeline.proofs.typescript.before_end.Goals as goal

pub loop-i-preserved : goal.loop-i-preserved
loop-i-preserved c = shown_more c.args.bytes.now c.loop-i.i c.loop-i-test.true (ap is_end (sym (take_rest c.args.bytes.now c.loop-i.i)) ∙ sym c.is_end.ensures ∙ c.if-is_end.false) c.loop-i.invariant
