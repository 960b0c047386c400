use Rattle.std.proofs.Common.{◌≡◌, ◌+◌, ◌<◌, ◌≤◌, length, length-drop, drop, get_or, false, sym, ◌∙◌, arith}
use Rattle.exp_glob.specs.Spans.{in_range, range_after}
use Rattle.exp_glob.proofs.ReadOn.{has_turn}
use Rattle.exp_glob.proofs.matching.class_has.Goals as goal

pub loop-at-preserved : goal.loop-at-preserved
loop-at-preserved c =
    let s = c.args.members.now in
    let i = c.loop-at.at in
    let lt : i < length s = c.loop-at-test.true in
    let is : c.range_after-end.result ≡ range_after (get_or s i 0) (drop (i + 1) s) = rw (← c.after.ensures) c.range_after-end.ensures.value in
    let dark : in_range (get_or s i 0) c.range_after-end.result.0 c.args.byte ≡ false = sym c.in_range.ensures ∙ c.if-in_range.false in
    let within : c.range_after-end.result.1 ≤ length (drop (i + 1) s) = rw (← c.after.ensures) c.range_after-end.ensures.within in
    (omega (arith, length-drop (i + 1) s), has_turn s i c.args.byte c.range_after-end.result _ lt is dark c.loop-at.invariant.1)
