use Rattle.std.proofs.Common.{◌+◌, ◌*◌, ◌≤◌, length, sym, ◌∙◌, arith}
use Rattle.tcl_strings.proofs.Mapped.{pair_none}
use Rattle.tcl_strings.proofs.mapping.first_pair.Goals as goal

pub returns : goal.returns
returns c =
    let over : length c.args.elements.now ≤ 2 * c.loop-pair.pair + 1 = omega (arith, c.len-pair-end.ensures) in
    sym c.loop-pair.invariant ∙ pair_none c.args.nocase c.args.elements.now c.args.text.now c.loop-pair.pair over
