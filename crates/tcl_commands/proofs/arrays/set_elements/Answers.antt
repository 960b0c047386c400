use Rattle.std.proofs.Common.{◌≡◌, ◌+◌, ◌*◌, ◌<◌, ◌≤◌, length, IfOk, subst, ◌∙◌, arith}
use Rattle.tcl_commands.specs.Arrays.{set_elements}
use Rattle.tcl_results.specs.Said.{Outcome}
use Rattle.tcl_commands.proofs.Pairwise.{set_on, set_end}
use Rattle.tcl_commands.proofs.arrays.set_elements.Goals as goal

pub loop-pair-preserved : goal.loop-pair-preserved
loop-pair-preserved c =
    let some : 2 * c.loop-pair.pair + 1 < length c.args.elements.now = omega (arith, c.loop-pair-test.true, c.len-pair-end.ensures) in
    set_on c.args.name.now c.args.elements.now c.loop-pair.pair c.loop-pair.vars (set_elements c.args.name.now c.args.elements.now c.args.vars.now)
    c.element-index.result.now c.in_ok-value.value c.as_slice.result.now c.in_ok-place.place some
    c.element-index.ensures (c.in_ok-value.ensures ∙ c.element-text.ensures) c.in_ok-place.ensures c.as_slice.ensures
    c.set.new.self c.in_default.ensures c.loop-pair.invariant

pub returns : goal.returns
returns c =
    let over : length c.args.elements.now ≤ 2 * c.loop-pair.pair + 1 = omega (arith, c.len-pair-end.ensures) in
    subst (λ (o : Outcome). IfOk c.with_array.result (λ r. o ≡ (r.0, r.1, c.with_array.new.vars)))
    (set_end c.args.name.now c.args.elements.now c.loop-pair.pair c.loop-pair.vars (set_elements c.args.name.now c.args.elements.now c.args.vars.now) over c.loop-pair.invariant)
    c.with_array.ensures
