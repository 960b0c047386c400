use Rattle.std.proofs.Common.{◌≡◌, None, refl, rules}
use Rattle.std.specs.Prelude.{box_value, option_map}
use Rattle.expect_core.proofs.Hushes.{sides_on}
use Rattle.expect_core.proofs.Vain.{sought_on}
use Rattle.expect_core.proofs.listen.test.Goals as goal

pub sides-preserved : goal.sides-preserved
sides-preserved c =
    let r = c.in_ok-tested in
    let heard = option_map box_value r.tested in
    let nothing : r.tested ≡ None = search rules in
    let none : option_map box_value r.tested ≡ None = rw nothing refl in
    let s = sides_on c.args.plan.now c.sides.at c.len-at-end.result c.sides.own c.test_side.new.own c.args.own.now c.args.changed.now c.test_side.new.quiet heard none (search rules) c.sides-test.true r.ensures.goes r.ensures.quiet c.sides.invariant.0 in
    (s.0, s.1, sought_on c.args.plan.now heard c.test_side.new.sought c.test_side.new.own none r.ensures.sought)
