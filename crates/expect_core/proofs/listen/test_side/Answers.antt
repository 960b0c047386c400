use Rattle.std.proofs.Common.{rules}
use Rattle.std.specs.Prelude.{box_value, option_map}
use Rattle.expect_core.proofs.Hushes.{side_is, side_goes, test_quiet}
use Rattle.expect_core.proofs.Vain.{test_sought}
use Rattle.expect_core.proofs.listen.test_side.Goals as goal

pub returns-clause-goes : goal.returns-clause-goes
returns-clause-goes c =
    side_goes c.args.plan.now c.args.at c.index.result.now (option_map box_value c.in_ok-heard.heard) c.args.own.now c.test_one.new.own c.requires.here (search rules) c.in_ok-heard.ensures.goes

pub returns-clause-quiet : goal.returns-clause-quiet
returns-clause-quiet c =
    let w = c.index.result.now in
    test_quiet c.args.changed.now c.args.at c.args.plan.now c.requires.here (option_map box_value c.in_ok-heard.heard) w c.args.quiet.now c.set.new.self c.args.own.now c.test_one.new.own c.fits-fits.result
    (side_is c.args.plan.now c.args.at w c.requires.here (search rules)) c.set.ensures c.in_ok-heard.ensures.trims c.fits-fits.ensures c.requires.quiet

pub returns-clause-sought : goal.returns-clause-sought
returns-clause-sought c =
    let w = c.index.result.now in
    test_sought c.args.plan.now (option_map box_value c.in_ok-heard.heard) w c.args.at c.count_kept.result c.args.sought.now c.forget.new.self c.set-2.new.self c.args.own.now c.test_one.new.own
    (side_is c.args.plan.now c.args.at w c.requires.here (search rules)) c.in_ok-heard.ensures.none c.in_ok-heard.ensures.trims c.forget.ensures c.set-2.ensures c.count_kept.ensures c.requires.sought
