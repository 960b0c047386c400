use Rattle.std.proofs.Common.{rules}
use Rattle.expect_core.proofs.Counting.{right_count, wrong_count}
use Rattle.expect_core.proofs.flags.arguments.Goals as goal

pub returns-then-not-fits : goal.returns-then-not-fits
returns-then-not-fits c = λ other.
    wrong_count c.args.command c.args.name.now _ c.args.words.now c.in_ok-flags.flags c.in_ok-flags.at c.expect_row-row.result c.expect_row-row.ensures
    c.in_ok-flags.ensures.0 (search rules) (search rules)

pub returns : goal.returns
returns c = (
  right_count c.args.command c.args.name.now c.args.words.now c.in_ok-flags.flags c.in_ok-flags.at c.expect_row-row.result c.expect_row-row.ensures
      c.in_ok-flags.ensures.0 (search rules),
  c.in_ok-flags.ensures.1,
)
