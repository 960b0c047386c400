use Rattle.std.proofs.Common.{rules}
use Rattle.expect_core.proofs.Vain.{sought_behind}
use Rattle.expect_core.proofs.listen.hear.Goals as goal

pub test-requires-clause-sought : goal.test-requires-clause-sought
test-requires-clause-sought c = sought_behind c.args.plan.now c.args.sought.now c.args.child c.as_slice.result.now c.args.own.now c.receive.new.self (search rules) c.requires.sought
