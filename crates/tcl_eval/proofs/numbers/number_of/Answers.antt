use Rattle.tcl_eval.proofs.Answered.{numbers_come}
use Rattle.tcl_eval.proofs.numbers.number_of.Goals as goal

pub returns : goal.returns
returns c = numbers_come c.args.vars.now c.args.test.now c.number.result c.number.ensures
