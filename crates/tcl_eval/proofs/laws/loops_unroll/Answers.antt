use Rattle.tcl_eval.proofs.Bounded.{loops_unroll, bodies_unroll}
use Rattle.tcl_eval.proofs.laws.loops_unroll.Goals as goal

pub returns-clause-loops : goal.returns-clause-loops
returns-clause-loops c = loops_unroll

pub returns-clause-bodies : goal.returns-clause-bodies
returns-clause-bodies c = bodies_unroll
