use Rattle.tcl_eval.proofs.First.{fills_first}
use Rattle.tcl_eval.proofs.begun.first.Goals as goal

pub returns : goal.returns
returns c w e = fills_first c.filling_is_fill.ensures.begun _ w e
