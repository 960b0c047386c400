use Rattle.tcl_subst.proofs.FillingLaw.{begun_comes_to, told_is_rest}
use Rattle.tcl_subst.proofs.Onward.{is_onward}
use Rattle.tcl_subst.proofs.laws.filling_is_fill.Goals as goal

pub returns : goal.returns
returns c = record { begun = begun_comes_to; onward = is_onward; told = told_is_rest }
