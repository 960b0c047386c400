use Rattle.tcl_subst.proofs.Unasked.{fill_unasked}
use Rattle.tcl_subst.proofs.laws.no_script_is_asked_for.Goals as goal

pub returns : goal.returns
returns c = fill_unasked
