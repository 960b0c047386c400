use Rattle.std.proofs.Common.{false}
use Rattle.std.proofs.lemmas.List.{get_or-replicate}
use Rattle.tcl_results.proofs.sets.no_flags.Goals as goal

pub returns : goal.returns
returns c b l = get_or-replicate 256 b false false l
