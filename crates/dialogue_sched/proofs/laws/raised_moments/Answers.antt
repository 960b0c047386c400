use Rattle.dialogue_sched.proofs.Raises.{means_raised}
use Rattle.dialogue_sched.proofs.laws.raised_moments.Goals as goal

pub returns : goal.returns
returns c = means_raised
