use Rattle.dialogue_sched.proofs.Running.{isolated}
use Rattle.dialogue_sched.proofs.run.isolation.Goals as goal

pub returns : goal.returns
returns c = isolated
