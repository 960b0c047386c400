use Rattle.dialogue_sched.proofs.Limiting.{runs_end, sessions_end, ticks_pass}
use Rattle.dialogue_sched.proofs.laws.limits.Goals as goal

pub returns-clause-runs : goal.returns-clause-runs
returns-clause-runs c = runs_end

pub returns-clause-sessions : goal.returns-clause-sessions
returns-clause-sessions c = sessions_end

pub returns-clause-ticked : goal.returns-clause-ticked
returns-clause-ticked c = ticks_pass
