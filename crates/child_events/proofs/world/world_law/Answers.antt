use Rattle.child_events.proofs.Worlds.{knows, horizon_is}
use Rattle.child_events.proofs.world.world_law.Goals as goal

pub returns : goal.returns
returns c = record { knows = knows; horizon = horizon_is }
