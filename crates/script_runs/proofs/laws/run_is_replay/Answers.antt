use Rattle.script_runs.proofs.Again.{replays_same, replays_part, replays_unrefused}
use Rattle.script_runs.proofs.laws.run_is_replay.Goals as goal

pub returns : goal.returns
returns g c = record {
  same = replays_same g.K.Keeper.told g.K.Keeper.gives;
  part = replays_part g.K.Keeper.told g.K.Keeper.gives;
  unrefused = replays_unrefused g.K.Keeper.told g.K.Keeper.gives;
}
