use Rattle.child_serve.proofs.Again.{serving_is_run}
use Rattle.child_serve.proofs.laws.serving_is_run.Goals as goal

pub returns : goal.returns
returns g c = serving_is_run g.K.Keeper.told g.K.Keeper.gives
