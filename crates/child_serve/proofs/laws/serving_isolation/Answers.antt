use Rattle.child_serve.proofs.Again.{servings_isolated}
use Rattle.child_serve.proofs.laws.serving_isolation.Goals as goal

pub returns : goal.returns
returns g c = servings_isolated g.K.Keeper.told g.L.Keeper.told g.K.Keeper.gives g.L.Keeper.gives
