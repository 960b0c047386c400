use Rattle.std.proofs.Common.{◌≡◌, ℕ, None}
use Rattle.child_serve.specs.Teams.{AllStarted}
use Rattle.child_serve.proofs.Teaming.{ServedTo}
use Rattle.child_serve.proofs.Taking.{LogsTo}
use Rattle.child_serve.proofs.serving.join_all.Given as goal

abbrev pub invariant-loop-handle : goal.invariant-loop-handle
invariant-loop-handle g l = record {
  served : l.joined.fault ≡ None → (n : ℕ) (teams : _) → AllStarted n 0 l.fn.handles.items teams → ServedTo g.K.Keeper.told g.K.Keeper.gives g.K.Keeper.named g.K.Keeper.made n l.joined.parts.items l.joined.logs.items l.handle-iterator.rest.items teams;
  logs : l.joined.fault ≡ None → LogsTo l.fn.handles.items l.joined.logs.items l.handle-iterator.rest.items;
}
