use Rattle.std.proofs.Common.{◌≡◌, ◌++◌, map}
use Rattle.std.specs.Prelude.{◌||◌}
use Rattle.std.specs.List.{flat_map}
use Rattle.child_serve.specs.Served.{any_stopped}
use Rattle.child_serve.proofs.served.taken_apart.Given as goal

abbrev pub invariant-loop-served : goal.invariant-loop-served
invariant-loop-served l = record {
  reports : l.reports.items ++ map (λ s. s.reports) l.served-iterator.rest.items ≡ map (λ s. s.reports) l.fn.parts.items;
  unsettled : l.unsettled.items ++ flat_map (λ s. s.unsettled.items) l.served-iterator.rest.items ≡ flat_map (λ s. s.unsettled.items) l.fn.parts.items;
  stopped : (l.stopped || any_stopped l.served-iterator.rest.items) ≡ any_stopped l.fn.parts.items;
}
