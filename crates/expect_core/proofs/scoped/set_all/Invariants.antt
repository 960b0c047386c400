use Rattle.std.proofs.Common.{◌≡◌, map}
use Rattle.expect_core.specs.Scoped.{set_all}
use Rattle.expect_core.proofs.scoped.set_all.Given as goal

abbrev pub invariant-stores : goal.invariant-stores
invariant-stores l = set_all (map (λ p. (p.0.now, p.1)) l.name-iterator.rest.items) l.vars ≡ set_all l.fn.stores l.initial.vars
