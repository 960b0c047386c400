use Rattle.std.proofs.Common.{◌≡◌}
use Rattle.expect_core.specs.Effects.{performed}
use Rattle.expect_core.proofs.own.Own.perform_all.Given as goal

abbrev pub invariant-effects : goal.invariant-effects
invariant-effects l = performed l.at l.effect-iterator.rest.items l.vars l.self ≡ performed l.at l.fn.effects l.initial.vars l.initial.self
