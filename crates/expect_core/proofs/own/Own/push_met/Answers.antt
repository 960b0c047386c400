use Rattle.std.proofs.Common.{◌≡◌, ℕ, ◌-◌, take, refl, ap, ◌∙◌, arith}
use Rattle.expect_core.specs.Owned.{bytes_of}
use Rattle.expect_core.proofs.Steps.{two_pushed}
use Rattle.expect_core.proofs.own.Own.push_met.Goals as goal

pub returns-clause-pushed : goal.returns-clause-pushed
returns-clause-pushed c =
    two_pushed c.args.stores.now c.push.new.self c.push-2.new.self _ _ _ _ _ _ _ _
    refl (c.in_ok-id.ensures ∙ c.id.ensures) refl (c.in_ok-met.ensures.part ∙ ap (λ (n : ℕ). take n (bytes_of c.args.i c.args.self.now)) (let all : c.args.count - 0 ≡ c.args.count = omega arith in all))
    c.in_ok-push.ensures c.in_ok-push-2.ensures
