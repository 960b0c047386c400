use Rattle.std.proofs.Common.{[], ◌∷◌, refl}
use Rattle.session.specs.Sound.{kept_of}
use Rattle.session.proofs.Lefts.{goes_on, passed_over, fed}
use Rattle.session.proofs.Readying.{sound_behind}
use Rattle.session.proofs.Suspending.{good_fed}
use Rattle.session.proofs.session.Session.feed.Goals as goal

pub returns-then-is_over : goal.returns-then-is_over
returns-then-is_over c = rw (← c.self.view_is) (passed_over (kept_of c.self.inside) (c.args.event ∷ []) (c.is_over.ensures.0 c.if-is_over.true))

pub go_on-self-inside-requires : goal.go_on-self-inside-requires
go_on-self-inside-requires c = λ h. good_fed c.args.event c.self.inside.dialogue c.offer.new.self (c.self.invariant.good c.if-not-self.false) (c.offer.ensures.came (c.self.invariant.good c.if-not-self.false) h)

pub returns : goal.returns
returns c =
    rw (← c.self.view_is)
    (fed (kept_of c.self.inside) _ (c.args.event ∷ []) c.offer.new.self refl refl refl c.if-not-self.false
    (goes_on c.self.inside.machine.mode _ c.is_over.ensures c.if-is_over.false)
    (c.offer.ensures.came (c.self.invariant.good c.if-not-self.false)) c.go_on-self-inside.ensures.ran)

pub invariant_of-self : goal.invariant_of-self
invariant_of-self c =
    sound_behind c.self.inside _ (c.args.event ∷ []) c.offer.new.self c.self.invariant c.if-not-self.false refl
    (c.offer.ensures.came (c.self.invariant.good c.if-not-self.false)) c.go_on-self-inside.ensures.ran c.go_on-self-inside.ensures.ready c.go_on-self-inside.ensures.spent
