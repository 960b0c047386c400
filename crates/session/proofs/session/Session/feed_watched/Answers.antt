use Rattle.std.proofs.Common.{[], ◌∷◌, refl}
use Rattle.session.specs.Sound.{kept_of}
use Rattle.session.proofs.Lefts.{goes_on, passed_over, fed}
use Rattle.session.proofs.Readying.{sound_behind}
use Rattle.session.proofs.Suspending.{good_fed}
use Rattle.session.proofs.Watching.{seen_fed, seen_over}
use Rattle.session.proofs.session.Session.feed_watched.Goals as goal

pub returns-then-is_over-clause-fed : goal.returns-then-is_over-clause-fed
returns-then-is_over-clause-fed g c = rw (← c.self.view_is) (passed_over (kept_of c.self.inside) (c.args.came ∷ []) (c.is_over.ensures.0 c.if-is_over.true))

pub returns-then-is_over-clause-seen : goal.returns-then-is_over-clause-seen
returns-then-is_over-clause-seen g c = λ h. rw (← c.self.view_is) (seen_over g.W.Watcher.sees (kept_of c.self.inside) c.args.came c.args.watcher (c.is_over.ensures.0 c.if-is_over.true))

pub go_on_watched-lives-requires : goal.go_on_watched-lives-requires
go_on_watched-lives-requires g c = λ h. good_fed c.args.came c.self.inside.dialogue c.offer.new.self (c.self.invariant.good c.if-not-self.false) (c.offer.ensures.came (c.self.invariant.good c.if-not-self.false) h)

pub invariant_of-self : goal.invariant_of-self
invariant_of-self g c =
    sound_behind c.self.inside _ (c.args.came ∷ []) c.offer.new.self c.self.invariant c.if-not-self.false refl
    (c.offer.ensures.came (c.self.invariant.good c.if-not-self.false)) c.go_on_watched-lives.ensures.ran c.go_on_watched-lives.ensures.ready c.go_on_watched-lives.ensures.spent

pub returns-clause-fed : goal.returns-clause-fed
returns-clause-fed g c =
    rw (← c.self.view_is)
    (fed (kept_of c.self.inside) _ (c.args.came ∷ []) c.offer.new.self refl refl refl c.if-not-self.false
    (goes_on c.self.inside.machine.mode _ c.is_over.ensures c.if-is_over.false)
    (c.offer.ensures.came (c.self.invariant.good c.if-not-self.false)) c.go_on_watched-lives.ensures.ran)

pub returns-clause-seen : goal.returns-clause-seen
returns-clause-seen g c = λ h.
    rw (← c.self.view_is)
    (seen_fed g.W.Watcher.sees (kept_of c.self.inside) _ c.args.came c.offer.new.self c.args.watcher c.go_on_watched-lives.result.1
    (c.offer.ensures.came (c.self.invariant.good c.if-not-self.false) (c.go_on_watched-lives.ensures.ran h).lived) (c.go_on_watched-lives.ensures.seen h))
