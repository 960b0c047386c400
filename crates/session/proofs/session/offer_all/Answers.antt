use Rattle.std.proofs.Common.{◌≡◌, List, [], ◌∷◌, sym, ap, ◌∙◌}
use Rattle.child_events.specs.declared.event.Event.{Event}
use Rattle.expect_core.specs.declared.dialogue.Dialogue.{Dialogue}
use Rattle.expect_core.specs.Lanes.{extended}
use Rattle.session.proofs.Suspending.{good_fed}
use Rattle.session.proofs.session.offer_all.Goals as goal

pub events-preserved : goal.events-preserved
events-preserved c = (
  λ h. c.events.invariant.0 (c.offer.ensures.lived h),
  λ g h.
      let lives = c.offer.ensures.lived h in
      let prev = c.events.invariant.1 g lives in
      let came : c.offer.new.self ≡ extended (c.in-Some.event ∷ []) c.events.dialogue = c.offer.ensures.came prev.0 h in (
        good_fed c.in-Some.event c.events.dialogue c.offer.new.self prev.0 came,
        ap (λ (d : Dialogue). extended c.next.new.self.rest.items d) came
            ∙ ap (λ (es : List Event). extended es c.events.dialogue) (sym c.in-Some.ensures.steps.0)
            ∙ prev.1,
      ),
)
