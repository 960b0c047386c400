use Rattle.std.proofs.Common.{ap, sym, subst, ◌∙◌}
use Rattle.feed_rings.specs.Ends.{put_items, taken_items, IsPair}
use Rattle.child_serve.proofs.Opening.{is_opened, none_asked}
use Rattle.child_serve.proofs.hands.start.Goals as goal

pub returns-in-Some : goal.returns-in-Some
returns-in-Some g c =
    let hand = c.in-Some.ensures in
    is_opened c.args.script c.args.keeper c.new-in-Some.result c.in-Some.hand c.in_ok-works.field-0.works.items c.in_ok-works.field-0.outs.items hand.0 hand.1 (ap taken_items hand.2 ∙ c.in_ok-asks.ensures.empty.1)
    (ap put_items hand.3 ∙ c.in_ok-answering.ensures.empty.0)
    (subst (λ a. IsPair a c.new-in-Some.result.answers) (sym hand.3) (subst (λ o. IsPair c.in_ok-answering.answering o) (sym c.new-in-Some.ensures.answers) c.in_ok-answering.ensures.pair))
    (ap taken_items c.new-in-Some.ensures.answers ∙ c.in_ok-answering.ensures.empty.1)
    (none_asked c.new-in-Some.result (ap put_items c.new-in-Some.ensures.asks ∙ c.in_ok-asks.ensures.empty.0) c.new-in-Some.ensures.ready) (ap (λ v. v.items) hand.4) (ap (λ rs. rs.script) c.new-in-Some.ensures.readers) (ap (λ rs. rs.outs.items) c.new-in-Some.ensures.readers) c.in_ok-works.ensures
