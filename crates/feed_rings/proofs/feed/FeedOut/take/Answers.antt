use Rattle.std.proofs.Common.{◌∙◌}
use Rattle.feed_rings.proofs.Looks.{seen_behind}
use Rattle.feed_rings.proofs.feed.FeedOut.take.Goals as goal

pub returns-clause-some : goal.returns-clause-some
returns-clause-some g c =
    let popped = c.in-Ok.ensures.ok in (
      c.ring_if_full.ensures.taken ∙ popped.0,
      seen_behind c.in-Ok.item _ _ _ popped.1 c.ring_if_full.ensures.seen,
    )
