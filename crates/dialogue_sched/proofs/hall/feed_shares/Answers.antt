use Rattle.std.proofs.Common.{◌≡◌, List, length, sym, subst, ◌∙◌, add-one, arith}
use Rattle.std.proofs.lemmas.List.{nil_from_length}
use Rattle.child_events.specs.declared.event.Event.{Event}
use Rattle.dialogue_sched.specs.Took.{Took}
use Rattle.dialogue_sched.proofs.Taking.{took_set, took_shares, drop_one, drop_some}
use Rattle.dialogue_sched.proofs.hall.feed_shares.Goals as goal

pub loop-share-preserved : goal.loop-share-preserved
loop-share-preserved c =
    let f = c.feed_share.ensures.took in
    let i = c.loop-share.i in
    let shares = c.args.shares.items in
    let rest = c.next.new.self.rest.items in
    let split = sym c.loop-share.invariant.left ∙ c.in-Some.ensures.steps.0 in
    let took : Took f.0 c.in-Some.share f.1 = subst (λ (es : List Event). Took f.0 es f.1) c.share.view_is f.3 in
    let less = drop_some i shares rest c.in-Some.share split in
    record {
      left = rw add-one (sym (drop_one i shares rest c.in-Some.share split));
      took = rw (add-one, f.4) (took_set i shares rest c.in-Some.share c.args.sessions.now.items c.loop-share.sessions.items f.0 f.1 split c.loop-share.invariant.took f.2 took);
      within = omega (arith, less, c.args.shares.ok.0);
      same = c.feed_share.ensures.same ∙ c.loop-share.invariant.same;
    }

pub returns-clause-took : goal.returns-clause-took
returns-clause-took c =
    let rest = c.loop-share.share-iterator.rest in
    let none : length rest.items ≡ 0 = omega (arith, rest.ok.0, c.in-None.ensures.steps.0) in
    took_shares c.loop-share.i c.args.shares.items c.args.sessions.now.items c.loop-share.sessions.items
    (sym c.loop-share.invariant.left ∙ nil_from_length rest.items none) (omega (arith, c.requires, c.args.shares.ok.0, c.args.sessions.now.ok.0)) c.loop-share.invariant.took
