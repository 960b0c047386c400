use Rattle.std.proofs.Common.{refl, rules}
use Rattle.child_hands.proofs.Goings.{goes_places}
use Rattle.child_hands.proofs.Works.{finished_from}
use Rattle.child_hands.proofs.hand.hand.Goals as goal

pub returns : goal.returns
returns g c =
    let obeyed = c.obey-outcome.ensures in
    let ended = c.end_all.ensures in
    let fresh = c.new-children.ensures in
    let put = c.obey-outcome.new.ends.answers in
    record {
      made = g.K.Keeper.made c.obey-outcome.new.keeper;
      failed = g.K.Keeper.failed c.obey-outcome.new.keeper;
      put = put;
      asked = obeyed.asks;
      answered = obeyed.answers;
      size = search rules;
      going = goes_places _ _ _ _ _ (rw (fresh.0, fresh.1) at obeyed.going) (rw ended.none at ended.kept) refl refl refl refl;
      ended = obeyed.ended;
      finished = finished_from c.args.answers put put c.finish.result obeyed.answers refl c.finish.ensures.ring c.finish.ensures.items;
    }
