use Rattle.std.proofs.Common.{◌≡◌, vec_len}
use Rattle.feed_rings.specs.Ends.{put_items, taken_items, SameIn, SameOut}
use Rattle.child_hands.specs.Handed.{GoesOn}
use Rattle.child_hands.proofs.hand.obey.Given as goal

abbrev pub invariant-loop : goal.invariant-loop
invariant-loop g l = record {
  name : g.K.Keeper.named l.keeper ≡ g.K.Keeper.named l.initial.keeper;
  asks : SameOut l.initial.ends.asks l.ends.asks;
  size : vec_len l.children.works ≡ vec_len l.initial.children.works;
  answers : SameIn l.initial.ends.answers l.ends.answers;
  going :
      GoesOn l.script (g.K.Keeper.named l.initial.keeper)
      (record { made = g.K.Keeper.made l.initial.keeper; failed = g.K.Keeper.failed l.initial.keeper; taken = taken_items l.initial.ends.asks; put = put_items l.initial.ends.answers; works = l.initial.children.works.items; readers = l.initial.children.readers.items })
      (record { made = g.K.Keeper.made l.keeper; failed = g.K.Keeper.failed l.keeper; taken = taken_items l.ends.asks; put = put_items l.ends.answers; works = l.children.works.items; readers = l.children.readers.items });
}
