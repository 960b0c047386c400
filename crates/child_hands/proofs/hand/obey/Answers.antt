use Rattle.std.proofs.Common.{rules, inl, inr, ◌∙◌, ap, refl}
use Rattle.feed_rings.specs.Ends.{taken_items}
use Rattle.child_hands.proofs.Goings.{goes_same, goes_other, goes_ask}
use Rattle.child_hands.proofs.hand.obey.Goals as goal

pub returns-then-not-await_room-clause-going : goal.returns-then-not-await_room-clause-going
returns-then-not-await_room-clause-going g c = goes_same _ _ _ _ _ _ c.loop.invariant.going refl c.await_room.ensures.looks.items

pub loop-preserved : goal.loop-preserved
loop-preserved g c = record {
  name = search rules;
  asks = search rules;
  size = search rules;
  answers = search rules;
  going =
      let name = c.loop.invariant.name in
      goes_ask _ _ _ _ _ _ c.take_waiting.result c.in-Do.request c.loop.invariant.going c.in-Do.ensures
      (ap (λ out. taken_items out) c.carry_out.ensures.asks ∙ c.take_waiting.ensures.taken) c.await_room.ensures.looks.items (rw name at c.carry_out.ensures.going);
}

pub returns-in-Halt-clause-going : goal.returns-in-Halt-clause-going
returns-in-Halt-clause-going g c =
    goes_other _ _ _ _ _ _ c.take_waiting.result c.loop.invariant.going (inr c.in-Halt.ensures) c.take_waiting.ensures.taken c.await_room.ensures.looks.items

pub loop-preserved-in-Nothing : goal.loop-preserved-in-Nothing
loop-preserved-in-Nothing g c = record {
  name = search rules;
  asks = search rules;
  size = search rules;
  answers = search rules;
  going = goes_other _ _ _ _ _ _ c.take_waiting.result c.loop.invariant.going (inl c.in-Nothing.ensures) c.take_waiting.ensures.taken c.await_room.ensures.looks.items;
}
