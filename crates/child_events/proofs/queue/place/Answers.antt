use Rattle.std.proofs.Common.{◌-◌, arith}
use Rattle.std.proofs.lemmas.Bool.Decides.{nat_tests}
use Rattle.child_events.proofs.Queued.{place_within, place_at_most, place_above}
use Rattle.child_events.proofs.queue.place.Goals as goal

pub later-init : goal.later-init
later-init c =
    let within = place_within c.args.clock c.args.slots.now.items in
    record { within = grind arith; found = grind arith }

pub later-preserved : goal.later-preserved
later-preserved c =
    let ss = c.args.slots.now.items in
    let at = place_at_most c.args.clock (c.later.at - 1) 0 ss c.index-in-later.result.now c.requires (grind arith) (grind (arith, nat_tests)) in
    record { within = grind arith; found = at }

pub returns-else-clock-index-2 : goal.returns-else-clock-index-2
returns-else-clock-index-2 c =
    let ss = c.args.slots.now.items in
    let above = place_above c.args.clock (c.later.at - 1) 0 ss c.index-in-later.result.now c.requires (grind arith) (grind (arith, nat_tests)) in
    grind arith
