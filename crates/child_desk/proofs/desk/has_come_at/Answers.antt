use Rattle.std.proofs.Common.{◌+◌, refl}
use Rattle.std.proofs.lemmas.Option.{slice_get_read}
use Rattle.child_desk.proofs.Kept.{no_hand_same, no_hand_set}
use Rattle.child_desk.proofs.Hears.{all_same, all_set}
use Rattle.child_desk.proofs.desk.has_come_at.Goals as goal

pub returns-in-Some-clause-heard : goal.returns-in-Some-clause-heard
returns-in-Some-clause-heard g c = λ es.
    let ends = c.args.ends.now in
    let e = c.in-Some.ends.now in
    all_set c.args.at ends.items e c.has_come_to.new.ends es es
    (slice_get_read ends.items ends.len c.args.at e ends.ok.0 (c.in-Some.ensures.variant.0 refl) c.in-Some.ensures.value) (c.has_come_to.ensures.heard (c.args.at + 1) es)

pub returns-in-Some-clause-hands : goal.returns-in-Some-clause-hands
returns-in-Some-clause-hands g c =
    let ends = c.args.ends.now in
    let e = c.in-Some.ends.now in
    no_hand_set c.args.at ends.items e c.has_come_to.new.ends
    (slice_get_read ends.items ends.len c.args.at e ends.ok.0 (c.in-Some.ensures.variant.0 refl) c.in-Some.ensures.value) c.has_come_to.ensures.ring c.has_come_to.ensures.taken c.has_come_to.ensures.asked

pub returns-in-None-clause-heard : goal.returns-in-None-clause-heard
returns-in-None-clause-heard g c = λ es. all_same c.args.ends.now.items es

pub returns-in-None-clause-hands : goal.returns-in-None-clause-hands
returns-in-None-clause-hands g c = no_hand_same c.args.ends.now.items
