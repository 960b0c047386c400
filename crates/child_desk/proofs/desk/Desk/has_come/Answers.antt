use Rattle.std.proofs.Common.{List, refl, sym, ap, subst}
use Rattle.child_events.specs.declared.event.HallEvent.{HallEvent}
use Rattle.child_desk.specs.Book.{logged}
use Rattle.child_desk.specs.declared.book.Book.{Book}
use Rattle.child_desk.specs.Heard.{HearsAll}
use Rattle.child_desk.proofs.Kept.{no_hand_same, no_hand_then}
use Rattle.child_desk.proofs.Hears.{all_same, all_then}
use Rattle.child_desk.proofs.desk.Desk.has_come.Goals as goal

pub loop-at-init : goal.loop-at-init
loop-at-init g c = record { lines = refl; book = refl; hands = no_hand_same c.args.self.now.ends.items; heard = all_same c.args.self.now.ends.items (logged c.args.self.now.book) }

pub returns-then-has_come_at-clause-heard : goal.returns-then-has_come_at-clause-heard
returns-then-has_come_at-clause-heard g c =
    let was = c.args.self.now in
    let now = c.loop-at in
    let log = (logged was.book) in
    subst (λ (es : List HallEvent). HearsAll was.ends.items log c.has_come_at.new.ends.items es) (sym (ap (λ (b : Book). logged b) now.invariant.book))
    (all_then was.ends.items now.self.ends.items c.has_come_at.new.ends.items log log log now.invariant.heard (c.has_come_at.ensures.heard log))

pub returns-then-has_come_at-clause-hands : goal.returns-then-has_come_at-clause-hands
returns-then-has_come_at-clause-hands g c =
    let now = c.loop-at in
    no_hand_then c.args.self.now.ends.items now.self.ends.items c.has_come_at.new.ends.items now.invariant.hands c.has_come_at.ensures.hands

pub loop-at-preserved : goal.loop-at-preserved
loop-at-preserved g c =
    let was = c.args.self.now in
    let now = c.loop-at in
    let log = (logged was.book) in
    record {
      lines = now.invariant.lines;
      book = now.invariant.book;
      hands = no_hand_then was.ends.items now.self.ends.items c.has_come_at.new.ends.items now.invariant.hands c.has_come_at.ensures.hands;
      heard = all_then was.ends.items now.self.ends.items c.has_come_at.new.ends.items log log log now.invariant.heard (c.has_come_at.ensures.heard log);
    }
