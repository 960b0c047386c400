use Rattle.std.proofs.Common.{refl, sym, ◌∙◌}
use Rattle.child_desk.proofs.Kept.{leaves_then, leaves_same, leaves_still}
use Rattle.child_desk.proofs.Coming.{later}
use Rattle.child_desk.proofs.attending.still.Goals as goal

pub returns-clause-kept : goal.returns-clause-kept
returns-clause-kept c =
    leaves_then c.args.book.now c.has_room.new.self _ (leaves_same c.args.book.now c.has_room.new.self c.has_room.ensures.looks)
    (leaves_still c.args.now c.has_room.new.self c.set_stamp.new.book _ c.set_stamp.ensures.hall c.set_stamp.ensures.log c.set_stamp.ensures.stamp
    (later c.has_room.new.self.stamp c.args.now (sym c.goes_on.ensures ∙ c.if-not-goes_on.false)) refl refl c.in-Ok.ensures.ring c.in-Ok.ensures.ok.0)
