use Rattle.std.proofs.Common.{◌<◌, length, arith}
use Rattle.std.proofs.lemmas.Grind.{common_steps}
use Rattle.tcl_formats.specs.Parts.{parts_from}
use Rattle.tcl_formats.specs.Templates.{piece_at}
use Rattle.tcl_formats.proofs.Parts.{parts_next}
use Rattle.tcl_formats.proofs.templates.read_pieces.Goals as goal

pub loop-rest-preserved : goal.loop-rest-preserved
loop-rest-preserved c =
    let some : 0 < length c.loop-rest.rest.now = grind (arith, common_steps) in
    parts_next piece_at c.loop-rest.list.items c.loop-rest.rest.now c.after-text.result.now (parts_from piece_at 0 c.args.template.now) c.in_ok-piece.field-0 some c.after-text.ensures c.in_ok-piece.ensures c.loop-rest.invariant
    c.push.new.self.items c.after-rest.result.now c.in-Some.piece c.in-Some.count c.in-Some.is c.in_ok-push.ensures.items c.after-rest.ensures
