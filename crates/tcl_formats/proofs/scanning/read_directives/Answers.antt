use Rattle.std.proofs.Common.{◌<◌, length, arith}
use Rattle.std.proofs.lemmas.Grind.{common_steps}
use Rattle.tcl_formats.specs.Parts.{parts_from}
use Rattle.tcl_formats.specs.Scanning.{directive_at}
use Rattle.tcl_formats.proofs.Parts.{parts_next}
use Rattle.tcl_formats.proofs.scanning.read_directives.Goals as goal

pub loop-rest-preserved : goal.loop-rest-preserved
loop-rest-preserved c =
    let some : 0 < length c.loop-rest.rest.now = grind (arith, common_steps) in
    parts_next directive_at c.loop-rest.list.items c.loop-rest.rest.now c.after-text.result.now (parts_from directive_at 0 c.args.template.now) c.directive_at.result some c.after-text.ensures c.directive_at.ensures c.loop-rest.invariant
    c.push.new.self.items c.after-rest.result.now c.in-Some.directive c.in-Some.count c.in-Some.is c.in_ok-push.ensures.items c.after-rest.ensures
