use Rattle.tcl_strings.proofs.Places.{last_place_is}
use Rattle.tcl_strings.proofs.strings.last_place.Goals as goal

pub returns : goal.returns
returns c = last_place_is c.args.text.now c.args.bytes.now c.rfind.result c.rfind.ensures
