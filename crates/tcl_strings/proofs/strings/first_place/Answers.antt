use Rattle.tcl_strings.proofs.Places.{first_place_is}
use Rattle.tcl_strings.proofs.strings.first_place.Goals as goal

pub returns : goal.returns
returns c = first_place_is c.args.text.now c.args.bytes.now c.find.result c.find.ensures
