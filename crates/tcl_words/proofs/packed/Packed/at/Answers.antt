use Rattle.std.proofs.Common.{◌≡◌, None, sym}
use Rattle.std.specs.Prelude.{slice_get}
use Rattle.tcl_words.proofs.Packing.{none_at}
use Rattle.tcl_words.proofs.packed.Packed.at.Goals as goal

pub returns-in-None : goal.returns-in-None
returns-in-None c =
    let none : slice_get c.args.self.now c.args.index ≡ None = sym c.in-None.ensures in
    none_at c.args.self.now c.args.index none
