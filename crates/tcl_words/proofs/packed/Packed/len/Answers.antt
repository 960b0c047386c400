use Rattle.std.proofs.Common.{length, ap, arith}
use Rattle.tcl_words.proofs.Packing.{cut_length}
use Rattle.tcl_words.proofs.packed.Packed.len.Goals as goal

pub returns : goal.returns
returns c =
    let ends = cut_length 0 c.self.inside.ends.items c.self.inside.bytes.items in
    let seen = ap length c.self.view_is in
    omega (arith, c.len.ensures, c.self.inside.ends.ok.0, ends, seen)
