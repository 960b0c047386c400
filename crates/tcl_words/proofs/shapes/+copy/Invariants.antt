use Rattle.std.proofs.Common.{◌≡◌, take, map}
use Rattle.tcl_words.specs.Pieces.{part_view}
use Rattle.tcl_words.proofs.shapes.+copy.Given as goal

abbrev pub invariant-copied_parts-loop-part : goal.invariant-copied_parts-loop-part
invariant-copied_parts-loop-part l = map part_view l.list.items ≡ map part_view (take l.part-index l.parts)
