use Rattle.std.proofs.Common.{◌≡◌, ◌+◌, ◌-◌, ◌*◌, ◌≤◌, drop, length}
use Rattle.tcl_words.specs.Pieces.{parts_view}
use Rattle.tcl_words.specs.Commands.{parts, reader}
use Rattle.tcl_words.proofs.Parted.{with_read}
use Rattle.tcl_words.proofs.reading.+read.Given as goal

abbrev pub decreases-token_at : goal.decreases-token_at
decreases-token_at l = 4 * l.room.depth + 2

abbrev pub decreases-variable : goal.decreases-variable
decreases-variable l = 4 * l.room.depth + 1

abbrev pub decreases-index : goal.decreases-index
decreases-index l = 4 * l.room.depth

abbrev pub decreases-parts : goal.decreases-parts
decreases-parts l = 4 * l.room.depth + 3

abbrev pub invariant-parts-loop-at : goal.invariant-parts-loop-at
invariant-parts-loop-at l = (l.at ≤ length l.bytes) × (with_read (parts_view l.list.items) l.text.items l.at (parts (reader l.room.scripts l.room.depth) l.stop (drop l.at l.bytes)) ≡ parts (reader l.room.scripts l.room.depth) l.stop l.bytes)

abbrev pub decreases-parts-loop-at : goal.decreases-parts-loop-at
decreases-parts-loop-at l = length l.bytes - l.at
