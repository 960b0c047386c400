use Rattle.std.proofs.Common.{◌≡◌, ◌+◌, ◌-◌, ◌*◌, ◌≤◌, true, drop, length}
use Rattle.tcl_words.specs.Commands.{parts, nested_script, inside_of, count_of, more_bytes}
use Rattle.tcl_words.proofs.skip.+skip.Given as goal

abbrev pub decreases-skip_token : goal.decreases-skip_token
decreases-skip_token l = 7 * l.depth + 2

abbrev pub decreases-skip_dollar : goal.decreases-skip_dollar
decreases-skip_dollar l = 7 * l.depth + 1

abbrev pub decreases-bracket : goal.decreases-bracket
decreases-bracket l = 7 * l.depth

abbrev pub decreases-skip_index : goal.decreases-skip_index
decreases-skip_index l = 7 * l.depth

abbrev pub decreases-skip_parts : goal.decreases-skip_parts
decreases-skip_parts l = 7 * l.depth + 3

abbrev pub decreases-skip_plain_word : goal.decreases-skip_plain_word
decreases-skip_plain_word l = 7 * l.depth + 4

abbrev pub decreases-skip_word : goal.decreases-skip_word
decreases-skip_word l = 7 * l.depth + 5

abbrev pub decreases-skip_script : goal.decreases-skip_script
decreases-skip_script l = 7 * l.depth + 6

abbrev pub invariant-skip_parts-loop-at : goal.invariant-skip_parts-loop-at
invariant-skip_parts-loop-at l = (l.at ≤ length l.bytes) × (more_bytes l.at (count_of (parts (inside_of l.depth) l.stop (drop l.at l.bytes))) ≡ count_of (parts (inside_of l.depth) l.stop l.bytes))

abbrev pub decreases-skip_parts-loop-at : goal.decreases-skip_parts-loop-at
decreases-skip_parts-loop-at l = length l.bytes - l.at

abbrev pub invariant-skip_script-loop-at : goal.invariant-skip_script-loop-at
invariant-skip_script-loop-at l = (l.at ≤ length l.bytes) × (more_bytes l.at (nested_script (inside_of l.depth) (drop l.at l.bytes) l.first) ≡ nested_script (inside_of l.depth) l.bytes true)

abbrev pub decreases-skip_script-loop-at : goal.decreases-skip_script-loop-at
decreases-skip_script-loop-at l = length l.bytes - l.at
