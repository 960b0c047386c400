use Rattle.std.proofs.Common.{◌≡◌, ◌*◌, drop}
use Rattle.tcl_commands.specs.Arrays.{set_elements}
use Rattle.tcl_commands.proofs.arrays.set_elements.Given as goal

abbrev pub invariant-loop-pair : goal.invariant-loop-pair
invariant-loop-pair l = set_elements l.name (drop (2 * l.pair) l.elements) l.vars ≡ set_elements l.name l.elements l.fn.vars
