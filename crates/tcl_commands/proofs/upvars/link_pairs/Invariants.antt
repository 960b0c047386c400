use Rattle.std.proofs.Common.{◌≡◌, ◌*◌, drop}
use Rattle.tcl_commands.specs.Upvars.{link_pairs}
use Rattle.tcl_commands.proofs.upvars.link_pairs.Given as goal

abbrev pub invariant-loop-pair : goal.invariant-loop-pair
invariant-loop-pair l = link_pairs l.calls (drop (2 * l.pair) l.names) l.vars ≡ link_pairs l.calls l.names l.fn.vars
