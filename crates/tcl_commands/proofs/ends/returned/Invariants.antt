use Rattle.std.proofs.Common.{◌≡◌, None, length}
use Rattle.std.specs.Option.{option_copied}
use Rattle.tcl_commands.specs.Returns.{returned}
use Rattle.tcl_commands.proofs.ends.returned.Given as goal

abbrev pub invariant-loop-rest : goal.invariant-loop-rest
invariant-loop-rest l = returned l.command l.rest (option_copied l.code) ≡ returned l.command l.args None

abbrev pub decreases-loop-rest : goal.decreases-loop-rest
decreases-loop-rest l = length l.rest
