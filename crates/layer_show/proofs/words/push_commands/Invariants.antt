use Rattle.std.proofs.Common.{◌≤◌, length}
use Rattle.layer_show.proofs.words.push_commands.Given as goal

abbrev pub invariant-commands : goal.invariant-commands
invariant-commands l = l.at ≤ length l.src
