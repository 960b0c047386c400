use Rattle.std.proofs.Common.{◌≡◌, ◌++◌, length, drop}
use Rattle.tcl_scripts.specs.Commands.{commands}
use Rattle.tcl_scripts.specs.Gathered.{all_words}
use Rattle.tcl_scripts.proofs.script.Script.all_words.Given as goal

abbrev pub invariant-commands : goal.invariant-commands
invariant-commands l = all_words (commands l.self) ≡ (l.list.items ++ (all_words (drop l.at (commands l.self))).0, (all_words (drop l.at (commands l.self))).1)

abbrev pub decreases-commands : goal.decreases-commands
decreases-commands l = length (drop l.at (commands l.self))
