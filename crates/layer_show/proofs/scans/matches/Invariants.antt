use Rattle.std.proofs.Common.{◌<◌}
use Rattle.std.specs.Prelude.{take}
use Rattle.exp_match.specs.Choice.{HasNone}
use Rattle.layer_show.proofs.scans.matches.Given as goal

abbrev pub invariant-matches : goal.invariant-matches
invariant-matches l = 0 < l.sought → HasNone l.list.entries l.groups (take l.sought l.buffer.ring.items)
