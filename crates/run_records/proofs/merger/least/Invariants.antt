use Rattle.std.proofs.Common.{◌≤◌, drop, take}
use Rattle.run_records.specs.Merged.{AllBehind}
use Rattle.run_records.proofs.merger.least.Given as goal

abbrev pub invariant-loop-reel : goal.invariant-loop-reel
invariant-loop-reel l = AllBehind l.least (take l.reel-index l.reels)
