use Rattle.std.proofs.Common.{take}
use Rattle.expect_prog.specs.Given.{AreHeld}
use Rattle.expect_prog.proofs.files.read_sources.Given as goal

-- what was read so far
abbrev pub invariant-loop-path : goal.invariant-loop-path
invariant-loop-path g l = AreHeld g.S.Sources.holds (take l.path-index l.paths) l.texts
