use Rattle.expect_prog.proofs.Held.{held_more}
use Rattle.expect_prog.proofs.files.read_sources.Goals as goal

pub loop-path-preserved : goal.loop-path-preserved
loop-path-preserved g c =
    held_more g.S.Sources.holds c.args.paths.now c.loop-path.path-index _ c.loop-path.texts _ _ c.loop-path-test.true c.loop-path.invariant c.in_ok-source.ensures c.in_ok-push.ensures.pushed
