use Rattle.std.proofs.Common.{take}
use Rattle.script_runs.specs.Shelf.{Keeps, transcripts_of}
use Rattle.script_runs.proofs.shelf.keep_all.Given as goal

abbrev pub invariant-loop-at : goal.invariant-loop-at
invariant-loop-at g l = Keeps (g.S.Shelf.handed l.initial.shelf) (g.S.Shelf.handed l.shelf) (transcripts_of (take l.at l.reports))
