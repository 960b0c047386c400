use Rattle.std.proofs.Common.{◌≡◌, length}
use Rattle.run_records.specs.Merged.{AreFresh}
use Rattle.child_serve.specs.Teams.{AreRingsOf}
use Rattle.child_serve.proofs.Teaming.{StartedTo}
use Rattle.child_serve.proofs.serving.start_all.Given as goal

abbrev pub invariant-loop-team : goal.invariant-loop-team
invariant-loop-team g l = record {
  started : StartedTo l.workers l.worker l.handles.items l.team-iterator.rest.items l.fn.teams.items;
  rings : AreRingsOf l.handles.items l.reels.items;
  fresh : AreFresh l.reels.items;
  count : length l.reels.items ≡ l.worker;
}
