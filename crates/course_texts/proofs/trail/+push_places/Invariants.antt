use Rattle.std.proofs.Common.{length}
use Rattle.course_texts.proofs.trail.+push_places.Given as goal

abbrev pub decreases-push_places : goal.decreases-push_places
decreases-push_places l = length l.places.now
