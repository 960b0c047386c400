use Rattle.std.proofs.Common.{◌≡◌, take}
use Rattle.session.proofs.place.ErrorPlaces.copied.Given as goal

abbrev pub invariant-loop-place : goal.invariant-loop-place
invariant-loop-place l = l.list.items ≡ take l.place-index l.self
