use Rattle.std.proofs.Common.{◌≡◌, map, take}
use Rattle.session.specs.Play.{place_of}
use Rattle.session.proofs.place.ErrorPlaces.of.Given as goal

abbrev pub invariant-loop-origin : goal.invariant-loop-origin
invariant-loop-origin l = l.list.items ≡ map place_of (take l.origin-index l.trail)
