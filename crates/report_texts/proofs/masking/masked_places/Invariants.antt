use Rattle.std.proofs.Common.{◌≡◌, take, map}
use Rattle.report_texts.specs.Masked.{masked_place}
use Rattle.report_texts.proofs.masking.masked_places.Given as goal

abbrev pub invariant-loop-place : goal.invariant-loop-place
invariant-loop-place l = l.list.items ≡ map (masked_place l.secrets) (take l.place-index l.places)
