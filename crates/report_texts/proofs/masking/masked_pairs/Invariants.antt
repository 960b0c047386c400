use Rattle.std.proofs.Common.{◌≡◌, take, map}
use Rattle.report_texts.specs.Masked.{masked_pair}
use Rattle.report_texts.proofs.masking.masked_pairs.Given as goal

abbrev pub invariant-loop-pair : goal.invariant-loop-pair
invariant-loop-pair l = l.made ≡ map (masked_pair l.secrets) (take l.pair-index l.pairs)
