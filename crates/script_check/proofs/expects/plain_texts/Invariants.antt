use Rattle.std.proofs.Common.{◌≡◌, ◌++◌, option_map, length}
use Rattle.script_check.specs.Expects.{plain_texts}
use Rattle.script_check.proofs.expects.plain_texts.Given as goal

abbrev pub invariant-loop-rest : goal.invariant-loop-rest
invariant-loop-rest l = option_map (λ ts. l.texts.items ++ ts) (plain_texts l.rest) ≡ plain_texts l.words

abbrev pub decreases-loop-rest : goal.decreases-loop-rest
decreases-loop-rest l = length l.rest
