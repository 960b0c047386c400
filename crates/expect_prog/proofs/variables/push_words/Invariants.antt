use Rattle.std.proofs.Common.{◌≡◌, ◌++◌, drop}
use Rattle.std.specs.Prelude.{find}
use Rattle.std.specs.List.{flat_map}
use Rattle.expect_prog.specs.Variables.{added, is_unnamed}
use Rattle.expect_prog.proofs.variables.push_words.Given as goal

abbrev pub invariant-loop-word : goal.invariant-loop-word
invariant-loop-word l = (l.variables ++ flat_map (λ w. added l.own w.now) (drop l.word-index l.words) ≡ l.initial.variables ++ flat_map (λ w. added l.own w.now) l.words) × (find is_unnamed (drop l.word-index l.words) ≡ find is_unnamed l.words)
