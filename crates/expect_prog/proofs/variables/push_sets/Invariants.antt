use Rattle.std.proofs.Common.{◌≡◌, ◌++◌, drop}
use Rattle.std.specs.Prelude.{find}
use Rattle.std.specs.List.{flat_map}
use Rattle.expect_prog.specs.Variables.{entry_at, equals_in, sets_none}
use Rattle.expect_prog.proofs.variables.push_sets.Given as goal

abbrev pub invariant-loop-word : goal.invariant-loop-word
invariant-loop-word l = (l.vars ++ flat_map (λ w. entry_at w.now (equals_in w.now)) (drop l.word-index l.words) ≡ l.initial.vars ++ flat_map (λ w. entry_at w.now (equals_in w.now)) l.words) × (find sets_none (drop l.word-index l.words) ≡ find sets_none l.words)
