use Rattle.std.proofs.Common.{◌≡◌, ℕ, ◌≤◌}
use Rattle.std.specs.Prelude.{slice_index}
use Rattle.expect_core.specs.Sought.{Forgets}
use Rattle.expect_core.proofs.sought.Sought.forget.Given as goal

abbrev pub invariant-sides : goal.invariant-sides
invariant-sides l = record {
  before : Forgets l.child l.plan l.at l.initial.self l.self;
  behind : (k : ℕ) → l.at ≤ k → slice_index l.self k ≡ slice_index l.initial.self k;
}
