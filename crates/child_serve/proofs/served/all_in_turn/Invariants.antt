use Rattle.std.proofs.Common.{◌≡◌, ℕ, ◌+◌, ◌++◌}
use Rattle.child_serve.specs.Turns.{in_turn}
use Rattle.child_serve.proofs.served.all_in_turn.Given as goal

abbrev pub invariant-loop : goal.invariant-loop
invariant-loop l = (n : ℕ) → n + l.counter ≡ l.count → l.list.items ++ in_turn n l.parts.items ≡ in_turn l.count l.fn.parts.items
