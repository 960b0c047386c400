use Rattle.std.proofs.Common.{◌≡◌, length, map, []}
use Rattle.child_serve.specs.Dealt.{AllDealt}
use Rattle.child_serve.proofs.dealing.empty_parts.Given as goal

abbrev pub invariant-loop : goal.invariant-loop
invariant-loop g l = (length l.parts.items ≡ l.counter) × AllDealt l.n [] (map (λ p. p.items) l.parts.items)
