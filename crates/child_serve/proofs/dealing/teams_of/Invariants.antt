use Rattle.std.proofs.Common.{◌≡◌, ◌+◌, length, map}
use Rattle.child_serve.proofs.Formed.{TeamsTo}
use Rattle.child_serve.proofs.dealing.teams_of.Given as goal

abbrev pub invariant-loop-clock : goal.invariant-loop-clock
invariant-loop-clock g l = record {
  scripts : length l.scripts.items ≡ length l.clock-iterator.rest.items;
  keepers : length l.keepers.items ≡ length l.clock-iterator.rest.items;
  count : length l.teams.items + length l.clock-iterator.rest.items ≡ length l.fn.clocks.items;
  teams : TeamsTo (map (λ v. v.items) l.fn.scripts.items) (map (λ v. v.items) l.scripts.items) (map (λ v. v.items) l.fn.keepers.items) (map (λ v. v.items) l.keepers.items) l.teams.items;
}
