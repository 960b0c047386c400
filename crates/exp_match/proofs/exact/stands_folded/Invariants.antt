use Rattle.std.proofs.Common.{◌≡◌, ℕ, ◌+◌, ◌<◌, ◌≤◌, true, length, get_or}
use Rattle.exp_match.specs.Exact.{alike}
use Rattle.exp_match.proofs.exact.stands_folded.Given as goal

abbrev pub invariant-loop-j : goal.invariant-loop-j
invariant-loop-j l = (l.at + length l.text ≤ length l.bytes) × ((k : ℕ) → k < l.j → alike true (get_or l.bytes (l.at + k) 0) (get_or l.text k 0) ≡ true)
