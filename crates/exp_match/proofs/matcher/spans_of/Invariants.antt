use Rattle.std.proofs.Common.{◌≡◌, ◌<◌, ℕ, Some, length}
use Rattle.std.specs.List.{slice_get}
use Rattle.regex.specs.Bytes.{captures_span}
use Rattle.exp_match.proofs.matcher.spans_of.Given as goal

abbrev pub invariant-loop-n : goal.invariant-loop-n
invariant-loop-n l = (length l.spans ≡ 10) × ((k : ℕ) → k < l.n → slice_get l.spans k ≡ Some (captures_span l.captures k))
