use Rattle.std.proofs.Common.{◌≡◌}
use Rattle.exp_match.specs.Choice.{NoneBefore}
use Rattle.exp_match.proofs.Deciding.{IsLeft}
use Rattle.exp_match.proofs.list.PatternList.choose_with.Given as goal

abbrev pub invariant-loop-index : goal.invariant-loop-index
invariant-loop-index l = record {
  items : l.entry-items ≡ l.self.entries;
  before : NoneBefore l.self.entries l.groups l.bytes l.index;
  left : IsLeft l.self.entries l.groups l.bytes l.max l.index;
}
