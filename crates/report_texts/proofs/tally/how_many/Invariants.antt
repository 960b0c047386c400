use Rattle.std.proofs.Common.{◌≡◌, ◌≤◌, ◌+◌, drop}
use Rattle.report_texts.specs.Line.{how_many}
use Rattle.report_texts.proofs.tally.how_many.Given as goal

abbrev pub invariant-loop-ending : goal.invariant-loop-ending
invariant-loop-ending l = record {
  same : l.count + how_many l.kind (drop l.ending-index l.endings) ≡ how_many l.kind l.endings;
  low : l.count ≤ l.ending-index;
}
