use Rattle.std.proofs.Common.{◌≡◌, ◌≤◌, ◌*◌, ◌^◌, take, sum}
use Rattle.report_texts.proofs.texts.total.Given as goal

abbrev pub invariant-loop-count : goal.invariant-loop-count
invariant-loop-count l = record {
  same : l.total ≡ sum (take l.count-index l.counts);
  low : l.total ≤ l.count-index * 2 ^ 64;
}
