use Rattle.std.proofs.Common.{◌≡◌, ◌<◌, ◌^◌, drop}
use Rattle.child_events.proofs.Numbers.{number_from}
use Rattle.child_timeline.proofs.words.digits_number.Given as goal

abbrev pub invariant-loop-b : goal.invariant-loop-b
invariant-loop-b l = record {
  same : number_from l.n (drop l.b-index l.word) ≡ number_from 0 l.word;
  small : l.n < 10 ^ l.b-index;
}
