use Rattle.std.proofs.Common.{◌≡◌, vec_len}
use Rattle.child_hands.specs.Handed.{KeepsPlaces}
use Rattle.child_hands.proofs.children.Children.end_all.Given as goal

abbrev pub invariant-loop-reader : goal.invariant-loop-reader
invariant-loop-reader g l = record {
  kept : KeepsPlaces l.initial.self.works.items l.initial.self.readers.items l.self.works.items l.self.readers.items;
  size : vec_len l.self.works ≡ vec_len l.initial.self.works;
}

abbrev pub decreases-loop-reader : goal.decreases-loop-reader
decreases-loop-reader g l = vec_len l.self.readers
