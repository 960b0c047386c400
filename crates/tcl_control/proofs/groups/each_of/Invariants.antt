use Rattle.std.proofs.Common.{◌≡◌, length, ◌∷◌, ◌%◌}
use Rattle.tcl_control.specs.Groups.{turn_count, each_of}
use Rattle.tcl_control.proofs.Grouped.{read, read_onto, as_turns}
use Rattle.tcl_control.proofs.groups.each_of.Given as goal

abbrev pub invariant-lists : goal.invariant-lists
invariant-lists l = record {
  odd : length l.rest % 2 ≡ 1;
  counted : l.count ≡ turn_count (l.first ∷ l.more.items);
  said : as_turns (read_onto (l.first ∷ l.more.items) (read l.rest)) ≡ each_of l.command l.args;
}

abbrev pub decreases-lists : goal.decreases-lists
decreases-lists l = length l.rest
