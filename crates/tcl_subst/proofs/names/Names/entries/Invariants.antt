use Rattle.std.proofs.Common.{◌≡◌, [], map}
use Rattle.tcl_subst.specs.Shorts.{text_of}
use Rattle.tcl_subst.proofs.Sorted.{puts, long_ones}
use Rattle.tcl_subst.proofs.names.Names.entries.Given as goal

abbrev pub invariant-loop-name : goal.invariant-loop-name
invariant-loop-name g l =
    puts (map (λ e. (e.0.items, e.1.now)) l.all.entries) (long_ones (map (λ e. (e.0.items, e.1)) l.name-iterator)) ≡ puts [] (long_ones l.self-inside.long)

abbrev pub invariant-loop-name-2 : goal.invariant-loop-name-2
invariant-loop-name-2 g l =
    puts (map (λ e. (e.0.items, e.1.now)) l.all.entries) (map (λ e. (text_of e.0.key, e.1)) l.name-iterator)
    ≡ puts (map (λ e. (e.0.items, e.1.now)) l.initial.all.entries) (map (λ e. (text_of e.0.key, e.1)) l.initial.name-iterator)
