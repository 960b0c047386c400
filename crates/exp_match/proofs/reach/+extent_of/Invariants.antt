use Rattle.std.proofs.Common.{map, drop}
use Rattle.regex_hir.specs.Meaning.{meaning, cat_all, alt_all}
use Rattle.exp_match.specs.Reach.{IsExtent}
use Rattle.exp_match.proofs.reach.+extent_of.Given as goal

abbrev pub invariant-extent_of_all-loop-i : goal.invariant-extent_of_all-loop-i
invariant-extent_of_all-loop-i l = IsExtent l.rest (cat_all (map meaning (drop l.i l.subs)))

abbrev pub invariant-extent_of_any-loop-i : goal.invariant-extent_of_any-loop-i
invariant-extent_of_any-loop-i l = IsExtent l.others (alt_all (map meaning (drop l.i l.subs)))
