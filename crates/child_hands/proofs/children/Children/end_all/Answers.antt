use Rattle.std.proofs.Common.{rules}
use Rattle.child_hands.proofs.Works.{ends_more, ends_empty}
use Rattle.child_hands.proofs.children.Children.end_all.Goals as goal

pub loop-reader-preserved : goal.loop-reader-preserved
loop-reader-preserved g c = record { kept = rw c.end_one.ensures.readers (ends_more _ _ _ _ _ _ _ c.loop-reader.invariant.kept c.in-Some.ensures.items c.end_one.ensures.works); size = search rules }

pub returns-clause-kept : goal.returns-clause-kept
returns-clause-kept g c = ends_empty _ _ _ _ _ c.loop-reader.invariant.kept c.in_default.ensures.items
