use Rattle.std.proofs.Common.{◌≡◌, ◌++◌, drop}
use Rattle.sh_words.specs.Changes.{changes_text}
use Rattle.sh_words.proofs.changes.changes_made.Given as goal

abbrev pub invariant-loop-change : goal.invariant-loop-change
invariant-loop-change l = l.out ++ changes_text (drop l.change-index l.changes) ≡ changes_text l.changes
