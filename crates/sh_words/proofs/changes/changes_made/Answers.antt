use Rattle.std.proofs.Common.{◌≡◌, ◌∙◌, ap, arith}
use Rattle.std.proofs.lemmas.Grind.{common_steps}
use Rattle.sh_words.specs.Reading.{sh_commands}
use Rattle.sh_words.specs.Changes.{changes_text}
use Rattle.sh_words.proofs.CommandReads.{changes_read}
use Rattle.sh_words.proofs.changes.changes_made.Goals as goal

pub returns-clause-read : goal.returns-clause-read
returns-clause-read c = λ named.
    let text : c.loop-change.out ≡ changes_text c.args.changes.now = grind (arith, common_steps) in
    ap sh_commands text ∙ changes_read c.args.changes.now named
