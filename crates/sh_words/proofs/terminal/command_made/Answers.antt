use Rattle.std.proofs.Common.{◌≡◌, ◌∙◌, ap, rules}
use Rattle.sh_words.specs.Reading.{sh_commands}
use Rattle.sh_words.specs.Terminal.{command_text}
use Rattle.sh_words.proofs.CommandReads.{command_text_read}
use Rattle.sh_words.proofs.terminal.command_made.Goals as goal

pub returns-clause-read : goal.returns-clause-read
returns-clause-read c = λ named.
    let text : c.extend-3.new.self ≡ command_text c.args.words.now c.args.settings.now c.args.changes.now = search rules in
    ap sh_commands text ∙ command_text_read c.args.words.now c.args.settings.now c.args.changes.now named
