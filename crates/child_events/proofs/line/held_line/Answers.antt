use Rattle.std.proofs.Common.{ℕ, List, [], ◌∷◌, sym, ap, ◌∙◌}
use Rattle.child_events.specs.Reading.{fields_event}
use Rattle.child_events.proofs.Lines.{fields_failed}
use Rattle.child_events.proofs.line.held_line.Goals as goal

pub returns : goal.returns
returns c =
    let script = c.args.words.now.script.now in
    let child = c.args.words.now.child.now in
    let moment = c.args.words.now.moment.now in
    c.failed_line.ensures
    ∙ sym (fields_failed c.args.numbers c.args.line c.args.kind.now script child moment c.word-word.result.now (sym c.if-any_empty.ensures) (sym c.if-is_empty.ensures) (sym c.if-is.ensures) (sym c.if-is-2.ensures))
    ∙ ap (λ (w : List ℕ). fields_event c.args.numbers c.args.line (c.args.kind.now ∷ script ∷ child ∷ moment ∷ w ∷ [])) c.word-word.ensures
