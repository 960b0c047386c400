use Rattle.std.proofs.Common.{ℕ, List, ◌∷◌, sym, ap, ◌∙◌}
use Rattle.child_events.specs.Reading.{parts, total_of}
use Rattle.child_events.proofs.Lines.{parts_some}
use Rattle.child_events.proofs.Closing.{crowded_no}
use Rattle.child_events.proofs.version.total_of.Goals as goal

pub returns-in-Some-split_first : goal.returns-in-Some-split_first
returns-in-Some-split_first c =
    let kind = c.in-Some.kind.now in
    let others = c.in-Some-split_first.field-0.1.now in
    sym (
    ap (total_of c.args.line c.args.fault) (c.in-Some.ensures.0 ∙ ap (λ (ws : List (List ℕ)). kind ∷ ws) c.in-Some-split_first.ensures.0)
    ∙ crowded_no c.args.line c.args.fault kind c.in-Some-split_first.field-0.0.now (parts 32 others) (parts_some 32 others)
    )
