use Rattle.std.proofs.Common.{◌≡◌, ◌++◌, [], ◌∷◌, take, drop, ap, ◌∙◌, arith}
use Rattle.std.proofs.lemmas.List.{take_min, drop_min}
use Rattle.child_events.specs.declared.event.Item.TheVariants as item
use Rattle.child_events.specs.Queue.{echoes}
use Rattle.child_events.proofs.Queued.{echoes_more}
use Rattle.child_events.proofs.queue.cut.Goals as goal

pub pieces-preserved : goal.pieces-preserved
pieces-preserved c =
    let rest = c.pieces.rest.now in
    let piece : c.in_ok-text.text ≡ take 4096 rest = grind (arith, take_min 4096 rest) in
    let behind : c.split_at.result.1.now ≡ drop 4096 rest = grind (arith, drop_min 4096 rest) in
    ap (λ l. l ++ echoes c.args.clock c.split_at.result.1.now) c.in_ok-push_back.ensures.items
    ∙ (ap (λ t. c.pieces.made.items ++ (c.args.clock, item.Out t) ∷ [] ++ echoes c.args.clock c.split_at.result.1.now) piece
    ∙ (ap (λ more. c.pieces.made.items ++ (c.args.clock, item.Out (take 4096 rest)) ∷ [] ++ echoes c.args.clock more) behind
    ∙ (echoes_more c.pieces.made.items c.args.clock rest (grind arith) ∙ c.pieces.invariant)))
