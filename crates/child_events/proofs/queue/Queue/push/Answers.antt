use Rattle.std.proofs.Common.{◌≡◌, ◌++◌, ◌∷◌, [], ◌≤◌, map, max, subst, sym, ap, ◌∙◌, arith}
use Rattle.child_events.specs.declared.slot.Slot.{Slot}
use Rattle.child_events.specs.Queue.{Rises, echo, joined, latest, pushed}
use Rattle.child_events.proofs.Queued.{pushed_is, rises_more}
use Rattle.child_events.proofs.queue.Queue.push.Goals as goal

pub invariant_of-self-2 : goal.invariant_of-self-2
invariant_of-self-2 c =
    let ss = c.self.inside.slots.items in
    let slot : Slot = record { echoes = c.replace-echoes.result; moment = c.max-moment.result; item = c.args.item } in
    let above : latest 0 ss ≤ c.max-moment.result = grind arith in
    subst (Rises 0) (sym (c.push_back_reserved.ensures.items ∙ ap (λ l. l ++ slot ∷ []) c.reserve.ensures.items))
    (rises_more 0 ss slot c.self.invariant above)

pub returns-clause-pushed : goal.returns-clause-pushed
returns-clause-pushed c =
    let ss = c.self.inside.slots.items in
    let slot : Slot = record { echoes = c.replace-echoes.result; moment = c.max-moment.result; item = c.args.item } in
    let empty : c.replace-echoes.new.dest.items ≡ [] = ap (λ q. q.items) c.replace-echoes.ensures.after ∙ c.new.ensures.items in
    let at : c.max-moment.result ≡ max (latest 0 ss) c.args.moment = grind arith in
    ap (λ l. joined l ++ map echo c.replace-echoes.new.dest.items) (c.push_back_reserved.ensures.items ∙ ap (λ l. l ++ slot ∷ []) c.reserve.ensures.items)
    ∙ (pushed_is ss slot c.args.moment c.replace-echoes.new.dest.items empty at
    ∙ (ap (λ q. pushed c.args.moment c.args.item (joined ss ++ map echo q.items)) c.replace-echoes.ensures.value
    ∙ ap (pushed c.args.moment c.args.item) c.self.view_is))
