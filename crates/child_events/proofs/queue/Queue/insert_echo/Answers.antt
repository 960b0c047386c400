use Rattle.std.proofs.Common.{◌≡◌, ◌++◌, ◌<◌, ◌≤◌, length, map, ap, sym, ◌∙◌, arith, rules}
use Rattle.std.specs.Prelude.{slice_index_or, slice_set}
use Rattle.child_events.specs.declared.slot.Slot.{Slot}
use Rattle.child_events.specs.Queue.{echo, joined, place, put, with_echo}
use Rattle.child_events.proofs.Queued.{joined_set, put_within, put_behind, rises_set}
use Rattle.child_events.proofs.queue.Queue.insert_echo.Goals as goal

pub returns-in_default-clause-placed : goal.returns-in_default-clause-placed
returns-in_default-clause-placed c =
    let ss = c.self.inside.slots.items in
    let last = c.self.inside.last.items in
    let behind : length ss ≤ place c.args.clock ss = grind arith in
    ap (λ es. joined ss ++ map echo es) c.in_ok-lay_behind.ensures.laid
    ∙ (sym (put_behind c.args.clock c.in_ok-made.made.items ss last behind)
    ∙ (ap (λ es. put c.args.clock (map echo es) (joined ss ++ map echo last)) c.in_ok-made.ensures
    ∙ ap (with_echo c.args.clock c.args.bytes.now) c.self.view_is))

pub invariant_of-self-2 : goal.invariant_of-self-2
invariant_of-self-2 c =
    let slot = c.in-Some.slot.now in
    let written : Slot = record slot { echoes = c.lay_behind-2.new.echoes } in
    rises_set 0 c.place-at.result c.self.inside.slots.items written slot (ap (λ s. s.moment) c.in-Some.ensures.value) c.self.invariant

pub returns-in_err-lay_behind-2-clause-kept : goal.returns-in_err-lay_behind-2-clause-kept
returns-in_err-lay_behind-2-clause-kept c =
    let slot = c.in-Some.slot.now in
    let is = c.in-Some.ensures.value in
    let ss = c.self.inside.slots.items in
    let last = c.self.inside.last.items in
    let written : Slot = record slot { echoes = c.lay_behind-2.new.echoes } in
    let same : joined (slice_set ss c.place-at.result written) ++ map echo last ≡ c.args.self.now =
    ap (λ l. l ++ map echo last)
    (joined_set c.place-at.result ss written slot (ap (λ s. s.moment) is) (ap (λ s. s.item) is)
    (c.in_err-lay_behind-2.ensures.kept ∙ ap (λ s. s.echoes.items) is))
    ∙ c.self.view_is in
    search rules

pub returns-clause-placed : goal.returns-clause-placed
returns-clause-placed c =
    let slot = c.in-Some.slot.now in
    let ss = c.self.inside.slots.items in
    let last = c.self.inside.last.items in
    let written : Slot = record slot { echoes = c.lay_behind-2.new.echoes } in
    let at : c.place-at.result ≡ place c.args.clock ss = c.place-at.ensures in
    let within : place c.args.clock ss < length ss = grind arith in
    let is : slot ≡ slice_index_or ss (place c.args.clock ss) slot = c.in-Some.ensures.value ∙ ap (λ i. slice_index_or ss i slot) at in
    let es = c.in_ok-lay_behind-2.ensures.laid ∙ ap (λ s. s.echoes.items ++ c.in_ok-made.made.items) is in
    ap (λ i. joined (slice_set ss i written) ++ map echo last) at
    ∙ (sym (put_within c.args.clock c.in_ok-made.made.items ss last written slot within (ap (λ s. s.moment) is) (ap (λ s. s.item) is) es)
    ∙ (ap (λ es. put c.args.clock (map echo es) (joined ss ++ map echo last)) c.in_ok-made.ensures
    ∙ ap (with_echo c.args.clock c.args.bytes.now) c.self.view_is))
