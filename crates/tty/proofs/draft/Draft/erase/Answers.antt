use Rattle.std.proofs.Common.{take, vec_len, sym, ap, ◌∙◌, arith}
use Rattle.tty.proofs.Drafts.{drafted, popped, shortened, empty_stays, no_bytes}
use Rattle.tty.proofs.draft.Draft.erase.Goals as goal

pub returns-then-is_some : goal.returns-then-is_some
returns-then-is_some c =
    rw (← c.self.view_is) (ap (drafted c.self.inside.before.now) (popped (take c.self.inside.kept c.self.inside.before.now) c.self.inside.fresh.items c.pop.new.self.items c.pop.result c.pop.ensures.items (sym c.is_some.ensures ∙ c.if-is_some.true)))

pub returns-then-self-gt0 : goal.returns-then-self-gt0
returns-then-self-gt0 c =
    let none = no_bytes c.self.inside.fresh.items c.pop.new.self.items c.pop.result (vec_len c.self.inside.fresh) _ (omega (arith, c.self.inside.fresh.ok.0)) c.pop.ensures.items (sym c.is_some.ensures ∙ c.if-is_some.false) (c.pop.ensures.value 0) in
    rw (← c.self.view_is) (ap (drafted c.self.inside.before.now) (shortened c.self.inside.kept c.self.inside.before.now c.self.inside.fresh.items c.pop.new.self.items none.0 none.1 (omega arith) c.self.invariant))

pub returns-else-self-gt0 : goal.returns-else-self-gt0
returns-else-self-gt0 c =
    let none = no_bytes c.self.inside.fresh.items c.pop.new.self.items c.pop.result (vec_len c.self.inside.fresh) _ (omega (arith, c.self.inside.fresh.ok.0)) c.pop.ensures.items (sym c.is_some.ensures ∙ c.if-is_some.false) (c.pop.ensures.value 0) in
    rw (← c.self.view_is) (ap (drafted c.self.inside.before.now) (empty_stays c.self.inside.kept c.self.inside.before.now c.self.inside.fresh.items c.pop.new.self.items none.0 none.1 (omega arith)))
