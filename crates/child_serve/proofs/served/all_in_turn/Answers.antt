use Rattle.std.proofs.Common.{ℕ, suc, ◌-◌, ◌++◌, [], ◌∷◌, List, Option, sym, ap, subst, ◌∙◌, append_assoc, append-nil, arith}
use Rattle.session.specs.declared.report.Report.{Report}
use Rattle.child_serve.specs.Turns.{in_turn, TakesTurn}
use Rattle.child_serve.proofs.served.all_in_turn.Goals as goal

pub returns-in_default : goal.returns-in_default
returns-in_default c =
    let n : ℕ = c.args.count - c.loop.counter in
    let none = subst (λ (o : Option Report). TakesTurn c.loop.parts.items o c.next_in_turn.new.parts.items) c.in_default.is c.in_ok-report.ensures in
    sym (append-nil c.loop.list.items)
    ∙ ap (λ (l : List Report). c.loop.list.items ++ l) (sym (none n))
    ∙ c.loop.invariant n (omega (arith, c.loop-test.true))

pub loop-preserved : goal.loop-preserved
loop-preserved c n e =
    let some = subst (λ (o : Option Report). TakesTurn c.loop.parts.items o c.next_in_turn.new.parts.items) c.in-Some.is c.in_ok-report.ensures in
    let rest : List Report = in_turn n c.next_in_turn.new.parts.items in
    ap (λ (l : List Report). l ++ rest) c.in_ok-push.ensures.items
    ∙ append_assoc c.loop.list.items (c.in-Some.report ∷ []) rest
    ∙ ap (λ (l : List Report). c.loop.list.items ++ l) (sym (some n))
    ∙ c.loop.invariant (suc n) (omega (arith, e))

pub returns : goal.returns
returns c = sym (append-nil c.loop.list.items) ∙ c.loop.invariant 0 (omega (arith, c.loop-test.false, c.loop.auto.counter-end))
