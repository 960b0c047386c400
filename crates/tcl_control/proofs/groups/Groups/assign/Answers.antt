use Rattle.std.proofs.Common.{◌≡◌, ℕ, List, [], ◌∷◌, sym, ap, subst, ◌∙◌, arith, IfOk}
use Rattle.tcl_results.specs.declared.code.Code.TheVariants as code
use Rattle.tcl_control.specs.declared.groups.Pair.{Pair}
use Rattle.tcl_control.specs.Groups.{Turns, all_names, values_in}
use Rattle.tcl_results.specs.Setting.{assigned}
use Rattle.tcl_results.specs.Said.{Outcome}
use Rattle.tcl_control.proofs.Grouped.{turns_none, turned_none, behind_none, turned_some, behind_next}
use Rattle.tcl_control.proofs.groups.Groups.assign.Goals as goal

pub returns-then-self-turn-clause-set : goal.returns-then-self-turn-clause-set
returns-then-self-turn-clause-set c =
    let ps = c.self.inside.first ∷ c.self.inside.more.items in
    let none : c.args.self.now.left ≡ [] = sym (ap (λ (t : Turns). t.left) c.self.view_is) ∙ turns_none ps c.self.inside.begun (omega (arith, c.if-self-turn.true, c.self.invariant)) in
    turned_none c.args.self.now c.args.vars.now none ∙ ap (λ (v : List ℕ). (code.Ok, v, c.args.vars.now)) (sym c.new.ensures)

pub returns-then-self-turn-clause-left : goal.returns-then-self-turn-clause-left
returns-then-self-turn-clause-left c =
    let ps = c.self.inside.first ∷ c.self.inside.more.items in
    let none : c.args.self.now.left ≡ [] = sym (ap (λ (t : Turns). t.left) c.self.view_is) ∙ turns_none ps c.self.inside.begun (omega (arith, c.if-self-turn.true, c.self.invariant)) in
    behind_none c.args.self.now none

pub returns-clause-set : goal.returns-clause-set
returns-clause-set c =
    let ps = c.self.inside.first ∷ c.self.inside.more.items in
    let whole = turned_some ps c.self.inside.begun c.args.self.now c.args.vars.now c.self.view_is (omega (arith, c.if-self-turn.false, c.self.invariant)) in
    let slice : ps ≡ c.self.inside.first ∷ c.as_slice.result.now = ap (λ (l : List Pair). c.self.inside.first ∷ l) (sym c.as_slice.ensures.value) in
    subst (λ (o : Outcome). IfOk c.assign_pairs.result (λ r. o ≡ (r.0, r.1, c.assign_pairs.new.vars)))
    (sym (whole ∙ ap (λ (l : List Pair). assigned (all_names l) (values_in l c.self.inside.begun) c.args.vars.now) slice)) c.assign_pairs.ensures

pub returns-clause-left : goal.returns-clause-left
returns-clause-left c = behind_next (c.self.inside.first ∷ c.self.inside.more.items) c.self.inside.begun c.args.self.now c.self.view_is
