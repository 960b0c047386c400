use Rattle.std.proofs.Common.{◌≡◌, ◌≢◌, sym, ap, ◌∙◌, rules}
use Rattle.expect_core.specs.Heard.{Watch}
use Rattle.expect_core.specs.Quiet.{side}
use Rattle.expect_core.proofs.Hushes.{side_is}
use Rattle.expect_core.proofs.Vain.{one_forgotten, one_kept}
use Rattle.expect_core.proofs.sought.Sought.forget.Goals.{then-index, else-index}
use Rattle.expect_core.proofs.sought.Sought.forget.Goals as goal

pub sides-preserved : goal.sides-preserved
sides-preserved c =
    let p = c.args.plan.now in
    let at = c.sides.at in
    let i = c.args.child.now in
    let before = c.sides.invariant in
    elim c.if-index.branch [
      | then-index w ↦
          let s = one_forgotten p at i c.args.self.now c.sides.self before.before before.behind c.if-index.self (w.self-is ∙ w.set.ensures) in
          record { before = s.0; behind = s.1 }
      | else-index w ↦
          let child : Watch = c.index.result.now in
          let is : child ≡ side p at = side_is p at child (search rules) (search rules) in
          let apart : (side p at).0 ≢ i = λ e. w.if-index.false (c.index-in-sides.ensures ∙ ap (λ (v : Watch). v.0) is ∙ e ∙ sym c.index-in-sides-2.ensures) in
          let s = one_kept p at i c.args.self.now c.sides.self before.before before.behind c.if-index.self w.self-is apart in
          record { before = s.0; behind = s.1 }
    ]
