use Rattle.std.proofs.Common.{◌≡◌, ℕ, List, max, sym, ap, ◌∙◌, subst}
use Rattle.expect_core.specs.declared.lanes.Lane.{Lane}
use Rattle.expect_core.specs.Good.{LanesBy}
use Rattle.expect_core.specs.Lanes.{lane_with, grown, place}
use Rattle.expect_core.proofs.Moments.{lanes_raised}
use Rattle.expect_core.proofs.dialogue.Dialogue.add.Goals as goal

pub returns-clause-came : goal.returns-clause-came
returns-clause-came c = λ g.
    let same : c.max-self.result ≡ max c.args.self.now.horizon c.args.moment = c.max-self.ensures in
    let by : LanesBy c.max-self.result c.args.self.now.lanes = subst (λ (n : ℕ). LanesBy n c.args.self.now.lanes) (sym same) (lanes_raised c.args.moment c.args.self.now g) in
    ap (λ (ls : List Lane). record c.args.self.now { horizon = c.max-self.result; lanes = ls }) (c.in_ok-add.ensures by)
    ∙ ap (λ (n : ℕ). record c.args.self.now { horizon = n; lanes = grown (lane_with n c.args.what) (place c.args.child) c.args.self.now.lanes }) same
