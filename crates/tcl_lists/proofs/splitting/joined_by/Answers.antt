use Rattle.std.proofs.Common.{◌<◌, Err, List, ℕ, length, sym, ap, ◌∙◌, arith}
use Rattle.tcl_subst.specs.Faults.{is_too_long}
use Rattle.tcl_lists.proofs.Splits.{joined_on, joined_over}
use Rattle.tcl_lists.proofs.splitting.joined_by.Goals as goal

pub loop-at-init : goal.loop-at-init
unfolding is_too_long
loop-at-init c = record { joined = c.new-text.ensures; short = ap (λ (t : List ℕ). is_too_long (length t)) c.new-text.ensures }

pub loop-at-preserved : goal.loop-at-preserved
loop-at-preserved c =
    let some : c.loop-at.at < length c.args.elements.now = omega arith in
    record {
      joined = joined_on c.args.between.now c.args.elements.now c.loop-at.at c.loop-at.text c.gap.result.now c.element-part.result.now some c.loop-at.invariant.joined c.gap.ensures c.element-part.ensures c.extend_limited.new.text c.in_default.ensures.extended;
      short = c.in_default.ensures.short;
    }

pub returns-in-Err : goal.returns-in-Err
returns-in-Err c known =
    let some : c.loop-at.at < length c.args.elements.now = omega arith in
    let over = c.in-Err.ensures.long known in
    joined_over c.args.between.now c.args.elements.now c.loop-at.at c.loop-at.text c.gap.result.now c.element-part.result.now some c.loop-at.invariant.joined c.gap.ensures c.element-part.ensures over.1 ∙ ap Err (sym over.0)
