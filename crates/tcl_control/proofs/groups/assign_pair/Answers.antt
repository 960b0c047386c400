use Rattle.std.proofs.Common.{◌≡◌, ℕ, List, drop, ap, subst, ◌∙◌, IfOk}
use Rattle.tcl_results.specs.Setting.{assigned}
use Rattle.tcl_control.specs.Groups.{taken_in}
use Rattle.tcl_results.specs.Said.{Outcome}
use Rattle.tcl_control.proofs.Grouped.{taken_is}
use Rattle.tcl_control.proofs.groups.assign_pair.Goals as goal

pub returns : goal.returns
returns c =
    let p = c.args.pair.now in
    let rest = drop c.start_of-from.result p.elements in
    let whole : assigned c.as_slice.result.now rest c.args.vars.now ≡ assigned p.names (taken_in c.args.turn p) c.args.vars.now =
    ap (λ (ns : List (List ℕ)). assigned ns rest c.args.vars.now) c.as_slice.ensures
    ∙ taken_is p c.args.turn c.len-size.result rest c.args.vars.now c.len-size.ensures c.start_of-from.ensures in
    subst (λ (o : Outcome). IfOk c.assign_all.result (λ r. o ≡ (r.0, r.1, c.assign_all.new.vars))) whole c.assign_all.ensures
