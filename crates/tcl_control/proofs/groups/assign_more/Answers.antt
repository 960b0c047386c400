use Rattle.tcl_results.specs.Setting.{assigned}
use Rattle.tcl_control.specs.Groups.{all_names, values_in}
use Rattle.tcl_control.proofs.Grouped.{pair_next}
use Rattle.tcl_control.proofs.groups.assign_more.Goals as goal

pub loop-rest-preserved : goal.loop-rest-preserved
loop-rest-preserved c =
    let ended = c.in_ok-assign_pair.field-0 in
    pair_next c.pair-item.result c.loop-rest.rest.now c.args.turn c.loop-rest.vars (ended.0, ended.1, c.assign_pair.new.vars) (assigned (all_names c.args.pairs.now) (values_in c.args.pairs.now c.args.turn) c.args.vars.now)
    c.pair-item.is c.in-len1-up.len_at_least c.in_ok-assign_pair.ensures c.in_default-if_unset.ensures c.loop-rest.invariant
