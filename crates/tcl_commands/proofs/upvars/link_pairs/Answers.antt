use Rattle.std.proofs.Common.{rules, ◌+◌, ◌*◌, ◌<◌, length, arith}
use Rattle.tcl_commands.specs.Upvars.{link_pairs}
use Rattle.tcl_commands.proofs.Linked.{linked_on, linked_fails, linked_end}
use Rattle.tcl_commands.proofs.upvars.link_pairs.Goals as goal

pub returns-in-Err-Said : goal.returns-in-Err-Said
returns-in-Err-Said c =
    let some : 2 * c.loop-pair.pair + 1 < length c.args.names.now = omega (arith, c.loop-pair-test.true) in
    let fails = linked_fails c.args.calls c.args.names.now c.loop-pair.pair c.loop-pair.vars (link_pairs c.args.calls c.args.names.now c.args.vars.now) c.arg-other.result.now c.arg-my.result.now some
    c.arg-other.ensures c.arg-my.ensures c.in-Err-Said.text (search rules) c.loop-pair.invariant in
    search rules

pub loop-pair-preserved : goal.loop-pair-preserved
loop-pair-preserved c =
    let some : 2 * c.loop-pair.pair + 1 < length c.args.names.now = omega (arith, c.loop-pair-test.true) in
    linked_on c.args.calls c.args.names.now c.loop-pair.pair c.loop-pair.vars (link_pairs c.args.calls c.args.names.now c.args.vars.now) c.arg-other.result.now c.arg-my.result.now some
    c.arg-other.ensures c.arg-my.ensures c.link_pair.new.vars c.in-Ok.ensures.linked c.loop-pair.invariant

pub returns : goal.returns
returns c =
    rw c.new.ensures (linked_end c.args.calls c.args.names.now c.loop-pair.pair c.loop-pair.vars (link_pairs c.args.calls c.args.names.now c.args.vars.now) (omega (arith, c.loop-pair-test.false)) c.loop-pair.invariant)
