use Rattle.std.proofs.Common.{subst}
use Rattle.tcl_subst.specs.Faults.{Gives}
use Rattle.tcl_subst.specs.Recipes.{Takes, joined_if_read}
use Rattle.tcl_subst.specs.Variables.{value_of}
use Rattle.tcl_subst.proofs.Joins.{joined_as_meant}
use Rattle.tcl_subst.proofs.joined.Joined.variable.Goals as goal

pub returns-clause-taken : goal.returns-clause-taken
returns-clause-taken c =
    let gave : Gives c.settled-read.result (value_of c.args.name.now c.args.vars.now) = subst (λ n. Gives c.settled-read.result (value_of n c.args.vars.now)) c.as_slice-name.ensures c.settled-read.ensures.given in
    let took : Takes c.join_read.result (joined_if_read c.settled-read.result c.args.name.now c.args.self.now) c.join_read.new.self =
    subst (λ n. Takes c.join_read.result (joined_if_read c.settled-read.result n c.args.self.now) c.join_read.new.self) c.as_slice-name.ensures c.join_read.ensures.taken in
    joined_as_meant _ c.settled-read.result _ _ _ _ gave c.join_read.ensures.memory took
