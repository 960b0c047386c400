use Rattle.std.proofs.Common.{rules}
use Rattle.session.proofs.Beginning.{first_by}
use Rattle.session.proofs.first.first_variables.Goals as goal

pub returns : goal.returns
returns c =
    first_by c.args.host c.args.pairs.now c.in_ok-from_slice.field-0 c.new-vars.result c.set.new.vars c.make_array.new.vars c.add_hosted.new.vars c.add_variables.new.vars
    (search rules) (search rules) (search rules) (search rules) (search rules) (search rules)
