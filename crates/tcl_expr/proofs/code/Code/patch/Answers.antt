use Rattle.std.proofs.lemmas.List.{map-set}
use Rattle.tcl_expr.specs.Instr.{op_view}
use Rattle.tcl_expr.proofs.code.Code.patch.Goals as goal

pub returns : goal.returns
returns c = let e = map-set op_view c.self.inside.ops.items c.args.at c.args.op in cc
