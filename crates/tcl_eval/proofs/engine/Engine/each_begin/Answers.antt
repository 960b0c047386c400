use Rattle.std.proofs.Common.{sym, ◌∙◌, ap}
use Rattle.tcl_eval.specs.Meaning.{eval}
use Rattle.tcl_eval.specs.Rest.{now_of}
use Rattle.tcl_eval.proofs.Natives.{each_spent}
use Rattle.tcl_eval.proofs.engine.Engine.each_begin.Goals as goal

pub returns-then-not-begin-clause-rest : goal.returns-then-not-begin-clause-rest
returns-then-not-begin-clause-rest c = λ depth body known k.
    c.stopped.ensures.rest known k _
    ∙ each_spent (eval depth) c.args.groups.now.names c.args.groups.now.left body k (now_of c.args.self.now) _
    (sym c.is_done.ensures ∙ c.if-is_done.false) c.if-not-begin.ensures.spent.0 (ap now_of c.if-not-begin.ensures.spent.1)
