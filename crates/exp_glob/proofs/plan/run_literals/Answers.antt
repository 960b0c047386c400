use Rattle.std.proofs.Common.{[], subst, List, append-nil}
use Rattle.exp_glob.specs.declared.literal.Literal.{Literal}
use Rattle.exp_glob.specs.Literals.{AreLiterals}
use Rattle.exp_glob.proofs.plan.run_literals.Goals as goal

pub returns : goal.returns
returns c =
    subst (λ (ls : List Literal). AreLiterals c.args.nocase c.args.elements.now ls) (append-nil c.loop-left.made.items) (c.loop-left.invariant [] tt)
