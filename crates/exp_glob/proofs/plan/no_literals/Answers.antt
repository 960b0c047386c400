use Rattle.std.proofs.Common.{List, sym, subst}
use Rattle.exp_glob.specs.Literals.{AreLiterals}
use Rattle.exp_glob.specs.declared.literal.Literal.{Literal}
use Rattle.exp_glob.proofs.plan.no_literals.Goals as goal

pub returns : goal.returns
returns c = λ nocase es. record {
  runs = subst (λ (l : List Literal). AreLiterals nocase es l) (sym c.new.ensures.items) tt;
  ending = c.no_ending.ensures nocase es;
}
