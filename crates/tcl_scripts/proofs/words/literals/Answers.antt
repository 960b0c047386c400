use Rattle.std.proofs.Common.{List, ℕ, ◌+◌, IfSome, Option, subst, arith}
use Rattle.tcl_scripts.specs.Literals.{IsLiteral}
use Rattle.tcl_scripts.proofs.Valued.{one_literal, all_literals}
use Rattle.tcl_scripts.proofs.words.literals.Goals as goal

pub loop-word-preserved : goal.loop-word-preserved
loop-word-preserved c =
    one_literal c.args.words.now c.loop-word.values.items c.push.new.self.items c.loop-word.word-index (c.loop-word.word-index + 1) c.word-item.result c.in-Some.value (omega arith) c.word-item.is (omega arith)
    (subst (λ (o : Option (List ℕ)). IfSome o (IsLiteral c.word-item.result)) c.in-Some.is c.in_ok-literal.ensures) c.in_ok-push-in-Some.ensures.items c.loop-word.invariant

pub returns : goal.returns
returns c = all_literals c.args.words.now c.loop-word.values.items c.loop-word.word-index (omega arith) c.loop-word.invariant
