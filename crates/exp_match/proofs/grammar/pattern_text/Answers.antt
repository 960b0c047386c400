use Rattle.std.proofs.Common.{◌≡◌, true, arith}
use Rattle.std.specs.Str.{chars}
use Rattle.exp_match.specs.Scan.{accepts, outermost}
use Rattle.exp_match.proofs.Accepting.{no_text, a_pattern}
use Rattle.exp_match.proofs.grammar.pattern_text.Goals as goal

pub returns-in_default : goal.returns-in_default
returns-in_default c = no_text c.args.text.now c.in_default.ensures.cases.0

pub returns-then-accepts : goal.returns-then-accepts
returns-then-accepts c =
    let f = c.in-Ok.ensures.cases in
    let same : c.in-Ok.source.now ≡ c.args.text.now = f.0 in
    let is : accepts (chars c.args.text.now) outermost ≡ true = rw (← same) (grind arith) in
    (a_pattern c.args.text.now (omega arith) f.1 is, same)
