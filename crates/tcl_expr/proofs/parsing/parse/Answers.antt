use Rattle.std.proofs.Common.{◌≡◌, true, length, ◌==◌, arith}
use Rattle.std.proofs.lemmas.Bool.Decides.{nat_tests}
use Rattle.tcl_expr.specs.Rules.{deepest}
use Rattle.tcl_expr.specs.Grammar.{inside_of, whole}
use Rattle.tcl_expr.proofs.Writings.{grouped, parsed_is}
use Rattle.tcl_expr.proofs.parsing.parse.Goals as goal

pub invariant_of-result : goal.invariant_of-result
invariant_of-result c = grouped c.in_ok-n.n (whole (inside_of deepest) c.after-text.result.now) c.whole.new.code (rw (← c.new-code.ensures) c.in_ok-n.ensures.value)

pub returns : goal.returns
returns c =
    let rest = c.after-text.result.now in
    let whole_text : (length rest == c.in_ok-n.n) ≡ true = grind (arith, nat_tests) in
    parsed_is c.args.text.now rest c.in_ok-n.n c.whole.new.code (rw (← c.gap.ensures.value) c.after-text.ensures) (rw (← c.new-code.ensures) c.in_ok-n.ensures.value) whole_text
