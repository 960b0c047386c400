use Rattle.std.proofs.Common.{◌≡◌, ◌-◌, ◌<◌, length, false, sym, ◌∙◌, arith}
use Rattle.std.specs.Prelude.{◌==◌}
use Rattle.std.proofs.lemmas.Bool.Decides.{nat_tests}
use Rattle.exp_match.proofs.Standing.{stands_nowhere}
use Rattle.exp_match.proofs.exact.lacks_last.Goals as goal

pub returns-in-None : goal.returns-in-None
returns-in-None c = λ is.
    let text = c.args.text.now in
    let full : (length text == 0) ≡ false = sym c.is_empty.ensures ∙ c.if-is_empty.false in
    let some : 0 < length text = grind (arith, nat_tests) in
    stands_nowhere c.args.bytes.now text (length text - 1) (omega (arith, some)) c.in-None.ensures
