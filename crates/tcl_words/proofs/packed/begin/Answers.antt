use Rattle.std.proofs.Common.{◌≡◌, suc, sym, ap, ◌∙◌, arith}
use Rattle.tcl_words.specs.Packed.{begin}
use Rattle.tcl_words.proofs.Packing.{begins_at}
use Rattle.tcl_words.proofs.packed.begin.Goals as goal

pub returns-in-Some-get : goal.returns-in-Some-get
returns-in-Some-get c = λ within.
    let one_on : suc c.in-Some.before ≡ c.args.index = omega (arith, c.in-Some.ensures.0, c.in-Some.ensures.1) in
    c.in-Some-get.ensures.lookup.1 ∙ sym (begins_at 0 c.args.ends.now c.in-Some.before c.in-Some-get.end.now (omega (arith, one_on, within))) ∙ ap (begin 0 c.args.ends.now) one_on
