use Rattle.std.proofs.Common.{◌<◌, ◌+◌, ◌-◌, length, arith}
use Rattle.std.proofs.lemmas.Bool.Decides.{nat_tests}
use Rattle.exp_glob.proofs.Starts.{no_start, occurs_behind}
use Rattle.exp_glob.proofs.runs.next_start.Goals as goal

pub returns-then-text-from-2-clause-nowhere : goal.returns-then-text-from-2-clause-nowhere
returns-then-text-from-2-clause-nowhere c = λ k low high.
    let some : 0 < length c.args.literal.now = grind (arith, nat_tests) in
    no_start c.args.nocase c.args.text.now c.args.elements.now c.args.offset c.args.literal.now c.requires some k
    (λ o. omega (arith, o.fits, low, c.if-text-from-2.true))

pub returns-in-Some-clause-nowhere : goal.returns-in-Some-clause-nowhere
returns-in-Some-clause-nowhere c = λ k low high.
    let some : 0 < length c.args.literal.now = grind (arith, nat_tests) in
    no_start c.args.nocase c.args.text.now c.args.elements.now c.args.offset c.args.literal.now c.requires some k
    (λ o. c.in-Some.ensures.0.before (k - c.args.from) (omega arith) (omega arith)
    (occurs_behind c.args.text.now c.args.literal.now c.after.result.now (c.args.from + c.args.offset) (k + c.args.offset) (k - c.args.from) c.after.ensures (omega arith) o))

pub returns-in-None-clause-nowhere : goal.returns-in-None-clause-nowhere
returns-in-None-clause-nowhere c = λ k low high.
    let some : 0 < length c.args.literal.now = grind (arith, nat_tests) in
    no_start c.args.nocase c.args.text.now c.args.elements.now c.args.offset c.args.literal.now c.requires some k
    (λ o.
    let there = occurs_behind c.args.text.now c.args.literal.now c.after.result.now (c.args.from + c.args.offset) (k + c.args.offset) (k - c.args.from) c.after.ensures (omega arith) o in
    c.in-None.ensures (k - c.args.from) (omega arith) (omega (arith, there.fits)) there)
