use Rattle.std.proofs.Common.{◌≡◌, ◌<◌, ◌+◌, length, ap, arith}
use Rattle.std.proofs.lemmas.Bool.Decides.{nat_tests}
use Rattle.exp_glob.proofs.Starts.{no_start, occurs_behind, occurs_before}
use Rattle.exp_glob.proofs.runs.last_start.Goals as goal

pub returns-then-text-offset-clause-nowhere : goal.returns-then-text-offset-clause-nowhere
returns-then-text-offset-clause-nowhere c = λ k low high.
    let same : length c.needle-length.result.now ≡ length c.args.literal.now = ap length c.needle-length.ensures in
    let some : 0 < length c.args.literal.now = grind (arith, nat_tests) in
    no_start c.args.nocase c.args.text.now c.args.elements.now c.args.offset c.args.literal.now c.requires.literal some k
    (λ o. omega (arith, o.fits, c.if-text-offset.true))

pub returns-in-Some-clause-nowhere : goal.returns-in-Some-clause-nowhere
returns-in-Some-clause-nowhere c = λ k low high.
    let same : length c.needle-length.result.now ≡ length c.args.literal.now = ap length c.needle-length.ensures in
    let some : 0 < length c.args.literal.now = grind (arith, nat_tests) in
    no_start c.args.nocase c.args.text.now c.args.elements.now c.args.offset c.args.literal.now c.requires.literal some k
    (λ o.
    let behind = occurs_behind c.args.text.now c.args.literal.now c.after.result.now c.args.offset (k + c.args.offset) k c.after.ensures (omega arith) o in
    let there = occurs_before c.after.result.now c.args.literal.now c.before-starts.result.now _ k c.before-starts.ensures (omega arith) behind in
    c.in-Some.ensures.0.after k low (omega (arith, there.fits)) there)

pub returns-in-None-clause-nowhere : goal.returns-in-None-clause-nowhere
returns-in-None-clause-nowhere c = λ k low high.
    let same : length c.needle-length.result.now ≡ length c.args.literal.now = ap length c.needle-length.ensures in
    let some : 0 < length c.args.literal.now = grind (arith, nat_tests) in
    no_start c.args.nocase c.args.text.now c.args.elements.now c.args.offset c.args.literal.now c.requires.literal some k
    (λ o.
    let behind = occurs_behind c.args.text.now c.args.literal.now c.after.result.now c.args.offset (k + c.args.offset) k c.after.ensures (omega arith) o in
    let there = occurs_before c.after.result.now c.args.literal.now c.before-starts.result.now _ k c.before-starts.ensures (omega arith) behind in
    c.in-None.ensures k low (omega (arith, there.fits)) there)
