use Rattle.std.proofs.Common.{◌≡◌, ℕ, suc, ◌+◌, take, sym, ap, ◌∙◌, arith}
use Rattle.cut_logs.proofs.Newlines.{whole_at, whole_none, without}
use Rattle.cut_logs.proofs.mending.whole_len.Goals as goal

pub returns-in-Some : goal.returns-in-Some
returns-in-Some c =
    let last = c.in-Some.ensures in
    let next : c.in-Some.at + 1 ≡ suc c.in-Some.at = omega arith in
    ap (λ (n : ℕ). take n c.args.bytes.now) next ∙ whole_at c.args.bytes.now c.in-Some.at last.0.high last.1 (λ j above below. last.0.after j (omega arith) below)

pub returns-in-None : goal.returns-in-None
returns-in-None c = sym (whole_none c.args.bytes.now (without c.args.bytes.now (λ j below. c.in-None.ensures j (omega arith) below)))
