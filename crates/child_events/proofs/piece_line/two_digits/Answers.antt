use Rattle.std.proofs.Common.{◌≡◌, ◌+◌, ◌*◌, ◌-◌, sym, arith}
use Rattle.child_events.proofs.Numbers.{two_first}
use Rattle.child_events.proofs.piece_line.two_digits.Goals as goal

pub returns : goal.returns
returns c =
    let number : c.from.result * 10 + c.from-2.result ≡ (c.args.high - 48) * 10 + (c.args.low - 48) = omega (arith, c.from.ensures, c.from-2.ensures) in
    two_first c.args.high c.args.low _ c.args.rest.now (sym c.if-not-is_ascii_digit.ensures.value) (sym c.if-not-is_ascii_digit-2.ensures.value) c.if-high-eq48.false number
