use Rattle.std.proofs.Common.{sym}
use Rattle.child_events.proofs.Numbers.{one_first}
use Rattle.child_events.proofs.piece_line.one_digit.Goals as goal

pub returns : goal.returns
returns c = one_first c.args.digit c.from.result c.args.rest.now (sym c.if-not-is_ascii_digit.ensures.value) c.from.ensures
