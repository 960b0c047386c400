use Rattle.std.proofs.Common.{◌∙◌, ◌<◌, length, sym, arith}
use Rattle.tty.proofs.Converted.{plain_run}
use Rattle.tty.proofs.output.Seen.next.Goals as goal

pub returns-then-is_plain : goal.returns-then-is_plain
returns-then-is_plain c =
    let inside = c.removed.self-inside in
    let first = sym c.is_plain.ensures ∙ c.if-is_plain.true in
    let some : 0 < length c.split_at.result.0.now = omega (arith, c.split_at.ensures.front_len) in (
      sym c.self.view_is ∙ sym c.removed.invariant
          ∙ rw (c.split_at.ensures.front, c.split_at.ensures.back) (plain_run inside.remove inside.modes inside.rest.now c.plain_len.result (omega (arith, c.in-len1-up.len_at_least)) first c.plain_len.ensures.plain),
      some,
    )
