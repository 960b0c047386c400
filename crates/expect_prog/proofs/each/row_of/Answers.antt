use Rattle.std.proofs.Common.{◌∙◌, ◌++◌, ap, sym, append-nil}
use Rattle.expect_prog.proofs.Rows.{none_left}
use Rattle.expect_prog.proofs.each.row_of.Goals as goal

pub returns : goal.returns
returns c =
    let row = c.loop-name.row in
    let it = c.loop-name.name-iterator in
    sym (append-nil row)
    ∙ ap (λ rest. row ++ rest) (sym (none_left it.a.rest.now it.b.rest.now (rw c.in-None.is at c.next.ensures.steps)))
    ∙ c.loop-name.invariant
