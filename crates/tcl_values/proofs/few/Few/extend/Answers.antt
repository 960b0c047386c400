use Rattle.std.proofs.Common.{◌++◌, length, take, ap, ◌∙◌}
use Rattle.tcl_values.proofs.Put.{left_len, put_is}
use Rattle.tcl_values.proofs.few.Few.extend.Goals as goal

pub returns-clause-extended : goal.returns-clause-extended
returns-clause-extended c =
    put_is c.args.self.now.bytes c.copy_from_slice.new.self _ c.len-len.result (length c.args.more.now) c.len-len.ensures c.args.self.now.room c.if-len-more.false (ap length c.copy_from_slice.ensures.after) (left_len c.args.self.now.bytes c.len-len.result (length c.args.more.now) c.args.self.now.room.whole)
    ∙ (λ i. take (c.len-len.ensures i) c.args.self.now.bytes ++ c.copy_from_slice.ensures.after i)
