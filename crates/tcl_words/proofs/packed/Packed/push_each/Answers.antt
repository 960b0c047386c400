use Rattle.std.proofs.Common.{length, take, ap, ◌∙◌}
use Rattle.std.proofs.Math.Seq.{take-append_seam}
use Rattle.tcl_words.proofs.packed.Packed.push_each.Goals as goal

pub returns-in_err-push-clause-front : goal.returns-in_err-push-clause-front
returns-in_err-push-clause-front c =
    ap (take (length c.args.self.now)) (c.in_err-push.ensures.kept ∙ c.loop-index.invariant) ∙ take-append_seam c.args.self.now (take c.loop-index.index c.args.texts.now)
