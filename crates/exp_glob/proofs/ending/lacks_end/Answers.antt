use Rattle.std.proofs.Common.{arith}
use Rattle.exp_glob.proofs.Endings.{end_whole}
use Rattle.exp_glob.proofs.ending.lacks_end.Goals as goal

pub returns-then-is_end : goal.returns-then-is_end
returns-then-is_end c = λ nowhere a b h.
    c.ends_nowhere.ensures nowhere a
    (end_whole c.args.nocase c.args.text.now c.args.elements.now a b c.last-item.result
    (omega (arith, c.in-len1-up.len_at_least)) c.last-item.is (c.is_end.ensures c.if-is_end.true) h)
