use Rattle.std.proofs.Common.{take}
use Rattle.exp_match.proofs.Lasting.{exact_none, glob_none, regular_none}
use Rattle.exp_match.proofs.choose.first_match.Goals as goal

pub find_exact_on-span-requires : goal.find_exact_on-span-requires
find_exact_on-span-requires c = λ some.
    rw c.as_slice.ensures (exact_none c.args.want.now (take c.args.sought c.args.bytes.now) (c.requires some) c.in-Exact.nocase c.in-Exact.text c.in-Exact.is)

pub find_on-requires : goal.find_on-requires
find_on-requires c = λ free some.
    glob_none c.args.want.now (take c.args.sought c.args.bytes.now) (c.requires some) c.in-Glob.nocase c.in-Glob.glob c.in-Glob.is free

pub find-requires : goal.find-requires
find-requires c = λ some bound.
    regular_none c.args.want.now (take c.args.sought c.args.bytes.now) (c.requires some) c.in-Regular.regular c.in-Regular.is bound

pub returns-in-Exact-clause-finds : goal.returns-in-Exact-clause-finds
returns-in-Exact-clause-finds c =
    let h = rw c.as_slice.ensures at c.find_exact_on-span.ensures.stands in
    rw c.in-Exact.is (c.find_exact_on-span.result, h, c.alone.ensures)
