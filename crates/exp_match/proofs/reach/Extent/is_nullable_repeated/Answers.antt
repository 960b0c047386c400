use Rattle.std.proofs.Common.{rules, ◌≡◌, ◌<◌, ◌∙◌, sym, ap}
use Rattle.regex_hir.specs.Meaning.{repeat}
use Rattle.exp_match.specs.Reach.{is_nullable}
use Rattle.exp_match.proofs.Repeating.{nullable_from_none, nullable_from_some}
use Rattle.exp_match.proofs.reach.Extent.is_nullable_repeated.Goals as goal

pub returns-then-min-eq0 : goal.returns-then-min-eq0
returns-then-min-eq0 c = λ max greedy a known.
    let none : c.args.min ≡ 0 = search rules in
    sym (ap (λ n. is_nullable (repeat n max greedy a)) none ∙ nullable_from_none max greedy a)

pub returns : goal.returns
returns c = λ max greedy a known.
    let some : 0 < c.args.min = search rules in
    known.nullable ∙ sym (nullable_from_some c.args.min max greedy a some)
