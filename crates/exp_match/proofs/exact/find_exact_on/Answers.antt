use Rattle.std.proofs.Common.{List, ℕ, None, Some, subst}
use Rattle.exp_match.specs.Exact.{FindsExact}
use Rattle.exp_match.proofs.Answering.{is_find_text}
use Rattle.exp_match.proofs.Lasting.{none_past, none_behind, some_behind}
use Rattle.exp_match.proofs.exact.find_exact_on.Goals as goal

pub returns-then-bytes-from-clause-stands : goal.returns-then-bytes-from-clause-stands
returns-then-bytes-from-clause-stands c = none_past c.args.nocase c.args.text.now c.args.bytes.now c.args.sought _ c.requires c.saturating_sub-from.ensures c.if-bytes-from.true

pub returns-then-bytes-from-clause-value : goal.returns-then-bytes-from-clause-value
returns-then-bytes-from-clause-value c = is_find_text c.args.nocase c.args.text.now c.args.bytes.now _ (returns-then-bytes-from-clause-stands c)

pub returns-in-Some-clause-stands : goal.returns-in-Some-clause-stands
returns-in-Some-clause-stands c =
    some_behind c.args.nocase c.args.text.now c.args.bytes.now c.args.sought _ c.requires c.saturating_sub-from.ensures c.if-bytes-from.false c.in-Some.start c.in-Some.end
    (subst (λ (l : List ℕ). FindsExact c.args.nocase c.args.text.now l (Some (c.in-Some.start, c.in-Some.end))) c.after.ensures c.in-Some.ensures.stands)

pub returns-in-Some-clause-value : goal.returns-in-Some-clause-value
returns-in-Some-clause-value c = is_find_text c.args.nocase c.args.text.now c.args.bytes.now _ (returns-in-Some-clause-stands c)

pub returns-in-None-clause-stands : goal.returns-in-None-clause-stands
returns-in-None-clause-stands c =
    none_behind c.args.nocase c.args.text.now c.args.bytes.now c.args.sought _ c.requires c.saturating_sub-from.ensures c.if-bytes-from.false
    (subst (λ (l : List ℕ). FindsExact c.args.nocase c.args.text.now l None) c.after.ensures c.in-None.ensures.stands)

pub returns-in-None-clause-value : goal.returns-in-None-clause-value
returns-in-None-clause-value c = is_find_text c.args.nocase c.args.text.now c.args.bytes.now _ (returns-in-None-clause-stands c)
