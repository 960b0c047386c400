use Rattle.std.proofs.Common.{◌≡◌, List, None, sym, subst, arith}
use Rattle.std.proofs.lemmas.List.{length-take-le}
use Rattle.exp_glob.specs.declared.element.Element.{Element}
use Rattle.exp_glob.specs.declared.pattern.Glob.{Glob}
use Rattle.exp_glob.specs.Spans.{Spans}
use Rattle.exp_glob.specs.Stars.{behind_star}
use Rattle.exp_glob.proofs.Endings.{of_front, no_end, none_before}
use Rattle.exp_glob.proofs.Found.{is_first_span}
use Rattle.exp_glob.proofs.Greedy.{span_within}
use Rattle.exp_glob.proofs.pattern.Glob.find_on.Goals as goal

pub returns-then-lacks_end-clause-first : goal.returns-then-lacks_end-clause-first
returns-then-lacks_end-clause-first c = λ a b h. c.lacks_end.ensures c.if-lacks_end.true a b (subst (λ (es : List Element). Spans c.args.nocase es c.args.text.now a b) (sym c.as_slice-elements.ensures) h.2)

pub returns-then-has_none_behind-clause-first : goal.returns-then-has_none_behind-clause-first
returns-then-has_none_behind-clause-first c = λ a b h.
    let s = c.args.text.now in
    let n = c.args.sought in
    let es = c.args.self.now.elements in
    let m = c.has_none_behind.ensures c.if-has_none_behind.true in
    let p = m.3 a b h.2 in
    let w = span_within c.args.nocase s es a p.0 h.0 p.2 in
    c.requires m.0 m.1 a p.0
    (omega (arith, w.0, p.1, length-take-le n s (omega (arith, m.2))), (λ anchored. absurd (cc)), of_front c.args.nocase s es a p.0 n h.0 p.2 p.1 m.2)

pub returns-then-has_none_behind-clause-value : goal.returns-then-has_none_behind-clause-value
returns-then-has_none_behind-clause-value c = is_first_span c.args.nocase c.args.text.now c.args.self.now _ (returns-then-has_none_behind-clause-first c)

pub find_run-requires-clause-none_before : goal.find_run-requires-clause-none_before
find_run-requires-clause-none_before c =
    let g : Glob = c.args.self.now in
    let same : c.as_slice-elements.result.now ≡ g.elements = c.as_slice-elements.ensures in
    let alone = no_end c.args.nocase c.args.text.now c.as_slice-elements.result.now _ c.star_end.result c.star_end.ensures c.if-is_none.ensures in
    rw (c.saturating_sub.ensures, same) (none_before c.args.nocase c.args.text.now g c.args.sought c.if-not-self.true (subst (λ (es : List Element). behind_star es ≡ None) same alone) (c.requires c.if-not-self.true))

pub returns-then-lacks_end-clause-value : goal.returns-then-lacks_end-clause-value
returns-then-lacks_end-clause-value c = is_first_span c.args.nocase c.args.text.now c.args.self.now _ (returns-then-lacks_end-clause-first c)
