use Rattle.std.proofs.Common.{◌≡◌, refl, List, Some, None, ap, sym, subst, ◌∙◌}
use Rattle.exp_glob.specs.declared.element.Element.{Element}
use Rattle.exp_glob.specs.Runs.{IsLeastRun}
use Rattle.exp_glob.specs.Stars.{behind_star}
use Rattle.exp_glob.proofs.Found.{is_first_span}
use Rattle.exp_glob.proofs.Greedy.{find_no_start, find_within, find_alone, find_no_end, find_longest, longest_within}
use Rattle.exp_glob.proofs.pattern.Glob.find.Goals as goal

pub returns-in_default-clause-first : goal.returns-in_default-clause-first
returns-in_default-clause-first c =
    find_no_start c.args.nocase c.args.text.now c.args.self.now c.starts-bound.result c.starts-bound.ensures.anchored c.starts-bound.ensures.free
    (subst (λ (es : List Element). IsLeastRun c.args.nocase es c.args.text.now 0 c.starts-bound.result None) c.as_slice-elements.ensures c.in_default.ensures)

pub returns-in_default-star_end-clause-first : goal.returns-in_default-star_end-clause-first
returns-in_default-star_end-clause-first c =
    let least = subst (λ (es : List Element). IsLeastRun c.args.nocase es c.args.text.now 0 c.starts-bound.result (Some (c.in-Some.start, c.in-Some.end))) c.as_slice-elements.ensures c.in-Some.ensures in
    let alone : behind_star c.args.self.now.elements ≡ None = ap behind_star (sym c.as_slice-elements.ensures) ∙ c.in_default-star_end.ensures in
    find_alone c.args.nocase c.args.text.now c.args.self.now c.starts-bound.result c.starts-bound.ensures.anchored c.starts-bound.ensures.free c.in-Some.start c.in-Some.end least alone

pub returns-in_default-star_end-clause-within : goal.returns-in_default-star_end-clause-within
returns-in_default-star_end-clause-within c =
    let least = subst (λ (es : List Element). IsLeastRun c.args.nocase es c.args.text.now 0 c.starts-bound.result (Some (c.in-Some.start, c.in-Some.end))) c.as_slice-elements.ensures c.in-Some.ensures in
    find_within c.args.nocase c.args.text.now c.args.self.now c.starts-bound.result c.starts-bound.ensures.anchored c.starts-bound.ensures.free c.in-Some.start c.in-Some.end least

pub returns-in_default-longest-clause-first : goal.returns-in_default-longest-clause-first
returns-in_default-longest-clause-first c =
    let least = subst (λ (es : List Element). IsLeastRun c.args.nocase es c.args.text.now 0 c.starts-bound.result (Some (c.in-Some.start, c.in-Some.end))) c.as_slice-elements.ensures c.in-Some.ensures in
    let is : behind_star c.args.self.now.elements ≡ Some c.after.result.now = ap behind_star (sym c.as_slice-elements.ensures) ∙ c.in-Some-star_end.ensures.1 ∙ ap (λ (es : List Element). Some es) (sym c.after.ensures) in
    find_no_end c.args.nocase c.args.text.now c.args.self.now c.starts-bound.result c.starts-bound.ensures.anchored c.starts-bound.ensures.free c.in-Some.start c.in-Some.end least c.after.result.now is c.in_default-longest.ensures

pub returns-clause-first : goal.returns-clause-first
returns-clause-first c =
    let least = subst (λ (es : List Element). IsLeastRun c.args.nocase es c.args.text.now 0 c.starts-bound.result (Some (c.in-Some.start, c.in-Some.end))) c.as_slice-elements.ensures c.in-Some.ensures in
    let is : behind_star c.args.self.now.elements ≡ Some c.after.result.now = ap behind_star (sym c.as_slice-elements.ensures) ∙ c.in-Some-star_end.ensures.1 ∙ ap (λ (es : List Element). Some es) (sym c.after.ensures) in
    find_longest c.args.nocase c.args.text.now c.args.self.now c.starts-bound.result c.starts-bound.ensures.anchored c.starts-bound.ensures.free c.in-Some.start c.in-Some.end least c.after.result.now is c.in-Some-longest.end c.in-Some-longest.ensures

pub returns-clause-within : goal.returns-clause-within
returns-clause-within c =
    let least = subst (λ (es : List Element). IsLeastRun c.args.nocase es c.args.text.now 0 c.starts-bound.result (Some (c.in-Some.start, c.in-Some.end))) c.as_slice-elements.ensures c.in-Some.ensures in
    let is : behind_star c.args.self.now.elements ≡ Some c.after.result.now = ap behind_star (sym c.as_slice-elements.ensures) ∙ c.in-Some-star_end.ensures.1 ∙ ap (λ (es : List Element). Some es) (sym c.after.ensures) in
    longest_within c.args.nocase c.args.text.now c.args.self.now c.starts-bound.result c.starts-bound.ensures.anchored c.starts-bound.ensures.free c.in-Some.start c.in-Some.end least c.after.result.now is c.in-Some-longest.end c.in-Some-longest.ensures

pub returns-in_default-clause-value : goal.returns-in_default-clause-value
returns-in_default-clause-value c = is_first_span c.args.nocase c.args.text.now c.args.self.now _ (returns-in_default-clause-first c)

pub returns-in_default-star_end-clause-value : goal.returns-in_default-star_end-clause-value
returns-in_default-star_end-clause-value c = is_first_span c.args.nocase c.args.text.now c.args.self.now _ (returns-in_default-star_end-clause-first c)

pub returns-in_default-longest-clause-value : goal.returns-in_default-longest-clause-value
returns-in_default-longest-clause-value c = is_first_span c.args.nocase c.args.text.now c.args.self.now _ (returns-in_default-longest-clause-first c)

pub returns-clause-value : goal.returns-clause-value
returns-clause-value c = is_first_span c.args.nocase c.args.text.now c.args.self.now _ (returns-clause-first c)

pub returns-then-lacks_literal-clause-first : goal.returns-then-lacks_literal-clause-first
returns-then-lacks_literal-clause-first c = λ a b h. c.if-lacks_literal.ensures refl c.args.nocase c.args.self.now.elements a b c.literals-literals.ensures.runs h.2

pub returns-then-lacks_literal-clause-value : goal.returns-then-lacks_literal-clause-value
returns-then-lacks_literal-clause-value c = is_first_span c.args.nocase c.args.text.now c.args.self.now _ (returns-then-lacks_literal-clause-first c)
