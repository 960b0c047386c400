use Rattle.std.proofs.Common.{◌≡◌, ◌∙◌, ◌++◌, ℕ, List, take, drop, sym, ap, subst}
use Rattle.std.proofs.lemmas.List.{take-append-drop}
use Rattle.exp_glob.specs.declared.element.Element.{Element}
use Rattle.exp_glob.specs.Endings.{IsEnding, HasNoStar}
use Rattle.exp_glob.proofs.Endings.{ends_with}
use Rattle.exp_glob.proofs.ending.ending_of.Goals as goal

pub returns-then-is_none : goal.returns-then-is_none
returns-then-is_none c = c.no_ending.ensures c.args.nocase c.args.elements.now

pub returns : goal.returns
returns c =
    let nocase = c.args.nocase in
    let es = c.args.elements.now in
    let to = c.stars_from.result in
    let from = c.run_from.result in
    let sought = take to es in
    let run = c.after-run.result.now in
    let offset = c.in_ok-offset.field-0.offset in
    let bytes = c.in_ok-offset.field-0.bytes.items in
    let is_run : run ≡ drop from sought = c.after-run.ensures ∙ ap (drop from) c.split_at.ensures.front in
    let none : HasNoStar run = subst (λ (l : List Element). HasNoStar l) (sym c.after-run.ensures) c.run_from.ensures.none in
    let whole : (take from sought ++ run) ++ drop to es ≡ es
    = ap (λ (l : List Element). (take from sought ++ l) ++ drop to es) is_run ∙ ap (λ (l : List Element). l ++ drop to es) (take-append-drop from sought) ∙ take-append-drop to es in
    subst (λ (l : List Element). IsEnding nocase l c.saturating_sub.result bytes) whole
    (subst (λ (n : ℕ). IsEnding nocase ((take from sought ++ run) ++ drop to es) n bytes) (sym c.saturating_sub.ensures)
    (ends_with nocase (take from sought) run (drop to es) offset bytes none c.stars_from.ensures.stars c.in_ok-offset.ensures))
