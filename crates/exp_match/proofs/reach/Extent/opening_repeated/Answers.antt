use Rattle.std.proofs.Common.{rules, ◌≡◌, suc, ◌∙◌, false, sym, ap, subst}
use Rattle.regex_hir.specs.Meaning.{repeat}
use Rattle.exp_match.specs.Reach.{IsReach, beginning, is_nullable}
use Rattle.exp_match.proofs.Repeating.{begins_repeat}
use Rattle.exp_match.proofs.reach.Extent.opening_repeated.Goals as goal

pub returns : goal.returns
returns c = λ max greedy a known.
    let before = c.in_ok-before.before in
    let takes : is_nullable a ≡ false = sym known.nullable ∙ c.if-self.false in
    let rounds : c.args.min ≡ suc before = search rules in
    subst (IsReach c.behind_rounds.result) (sym (ap (λ n. beginning (repeat n max greedy a)) rounds ∙ begins_repeat a takes before max greedy))
    (c.behind_rounds.ensures a (beginning a) known.whole known.begins)
