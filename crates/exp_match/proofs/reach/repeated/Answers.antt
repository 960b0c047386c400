use Rattle.std.proofs.Common.{rules, ◌≡◌, ◌*◌, IfSome, Some, sym, ap, ◌∙◌, subst}
use Rattle.std.proofs.lemmas.Option.{IfSome_then}
use Rattle.exp_match.specs.Reach.{IsReach, reach}
use Rattle.exp_match.proofs.Repeating.{reach_repeat}
use Rattle.exp_match.proofs.reach.repeated.Goals as goal

pub returns : goal.returns
returns c = λ greedy a known.
    let once = c.in_ok-once.field-0 in
    let most : c.args.max ≡ Some c.in_ok-max.field-0 = c.in_ok-max.was in
    let is : reach a ≡ Some once = subst (λ o. IsReach o a) c.in_ok-once.was known in
    let product : IfSome c.checked_mul.result (λ n. n ≡ once * c.max-rounds.result) = search rules in
    rw most (IfSome_then c.checked_mul.result product (λ n e.
    reach_repeat a once is c.args.min c.in_ok-max.field-0 greedy
    ∙ ap Some (ap (λ k. once * k) (sym c.max-rounds.ensures) ∙ sym e)))
