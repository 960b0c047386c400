use Rattle.std.proofs.Common.{rules, ◌≡◌, ◌+◌, ◌*◌, IfSome, Some, sym, ap, ◌∙◌, subst}
use Rattle.std.proofs.lemmas.Option.{IfSome_then}
use Rattle.exp_match.specs.Reach.{IsReach, reach}
use Rattle.exp_match.proofs.Repeating.{reach_copies}
use Rattle.exp_match.proofs.reach.behind_rounds.Goals as goal

pub returns : goal.returns
returns c = λ a b first second.
    let once = c.in_ok-once.field-0 in
    let last = c.in_ok-last.field-0 in
    let rounds = c.in_ok-checked_mul.field-0 in
    let whole : reach a ≡ Some once = subst (λ o. IsReach o a) c.in_ok-once.was first in
    let rest : reach b ≡ Some last = subst (λ o. IsReach o b) c.in_ok-last.was second in
    let product : rounds ≡ once * c.args.rounds = search rules in
    let total : IfSome c.checked_add.result (λ n. n ≡ rounds + last) = search rules in
    IfSome_then c.checked_add.result total (λ n e.
    reach_copies a once whole c.args.rounds b last rest ∙ ap Some (ap (λ k. k + last) (sym product) ∙ sym e))
