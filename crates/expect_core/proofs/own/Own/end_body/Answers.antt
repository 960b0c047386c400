use Rattle.std.proofs.Common.{◌≡◌, IfOk, List, ◌∷◌, sym, ap, ◌∙◌, subst}
use Rattle.expect_core.specs.declared.body.Body.{Body as BodyOf}
use Rattle.expect_core.specs.Expecting.{behind as behind_of}
use Rattle.expect_core.proofs.own.Own.end_body.Goals as goal

pub returns-in-Some-Action-clause-turn : goal.returns-in-Some-Action-clause-turn
returns-in-Some-Action-clause-turn c =
    subst (λ (bodies : List BodyOf). IfOk c.behind.result (λ t. t ≡ behind_of c.args.code c.args.value.now bodies (record c.args.self.now { bodies = c.pop.new.self }))) (sym (c.in-Some-Action.ensures ∙ ap (λ (b : BodyOf). b ∷ c.pop.new.self) c.in-Some-Action.field-0-is)) (c.behind.ensures c.pop.new.self)
