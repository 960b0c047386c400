use Rattle.std.proofs.Common.{ℕ, List, [], ◌∷◌, ◌++◌, append_assoc, ap, ◌∙◌}
use Rattle.expect_core.specs.Owned.{bytes_of}
use Rattle.expect_core.specs.Expecting.{places, text_pair}
use Rattle.expect_core.proofs.own.Own.push_whole.Goals as goal

pub returns-clause-pushed : goal.returns-clause-pushed
returns-clause-pushed c =
    let text : List (List ℕ × List ℕ) = text_pair (bytes_of c.args.i c.args.self.now) c.args.group c.args.span ∷ [] in
    c.in_ok-push_text.ensures.pushed
    ∙ ap (λ (l : List (List ℕ × List ℕ)). l ++ text) c.in_ok-push_places.ensures
    ∙ append_assoc c.args.stores.now (places c.args.group c.args.span) text
