use Rattle.std.proofs.Common.{ℕ, List, ◌++◌, drop, sym, ap, ◌∙◌}
use Rattle.expect_core.specs.declared.request.Request.{Request}
use Rattle.secret_words.specs.declared.secrets.Secret.{Secret}
use Rattle.course_texts.specs.Waits.{request_lines}
use Rattle.course_texts.proofs.explaining.told.Goals as goal

pub returns : goal.returns
returns c =
    let asked = c.requests.result.now in
    let rest = c.rest_of.result.now in (
      c.is_spent.ensures c.if-is_spent.false,
      sym c.is_refused.ensures ∙ c.if-is_refused.false,
      (
        asked,
        c.requests.ensures,
        c.in_ok-push_requests.ensures
            ∙ ap (λ (ss : List Secret). c.into_text-text.result ++ request_lines ss rest) c.as_slice.ensures
            ∙ ap (λ (t : List ℕ). t ++ request_lines c.args.secrets.now rest) c.into_text-text.ensures
            ∙ ap (λ (rs : List Request). c.args.teller.text ++ request_lines c.args.secrets.now rs) (c.rest_of.ensures ∙ ap (λ (n : ℕ). drop n asked) c.told-told.ensures),
      ),
    )
