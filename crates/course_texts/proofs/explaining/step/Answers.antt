use Rattle.std.proofs.Common.{◌≡◌, ◌++◌, Option, Some, List, ℕ, sym, ap, subst, ◌∙◌}
use Rattle.std.proofs.lemmas.Result.{on_ok_weaker}
use Rattle.std.specs.Prelude.{[], if◌then◌else◌}
use Rattle.child_events.specs.declared.event.Event.{Event}
use Rattle.child_events.specs.World.{own_of}
use Rattle.course_texts.specs.Explain.{StepOf}
use Rattle.course_texts.specs.Waits.{wait_lines}
use Rattle.course_texts.proofs.Coursing.{line_is, own_told}
use Rattle.course_texts.proofs.explaining.step.Goals as goal

pub returns : goal.returns
returns c =
    let e = c.args.event.now in
    let old = c.args.session.now in
    let new = c.feed_watched-teller.new.self in
    let text = c.args.text.now in
    let is : own_of c.args.number e ≡ Some c.in-Some.own = sym c.in_ok-own.ensures ∙ c.in-Some.is in
    let told = c.in_ok-told.ensures in
    let quiet = c.is_quiet-quiet.result in
    let alive = c.feed_watched-teller.ensures.fed.lived told.0 in
    let line = line_is c.args.secrets.now old e c.requests.result.now c.ending.result c.is_closed-closed.result text c.push_shown_line.new.text alive c.requests.ensures c.ending.ensures.lives c.is_closed-closed.ensures c.in_ok-push_shown_line.ensures in
    on_ok_weaker c.push_unless.result (λ put.
    subst (λ (o : Option Event). StepOf c.args.secrets.now o e old new text c.push_unless.new.text) (sym is)
    (own_told c.args.secrets.now e c.in-Some.own old new text c.push_shown_line.new.text c.in_ok-told.told c.push_unless.new.text c.new-2.result c.feed_watched-teller.result c.requests-asked.result.now told.2.0
    c.steps-begun.result c.steps.result quiet c.requests-asked.ensures c.steps-begun.ensures c.feed_watched-teller.ensures.fed c.steps.ensures line
    (c.new-2.ensures.state.0 ∙ c.replace-front.ensures.value) c.new-2.ensures.state.1 (c.new-2.ensures.secrets ∙ c.in_ok-own_secrets.ensures) (c.feed_watched-teller.ensures.seen told.0) told.1 told.2.1 told.2.2 c.is_quiet-quiet.ensures
    (put ∙ ap (λ (t : List ℕ). t ++ (if quiet then [] else wait_lines c.args.secrets.now new)) c.replace.ensures.after)))
    c.push_unless.ensures
