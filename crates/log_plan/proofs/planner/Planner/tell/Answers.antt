use Rattle.std.proofs.Common.{List, ◌∷◌, [], ◌++◌, subst}
use Rattle.child_events.specs.declared.event.HallEvent.{HallEvent}
use Rattle.log_plan.specs.Standing.{AnswersFrom}
use Rattle.log_plan.proofs.Placing.{told_taken}
use Rattle.log_plan.proofs.Following.{refused_alone, stands_told}
use Rattle.log_plan.proofs.planner.Planner.tell.Goals as goal

pub take-requires : goal.take-requires
take-requires c =
    let st = c.requires.stands.2 in
    refused_alone c.args.event st.kept c.args.self.now.hall st.alone (told_taken c.args.event c.requires.told)

pub answer_all-requires : goal.answer_all-requires
answer_all-requires c =
    let s = c.requires.stands.0 in
    let told = c.requires.stands.1 in
    let took = c.in_ok-take.ensures in (
      s,
      told ++ c.args.event ∷ [],
      stands_told s c.args.exits.now told c.args.self.now c.take.new.self c.args.event took.events took.moment c.requires.stands.2 (told_taken c.args.event c.requires.told) c.requires.told.other c.requires.stands.3 took.took,
    )

pub returns : goal.returns
returns c s told st quiet =
    let took = c.in_ok-take.ensures in
    subst (λ (es : List HallEvent). AnswersFrom s c.args.exits.now (told ++ c.args.event ∷ []) es c.answer_all.new.self c.answer_all.result) took.events
    (c.answer_all.ensures s (told ++ c.args.event ∷ []) (stands_told s c.args.exits.now told c.args.self.now c.take.new.self c.args.event took.events took.moment st (told_taken c.args.event c.requires.told) c.requires.told.other quiet took.took))
