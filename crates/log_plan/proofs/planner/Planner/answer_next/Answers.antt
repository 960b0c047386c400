use Rattle.std.proofs.Common.{◌≡◌, sym, subst, None, Some}
use Rattle.child_events.specs.declared.event.HallEvent.{HallEvent}
use Rattle.dialogue_sched.specs.Refusal.{refusal_of}
use Rattle.log_plan.proofs.Following.{only_one, refused_alone, answer_is_taken, start_is_taken, stands_answered, stands_started}
use Rattle.log_plan.proofs.planner.Planner.answer_next.Goals as goal

pub take-requires : goal.take-requires
take-requires c =
    let s = c.requires.0 in
    let told = c.requires.1 in
    let st = c.requires.2 in
    let p = c.args.self.now in
    let ks = c.request.new.self in
    let event = c.answer-event.result in
    let one = only_one s c.args.exits.now told p st (Some c.in-Some.request) ks c.in-Some.ensures in
    let taken : refusal_of 1 event ≡ None = subst (λ (e : HallEvent). refusal_of 1 e ≡ None) (sym c.answer-event.ensures) (answer_is_taken s c.args.exits.now told p st c.in-Some.request ks c.in-Some.ensures) in
    refused_alone event one.0 ks one.1 taken

pub returns-in-Some : goal.returns-in-Some
returns-in-Some c s told st =
    let p = c.args.self.now in
    let ks = c.request.new.self in
    let event = c.answer-event.result in
    let took = c.in_ok-take.ensures in
    let taken : refusal_of 1 event ≡ None = subst (λ (e : HallEvent). refusal_of 1 e ≡ None) (sym c.answer-event.ensures) (answer_is_taken s c.args.exits.now told p st c.in-Some.request ks c.in-Some.ensures) in
    let h = stands_answered s c.args.exits.now told p c.take.new.self event took.events took.moment st taken c.in-Some.request ks c.answer-event.ensures c.in-Some.ensures took.took in
    (h.0, (event, took.events, h.1))

pub take-requires-2 : goal.take-requires-2
take-requires-2 c =
    let s = c.requires.0 in
    let told = c.requires.1 in
    let st = c.requires.2 in
    let ks = c.request.new.self in
    let event = c.in_ok-event.event in
    let one = only_one s c.args.exits.now told c.args.self.now st None ks c.in_default.ensures in
    let taken : refusal_of 1 event ≡ None = subst (λ (e : HallEvent). refusal_of 1 e ≡ None) (sym c.in_ok-event.ensures) (start_is_taken s c.args.exits.now told c.args.self.now st c.in-Some-starting.child c.in-Some-starting.ensures.few) in
    refused_alone event one.0 ks one.1 taken

pub returns : goal.returns
returns c s told st =
    let p = c.args.self.now in
    let ks = c.request.new.self in
    let event = c.in_ok-event.event in
    let took = c.in_ok-take-2.ensures in
    let taken : refusal_of 1 event ≡ None = subst (λ (e : HallEvent). refusal_of 1 e ≡ None) (sym c.in_ok-event.ensures) (start_is_taken s c.args.exits.now told p st c.in-Some-starting.child c.in-Some-starting.ensures.few) in
    let h = stands_started s c.args.exits.now told p c.take-2.new.self event took.events took.moment st taken c.in-Some-starting.child ks c.in_ok-event.ensures c.in_default.ensures c.in-Some-starting.ensures.value took.took in
    (h.0, (event, took.events, h.1))
