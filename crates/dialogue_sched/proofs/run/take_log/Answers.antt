use Rattle.std.proofs.Common.{◌≡◌, ℕ, ◌+◌, ◌<◌, List, length, sym, ap, subst, ◌∙◌, None, Some, Err, arith}
use Rattle.child_events.specs.declared.event.HallEvent.{HallEvent}
use Rattle.dialogue_sched.specs.Refusal.{first_refusal}
use Rattle.dialogue_sched.specs.declared.run.LogRunFault.{LogRunFault}
use Rattle.dialogue_sched.specs.Run.{TakesLog}
use Rattle.dialogue_sched.proofs.Parting.{TakenTo, taken_none, taken_more, accepted_more, refused_all, taken_all}
use Rattle.dialogue_sched.proofs.run.take_log.Goals as goal

pub parts-init : goal.parts-init
parts-init c = record { to = taken_none c.args.log.now.said c.args.hall.now; fewer = omega (arith, c.bytes-all.ensures) }

pub returns-in-Some-clause-takes : goal.returns-in-Some-clause-takes
returns-in-Some-clause-takes c =
    let refused : first_refusal (length c.parts.hall) c.parts.before c.in_ok-part.part ≡ Some (c.in-Some.at, c.in-Some.refusal) =
    ap (λ (n : ℕ). first_refusal n c.parts.before c.in_ok-part.part) (sym c.len.ensures.value)
    ∙ ap (λ (es : List HallEvent). first_refusal c.len.result c.parts.before es) (sym c.as_slice.ensures)
    ∙ sym c.first_refused.ensures ∙ c.in-Some.is in
    subst (λ (f : LogRunFault). TakesLog c.args.log.now.said c.args.hall.now c.parts.hall (Err f)) (sym c.log_first.ensures)
    (refused_all c.args.log.now.said c.parts.log.said c.parts.before c.args.hall.now c.parts.hall c.parts.invariant.to c.in_ok-part.part c.next_part.new.log.said c.in_ok-part.ensures.given.said
    c.in-Some.at c.in-Some.refusal refused)

pub returns-in_default-take_all-clause-memory : goal.returns-in_default-take_all-clause-memory
returns-in_default-take_all-clause-memory c = λ is.
    accepted_more c.args.log.now.said c.parts.log.said c.parts.before c.args.hall.now c.parts.hall c.parts.invariant.to c.in_ok-part.part c.next_part.new.log.said c.in_ok-part.ensures.given.said
    (ap (λ (n : ℕ). first_refusal n c.parts.before c.in_ok-part.part) (sym c.len.ensures.value)
    ∙ ap (λ (es : List HallEvent). first_refusal c.len.result c.parts.before es) (sym c.as_slice.ensures)
    ∙ sym c.first_refused.ensures ∙ c.in_default.is)

pub returns-then-count-lt-PART-clause-takes : goal.returns-then-count-lt-PART-clause-takes
returns-then-count-lt-PART-clause-takes c =
    let none : first_refusal (length c.parts.hall) c.parts.before c.in_ok-part.part ≡ None =
    ap (λ (n : ℕ). first_refusal n c.parts.before c.in_ok-part.part) (sym c.len.ensures.value)
    ∙ ap (λ (es : List HallEvent). first_refusal c.len.result c.parts.before es) (sym c.as_slice.ensures)
    ∙ sym c.first_refused.ensures ∙ c.in_default.is in
    let short : length c.in_ok-part.part < 512 = omega (arith, c.len-count.ensures, c.if-count-lt-PART.true) in
    taken_all c.args.log.now.said c.next_part.new.log.said (c.parts.before + length c.in_ok-part.part) c.args.hall.now c.take_all.new.self
    (taken_more c.args.log.now.said c.parts.log.said c.parts.before c.args.hall.now c.parts.hall c.parts.invariant.to c.in_ok-part.part c.next_part.new.log.said c.in_ok-part.ensures.given.said
    c.take_all.new.self none c.in-Ok.ensures.took)
    (c.in_ok-part.ensures.whole short)

pub parts-preserved : goal.parts-preserved
parts-preserved c =
    let none : first_refusal (length c.parts.hall) c.parts.before c.in_ok-part.part ≡ None =
    ap (λ (n : ℕ). first_refusal n c.parts.before c.in_ok-part.part) (sym c.len.ensures.value)
    ∙ ap (λ (es : List HallEvent). first_refusal c.len.result c.parts.before es) (sym c.as_slice.ensures)
    ∙ sym c.first_refused.ensures ∙ c.in_default.is in
    record {
      to = subst (λ (n : ℕ). TakenTo c.args.log.now.said c.next_part.new.log.said (c.parts.before + n) c.args.hall.now c.take_all.new.self) (sym c.len-count.ensures)
          (taken_more c.args.log.now.said c.parts.log.said c.parts.before c.args.hall.now c.parts.hall c.parts.invariant.to c.in_ok-part.part c.next_part.new.log.said c.in_ok-part.ensures.given.said
          c.take_all.new.self none c.in-Ok.ensures.took);
      fewer = omega (arith, c.len-count.ensures, c.in_ok-part.ensures.given.fewer, c.parts.invariant.fewer);
    }
