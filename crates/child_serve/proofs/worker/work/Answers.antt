use Rattle.std.proofs.Common.{◌≡◌, Bool, true, false, length, map, sym, ap, subst, ◌∙◌, arith}
use Rattle.std.proofs.lemmas.Option.{slice_get_within}
use Rattle.dialogue_sched.specs.Hall.{AllBegin}
use Rattle.child_desk.specs.declared.book.Book.{Book}
use Rattle.child_desk.specs.Book.{IsRecord, logged, ring_log}
use Rattle.child_desk.proofs.Hears.{all_then}
use Rattle.child_desk.proofs.Kept.{all_still, leaves_all, no_hand_same}
use Rattle.child_serve.specs.Opened.{AreOpened}
use Rattle.child_serve.proofs.Settling.{linked_all, linked_still, given_all, unheard_all}
use Rattle.feed_rings.specs.Ends.{SameIn}
use Rattle.child_hands.specs.Record.{events_in}
use Rattle.child_serve.specs.declared.served.WorkerResult.{WorkerResult}
use Rattle.child_serve.specs.Teams.{IsWork}
use Rattle.child_serve.proofs.Taking.{then_in, kept_in}
use Rattle.child_serve.proofs.Working.{begun_length, first_length, line_of, is_work}
use Rattle.child_serve.proofs.worker.work.Goals as goal

pub turn_all-requires-after_bounds : goal.turn_all-requires-after_bounds
turn_all-requires-after_bounds g c κs within =
    let halls = ap (λ (b : Book). length b.hall) c.new-desk.ensures.book ∙ ap length c.new-book.ensures.hall ∙ begun_length c.args.seat.team.scripts.items c.in-Ok.hall c.in-Ok.ensures in
    let lines = ap length c.new-desk.ensures.lines ∙ first_length g.K.Keeper.named g.K.Keeper.made c.as_slice.result.now c.in_ok-lines.lines.items c.in_ok-lines.ensures ∙ ap length c.as_slice.ensures.value ∙ c.requires.0.keepers in
    (omega (arith, halls, lines), omega (arith, halls, c.requires.0.few))

pub settle_all-requires-clause-few : goal.settle_all-requires-clause-few
settle_all-requires-clause-few g c κs within =
    let begun = ap (λ (b : Book). length b.hall) c.new-desk.ensures.book ∙ ap length c.new-book.ensures.hall ∙ begun_length c.args.seat.team.scripts.items c.in-Ok.hall c.in-Ok.ensures in
    let turned = c.turn_all.ensures.kept.halls in
    let hands = c.in_default.ensures.opened.1 in
    let keepers = c.requires.0.keepers in
    let few = c.requires.0.few in
    (omega (arith, begun, turned, hands, keepers), omega (arith, hands, keepers, few))

pub settle_all-requires-clause-linked : goal.settle_all-requires-clause-linked
settle_all-requires-clause-linked g c κs within =
    let workers = c.args.place.workers in
    let worker = c.args.place.worker in
    let keepers = c.args.seat.team.keepers.items in
    let hands = c.open_all-outcome.new.opened.hands.items in
    let desk = c.new-desk.result in
    let turned = c.turn_all.new.desk in
    linked_still hands desk.ends.items turned.ends.items (logged desk.book) (logged turned.book) c.turn_all.ensures.heard c.turn_all.ensures.kept.rings
    (linked_all workers worker keepers desk.ends.items hands (subst (λ es. AreOpened workers worker keepers es hands) (sym c.new-desk.ensures.ends) c.in_default.ensures.opened))

pub returns : goal.returns
returns g c =
    let workers = c.args.place.workers in
    let worker = c.args.place.worker in
    let keepers = c.args.seat.team.keepers.items in
    let desk = c.new-desk.result in
    let begun = desk.book in
    let turned = c.turn_all.new.desk in
    let settled = c.settle_all.new.desk in
    let hands = c.open_all-outcome.new.opened.hands.items in
    let outcome = c.into_outcome.result in
    let children = c.in_ok-settled.settled in
    let part : WorkerResult = record { served = record { reports = outcome.reports; unsettled = children.unsettled; forced = children.forced; stopped = false }; log = outcome.log } in
    let first = ap (λ (b : Book). b.log) c.new-desk.ensures.book ∙ c.new-book.ensures.log in
    let empty = ap ring_log first ∙ ap events_in c.requires.1 in
    let are_opened = subst (λ es. AreOpened workers worker keepers es hands) (sym c.new-desk.ensures.ends) c.in_default.ensures.opened in
    subst (λ (p : WorkerResult). IsWork g.K.Keeper.told g.K.Keeper.gives g.K.Keeper.named g.K.Keeper.made workers worker c.args.seat.team p × SameIn c.args.seat.log p.log) (sym c.part_of.ensures) (
      is_work workers worker c.args.seat.team desk.lines.items turned.lines.items desk.ends.items turned.ends.items settled.ends.items begun turned.book settled.book part
          c.requires.0
          (c.new-desk.ensures.lines ∙ c.in_ok-lines.ensures ∙ ap (map (line_of g.K.Keeper.named g.K.Keeper.made)) c.as_slice.ensures.value)
          (subst (AllBegin c.args.seat.team.scripts.items) (sym (ap (λ (b : Book). b.hall) c.new-desk.ensures.book ∙ c.new-book.ensures.hall)) c.in-Ok.ensures)
          empty
          (subst IsRecord (sym c.new-desk.ensures.book) c.new-book.ensures.record)
          (unheard_all workers worker keepers desk.ends.items hands are_opened)
          c.turn_all.ensures.kept
          (λ running. c.in-Ok-turn_all.ensures.over c.if-stopped.false)
          (all_still turned.lines.items turned.ends.items settled.ends.items turned.book settled.book c.settle_all.ensures.book c.settle_all.ensures.hands)
          c.into_outcome.ensures.shown
          c.into_outcome.ensures.log
          (given_all workers worker keepers desk.ends.items settled.ends.items (logged begun) (logged settled.book) hands children.unsettled.items empty
          are_opened
          (all_then desk.ends.items turned.ends.items settled.ends.items (logged begun) (logged turned.book) (logged settled.book) c.turn_all.ensures.heard c.settle_all.ensures.heard) c.in_ok-settled.ensures.settled),
      kept_in c.args.seat.log begun.log settled.book.log outcome.log first (then_in begun.log turned.book.log settled.book.log c.turn_all.ensures.kept.log c.settle_all.ensures.book.log) c.into_outcome.ensures.log,
    )

pub returns-then-stopped : goal.returns-then-stopped
returns-then-stopped g c =
    let workers = c.args.place.workers in
    let worker = c.args.place.worker in
    let keepers = c.args.seat.team.keepers.items in
    let desk = c.new-desk.result in
    let begun = desk.book in
    let turned = c.turn_all.new.desk in
    let hands = c.open_all-outcome.new.opened.hands.items in
    let part = c.in_ok-give_up.field-0 in
    let first = ap (λ (b : Book). b.log) c.new-desk.ensures.book ∙ c.new-book.ensures.log in
    let empty = ap ring_log first ∙ ap events_in c.requires.1 in
    let are_opened = subst (λ es. AreOpened workers worker keepers es hands) (sym c.new-desk.ensures.ends) c.in_default.ensures.opened in (
      is_work workers worker c.args.seat.team desk.lines.items turned.lines.items desk.ends.items turned.ends.items turned.ends.items begun turned.book turned.book part
          c.requires.0
          (c.new-desk.ensures.lines ∙ c.in_ok-lines.ensures ∙ ap (map (line_of g.K.Keeper.named g.K.Keeper.made)) c.as_slice.ensures.value)
          (subst (AllBegin c.args.seat.team.scripts.items) (sym (ap (λ (b : Book). b.hall) c.new-desk.ensures.book ∙ c.new-book.ensures.hall)) c.in-Ok.ensures)
          empty
          (subst IsRecord (sym c.new-desk.ensures.book) c.new-book.ensures.record)
          (unheard_all workers worker keepers desk.ends.items hands are_opened)
          c.turn_all.ensures.kept
          (λ running. absurd (let h : ◌≡◌ {A = Bool} true false = sym c.in_ok-give_up.ensures.stopped ∙ running in cc))
          (all_still turned.lines.items turned.ends.items turned.ends.items turned.book turned.book (leaves_all turned.book) (no_hand_same turned.ends.items))
          c.in_ok-give_up.ensures.shown
          c.in_ok-give_up.ensures.log
          (λ i index keeper e xs qs got here among small apart.
          let within = slice_get_within keepers i keeper got in
          let count = c.in_default.ensures.opened.1 in
          absurd (apart (c.in_ok-give_up.ensures.listed i (omega (arith, within, count)) index small))),
      kept_in c.args.seat.log begun.log turned.book.log part.log first c.turn_all.ensures.kept.log c.in_ok-give_up.ensures.log,
    )
