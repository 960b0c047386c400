-- What lies ready behind a run: what lay ready before, and what was asked for on the way.
use Rattle.std.proofs.Common.{◌≡◌, ℕ, zero, suc, false, List, [], ◌∷◌, ◌++◌, length, drop, refl, sym, ap, ◌∙◌, subst, arith}
use Rattle.std.specs.Prelude.{◌≤◌, IsTrue}
use Rattle.child_events.specs.declared.event.Event.{Event}
use Rattle.tcl_eval.specs.declared.engine.Engine.{Engine}
use Rattle.tcl_eval.specs.declared.frame.Mode.{Mode}
use Rattle.tcl_eval.specs.Rest.{engine_rest}
use Rattle.tcl_eval.specs.Steps.{left_of}
use Rattle.expect_core.specs.declared.dialogue.Dialogue.{Dialogue}
use Rattle.expect_core.specs.declared.own.Own.{Own}
use Rattle.expect_core.specs.declared.request.Request.{Request}
use Rattle.expect_core.specs.Lanes.{extended}
use Rattle.expect_core.specs.Laws.{IsFront}
use Rattle.expect_core.proofs.Fronts.{keeps_same}
use Rattle.session.specs.declared.report.Report.{Report}
use Rattle.session.specs.declared.session.Session.TheInside.{Inside}
use Rattle.session.specs.Shown.{Ran}
use Rattle.session.specs.Sound.{Sound}
use Rattle.session.proofs.Grows.{play_since}
use Rattle.session.proofs.Lefts.{own_extended, shown_requests}

drop_past : (xs ys : List Request) → drop (length xs) (xs ++ ys) ≡ ys
drop_past [] ys = refl
drop_past (x ∷ xs) ys = drop_past xs ys

drop_within : (n : ℕ) (xs ys : List Request) → n ≤ length xs → drop n (xs ++ ys) ≡ drop n xs ++ ys
drop_within zero [] ys le = refl
drop_within zero (x ∷ xs) ys le = refl
drop_within (suc n) [] ys le = absurd (omega (arith, le))
drop_within (suc n) (x ∷ xs) ys le = drop_within n xs ys (omega (arith, le))

longer : (xs ys : List Request) → length xs ≤ length (xs ++ ys)
longer [] ys = omega (arith)
longer (x ∷ xs) ys = omega (arith, longer xs ys)

-- a run takes back nothing that was asked for
run_keeps : (old : Engine) (was : Mode) (had : ℕ) (before : Dialogue) (new : Engine) (is : Mode) (has : ℕ) (after : Dialogue) → Ran old was had before new is has after → IsFront before.own.requests after.own.requests
run_keeps old was had before new is has after ran =
    subst (IsFront before.own.requests)
    (ap (λ (r : Report). r.requests) (sym (ran.says 0 []) ∙ ran.shows 0) ∙ shown_requests 0 new is has after)
    (play_since before.own 0 (engine_rest old had was) before (keeps_same before.own)).0

module _ (old : Engine) (was : Mode) (had : ℕ) (before : Dialogue) (new : Engine) (is : Mode) (has : ℕ) (after : Dialogue) (handed : ℕ) where
  ready_behind : handed ≤ length before.own.requests → Ran old was had before new is has after → drop handed before.own.requests ++ drop (length before.own.requests) after.own.requests ≡ drop handed after.own.requests
  ready_behind le ran =
      let asked : List Request = before.own.requests in
      let front = run_keeps old was had before new is has after ran in
      ap (λ (rs : List Request). drop handed asked ++ drop (length asked) rs) front.joined
      ∙ ap (λ (rs : List Request). drop handed asked ++ rs) (drop_past asked front.more)
      ∙ sym (drop_within handed asked front.more le)
      ∙ ap (drop handed) (sym front.joined)

  counted_behind : handed ≤ length before.own.requests → Ran old was had before new is has after → handed ≤ length after.own.requests
  counted_behind le ran =
      let asked : List Request = before.own.requests in
      let front = run_keeps old was had before new is has after ran in
      subst (λ (rs : List Request). handed ≤ length rs) (sym front.joined) (omega (arith, le, longer asked front.more))

-- a session is sound behind events that came, where it ran on and laid ready what it asked for on the way
pub sound_behind : (a b : Inside) (es : List Event) (before : Dialogue) → Sound a → IsTrue a.lives → b.handed ≡ a.handed → (IsTrue before.lives → before ≡ extended es a.dialogue) → (IsTrue b.lives → Ran a.machine.engine a.machine.mode (left_of a.meter) before b.machine.engine b.machine.mode (left_of b.meter) b.dialogue) → (IsTrue b.lives → b.ready.items ≡ a.ready.items ++ drop (length before.own.requests) b.dialogue.own.requests) → (b.lives ≡ false → b.ready.items ≡ []) → Sound b
sound_behind a b es before sound lives handed came ran ready spent =
    let own : IsTrue b.lives → before.own ≡ a.dialogue.own = λ h. ap (λ (d : Dialogue). d.own) (came (ran h).lived) ∙ own_extended es a.dialogue in
    let within : IsTrue b.lives → a.handed ≤ length before.own.requests = λ h. subst (λ (o : Own). a.handed ≤ length o.requests) (sym (own h)) (sound.counted lives) in
    record {
      shows = λ h. (ran h).shows b.bound;
      quiet = λ h. (ran h).quiet;
      good = λ h. (ran h).good;
      counted = λ h.
          subst (λ (n : ℕ). n ≤ length b.dialogue.own.requests) (sym handed)
          (counted_behind a.machine.engine a.machine.mode (left_of a.meter) before b.machine.engine b.machine.mode (left_of b.meter) b.dialogue a.handed (within h) (ran h));
      ready = λ h.
          ready h
          ∙ ap (λ (rs : List Request). rs ++ drop (length before.own.requests) b.dialogue.own.requests) (sound.ready lives ∙ ap (λ (o : Own). drop a.handed o.requests) (sym (own h)))
          ∙ ready_behind a.machine.engine a.machine.mode (left_of a.meter) before b.machine.engine b.machine.mode (left_of b.meter) b.dialogue a.handed (within h) (ran h)
          ∙ ap (λ (n : ℕ). drop n b.dialogue.own.requests) (sym handed);
      spent = spent;
    }
