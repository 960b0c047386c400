-- Behind their limits scripts of a desk don't wait.
use Rattle.std.proofs.Common.{◌≡◌, ◌≢◌, ◌⊎◌, inl, inr, ℕ, ◌+◌, ◌<◌, List, [], ◌∷◌, ◌++◌, Bool, true, false, Option, Some, refl, sym, ap, subst, ◌∙◌, append_assoc, append-nil}
use Rattle.std.specs.Prelude.{slice_get, IsTrue, if◌then◌else◌}
use Rattle.child_events.specs.declared.event.Event.{Event}
use Rattle.child_events.specs.declared.event.HallEvent.{HallEvent}
use Rattle.child_events.specs.declared.event.HallEvent.TheVariants.{Tick}
use Rattle.child_events.specs.World.{own, horizon_of}
use Rattle.tcl_host.specs.declared.ending.Ending.TheVariants.{Waiting}
use Rattle.session.specs.declared.report.Report.{Report}
use Rattle.session.specs.Meaning.{meaning}
use Rattle.session.specs.Left.{Kept, left}
use Rattle.session.specs.Spent.{memory_report, Reports}
use Rattle.session.proofs.Limiting.{limit_ends, memory_differs}
use Rattle.dialogue_sched.specs.declared.script.Script.{Script}
use Rattle.dialogue_sched.proofs.Limiting.{ticks_pass}
use Rattle.child_desk.specs.Book.{logged}
use Rattle.child_desk.specs.Turn.{goes_on}
use Rattle.child_desk.specs.Limits.{LinesEnd, TurnsPass}

-- a report of a session that says what its script means over these events
reported : (lives : Bool) (script : Script) (es : List Event) (k : Kept) (r : Report) (limit : ℕ) → k.lives ≡ lives →
    (IsTrue k.lives → (later : List Event) → left k later ≡ meaning script.source script.settings (es ++ later)) → Reports k r →
    script.settings.limit_ms ≡ Some limit → limit < horizon_of es → r.ending ≢ Waiting
reported false script es k r limit is says told set past = memory_differs r (told.spent is)
reported true script es k r limit is says told set past = by_report (told.lives is)
  where
    by_report : (r ≡ left k []) ⊎ (r ≡ memory_report) → r.ending ≢ Waiting
    by_report (inr memory) = memory_differs r memory
    by_report (inl same) =
        subst (λ (r : Report). r.ending ≢ Waiting) (sym (same ∙ says is [] ∙ ap (meaning script.source script.settings) (append-nil es)))
        (limit_ends script.source script.settings es limit set past)

pub lines_end : LinesEnd
lines_end rings keeper script at line book k r limit is here told set past =
    let same : is.0 ≡ k = let h : ◌≡◌ {A = Option Kept} (Some is.0) (Some k) = sym is.1 ∙ here in cc in
    reported k.lives script (own (at + 1) (logged book)) k r limit refl (subst (λ (k : Kept). IsTrue k.lives → (later : List Event) → left k later ≡ meaning script.source script.settings (own (at + 1) (logged book) ++ later)) same is.2.says) told set past

pub turns_pass : TurnsPass
turns_pass now at limit old new turns on past =
    subst (λ (es : List HallEvent). limit < horizon_of (own (at + 1) es)) (sym behind) (ticks_pass (at + 1) limit now (logged old) turns.more past)
  where
    ticked : (b : Bool) → IsTrue b → ◌≡◌ {A = List HallEvent} (if b then Tick now ∷ [] else []) (Tick now ∷ [])
    ticked true t = refl
    ticked false t = absurd (cc)

    behind : logged new ≡ logged old ++ Tick now ∷ turns.more
    behind = turns.log ∙ ap (λ (es : List HallEvent). (logged old ++ es) ++ turns.more) (ticked (goes_on old.stamp now) on) ∙ append_assoc (logged old) (Tick now ∷ []) turns.more
