-- Behind their limits scripts don't wait.
use Rattle.std.proofs.Common.{◌≡◌, ◌≢◌, ℕ, ◌+◌, ◌<◌, ◌≤◌, max, List, [], ◌∷◌, ◌++◌, Option, Some, None, Ok, inl, inr, sym, subst, arith}
use Rattle.std.specs.Prelude.{◌⊎◌, slice_get}
use Rattle.child_events.specs.declared.event.Event.{Event}
use Rattle.child_events.specs.declared.event.HallEvent.{HallEvent}
use Rattle.child_events.specs.declared.event.HallEvent.TheVariants.{Tick}
use Rattle.child_events.specs.World.{own, own_of, after_own, moment_of, horizon_from, horizon_of}
use Rattle.tcl_host.specs.declared.ending.Ending.TheVariants.{Waiting}
use Rattle.expect_core.specs.declared.settings.Settings.{Settings}
use Rattle.session.specs.declared.report.Report.{Report}
use Rattle.session.specs.Meaning.{meaning}
use Rattle.session.specs.Spent.{memory_report}
use Rattle.session.proofs.Limiting.{limit_ends, memory_differs}
use Rattle.dialogue_sched.specs.Limits.{RunsEnd, SessionsEnd, TicksPass}
use Rattle.dialogue_sched.proofs.Running.{mean_at}
use Rattle.dialogue_sched.proofs.Reaching.{tells}

ends : (source : List ℕ) (settings : Settings) (es : List Event) (limit : ℕ) (r : Report) → settings.limit_ms ≡ Some limit → limit < horizon_of es → (r ≡ meaning source settings es) ⊎ (r ≡ memory_report) → r.ending ≢ Waiting
ends source settings es limit r is lt (inl means) = subst (λ (r : Report). r.ending ≢ Waiting) (sym means) (limit_ends source settings es limit is lt)
ends source settings es limit r is lt (inr memory) = memory_differs r memory

pub runs_end : RunsEnd
runs_end ss es rs i s r limit ran here made is lt = ends s.source s.settings (own (i + 1) es) limit r is lt (mean_at 1 i (i + 1) es ss rs s r (omega arith) ran.2 here made)

pub sessions_end : SessionsEnd
sessions_end ss es i s ks k r limit reached here there says is lt = ends s.source s.settings (own (i + 1) es) limit r is lt (tells ss es i s ks k r reached here there says)

rises : (es : List Event) (h : ℕ) → h ≤ horizon_from h es
rises [] h = omega arith
rises (e ∷ es) h = let le = rises es (max h (moment_of e)) in omega (arith, le)

one_more : (o : Option Event) (es : List Event) (m : ℕ) → ((h : ℕ) → m ≤ horizon_from h es) → (h : ℕ) → m ≤ horizon_from h (after_own o es)
one_more None es m all h = all h
one_more (Some e) es m all h = all (max h (moment_of e))

reaches : (n m : ℕ) (es fs : List HallEvent) (h : ℕ) → m ≤ horizon_from h (own n (es ++ Tick m ∷ fs))
reaches n m [] fs h = let le = rises (own n fs) (max h m) in omega (arith, le)
reaches n m (e ∷ es) fs h = one_more (own_of n e) (own n (es ++ Tick m ∷ fs)) m (λ h. reaches n m es fs h) h

pub ticks_pass : TicksPass
ticks_pass n limit m es fs lt = let le = reaches n m es fs 0 in omega (arith, le, lt)
