-- The plan of a script: the events of a timeline, with those inserted that answer the script's requests and tell of the
-- starts that it awaits.
use Rattle.std.specs.Prelude.{◌≡◌, ◌≢◌, ℕ, List, [], ◌∷◌, ◌++◌, length, slice_get, codes, Bool, true, false, if◌then◌else◌, nat_lt, Option, Some, None, IfSome, option_map, Result, Ok, Err}
use Rattle.child_events.specs.declared.event.What.TheVariants as what
use Rattle.child_events.specs.declared.event.HallEvent.{HallEvent}
use Rattle.child_events.specs.declared.event.HallEvent.TheVariants as hall
use Rattle.child_events.specs.World.{own, horizon_of}
use Rattle.expect_core.specs.declared.request.Request.{Request}
use Rattle.session.specs.Meaning.{meaning}
use Rattle.dialogue_sched.specs.declared.script.Script.{Script}
use Rattle.child_timeline.specs.declared.exits.Exit.{Exit}
use Rattle.child_timeline.specs.declared.timeline.Timeline.{Timeline}
use Rattle.log_plan.specs.declared.fault.PlanFault.{PlanFault}
use Rattle.log_plan.specs.declared.fault.PlanFault.TheVariants.{SourceTooLong, Unending, Memory}
use Rattle.child_timeline.specs.Told.{is_answer}
use Rattle.log_plan.specs.Given.{given}

-- ---- What is due

-- The answers among events.
abbrev pub answers : List HallEvent → List HallEvent
answers [] = []
answers (e ∷ es) = if is_answer e then e ∷ answers es else answers es

-- The first request of the script that these events don't answer.
abbrev pub open_request : Script → List HallEvent → Option Request
open_request s es = slice_get (meaning s.source s.settings (own 1 es)).requests (length (answers es))

-- The child whose start the script awaits after these events.
abbrev pub awaited_start : Script → List HallEvent → Option ℕ
awaited_start s es = (meaning s.source s.settings (own 1 es)).starting

-- The answer to a request, at the last moment of these events.
abbrev pub answered : List Exit → List HallEvent → Request → HallEvent
answered exits es r = hall.Child 1 r.child (horizon_of (own 1 es)) (what.Answer (given exits r.child r.act))

-- The first output of a child, at the last moment of these events.
abbrev pub started : List HallEvent → ℕ → HallEvent
started es c = hall.Child 1 c (horizon_of (own 1 es)) (what.Out (codes "\n"))

abbrev pub first_due : Option HallEvent → Option HallEvent → Option HallEvent
first_due (Some answer) start = Some answer
first_due None start = start

-- The event that is due after these: the answer to the open request, or else the first output of the child whose start
-- is awaited.
abbrev pub due_after : Script → List Exit → List HallEvent → Option HallEvent
due_after s exits es = first_due (option_map (answered exits es) (open_request s es)) (option_map (started es) (awaited_start s es))

-- ---- A plan

-- After these events, this one is what is due, if something is.
abbrev pub IsDue : Script → List Exit → List HallEvent → HallEvent → Type 0
IsDue s exits before e = IfSome (due_after s exits before) (λ d. e ≡ d)

-- The same for each of these events, one after another.
abbrev pub AreDue : Script → List Exit → List HallEvent → List HallEvent → Type 0
AreDue s exits before [] = Unit {0}
AreDue s exits before (e ∷ es) = IsDue s exits before e × AreDue s exits (before ++ e ∷ []) es

abbrev pub unless_due : Option HallEvent → HallEvent → List HallEvent → List HallEvent
unless_due (Some d) e es = es
unless_due None e es = e ∷ es

-- The events among these that came where nothing was due.
abbrev pub undue : Script → List Exit → List HallEvent → List HallEvent → List HallEvent
undue s exits before [] = []
undue s exits before (e ∷ es) = unless_due (due_after s exits before) e (undue s exits (before ++ e ∷ []) es)

-- After the events `before` of a plan, it goes on with `es`: what is due comes at once, and the events that come where
-- nothing is due are `told`.
pub record GoesOn (s : Script) (exits : List Exit) (before es told : List HallEvent) : Type 0 where
  pub due : AreDue s exits before es
  pub others : undue s exits before es ≡ told

-- Where nothing is due, the events of the timeline come, in order. At the end nothing is due.
pub record Planned (s : Script) (t : Timeline) (es : List HallEvent) : Type 0 where
  pub goes : GoesOn s t.exits [] es t.events
  pub done : due_after s t.exits es ≡ None

-- After these events, 100,000 events are due in a row, and another one, at this moment.
pub record AsksMore (s : Script) (exits : List Exit) (before : List HallEvent) (at : ℕ) : Type 0 where
  pub put : List HallEvent
  pub goes : GoesOn s exits before put []
  pub many : length put ≡ 100000
  pub more : due_after s exits (before ++ put) ≢ None
  pub moment : at ≡ horizon_of (own 1 (before ++ put))

-- The script makes request after request, or awaits start after start, after some of the timeline's events.
pub record AsksOn (s : Script) (exits : List Exit) (events : List HallEvent) (moment : ℕ) : Type 0 where
  pub before : List HallEvent
  pub told : List HallEvent
  pub rest : List HallEvent
  pub goes : GoesOn s exits [] before told
  pub all : told ++ rest ≡ events
  pub asks : AsksMore s exits before moment

-- The source is longer than 1 MiB.
abbrev pub is_too_long : Script → Bool
is_too_long s = nat_lt 1048576 (length s.source)

-- The result of planning.
abbrev pub Plans : Script → Timeline → Result (List HallEvent) PlanFault → Type 0
Plans s t (Ok es) = (is_too_long s ≡ false) × Planned s t es
Plans s t (Err SourceTooLong) = is_too_long s ≡ true
Plans s t (Err (Unending moment)) = (is_too_long s ≡ false) × AsksOn s t.exits t.events moment
Plans s t (Err Memory) = is_too_long s ≡ false
