-- A running script, with the events that it has taken.
use Rattle.std.specs.Prelude.{◌≡◌, ◌≤◌, ℕ, ◌≢◌, List, [], ◌∷◌, ◌++◌, length, codes, Bool, true, false, IsTrue, Some, None, Result, Ok, Err}
use Rattle.child_events.specs.declared.child_numbers.ChildNumbers.TheVariants.{To999}
use Rattle.child_events.specs.declared.event.Event.{Event}
use Rattle.child_events.specs.declared.event.HallEvent.{HallEvent}
use Rattle.child_events.specs.declared.event.HallEvent.TheVariants as hall
use Rattle.child_events.specs.World.{own, horizon_of}
use Rattle.child_events.specs.Log.{AllFit}
use Rattle.child_events.specs.declared.event.What.TheVariants as what
use Rattle.expect_core.specs.declared.request.Request.{Request}
use Rattle.session.specs.Meaning.{meaning}
use Rattle.session.specs.Left.{Kept, left}
use Rattle.session.specs.Requests.{AsksChildren}
use Rattle.dialogue_sched.specs.declared.script.Script.{Script}
use Rattle.child_timeline.specs.declared.exits.Exit.{Exit}
use Rattle.log_plan.specs.declared.planner.Planner.{Planner}
use Rattle.log_plan.specs.declared.fault.PlanFault.{PlanFault}
use Rattle.log_plan.specs.declared.fault.PlanFault.TheVariants.{SourceTooLong, Unending, Memory}
use Rattle.log_plan.specs.Given.{given}
use Rattle.log_plan.specs.Plan.{answers, due_after, undue, GoesOn, AsksMore, AsksOn, is_too_long}

abbrev pub moment_in : HallEvent → ℕ
moment_in (hall.Child s c m w) = m
moment_in (hall.Tick m) = m

-- The answer to a request at a moment.
abbrev pub answer_at : List Exit → ℕ → Request → HallEvent
answer_at exits moment r = hall.Child 1 r.child moment (what.Answer (given exits r.child r.act))

-- A session that took these events and handed out n requests.
pub record Follows (s : Script) (es : List HallEvent) (n : ℕ) (k : Kept) : Type 0 where
  pub handed : k.handed ≡ n
  pub asks : AsksChildren k
  pub says : IsTrue k.lives → (later : List Event) → left k later ≡ meaning s.source s.settings (own 1 es ++ later)

-- The first output of a child at a moment.
abbrev pub start_at : ℕ → ℕ → HallEvent
start_at moment c = hall.Child 1 c moment (what.Out (codes "\n"))

-- The script has taken the events, of which `told` are the timeline's. What was due came, unless the script was refused
-- memory.
pub record Stands (s : Script) (exits : List Exit) (told : List HallEvent) (p : Planner) : Type 0 where
  pub kept : Kept
  pub alone : p.hall ≡ kept ∷ []
  pub follows : Follows s p.events (length (answers p.events)) kept
  pub goes : IsTrue kept.lives → GoesOn s exits [] p.events told
  pub fit : AllFit To999 p.events
  pub moment : p.moment ≡ horizon_of (own 1 p.events)
  pub early : p.moment ≤ 9000000000000000

-- Nothing is due, unless memory was refused.
pub record IsAnswered (s : Script) (exits : List Exit) (p : Planner) : Type 0 where
  pub kept : Kept
  pub alone : p.hall ≡ kept ∷ []
  pub done : IsTrue kept.lives → due_after s exits p.events ≡ None

-- Something is due.
pub record IsAsked (s : Script) (exits : List Exit) (told : List HallEvent) (p : Planner) : Type 0 where
  pub goes : GoesOn s exits [] p.events told
  pub more : due_after s exits p.events ≢ None

-- The script was not refused memory.
abbrev pub IsWhole : Planner → Type 0
IsWhole p = (k : Kept) → p.hall ≡ k ∷ [] → IsTrue k.lives

-- The result of creating a planner.
abbrev pub Begins : Script → Result Planner PlanFault → Type 0
Begins s (Ok p) = (is_too_long s ≡ false) × ((exits : List Exit) → Stands s exits [] p) × (p.events ≡ [])
Begins s (Err SourceTooLong) = is_too_long s ≡ true
Begins s (Err (Unending m)) = ⊥
Begins s (Err Memory) = is_too_long s ≡ false

-- The event that was due was added, or none because nothing is due.
abbrev pub AnswersNext : Script → List Exit → List HallEvent → Bool → Planner → Planner → Type 0
AnswersNext s exits told true old new =
    Stands s exits told new × ((e : HallEvent) × (new.events ≡ old.events ++ e ∷ []) × (due_after s exits old.events ≡ Some e))
AnswersNext s exits told false old new = Stands s exits told new × (new.events ≡ old.events) × IsAnswered s exits new

-- Something is due, or nothing is. The events are the same.
abbrev pub SeesNext : Script → List Exit → List HallEvent → Bool → Planner → Planner → Type 0
SeesNext s exits told true old new = IsAsked s exits told old
SeesNext s exits told false old new = Stands s exits told new × (new.events ≡ old.events) × IsAnswered s exits new

-- n events were added, and each of them was due.
pub record SoManyDue (s : Script) (exits : List Exit) (n : ℕ) (before after : List HallEvent) : Type 0 where
  pub put : List HallEvent
  pub grown : after ≡ before ++ put
  pub all : undue s exits before put ≡ []
  pub many : length put ≡ n

-- After these events, nothing is due any more, or the script makes request after request.
abbrev pub AnswersFrom : Script → List Exit → List HallEvent → List HallEvent → Planner → Result (Unit {0}) PlanFault → Type 0
AnswersFrom s exits told before new (Ok done) = Stands s exits told new × IsAnswered s exits new
AnswersFrom s exits told before new (Err SourceTooLong) = ⊥
AnswersFrom s exits told before new (Err (Unending m)) = GoesOn s exits [] before told × AsksMore s exits before m
AnswersFrom s exits told before new (Err Memory) = Unit {0}

-- The events were taken and nothing is due, or the script makes request after request.
abbrev pub TellsAll : Script → List Exit → List HallEvent → Planner → Result (Unit {0}) PlanFault → Type 0
TellsAll s exits events new (Ok done) = Stands s exits events new × IsAnswered s exits new
TellsAll s exits events new (Err SourceTooLong) = ⊥
TellsAll s exits events new (Err (Unending m)) = AsksOn s exits events m
TellsAll s exits events new (Err Memory) = Unit {0}
