-- What serving scripts means.
use Rattle.std.specs.Prelude.{◌≡◌, ◌≢◌, ◌⊎◌, ◌≤◌, ℕ, ◌+◌, List, [], ◌∷◌, map, length, slice_get, Bool, false, ◌||◌, IsTrue, Option, Some, None, option_map, Contains}
use Rattle.std.specs.List.{flat_map}
use Rattle.child_events.specs.declared.child_numbers.ChildNumbers.TheVariants.{To16}
use Rattle.child_events.specs.declared.event.Answer.{Answer}
use Rattle.child_events.specs.declared.event.Event.{Event}
use Rattle.child_events.specs.declared.event.HallEvent.{HallEvent}
use Rattle.child_events.specs.World.{own}
use Rattle.child_events.specs.Log.{AllFit}
use Rattle.tcl_host.specs.declared.ending.Ending.TheVariants.{Waiting}
use Rattle.expect_core.specs.declared.request.Request.{Request}
use Rattle.session.specs.declared.report.Report.{Report}
use Rattle.session.specs.Meaning.{meaning}
use Rattle.session.specs.Spent.{memory_report}
use Rattle.dialogue_sched.specs.declared.script.Script.{Script}
use Rattle.dialogue_sched.specs.Refusal.{first_refusal}
use Rattle.dialogue_sched.specs.Ticks.{WithTicks}
use Rattle.child_desk.specs.Book.{ring_log}
use Rattle.child_serve.specs.Turns.{in_turn}
use Rattle.child_serve.specs.declared.served.WorkerResult.{WorkerResult}
use Rattle.child_serve.specs.declared.served.Served.{Served}
use Rattle.child_serve.specs.declared.served.Unsettled.{Unsettled}
use Rattle.child_serve.specs.declared.served.Apart.{Apart}
use Rattle.child_desk.specs.Line.{Keeping}
use Rattle.child_serve.specs.Dealt.{IsDealt}
use Rattle.child_serve.specs.Given.{IsGiven}
use Rattle.run_records.specs.Joined.{script_of, IsJoined}
use Rattle.child_desk.specs.Heard.{said_by}
use Rattle.child_desk.specs.Told.{answers_in, replies_in, AreTold, AreOf}

-- The report of a script that was given up while it waited: its meaning over these events, without some of the ticks.
abbrev pub IsCutOff : Script → Report → List Event → Type 0
IsCutOff script report es = (seen : List Event) × WithTicks seen es × (report ≡ meaning script.source script.settings seen)

-- A script's report is its meaning, with an ending. Or it is the report of a script that was refused memory, or of one
-- that was given up while it waited.
abbrev pub Tells : Script → Report → Bool → List Event → Type 0
Tells script report stopped es =
    ((report ≡ meaning script.source script.settings es) × (report.ending ≢ Waiting))
    ⊎ ((report ≡ memory_report) ⊎ (IsTrue stopped × (report.ending ≡ Waiting) × IsCutOff script report es))

module _ (told : ℕ → ℕ → Request → Answer → Type 0) (gives : ℕ → ℕ → Option (List ℕ) → Type 0) where
  -- One script was served. `number` is its number, `stopped` says whether scripts were given up, and `es` is its own
  -- part of the record.
  pub record IsServed (number : ℕ) (keeper : Keeping) (script : Script) (report : Report) (unsettled : List Unsettled) (stopped : Bool) (es : List Event) : Type 0 where
    pub ended : Tells script report stopped es
    pub answers : AreTold told keeper.name keeper.made (answers_in es) (meaning script.source script.settings es).requests
    pub children : AreOf (replies_in es) (meaning script.source script.settings es).requests
    pub given : (child : ℕ) → 1 ≤ child → child ≤ 16 → (Contains unsettled (record { script = number; child = child }) → ⊥) → IsGiven told gives keeper.name keeper.made child (answers_in es) (meaning script.source script.settings es).requests (said_by child es)

  -- Several scripts were served over a record. `number` gives a script's number for its index.
  pub record AreServed (number : ℕ → ℕ) (keepers : List Keeping) (scripts : List Script) (es : List HallEvent) (s : Served) : Type 0 where
    pub count : length s.reports ≡ length scripts
    pub each : (i : ℕ) (keeper : Keeping) (script : Script) (report : Report) → slice_get keepers i ≡ Some keeper → slice_get scripts i ≡ Some script → slice_get s.reports i ≡ Some report →
        IsServed (number i) keeper script report s.unsettled.items s.stopped (own (i + 1) es)

  -- One worker has served its own scripts. Its record has events of these only.
  pub record IsPart (n w : ℕ) (keepers : List Keeping) (scripts : List Script) (p : WorkerResult) : Type 0 where
    pub mine : List Keeping
    pub kept : IsDealt n w keepers mine
    pub few : List Script
    pub dealt : IsDealt n w scripts few
    pub served : AreServed (λ i. script_of n w (i + 1)) mine few (ring_log p.log) p.served
    pub taken : first_refusal (length few) 0 (ring_log p.log) ≡ None

  abbrev pub AreParts : List Keeping → List Script → List WorkerResult → Type 0
  AreParts keepers scripts parts = (w : ℕ) (p : WorkerResult) → slice_get parts w ≡ Some p → IsPart (length parts) w keepers scripts p

-- The record of each worker: the events that were put into its ring.
abbrev pub records_of : List WorkerResult → List (List HallEvent)
records_of parts = map (λ p. ring_log p.log) parts

-- Whether one of them was given up.
abbrev pub is_any : List Bool → Bool
is_any [] = false
is_any (b ∷ bs) = b || is_any bs

abbrev pub any_stopped : List Served → Bool
any_stopped parts = is_any (map (λ s. s.stopped) parts)

-- The workers' results, by kind.
pub record IsApart (parts : List Served) (a : Apart) : Type 0 where
  pub reports : a.reports.items ≡ map (λ s. s.reports) parts
  pub unsettled : a.unsettled.items ≡ flat_map (λ s. s.unsettled.items) parts
  pub stopped : a.stopped ≡ any_stopped parts

-- Takes `count` reports, one of each worker in turn, and combines the other results.
pub record IsAssembled (count : ℕ) (parts : List Served) (s : Served) : Type 0 where
  pub reports : s.reports ≡ in_turn count (map (λ p. p.reports) parts)
  pub unsettled : s.unsettled.items ≡ flat_map (λ p. p.unsettled.items) parts
  pub stopped : s.stopped ≡ any_stopped parts

module _ (told : ℕ → ℕ → Request → Answer → Type 0) (gives : ℕ → ℕ → Option (List ℕ) → Type 0) where
  -- All scripts were served by this many workers, over one record that joins those of the workers. Keepers told the
  -- answers and gave the output. Each event is within the limits of a log, and is a tick or of one of the scripts. A
  -- run of the scripts therefore refuses none.
  pub record IsWhole (workers : ℕ) (keepers : List Keeping) (scripts : List Script) (es : List HallEvent) (s : Served) : Type 0 where
    pub served : AreServed told gives (λ i. i + 1) keepers scripts es s
    pub records : List (List HallEvent)
    pub each : length records ≡ workers
    pub joined : IsJoined records es
    pub fits : AllFit To16 es
    pub taken : first_refusal (length scripts) 0 es ≡ None
