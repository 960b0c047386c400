-- Serving means the same as a run over its record.
use Rattle.std.specs.Prelude.{◌≡◌, ◌⊎◌, ℕ, ◌+◌, List, length, slice_get, Bool, false, Option, Some, Ok}
use Rattle.child_events.specs.declared.event.Answer.{Answer}
use Rattle.child_events.specs.declared.event.HallEvent.{HallEvent}
use Rattle.child_events.specs.World.{own, raised}
use Rattle.expect_core.specs.declared.request.Request.{Request}
use Rattle.session.specs.declared.report.Report.{Report}
use Rattle.session.specs.Spent.{memory_report}
use Rattle.dialogue_sched.specs.declared.script.Script.{Script}
use Rattle.dialogue_sched.specs.Run.{Runs}
use Rattle.child_desk.specs.Line.{Keeping}
use Rattle.child_serve.specs.declared.served.Served.{Served}
use Rattle.child_serve.specs.Whole.{WasServed}

module _ (told : ℕ → ℕ → Request → Answer → Type 0) (gives : ℕ → ℕ → Option (List ℕ) → Type 0) where
  -- Scripts that were served and not given up, and then run over the record of that, can give the same reports. The run
  -- refuses no event. Each report is its script's meaning over its own part of the record, or says that the script was
  -- refused memory.
  abbrev pub ServingIsRun : Type 0
  ServingIsRun = (workers : ℕ) (keepers : List Keeping) (scripts : List Script) (es : List HallEvent) (s : Served) → length keepers ≡ length scripts →
      WasServed told gives workers keepers scripts es s → s.stopped ≡ false → Runs scripts es (Ok s.reports)

module _ (told told' : ℕ → ℕ → Request → Answer → Type 0) (gives gives' : ℕ → ℕ → Option (List ℕ) → Type 0) where
  -- Take two servings of one script, at any two numbers, which gave up no script. If its own parts of the two records
  -- are the same after their moments are raised, its reports are the same. Workers, keepers and other scripts may
  -- differ. The exception is a script that was refused memory.
  abbrev pub ServingsIsolated : Type 0
  ServingsIsolated = (workers workers' i j : ℕ) (keepers keepers' : List Keeping) (scripts scripts' : List Script) (es es' : List HallEvent) (s s' : Served) (script : Script) (r r' : Report) →
      length keepers ≡ length scripts → length keepers' ≡ length scripts' →
      WasServed told gives workers keepers scripts es s → s.stopped ≡ false → WasServed told' gives' workers' keepers' scripts' es' s' → s'.stopped ≡ false →
      slice_get scripts i ≡ Some script → slice_get scripts' j ≡ Some script → raised (own (i + 1) es) ≡ raised (own (j + 1) es') →
      slice_get s.reports i ≡ Some r → slice_get s'.reports j ≡ Some r' →
      (r ≡ r') ⊎ ((r ≡ memory_report) ⊎ (r' ≡ memory_report))
