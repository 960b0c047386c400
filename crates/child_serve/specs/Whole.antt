-- The result of serving scripts.
use Rattle.std.specs.Prelude.{◌≡◌, ℕ, List, [], ◌∷◌, ◌++◌, Bool, IsTrue, Option, None, Some, Result, Ok, Err}
use Rattle.child_events.specs.declared.event.Answer.{Answer}
use Rattle.expect_core.specs.declared.request.Request.{Request}
use Rattle.dialogue_sched.specs.declared.script.Script.{Script}
use Rattle.dialogue_sched.specs.Hall.{opening_fault}
use Rattle.child_events.specs.declared.event.HallEvent.{HallEvent}
use Rattle.run_records.specs.Merged.{Handed, HasOne, IsMerging, WasHanded}
use Rattle.run_records.specs.declared.merger.Merger.{Merger}
use Rattle.child_serve.specs.declared.served.WorkerResult.{WorkerResult}
use Rattle.child_serve.specs.declared.served.Served.{Served}
use Rattle.child_serve.specs.declared.serving.Joined.{Joined}
use Rattle.child_serve.specs.declared.serving.ServeFault.{ServeFault}
use Rattle.child_serve.specs.declared.serving.ServeFault.TheVariants.{New, Memory, NoThread}
use Rattle.child_serve.specs.declared.worker.WorkFault.{WorkFault}
use Rattle.child_serve.specs.declared.worker.WorkFault.TheVariants as work
use Rattle.child_desk.specs.Line.{Keeping}
use Rattle.child_serve.specs.Served.{IsAssembled, IsWhole}

-- A keeper before its script is served.
abbrev pub keeping_of : {K : Type 0} → (K → ℕ) → (K → ℕ) → K → Keeping
keeping_of named made k = record { name = named k; made = made k }

module _ (told : ℕ → ℕ → Request → Answer → Type 0) (gives : ℕ → ℕ → Option (List ℕ) → Type 0) (workers : ℕ) (keepers : List Keeping) (scripts : List Script) where
  -- There is a hall for the scripts, and they were served over this record.
  pub record WasServed (es : List HallEvent) (s : Served) : Type 0 where
    pub opens : opening_fault scripts ≡ None
    pub whole : IsWhole told gives workers keepers scripts es s

  -- The result of serving, and the returned recorder. If `keeps`, it was handed the record. On an error it was handed
  -- some events.
  abbrev pub IsServing : {R : Type 0} → (R → List HallEvent → R → Type 0) → R → Bool → Result Served ServeFault → R → Type 0
  IsServing notes first keeps (Ok s) last = (es : List HallEvent) × WasServed es s × (IsTrue keeps → Handed notes first es last)
  IsServing notes first keeps (Err (New fault)) last = (opening_fault scripts ≡ Some fault) × WasHanded notes first last
  IsServing notes first keeps (Err Memory) last = WasHanded notes first last
  IsServing notes first keeps (Err NoThread) last = WasHanded notes first last

-- The result of `count` scripts, from those of the workers. The recorder was handed one record of all workers.
module _ {R : Type 0} (notes : R → List HallEvent → R → Type 0) (count : ℕ) where
  abbrev pub Gathers : Result Joined WorkFault → Merger R → Result Served ServeFault → R → Type 0
  Gathers (Ok j) merger (Ok s) last = IsAssembled count j.parts.items s × ((first : R) → IsTrue merger.keeps → IsMerging notes first merger → HasOne notes first j.logs.items last)
  Gathers (Err fault) merger (Ok s) last = ⊥
  Gathers joined merger (Err (New fault)) last = ⊥
  Gathers joined merger (Err Memory) last = Unit {0}
  Gathers joined merger (Err NoThread) last = Unit {0}

-- A worker's error, as that of serving.
abbrev pub fault_of : WorkFault → ServeFault
fault_of work.Memory = Memory
fault_of work.NoThread = NoThread

-- The result of one more worker, and the ring of its record.
pub record JoinsPart (part : WorkerResult) (old new : Joined) : Type 0 where
  pub parts : new.parts.items ≡ old.parts.items ++ part.served ∷ []
  pub logs : new.logs.items ≡ old.logs.items ++ part.log ∷ []

-- Without an error afterwards, there was none before, and the worker's result was added.
abbrev pub Joins : Result WorkerResult WorkFault → Joined → Joined → Type 0
Joins outcome old new = new.fault ≡ None → (old.fault ≡ None) × ((part : WorkerResult) × (outcome ≡ Ok part) × JoinsPart part old new)
