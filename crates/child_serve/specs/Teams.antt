-- Scripts that are served by workers.
use Rattle.std.specs.Prelude.{◌≡◌, ℕ, ◌+◌, ◌≤◌, List, [], ◌∷◌, map, length, slice_get, false, Option, Some, None, Result}
use Rattle.child_events.specs.declared.event.Answer.{Answer}
use Rattle.expect_core.specs.declared.request.Request.{Request}
use Rattle.dialogue_sched.specs.declared.script.Script.{Script}
use Rattle.dialogue_sched.specs.Hall.{opening_fault}
use Rattle.dialogue_sched.specs.Refusal.{first_refusal}
use Rattle.child_serve.specs.declared.served.WorkerResult.{WorkerResult}
use Rattle.child_serve.specs.declared.worker.Seat.{Seat}
use Rattle.child_serve.specs.declared.worker.Team.{Team}
use Rattle.child_serve.specs.declared.worker.WorkFault.{WorkFault}
use Rattle.child_serve.specs.declared.serving.Works.{Works}
use Rattle.child_serve.specs.declared.served.Served.{Served}
use Rattle.std.specs.declared.thread.PromisedHandle.{PromisedHandle}
use Rattle.feed_rings.specs.declared.feed.FeedIn.{FeedIn}
use Rattle.child_hands.specs.declared.log_item.LogItem.{LogItem}
use Rattle.run_records.specs.declared.reel.Reel.{Reel}
use Rattle.run_records.specs.Merged.{AllPaired, IsSound}
use Rattle.child_desk.specs.Book.{ring_log}
use Rattle.std.specs.List.{AllByRecursion}
use Rattle.feed_rings.specs.Ends.{put_items, IsPair, SameIn}
use Rattle.run_records.specs.Joined.{script_of, Fits}
use Rattle.child_desk.specs.declared.line.ScriptState.{ScriptState}
use Rattle.child_desk.specs.Line.{Keeping}
use Rattle.child_serve.specs.Dealt.{IsDealt}
use Rattle.child_serve.specs.Opened.{AreNumbers}
use Rattle.child_serve.specs.Served.{AreServed}
use Rattle.child_serve.specs.Whole.{keeping_of}

-- A new script's line for each keeper.
abbrev pub AreFirst : {K : Type 0} → (K → ℕ) → (K → ℕ) → List K → List ScriptState → Type 0
AreFirst named made keepers lines = lines ≡ map (λ k. record { name = named k; last = made k; awaited = None; sent = false; over = false }) keepers

module _ {K C : Type 0} where
  -- Each team has the scripts and the keepers at its index.
  abbrev pub AreTeams : List (List Script) → List (List K) → List (Team K C) → Type 0
  AreTeams scripts keepers teams = (w : ℕ) (team : Team K C) → slice_get teams w ≡ Some team →
      (slice_get scripts w ≡ Some team.scripts.items) × (slice_get keepers w ≡ Some team.keepers.items)

  -- A keeper for each script, and scripts that can be opened. Each script's number among all is at most 64.
  pub record IsTeam (n w : ℕ) (team : Team K C) : Type 0 where
    pub keepers : length team.keepers.items ≡ length team.scripts.items
    pub opens : opening_fault team.scripts.items ≡ None
    pub few : length team.scripts.items ≤ 64
    pub numbers : AreNumbers n w (length team.scripts.items)

  -- The team of a worker whose record is empty.
  abbrev pub IsSeated : ℕ → ℕ → Seat K C → Type 0
  IsSeated n w seat = IsTeam n w seat.team × (put_items seat.log ≡ [])

  -- A worker has served its scripts.
  pub record IsWork (told : ℕ → ℕ → Request → Answer → Type 0) (gives : ℕ → ℕ → Option (List ℕ) → Type 0) (named made : K → ℕ) (n w : ℕ) (team : Team K C) (p : WorkerResult) : Type 0 where
    pub served : AreServed told gives (λ i. script_of n w (i + 1)) (map (keeping_of named made) team.keepers.items) team.scripts.items (ring_log p.log) p.served
    pub fits : Fits n w (ring_log p.log)
    pub sound : IsSound n w (put_items p.log)
    pub taken : first_refusal (length team.scripts.items) 0 (ring_log p.log) ≡ None

  -- Each worker has served its scripts.
  abbrev pub AllWork : (ℕ → ℕ → Request → Answer → Type 0) → (ℕ → ℕ → Option (List ℕ) → Type 0) → (K → ℕ) → (K → ℕ) → ℕ → ℕ → List WorkerResult → List (Team K C) → Type 0
  AllWork told gives named made n = AllPaired (λ w p t. IsWork told gives named made n w t p)

  -- All scripts and keepers were dealt to these teams in turn.
  abbrev pub AreDealt : (K → ℕ) → (K → ℕ) → List Keeping → List Script → List (Team K C) → Type 0
  AreDealt named made keepers scripts teams = (w : ℕ) (team : Team K C) → slice_get teams w ≡ Some team →
      IsDealt (length teams) w keepers (map (keeping_of named made) team.keepers.items) × IsDealt (length teams) w scripts team.scripts.items

  -- `IsTeam` holds of each team.
  abbrev pub AllTeams : List (Team K C) → Type 0
  AllTeams teams = (w : ℕ) (team : Team K C) → slice_get teams w ≡ Some team → IsTeam (length teams) w team

-- A running worker.
abbrev pub Handle : Type 0 → Type 0 → Type 0
Handle K C = PromisedHandle (Result WorkerResult WorkFault) (Works K C)

module _ {K C : Type 0} where
  -- This worker was started for this team, at index `w` of `n`.
  abbrev pub IsStarted : ℕ → ℕ → Team K C → Handle K C → Type 0
  IsStarted n w t h = (h.promise.workers ≡ n) × (h.promise.worker ≡ w) × (h.promise.team.value ≡ t)

  -- A worker was started for each team.
  abbrev pub AllStarted : ℕ → ℕ → List (Handle K C) → List (Team K C) → Type 0
  AllStarted n = AllPaired (λ w h t. IsStarted n w t h)

  -- The worker's record is taken from the ring into which it puts it.
  abbrev pub IsRingOf : Handle K C → Reel → Type 0
  IsRingOf h reel = IsPair h.promise.log.value reel.out

  abbrev pub AreRingsOf : List (Handle K C) → List Reel → Type 0
  AreRingsOf hs reels = AllPaired (λ w h reel. IsRingOf h reel) 0 hs reels

  -- Each worker puts its record into this ring.
  abbrev pub AreLogsOf : List (Handle K C) → List (FeedIn LogItem) → Type 0
  AreLogsOf hs logs = AllPaired (λ w h log. SameIn h.promise.log.value log) 0 hs logs

  -- The results of workers, in order. Each has served its scripts.
  pub record HaveServed (told : ℕ → ℕ → Request → Answer → Type 0) (gives : ℕ → ℕ → Option (List ℕ) → Type 0) (named made : K → ℕ) (n : ℕ) (teams : List (Team K C)) (served : List Served) (logs : List (FeedIn LogItem)) : Type 0 where
    pub parts : List WorkerResult
    pub work : AllWork told gives named made n 0 parts teams
    pub are : served ≡ map (λ p. p.served) parts
    pub rings : logs ≡ map (λ p. p.log) parts
