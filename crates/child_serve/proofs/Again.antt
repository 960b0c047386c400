-- What was served is a run over its record.
use Rattle.std.proofs.Common.{◌≡◌, ◌⊎◌, inl, inr, ℕ, suc, ◌+◌, List, [], ◌∷◌, length, Bool, true, false, Option, Some, refl, sym, subst, ◌∙◌, arith}
use Rattle.std.specs.Prelude.{slice_get}
use Rattle.std.proofs.lemmas.Option.{slice_get_within}
use Rattle.child_events.specs.declared.event.Answer.{Answer}
use Rattle.child_events.specs.declared.event.HallEvent.{HallEvent}
use Rattle.child_events.specs.World.{own}
use Rattle.expect_core.specs.declared.request.Request.{Request}
use Rattle.session.specs.declared.report.Report.{Report}
use Rattle.session.specs.Meaning.{meaning}
use Rattle.session.specs.Spent.{memory_report}
use Rattle.dialogue_sched.specs.declared.script.Script.{Script}
use Rattle.dialogue_sched.specs.Run.{AllMean}
use Rattle.dialogue_sched.proofs.Running.{isolated}
use Rattle.child_serve.specs.Served.{Tells}
use Rattle.child_serve.specs.Again.{ServingIsRun, ServingsIsolated}
use Rattle.child_serve.proofs.Wholes.{there}

-- the report is the meaning of the script, or that of a script that was refused memory
abbrev pub MeansOwn : ℕ → List HallEvent → Script → Report → Type 0
MeansOwn n es s r = (r ≡ meaning s.source s.settings (own n es)) ⊎ (r ≡ memory_report)

all_mean : (n : ℕ) (es : List HallEvent) (ss : List Script) (rs : List Report) → length rs ≡ length ss →
    ((i : ℕ) (s : Script) (r : Report) → slice_get ss i ≡ Some s → slice_get rs i ≡ Some r → MeansOwn (n + i) es s r) → AllMean n es ss rs
all_mean n es [] [] size each = tt
all_mean n es [] (r ∷ rs) size each = absurd (omega (arith, size))
all_mean n es (s ∷ ss) [] size each = absurd (omega (arith, size))
all_mean n es (s ∷ ss) (r ∷ rs) size each = (
  subst (λ (k : ℕ). MeansOwn k es s r) (let e : n + 0 ≡ n = omega arith in e) (each 0 s r refl refl),
  all_mean (n + 1) es ss rs (omega (arith, size)) (λ i t q got made. subst (λ (k : ℕ). MeansOwn k es t q) (let e : n + suc i ≡ n + 1 + i = omega arith in e) (each (suc i) t q got made)),
)

ended_means : (s : Script) (r : Report) (stopped : Bool) (n : ℕ) (es : List HallEvent) → stopped ≡ false → Tells s r stopped (own n es) → MeansOwn n es s r
ended_means s r stopped n es running (inl ended) = inl ended.0
ended_means s r stopped n es running (inr (inl spent)) = inr spent
ended_means s r stopped n es running (inr (inr given)) = absurd (let h : ◌≡◌ {A = Bool} true false = sym given.0 ∙ running in cc)

pub serving_is_run : (told : ℕ → ℕ → Request → Answer → Type 0) (gives : ℕ → ℕ → Option (List ℕ) → Type 0) → ServingIsRun told gives
serving_is_run told gives workers keepers scripts es s size serving running = (serving.opens, serving.whole.taken, all_mean 1 es scripts s.reports serving.whole.served.count each)
  where
    each : (i : ℕ) (script : Script) (r : Report) → slice_get scripts i ≡ Some script → slice_get s.reports i ≡ Some r → MeansOwn (1 + i) es script r
    each i script r got made =
        let lt = slice_get_within scripts i script got in
        let keeper = there keepers i (omega (arith, lt, size)) in
        subst (λ (k : ℕ). MeansOwn k es script r) (let e : i + 1 ≡ 1 + i = omega arith in e)
        (ended_means script r s.stopped (i + 1) es running (serving.whole.served.each i keeper.0 script r keeper.1 got made).ended)

pub servings_isolated : (told told' : ℕ → ℕ → Request → Answer → Type 0) (gives gives' : ℕ → ℕ → Option (List ℕ) → Type 0) → ServingsIsolated told told' gives gives'
servings_isolated told told' gives gives' workers workers' i j keepers keepers' scripts scripts' es es' s s' script r r' size size' serving running serving' running' got got' same made made' =
    isolated i j scripts scripts' es es' s.reports s'.reports script r r'
    (serving_is_run told gives workers keepers scripts es s size serving running) (serving_is_run told' gives' workers' keepers' scripts' es' s' size' serving' running') got got' same made made'
