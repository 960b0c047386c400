-- A run over children, and a replay of the record that it wrote.
use Rattle.std.proofs.Common.{◌≡◌, ◌≢◌, ◌⊎◌, inl, inr, ◌<◌, ◌^◌, ℕ, ◌+◌, List, [], ◌∷◌, length, false, Option, Some, None, Ok, Err, refl, sym, ap, subst, ◌∙◌}
use Rattle.child_events.specs.declared.child_numbers.ChildNumbers.TheVariants.{To16}
use Rattle.child_events.specs.declared.event.Answer.{Answer}
use Rattle.child_events.specs.declared.event.HallEvent.{HallEvent}
use Rattle.child_events.specs.declared.faults.LogFault.{LogFault}
use Rattle.child_events.specs.Log.{CountedLog, counted_text}
use Rattle.child_events.specs.Reading.{Refused}
use Rattle.expect_core.specs.declared.request.Request.{Request}
use Rattle.session.specs.declared.report.Report.{Report}
use Rattle.session.specs.Spent.{memory_report}
use Rattle.dialogue_sched.specs.declared.script.Script.{Script}
use Rattle.dialogue_sched.specs.declared.hall.HallFault.{HallFault}
use Rattle.dialogue_sched.specs.declared.refusal.HallRefusal.{HallRefusal}
use Rattle.dialogue_sched.specs.declared.run.RunFault.{RunFault}
use Rattle.dialogue_sched.specs.declared.run.RunFault.TheVariants as run
use Rattle.dialogue_sched.specs.Hall.{opening_fault}
use Rattle.dialogue_sched.specs.Refusal.{first_refusal}
use Rattle.dialogue_sched.specs.Run.{AllMean, Runs}
use Rattle.child_desk.specs.Line.{Keeping}
use Rattle.child_serve.specs.declared.served.Served.{Served}
use Rattle.child_serve.proofs.Again.{serving_is_run}
use Rattle.report_texts.specs.declared.form.Form.{Form}
use Rattle.secret_words.specs.declared.secrets.Secret.{Secret}
use Rattle.report_texts.specs.Written.{StandsFor, AllStandFor}
use Rattle.report_texts.specs.Masked.{masked_report, IsMasked, AllMasked}
use Rattle.script_runs.specs.declared.fault.ReplayFault.{ReplayFault}
use Rattle.script_runs.specs.declared.fault.ReplayFault.TheVariants.{Read, Log, Run, Write, Memory}
use Rattle.child_serve.specs.Whole.{WasServed}
use Rattle.script_runs.specs.Replay.{RunOver, Replays, IsNoWant}
use Rattle.script_runs.proofs.Rewritten.{text_longer, below, one_written_list}
use Rattle.script_runs.specs.Again.{AgreesWith, AllAgree, AreSpared, IsOfDevices, SameReports, ReplaysSame, ReplaysPart, ReplaysUnrefused}

-- reports that agree

one_agrees : (m r r' : Report) → (r ≡ m) ⊎ (r ≡ memory_report) → (r' ≡ m) ⊎ (r' ≡ memory_report) → AgreesWith r r'
one_agrees m r r' (inl e) (inl f) = inl (e ∙ sym f)
one_agrees m r r' (inl e) (inr spent) = inr (inr spent)
one_agrees m r r' (inr spent) h = inr (inl spent)

all_agree : (n : ℕ) (es : List HallEvent) (ss : List Script) (rs rs' : List Report) → AllMean n es ss rs → AllMean n es ss rs' → AllAgree rs rs'
all_agree n es [] [] [] a b = tt
all_agree n es [] [] (x ∷ rs') a b = absurd b
all_agree n es [] (r ∷ rs) rs' a b = absurd a
all_agree n es (s ∷ ss) [] rs' a b = absurd a
all_agree n es (s ∷ ss) (r ∷ rs) [] a b = absurd b
all_agree n es (s ∷ ss) (r ∷ rs) (x ∷ rs') a b = (one_agrees _ r x a.0 b.0, all_agree (n + 1) es ss rs rs' a.1 b.1)

-- what stands for reports that agree does

first_stands : (r r' t : Report) → AgreesWith r r' → StandsFor r t → AgreesWith t r'
first_stands r r' t (inl e) (inl f) = inl (f ∙ e)
first_stands r r' t (inr (inl e)) (inl f) = inr (inl (f ∙ e))
first_stands r r' t (inr (inr e)) (inl f) = inr (inr e)
first_stands r r' t a (inr spent) = inr (inl spent)

second_stands : (r r' t : Report) → AgreesWith r r' → StandsFor r' t → AgreesWith r t
second_stands r r' t (inl e) (inl f) = inl (e ∙ sym f)
second_stands r r' t (inr (inl e)) (inl f) = inr (inl e)
second_stands r r' t (inr (inr e)) (inl f) = inr (inr (f ∙ e))
second_stands r r' t a (inr spent) = inr (inr spent)

firsts_stand : (rs rs' ts : List Report) → AllAgree rs rs' → AllStandFor rs ts → AllAgree ts rs'
firsts_stand [] [] [] a s = tt
firsts_stand [] [] (t ∷ ts) a s = absurd s
firsts_stand [] (x ∷ rs') ts a s = absurd a
firsts_stand (r ∷ rs) [] ts a s = absurd a
firsts_stand (r ∷ rs) (x ∷ rs') [] a s = absurd s
firsts_stand (r ∷ rs) (x ∷ rs') (t ∷ ts) a s = (first_stands r x t a.0 s.0, firsts_stand rs rs' ts a.1 s.1)

seconds_stand : (rs rs' ts : List Report) → AllAgree rs rs' → AllStandFor rs' ts → AllAgree rs ts
seconds_stand [] [] [] a s = tt
seconds_stand [] [] (t ∷ ts) a s = absurd s
seconds_stand [] (x ∷ rs') ts a s = absurd a
seconds_stand (r ∷ rs) [] ts a s = absurd a
seconds_stand (r ∷ rs) (x ∷ rs') [] a s = absurd s
seconds_stand (r ∷ rs) (x ∷ rs') (t ∷ ts) a s = (second_stands r x t a.0 s.0, seconds_stand rs rs' ts a.1 s.1)

one_same : (r r' : Report) → AgreesWith r r' → r ≢ memory_report → r' ≢ memory_report → r' ≡ r
one_same r r' (inl e) spared spared' = sym e
one_same r r' (inr (inl spent)) spared spared' = absurd (spared spent)
one_same r r' (inr (inr spent)) spared spared' = absurd (spared' spent)

two_conses : (a b : Report) (xs ys : List Report) → a ≡ b → xs ≡ ys → a ∷ xs ≡ b ∷ ys
two_conses a b xs ys e f = ap (λ (z : Report). z ∷ xs) e ∙ ap (λ (zs : List Report). b ∷ zs) f

all_same : (rs rs' : List Report) → AllAgree rs rs' → AreSpared rs → AreSpared rs' → rs' ≡ rs
all_same [] [] a spared spared' = refl
all_same [] (x ∷ rs') a spared spared' = absurd a
all_same (r ∷ rs) [] a spared spared' = absurd a
all_same (r ∷ rs) (x ∷ rs') a spared spared' = two_conses x r rs' rs (one_same r x a.0 spared.0 spared'.0) (all_same rs rs' a.1 spared.1 spared'.1)

-- reports that agree do so with names in place of secrets

memory_masked : (ss : List Secret) → masked_report ss memory_report ≡ memory_report
memory_masked [] = refl
memory_masked (s ∷ ss) = refl

one_masked : (ss : List Secret) (r r' : Report) → AgreesWith r r' → AgreesWith (masked_report ss r) (masked_report ss r')
one_masked ss r r' (inl e) = inl (ap (masked_report ss) e)
one_masked ss r r' (inr (inl spent)) = inr (inl (ap (masked_report ss) spent ∙ memory_masked ss))
one_masked ss r r' (inr (inr spent)) = inr (inr (ap (masked_report ss) spent ∙ memory_masked ss))

-- the same for what stands for them then
both_masked : (ss : List Secret) (r r' t t' : Report) → AgreesWith r r' → IsMasked ss r t → IsMasked ss r' t' → AgreesWith t t'
both_masked ss r r' t t' a m m' = second_stands t (masked_report ss r') t' (first_stands (masked_report ss r) (masked_report ss r') t (one_masked ss r r' a) m) m'

masked_agree : (ss : List Secret) (rs ts rs' ts' : List Report) → AllAgree rs rs' → AllMasked ss rs ts → AllMasked ss rs' ts' → AllAgree ts ts'
masked_agree ss [] [] [] [] a m m' = tt
masked_agree ss [] [] [] (t' ∷ ts') a m m' = absurd m'
masked_agree ss [] [] (x ∷ rs') ts' a m m' = absurd a
masked_agree ss [] (t ∷ ts) rs' ts' a m m' = absurd m
masked_agree ss (r ∷ rs) [] rs' ts' a m m' = absurd m
masked_agree ss (r ∷ rs) (t ∷ ts) [] ts' a m m' = absurd a
masked_agree ss (r ∷ rs) (t ∷ ts) (x ∷ rs') [] a m m' = absurd m'
masked_agree ss (r ∷ rs) (t ∷ ts) (x ∷ rs') (t' ∷ ts') a m m' = (both_masked ss r x t t' a.0 m.0 m'.0, masked_agree ss rs ts rs' ts' a.1 m.1 m'.1)

same_reports : (ss : List Secret) (rs shown ts rs' shown' ts' : List Report) → AllAgree rs rs' → AllMasked ss rs shown → AllStandFor shown ts → AllMasked ss rs' shown' → AllStandFor shown' ts' → SameReports rs ts rs' ts'
same_reports ss rs shown ts rs' shown' ts' agree masks stand masks' stand' =
    let printed = seconds_stand ts shown' ts' (firsts_stand shown shown' ts (masked_agree ss rs shown rs' shown' agree masks masks') stand) stand' in
    record { reports = agree; printed = printed; same = all_same ts ts' printed }

module _ (told : ℕ → ℕ → Request → Answer → Type 0) (gives : ℕ → ℕ → Option (List ℕ) → Type 0) (workers : ℕ) (keepers : List Keeping) (scripts : List Script) (size : length keepers ≡ length scripts) (served : Served) (es : List HallEvent) (was : WasServed told gives workers keepers scripts es served) where
  runs_again : (text : List ℕ) (rs : List Report) → served.stopped ≡ false → CountedLog To16 text es → RunOver scripts text (Ok rs) → AllAgree served.reports rs
  runs_again text rs running log over =
      let is = one_written_list text es over.events log over.log in
      all_agree 1 es scripts served.reports rs (serving_is_run told gives workers keepers scripts es served size was running).2 (subst (λ (es : List HallEvent). AllMean 1 es scripts rs) is over.runs.2)

  no_new : (f : HallFault) → ◌≡◌ {A = Option HallFault} None (Some f) → ⊥
  no_new f h = cc

  no_refusal : (r : ℕ × HallRefusal) → ◌≡◌ {A = Option (ℕ × HallRefusal)} None (Some r) → ⊥
  no_refusal r h = cc

  runs_unrefused : (f : RunFault) → opening_fault scripts ≡ None → first_refusal (length scripts) 0 es ≡ None → Runs scripts es (Err f) → f ≡ run.Memory
  runs_unrefused (run.New fault) opens taken failed = absurd (no_new fault (sym opens ∙ failed))
  runs_unrefused (run.Refused at r) opens taken failed = absurd (no_refusal (at, r) (sym taken ∙ failed.1))
  runs_unrefused run.Memory opens taken failed = refl

  run_unrefused : (text : List ℕ) (f : RunFault) → CountedLog To16 text es → RunOver scripts text (Err f) → f ≡ run.Memory
  run_unrefused text f log over =
      let is = one_written_list text es over.events log over.log in
      runs_unrefused f was.opens was.whole.taken (subst (λ (es : List HallEvent). Runs scripts es (Err f)) is over.runs)

  log_unrefused : (text : List ℕ) (f : LogFault) → CountedLog To16 text es → length text < 10 ^ 16 → Refused text f → ⊥
  log_unrefused text f log few refused = refused.1 es (inr (To16, log, below (length es) (length text) (10 ^ 16) (text_longer text es log) few))

  unrefused : (form : Form) (text : List ℕ) (shelf shelf' : Option (List (List ℕ))) (old new : Option (List ℕ)) (fault : ReplayFault) →
      CountedLog To16 text es → IsNoWant fault → Replays scripts form text shelf shelf' old new (Err fault) → IsOfDevices text fault
  unrefused form text shelf shelf' old new Read log sound says = tt
  unrefused form text shelf shelf' old new (Log f) log sound says = λ few. log_unrefused text f log few says
  unrefused form text shelf shelf' old new (Run f) log sound says = sound.0 (run_unrefused text f log says)
  unrefused form text shelf shelf' old new Write log sound says = tt
  unrefused form text shelf shelf' old new Memory log sound says = tt

-- what is read again is the text that was written
is_log : (bytes : List ℕ) (es : List HallEvent) → bytes ≡ counted_text To16 es → CountedLog To16 (counted_text To16 es) es → CountedLog To16 bytes es
is_log bytes es is log = (is, log.1)

module _ (told : ℕ → ℕ → Request → Answer → Type 0) (gives : ℕ → ℕ → Option (List ℕ) → Type 0) where
  pub replays_same : ReplaysSame told gives
  replays_same workers keepers scripts form form' written well' kept kept' shelf shelf' bytes log log' log_failures log_calls out out' out_failures out_calls old new secrets size ran whole running is again =
      same_reports form.secrets ran.served.reports ran.shown ran.reported.told again.reports again.shown again.printed
      (runs_again told gives workers keepers scripts size ran.served ran.logged.es ran.logged.serves bytes again.reports running (is_log bytes ran.logged.es is (ran.logged.means refl whole)) again.run)
      ran.masks ran.reported.stand (subst (λ (ss : List Secret). AllMasked ss again.reports again.shown) secrets again.masks) again.stand

  pub replays_part : ReplaysPart told gives
  replays_part workers keepers scripts form form' written kept kept' shelf shelf' bytes log log' log_failures log_calls out out' out_failures out_calls old new secrets size ran whole running is again =
      same_reports form.secrets ran.served.reports ran.shown ran.reported.told again.reports again.shown again.printed
      (runs_again told gives workers keepers scripts size ran.served ran.logged.es ran.logged.serves bytes again.reports running (is_log bytes ran.logged.es is (ran.logged.means refl whole)) again.run)
      ran.masks ran.reported.stand (subst (λ (ss : List Secret). AllMasked ss again.reports again.shown) secrets again.masks) again.stand

  pub replays_unrefused : ReplaysUnrefused told gives
  replays_unrefused workers keepers scripts form form' written kept kept' shelf shelf' bytes log log' log_failures log_calls out out' out_failures out_calls old new fault size ran whole is sound says =
      unrefused told gives workers keepers scripts size ran.served ran.logged.es ran.logged.serves form' bytes shelf shelf' old new fault (is_log bytes ran.logged.es is (ran.logged.means refl whole)) sound says
