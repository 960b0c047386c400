-- From sessions to reports.
use Rattle.std.proofs.Common.{◌≡◌, ℕ, zero, suc, ◌+◌, List, [], ◌∷◌, ◌++◌, length, take, refl, sym, ap, ◌∙◌, subst, inl, inr, arith, Some, None, Ok}
use Rattle.std.specs.Prelude.{slice_get, IsTrue, ◌⊎◌, MatchOption}
use Rattle.std.proofs.lemmas.List.{append-nil}
use Rattle.child_events.specs.declared.event.Event.{Event}
use Rattle.child_events.specs.declared.event.HallEvent.{HallEvent}
use Rattle.child_events.specs.World.{own}
use Rattle.session.specs.declared.report.Report.{Report}
use Rattle.session.specs.Meaning.{meaning}
use Rattle.session.specs.Left.{Kept, left}
use Rattle.session.specs.Spent.{memory_report, Reports}
use Rattle.session.proofs.Spending.{reported}
use Rattle.dialogue_sched.specs.declared.script.Script.{Script}
use Rattle.dialogue_sched.specs.Pairs.{Paired}
use Rattle.dialogue_sched.specs.Took.{Took, AllTook}
use Rattle.dialogue_sched.specs.Hall.{Begins}
use Rattle.dialogue_sched.specs.Refusal.{first_refusal}
use Rattle.dialogue_sched.specs.Hall.{opening_fault}
use Rattle.dialogue_sched.specs.Run.{AllMean, Runs, Isolated}
use Rattle.dialogue_sched.proofs.Pairing.{Paired-length, no_some, some_of}
use Rattle.dialogue_sched.proofs.Raises.{means_raised}

-- a session that lives has lived, and says for what is left what it said for all
pub Took_lives : (es : List Event) (a b : Kept) → Took a es b → IsTrue b.lives → IsTrue a.lives
Took_lives [] a b h lives = subst (λ (k : Kept). IsTrue k.lives) h lives
Took_lives (e ∷ es) a b h lives = h.lived lives

pub Took_says : (es : List Event) (a b : Kept) → Took a es b → IsTrue b.lives → (later : List Event) → left b later ≡ left a (es ++ later)
Took_says [] a b h lives later = ap (λ (k : Kept). left k later) h
Took_says (e ∷ es) a b h lives later = h.says lives later

one_mean : (s : Script) (es : List Event) (k k' : Kept) (r : Report) → Begins s k → Took k es k' → Reports k' r → (r ≡ meaning s.source s.settings es) ⊎ (r ≡ memory_report)
one_mean s es k k' r begins took reports =
    reported k' r (meaning s.source s.settings es) reports
    (λ lives. Took_says es k k' took lives [] ∙ begins.says (Took_lives es k k' took lives) (es ++ []) ∙ ap (meaning s.source s.settings) (append-nil es))

pub all_mean : (n : ℕ) (es : List HallEvent) (ss : List Script) (ks ks' : List Kept) (rs : List Report) → Paired Begins ss ks → AllTook n es ks ks' → Paired Reports ks' rs → AllMean n es ss rs
all_mean n es [] [] [] [] b t r = tt
all_mean n es [] [] [] (x ∷ rs) b t r = absurd r
all_mean n es [] [] (k' ∷ ks') rs b t r = absurd t
all_mean n es [] (k ∷ ks) ks' rs b t r = absurd b
all_mean n es (s ∷ ss) [] ks' rs b t r = absurd b
all_mean n es (s ∷ ss) (k ∷ ks) [] rs b t r = absurd t
all_mean n es (s ∷ ss) (k ∷ ks) (k' ∷ ks') [] b t r = absurd r
all_mean n es (s ∷ ss) (k ∷ ks) (k' ∷ ks') (x ∷ rs) b t r = (one_mean s (own n es) k k' x b.0 t.0 r.0, all_mean (n + 1) es ss ks ks' rs b.1 t.1 r.1)

-- what is there at a place, with what is said of it
pub there : (P : Kept → Type 0) (i : ℕ) (ks : List Kept) → MatchOption (slice_get ks i) ⊥ P → (k : Kept) × (take (suc i) ks ≡ take i ks ++ k ∷ []) × P k
there P i [] h = absurd h
there P zero (k ∷ ks) h = (k, refl, h)
there P (suc i) (k ∷ ks) h = let w = there P i ks h in (w.0, ap (λ (xs : List Kept). k ∷ xs) w.1, w.2)

-- the hall that was opened has as many sessions as there are scripts
pub as_many : (scripts : List Script) (es : List HallEvent) (ks : List Kept) → (opening_fault scripts ≡ None) × Paired Begins scripts ks → first_refusal (length scripts) 0 es ≡ first_refusal (length ks) 0 es
as_many scripts es ks opened = ap (λ (n : ℕ). first_refusal n 0 es) (Paired-length Begins scripts ks opened.1)

pub whole_run : (scripts : List Script) (es : List HallEvent) (ks ks' : List Kept) (rs : List Report) → (opening_fault scripts ≡ None) × Paired Begins scripts ks → first_refusal (length ks) 0 es ≡ None → AllTook 1 es ks ks' → Paired Reports ks' rs → Runs scripts es (Ok rs)
whole_run scripts es ks ks' rs opened none took reports = (opened.0, as_many scripts es ks opened ∙ none, all_mean 1 es scripts ks ks' rs opened.1 took reports)

-- the report at a place is the meaning of the script there
pub mean_at : (n i k : ℕ) (es : List HallEvent) (ss : List Script) (rs : List Report) (s : Script) (r : Report) → k ≡ n + i → AllMean n es ss rs → slice_get ss i ≡ Some s → slice_get rs i ≡ Some r → (r ≡ meaning s.source s.settings (own k es)) ⊎ (r ≡ memory_report)
mean_at n i k es [] [] s r e h got made = no_some_at i s got
  where
    no_some_at : (j : ℕ) (x : Script) → slice_get [] j ≡ Some x → (r ≡ meaning s.source s.settings (own k es)) ⊎ (r ≡ memory_report)
    no_some_at zero x h = no_some x h
    no_some_at (suc j) x h = no_some x h
mean_at n i k es [] (x ∷ rs) s r e h got made = absurd h
mean_at n i k es (x ∷ ss) [] s r e h got made = absurd h
mean_at n zero k es (x ∷ ss) (y ∷ rs) s r e h got made =
    let number : n ≡ k = omega (arith, e) in
    subst (λ (j : ℕ). (r ≡ meaning s.source s.settings (own j es)) ⊎ (r ≡ memory_report)) number
    (subst (λ (z : Report). (z ≡ meaning s.source s.settings (own n es)) ⊎ (z ≡ memory_report)) (some_of y r made)
    (subst (λ (z : Script). (y ≡ meaning z.source z.settings (own n es)) ⊎ (y ≡ memory_report)) (some_of x s got) h.0))
mean_at n (suc i) k es (x ∷ ss) (y ∷ rs) s r e h got made = mean_at (n + 1) i k es ss rs s r (omega (arith, e)) h.1 got made

pub isolated : Isolated
isolated i j ss ss' es es' rs rs' s r r' ran ran' here here' same made made' =
    both (mean_at 1 i (i + 1) es ss rs s r (omega arith) ran.2 here made) (mean_at 1 j (j + 1) es' ss' rs' s r' (omega arith) ran'.2 here' made')
  where
    one : meaning s.source s.settings (own (i + 1) es) ≡ meaning s.source s.settings (own (j + 1) es')
    one = sym (means_raised s.source s.settings (own (i + 1) es)) ∙ ap (meaning s.source s.settings) same ∙ means_raised s.source s.settings (own (j + 1) es')

    both : (r ≡ meaning s.source s.settings (own (i + 1) es)) ⊎ (r ≡ memory_report) → (r' ≡ meaning s.source s.settings (own (j + 1) es')) ⊎ (r' ≡ memory_report) → (r ≡ r') ⊎ ((r ≡ memory_report) ⊎ (r' ≡ memory_report))
    both (inl e) (inl e') = inl (e ∙ one ∙ sym e')
    both (inl e) (inr spent) = inr (inr spent)
    both (inr spent) h = inr (inl spent)
