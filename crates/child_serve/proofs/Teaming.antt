-- Workers that are started and joined.
use Rattle.std.proofs.Common.{◌≡◌, ℕ, zero, suc, ◌+◌, List, [], ◌∷◌, ◌++◌, map, length, Option, None, Some, refl, sym, ap, subst, ◌∙◌, append_assoc, append-nil, arith}
use Rattle.std.specs.Prelude.{slice_get}
use Rattle.std.proofs.lemmas.List.{map-append}
use Rattle.feed_rings.specs.declared.feed.FeedIn.{FeedIn}
use Rattle.child_hands.specs.declared.log_item.LogItem.{LogItem}
use Rattle.feed_rings.specs.Ends.{put_items}
use Rattle.child_events.specs.declared.event.Answer.{Answer}
use Rattle.expect_core.specs.declared.request.Request.{Request}
use Rattle.dialogue_sched.specs.declared.script.Script.{Script}
use Rattle.child_serve.specs.declared.served.WorkerResult.{WorkerResult}
use Rattle.child_serve.specs.declared.served.Served.{Served}
use Rattle.child_serve.specs.declared.worker.Team.{Team}
use Rattle.run_records.specs.Joined.{script_of, Fits, AllFitFrom}
use Rattle.child_desk.specs.Line.{Keeping}
use Rattle.child_serve.specs.Served.{AreServed, IsPart, AreParts, records_of}
use Rattle.child_serve.specs.Whole.{keeping_of}
use Rattle.run_records.specs.Merged.{AllSoundFrom}
use Rattle.run_records.proofs.Rows.{paired_count}
use Rattle.child_serve.proofs.Pairs.{paired_more, pair_at}
use Rattle.child_serve.specs.Teams.{Handle, IsTeam, IsStarted, IsWork, AllStarted, AllWork, AllTeams, AreDealt, HaveServed}

no_team : {K C : Type 0} (t : Team K C) (ts : List (Team K C)) → ◌≡◌ {A = List (Team K C)} [] (t ∷ ts) → ⊥
no_team t ts h = cc

module _ {K C : Type 0} where
  one_longer : (ts : List (Team K C)) (t : Team K C) → length (ts ++ t ∷ []) ≡ length ts + 1
  one_longer [] t = refl
  one_longer (x ∷ ts) t = let e = one_longer ts t in omega (arith, e)

  at_length : (before : List (Team K C)) (t : Team K C) (rest : List (Team K C)) → slice_get (before ++ t ∷ rest) (length before) ≡ Some t
  at_length [] t rest = refl
  at_length (x ∷ before) t rest = at_length before t rest

module _ {K C : Type 0} where
  -- those before the rest were started
  abbrev pub StartedTo : ℕ → ℕ → List (Handle K C) → List (Team K C) → List (Team K C) → Type 0
  StartedTo n w hs rest teams = (before : List (Team K C)) × (teams ≡ before ++ rest) × AllStarted n 0 hs before × (w ≡ length before)

  -- the first of the rest is the team whose turn it is
  pub next_is_team : (n w : ℕ) (hs : List (Handle K C)) (rest rest' teams : List (Team K C)) (t : Team K C) → n ≡ length teams → AllTeams teams → StartedTo n w hs rest teams → rest ≡ t ∷ rest' → IsTeam n w t
  next_is_team n w hs rest rest' teams t e all (before, is, started, at) step =
      subst (λ (m : ℕ). IsTeam m w t) (sym e)
      (all w t (ap (slice_get teams) at ∙ ap (λ (l : List (Team K C)). slice_get l (length before)) (is ∙ ap (λ (r : List (Team K C)). before ++ r) step) ∙ at_length before t rest'))

  pub started_more : (n w : ℕ) (hs : List (Handle K C)) (rest teams : List (Team K C)) (h : Handle K C) (t : Team K C) → StartedTo n w hs (t ∷ rest) teams → h.promise.workers ≡ n → h.promise.worker ≡ w → h.promise.team.value ≡ t → StartedTo n (w + 1) (hs ++ h ∷ []) rest teams
  started_more n w hs rest teams h t (before, is, all, at) p q r = (
    before ++ t ∷ [],
    is ∙ sym (append_assoc before (t ∷ []) rest),
    paired_more (λ v x s. IsStarted n v s x) 0 hs before h t all (p, q ∙ at ∙ (let e : length before ≡ 0 + length before = omega arith in e), r),
    ap (λ (k : ℕ). k + 1) at ∙ sym (one_longer before t),
  )

  pub started_next : (n w : ℕ) (hs hs' : List (Handle K C)) (rest rest' teams : List (Team K C)) (h : Handle K C) (t : Team K C) → rest ≡ t ∷ rest' → hs' ≡ hs ++ h ∷ [] → StartedTo n w hs rest teams → h.promise.workers ≡ n → h.promise.worker ≡ w → h.promise.team.value ≡ t → StartedTo n (w + 1) hs' rest' teams
  started_next n w hs hs' rest rest' teams h t e f s p q r =
      subst (λ (x : List (Handle K C)). StartedTo n (w + 1) x rest' teams) (sym f)
      (started_more n w hs rest' teams h t (subst (λ (x : List (Team K C)). StartedTo n w hs x teams) e s) p q r)

  pub started_all : (n w : ℕ) (hs : List (Handle K C)) (teams : List (Team K C)) → StartedTo n w hs [] teams → AllStarted n 0 hs teams
  started_all n w hs teams (before, is, all, at) = subst (AllStarted n 0 hs) (sym (is ∙ append-nil before)) all

module _ (told : ℕ → ℕ → Request → Answer → Type 0) (gives : ℕ → ℕ → Option (List ℕ) → Type 0) {K C : Type 0} (named made : K → ℕ) where
  pub work_count : (n w : ℕ) (ps : List WorkerResult) (ts : List (Team K C)) → AllWork told gives named made n w ps ts → length ps ≡ length ts
  work_count n w ps ts all = sym (paired_count (λ v x s. IsWork told gives named made n v s x) w ps ts all)

  pub work_fits : (n w : ℕ) (ps : List WorkerResult) (ts : List (Team K C)) → AllWork told gives named made n w ps ts → AllFitFrom n w (records_of ps)
  work_fits n w [] [] a = tt
  work_fits n w [] (t ∷ ts) a = absurd a
  work_fits n w (p ∷ ps) [] a = absurd a
  work_fits n w (p ∷ ps) (t ∷ ts) a = (a.0.fits, work_fits n (w + 1) ps ts a.1)

  pub work_sound : (n w : ℕ) (ps : List WorkerResult) (ts : List (Team K C)) → AllWork told gives named made n w ps ts → AllSoundFrom put_items n w (map (λ (p : WorkerResult). p.log) ps)
  work_sound n w [] [] a = tt
  work_sound n w [] (t ∷ ts) a = absurd a
  work_sound n w (p ∷ ps) [] a = absurd a
  work_sound n w (p ∷ ps) (t ∷ ts) a = (a.0.sound, work_sound n (w + 1) ps ts a.1)

  pub are_parts : (keepers : List Keeping) (scripts : List Script) (ps : List WorkerResult) (teams : List (Team K C)) → AllWork told gives named made (length teams) 0 ps teams → AreDealt named made keepers scripts teams → AreParts told gives keepers scripts ps
  are_parts keepers scripts ps teams all dealt w p got =
      let n : ℕ = length teams in
      let r = pair_at (λ v x s. IsWork told gives named made n v s x) 0 w ps teams p all got in
      let d = dealt w r.0 r.1 in
      let k : IsWork told gives named made n w r.0 p = subst (λ (v : ℕ). IsWork told gives named made n v r.0 p) (let e : 0 + w ≡ w = omega arith in e) r.2 in
      subst (λ (m : ℕ). IsPart told gives m w keepers scripts p) (sym (work_count n 0 ps teams all))
      (record { mine = map (keeping_of named made) r.0.keepers.items; kept = d.0; few = r.0.scripts.items; dealt = d.1; served = k.served; taken = k.taken })

module _ (told : ℕ → ℕ → Request → Answer → Type 0) (gives : ℕ → ℕ → Option (List ℕ) → Type 0) {K C : Type 0} (named made : K → ℕ) where
  -- those before the rest have ended
  abbrev pub JoinedTo : ℕ → List WorkerResult → List (Handle K C) → List (Team K C) → Type 0
  JoinedTo n ps hs teams = (before : List (Team K C)) × (after : List (Team K C)) × (teams ≡ before ++ after) × AllWork told gives named made n 0 ps before × AllStarted n (length before) hs after

  pub record ServedTo (n : ℕ) (ss : List Served) (ls : List (FeedIn LogItem)) (hs : List (Handle K C)) (teams : List (Team K C)) : Type 0 where
    pub parts : List WorkerResult
    pub to : JoinedTo n parts hs teams
    pub are : ss ≡ map (λ (p : WorkerResult). p.served) parts
    pub rings : ls ≡ map (λ (p : WorkerResult). p.log) parts

  pub joined_more : (n : ℕ) (ps : List WorkerResult) (h : Handle K C) (hs : List (Handle K C)) (teams : List (Team K C)) (p : WorkerResult) → JoinedTo n ps (h ∷ hs) teams → IsWork told gives named made h.promise.workers h.promise.worker h.promise.team.value p → JoinedTo n (ps ++ p ∷ []) hs teams
  joined_more n ps h hs teams p (before, [], is, all, more) k = absurd more
  joined_more n ps h hs teams p (before, t ∷ after, is, all, more) k = (
    before ++ t ∷ [],
    after,
    is ∙ sym (append_assoc before (t ∷ []) after),
    paired_more (λ v x s. IsWork told gives named made n v s x) 0 ps before p t all
        (subst (λ (x : Team K C). IsWork told gives named made n (0 + length before) x p) more.0.2
        (subst (λ (v : ℕ). IsWork told gives named made n v h.promise.team.value p) (more.0.1 ∙ (let e : length before ≡ 0 + length before = omega arith in e))
        (subst (λ (m : ℕ). IsWork told gives named made m h.promise.worker h.promise.team.value p) more.0.0 k))),
    subst (λ (v : ℕ). AllStarted n v hs after) (sym (one_longer before t)) more.1,
  )

  pub joined_next : (n : ℕ) (ps ps' : List WorkerResult) (h : Handle K C) (rest rest' : List (Handle K C)) (teams : List (Team K C)) (p : WorkerResult) → rest ≡ h ∷ rest' → ps' ≡ ps ++ p ∷ [] → JoinedTo n ps rest teams → IsWork told gives named made h.promise.workers h.promise.worker h.promise.team.value p → JoinedTo n ps' rest' teams
  joined_next n ps ps' h rest rest' teams p e f j k =
      subst (λ (x : List WorkerResult). JoinedTo n x rest' teams) (sym f)
      (joined_more n ps h rest' teams p (subst (λ (x : List (Handle K C)). JoinedTo n ps x teams) e j) k)

  pub joined_all : (n : ℕ) (ps : List WorkerResult) (hs : List (Handle K C)) (teams : List (Team K C)) → length hs ≡ 0 → JoinedTo n ps hs teams → AllWork told gives named made n 0 ps teams
  joined_all n ps [] teams e (before, [], is, all, more) = subst (AllWork told gives named made n 0 ps) (sym (is ∙ append-nil before)) all
  joined_all n ps [] teams e (before, t ∷ after, is, all, more) = absurd more
  joined_all n ps (h ∷ hs) teams e j = absurd (omega (arith, e))

  -- what came of one worker more
  pub served_next : (n : ℕ) (teams : List (Team K C)) (hs hs' : List (Handle K C)) (ss ss' : List Served) (ls ls' : List (FeedIn LogItem)) (h : Handle K C) (p : WorkerResult) → hs ≡ h ∷ hs' → ss' ≡ ss ++ p.served ∷ [] → ls' ≡ ls ++ p.log ∷ [] →
      ServedTo n ss ls hs teams → IsWork told gives named made h.promise.workers h.promise.worker h.promise.team.value p → ServedTo n ss' ls' hs' teams
  served_next n teams hs hs' ss ss' ls ls' h p step more on s k = record {
    parts = s.parts ++ p ∷ [];
    to = joined_next n s.parts (s.parts ++ p ∷ []) h hs hs' teams p step refl s.to k;
    are = more ∙ ap (λ (xs : List Served). xs ++ p.served ∷ []) s.are ∙ sym (map-append (λ (x : WorkerResult). x.served) s.parts (p ∷ []));
    rings = on ∙ ap (λ (xs : List (FeedIn LogItem)). xs ++ p.log ∷ []) s.rings ∙ sym (map-append (λ (x : WorkerResult). x.log) s.parts (p ∷ []));
  }

  pub served_all : (n : ℕ) (teams : List (Team K C)) (hs : List (Handle K C)) (ss : List Served) (ls : List (FeedIn LogItem)) → length hs ≡ 0 → ServedTo n ss ls hs teams → HaveServed told gives named made n teams ss ls
  served_all n teams hs ss ls none s = record { parts = s.parts; work = joined_all n s.parts hs teams none s.to; are = s.are; rings = s.rings }
