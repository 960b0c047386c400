-- A script at its desk.
use Rattle.std.proofs.Common.{◌≡◌, ◌≢◌, ◌⊎◌, inl, inr, ℕ, zero, suc, ◌+◌, ◌-◌, ◌<◌, ◌≤◌, List, [], ◌∷◌, ◌++◌, length, Bool, true, false, Option, Some, None, refl, sym, ap, subst, ◌∙◌, append_assoc, append-nil, arith}
use Rattle.std.specs.Prelude.{slice_get, slice_set, map, take, nat_lt, nat_le, All, IsTrue, Contains, is_some, MatchOption, ◌==◌, if◌then◌else◌}
use Rattle.std.proofs.lemmas.List.{take-append-le}
use Rattle.std.proofs.lemmas.Option.{slice_get_within, get_or_from_slice_get}
use Rattle.std.proofs.lemmas.Grind.{flat_map-append}
use Rattle.std.proofs.lemmas.Bool.Decides.{nat_tests}
use Rattle.child_events.specs.declared.event.Answer.{Answer}
use Rattle.child_events.specs.declared.event.Event.{Event}
use Rattle.child_events.specs.declared.event.HallEvent.{HallEvent}
use Rattle.child_events.specs.declared.event.Event.TheVariants as event
use Rattle.child_events.specs.declared.event.What.TheVariants as what
use Rattle.child_events.specs.World.{own, after_own}
use Rattle.child_events.proofs.Worlds.{own-append}
use Rattle.expect_core.specs.declared.request.Request.{Request}
use Rattle.session.specs.declared.report.Report.{Report}
use Rattle.expect_core.specs.Numbered.{NamesAChild}
use Rattle.session.proofs.Numbering.{all_name_a_child}
use Rattle.dialogue_sched.specs.Refusal.{refusal_of}
use Rattle.session.specs.Meaning.{meaning}
use Rattle.session.specs.Left.{Kept, left, HandsOut}
use Rattle.session.specs.Spent.{memory_report, Reports}
use Rattle.session.specs.Growth.{Continues}
use Rattle.session.proofs.Grows.{only_grows, ending_stays}
use Rattle.tcl_host.specs.declared.ending.Ending.TheVariants.{Waiting}
use Rattle.dialogue_sched.specs.declared.script.Script.{Script}
use Rattle.dialogue_sched.specs.Took.{Took, AllTook}
use Rattle.dialogue_sched.specs.Hall.{Begins, AllReport, session_at, Requested}
use Rattle.dialogue_sched.proofs.Pairing.{Paired-length}
use Rattle.dialogue_sched.proofs.Running.{Took_lives, Took_says}
use Rattle.child_desk.specs.declared.line.ScriptState.{ScriptState}
use Rattle.child_desk.specs.Told.{Telling, Reply, Put, Asks, Stops, Rings, no_rings, asking, answer_in, answers_in, reply_in, replies_in, AreAmong, AreOf}
use Rattle.child_desk.specs.declared.book.Book.{Book}
use Rattle.child_desk.specs.Book.{Enters, logged}
use Rattle.child_desk.specs.Line.{Keeping, answer_at, PassesAll, IsInLine, InLine, Means, AllShown}
use Rattle.child_desk.proofs.Telling.{IsWithin, among_more, among_few, told_more, told_last, of_more, of_last}
use Rattle.child_desk.proofs.Answering.{no_replies, replies_counted}
use Rattle.child_desk.proofs.Places.{nothing_there, one_there, set_here}

pub numbered : (i : ℕ) (ks : List Kept) → session_at (i + 1) ks ≡ slice_get ks i
numbered i ks = grind (arith, nat_tests, by_number)
  where
    by_number : slice_get ks (i + 1 - 1) ≡ slice_get ks i
    by_number = ap (λ (n : ℕ). slice_get ks n) (omega arith)

-- what handed out a request at a place
pub handed_at : (i : ℕ) (request : Option Request) (old new : List Kept) → i < length old → Requested (i + 1) old request new → (k : Kept) × (k' : Kept) × (slice_get old i ≡ Some k) × HandsOut k request k' × (new ≡ slice_set old i k')
handed_at i request old new lt h = at i old lt refl
  where
    at : (j : ℕ) (ks : List Kept) → j < length ks → slice_get ks j ≡ slice_get old i → (k : Kept) × (k' : Kept) × (slice_get old i ≡ Some k) × HandsOut k request k' × (new ≡ slice_set old i k')
    at j [] less e = absurd (omega (arith, less))
    at zero (k ∷ ks) less e =
        let r = subst (λ (o : Option Kept). MatchOption o ((request ≡ None) × (new ≡ old)) (λ (x : Kept). (k' : Kept) × HandsOut x request k' × (new ≡ slice_set old (i + 1 - 1) k'))) (numbered i old ∙ sym e) h in
        (k, r.0, sym e, r.1, r.2 ∙ ap (λ (n : ℕ). slice_set old n r.0) (let back : i + 1 - 1 ≡ i = omega arith in back))
    at (suc j) (x ∷ ks) less e = at j ks (omega (arith, less)) e

pub took_at : (n i : ℕ) (es : List HallEvent) (olds news : List Kept) (k : Kept) → AllTook n es olds news → slice_get olds i ≡ Some k → (k' : Kept) × (slice_get news i ≡ Some k') × Took k (own (n + i) es) k'
took_at n i es [] news k t got = absurd (nothing_there k got)
took_at n i es (x ∷ olds) [] k t got = absurd t
took_at n zero es (x ∷ olds) (y ∷ news) k t got =
    let number : n ≡ n + 0 = omega arith in
    (y, refl, subst (λ (z : Kept). Took z (own (n + 0) es) y) (one_there x k got) (subst (λ (m : ℕ). Took x (own m es) y) number t.0))
took_at n (suc i) es (x ∷ olds) (y ∷ news) k t got =
    let w = took_at (n + 1) i es olds news k t.1 got in
    let number : n + 1 + i ≡ n + suc i = omega arith in
    (w.0, w.1, subst (λ (m : ℕ). Took k (own m es) w.0) number w.2)

took_handed : (es : List Event) (k k' : Kept) → Took k es k' → k'.handed ≡ k.handed
took_handed [] k k' t = ap (λ (x : Kept). x.handed) t
took_handed (e ∷ es) k k' t = t.handed

-- an answer is its own script's
pub answers_own : (at child m : ℕ) (a : Answer) → answers_in (own (at + 1) (answer_at at child m a ∷ [])) ≡ a ∷ []
answers_own at child m a =
    let e : (at + 1 == at + 1) ≡ true = grind (arith, nat_tests) in
    ap (λ (t : Bool). answers_in (after_own (if t then Some (event.Child child m (what.Answer a)) else None) [])) e

pub answers_other : (at i child m : ℕ) (a : Answer) → i ≢ at → answers_in (own (i + 1) (answer_at at child m a ∷ [])) ≡ []
answers_other at i child m a other =
    let e : (at + 1 == i + 1) ≡ false = differs (at + 1) (i + 1) (λ h. other (omega (arith, h))) in
    ap (λ (t : Bool). answers_in (after_own (if t then Some (event.Child child m (what.Answer a)) else None) [])) e
  where
    differs : (x y : ℕ) → (x ≡ y → ⊥) → (x == y) ≡ false
    differs x y d = grind (arith, nat_tests, d)

-- growing requests keep what stands at a place
still_there : (i : ℕ) (qs more : List Request) (q : Request) → slice_get qs i ≡ Some q → slice_get (qs ++ more) i ≡ Some q
still_there i [] more q h = absurd (no_request q h)
  where
    no_request : (q : Request) → ◌≡◌ {A = Option Request} None (Some q) → ⊥
    no_request q h = cc
still_there zero (x ∷ qs) more q h = h
still_there (suc i) (x ∷ qs) more q h = still_there i qs more q h

-- one more of those in front
take_one : {X : Type 0} (n : ℕ) (xs : List X) (x : X) → slice_get xs n ≡ Some x → take (suc n) xs ≡ take n xs ++ x ∷ []
take_one n [] x got = absurd (nothing_there x got)
take_one zero (y ∷ xs) x got = ap (λ z. z ∷ []) (one_there y x got)
take_one (suc n) (y ∷ xs) x got = ap (λ l. y ∷ l) (take_one n xs x got)

map_one : (qs : List Request) (q : Request) → map Asks (qs ++ q ∷ []) ≡ map Asks qs ++ Asks q ∷ []
map_one [] q = refl
map_one (r ∷ qs) q = ap (λ l. Asks r ∷ l) (map_one qs q)

all_there : (qs : List Request) (i : ℕ) (q : Request) → All NamesAChild qs → slice_get qs i ≡ Some q → NamesAChild q
all_there qs i q all got = subst NamesAChild (get_or_from_slice_get qs i q q got) (all i q (slice_get_within qs i q got))

lt_true : (a b : ℕ) → a < b → nat_lt a b ≡ true
lt_true a b h = grind (arith, nat_tests)

le_true : (a b : ℕ) → a ≤ b → nat_le a b ≡ true
le_true a b h = grind (arith, nat_tests)

answer_taken : (scripts at child m : ℕ) (a : Answer) → at < scripts → 1 ≤ child → child ≤ 16 → m ≤ 9000000000000000 → refusal_of scripts (answer_at at child m a) ≡ None
answer_taken scripts at child m a within low high early =
    rw (lt_true 0 (at + 1) (omega arith), le_true (at + 1) scripts (omega arith), lt_true 0 child (omega arith), le_true child 16 high, le_true m 9000000000000000 early)

module _ (rings : Rings) (keeper : Keeping) (script : Script) where
  abbrev asked_by : List Event → List Request
  asked_by es = (meaning script.source script.settings es).requests

  -- how many requests were put to the hand
  abbrev put_count : ScriptState → List Event → ℕ
  put_count line es = length (answers_in es) + (if line.sent then 1 else 0)

  -- the stop, where the script is over
  abbrev stop_of : ScriptState → List Put
  stop_of line = if line.over then Stops ∷ [] else []

  -- there are as many
  put_within : (line : ScriptState) (k : Kept) (es : List Event) → IsInLine rings keeper script line k es → put_count line es ≤ length (asked_by es)
  put_within line k es l = by_sent line.sent refl line.awaited refl
    where
      by_sent : (b : Bool) → line.sent ≡ b → (o : Option Request) → line.awaited ≡ o → length (answers_in es) + (if b then 1 else 0) ≤ length (asked_by es)
      by_sent false is o waits = let few = among_few rings.told keeper.name keeper.made (answers_in es) (asked_by es) l.answers in omega (arith, few)
      by_sent true is None waits = absurd (let e : false ≡ true = ap is_some (sym waits) ∙ l.sent is in cc)
      by_sent true is (Some r) waits = let within = slice_get_within (asked_by es) (length (answers_in es)) r (l.next r waits) in omega (arith, within)

  -- the hall's next request waits
  asked : (line : ScriptState) (request : Option Request) (k k' : Kept) (es : List Event) → line.awaited ≡ None → HandsOut k request k' → IsInLine rings keeper script line k es → IsInLine rings keeper script (record line { awaited = request }) k' es
  asked line request k k' es free h l = record {
    name = l.name;
    last = l.last;
    answers = l.answers;
    children = l.children;
    says = λ lives later. h.says later ∙ l.says (subst IsTrue h.lives lives) later;
    handed = counted request h.counted;
    next = λ r is. by_life k.lives refl r is;
    sent = λ s. absurd (let e : false ≡ true = ap is_some (sym free) ∙ l.sent s in cc);
    asked = l.asked;
    over = λ o lives. l.over o (subst IsTrue h.lives lives);
  }
    where
      before : k.handed ≡ length (answers_in es)
      before = l.handed ∙ ap (λ (o : Option Request). length (answers_in es) + (if is_some o then 1 else 0)) free ∙ (let none : length (answers_in es) + 0 ≡ length (answers_in es) = omega arith in none)

      counted : (o : Option Request) → k'.handed ≡ (if is_some o then k.handed + 1 else k.handed) → k'.handed ≡ length (answers_in es) + (if is_some o then 1 else 0)
      counted None e = let b = before in omega (arith, e, b)
      counted (Some r) e = let b = before in omega (arith, e, b)

      by_life : (b : Bool) → k.lives ≡ b → (r : Request) → request ≡ Some r → slice_get (asked_by es) (length (answers_in es)) ≡ Some r
      by_life true lives r is =
          ap (slice_get (asked_by es)) (sym before)
          ∙ ap (λ (es' : List Event). slice_get (asked_by es') k.handed) (sym (append-nil es))
          ∙ ap (λ (x : Report). slice_get x.requests k.handed) (sym (l.says lives []))
          ∙ sym (h.next lives)
          ∙ is
      by_life false spent r is = absurd (let none : ◌≡◌ {A = Option Request} None (Some r) = sym (h.spent spent) ∙ is in cc)

  -- an ending stays
  ended_on : (es more : List Event) → (meaning script.source script.settings es).ending ≢ Waiting → (meaning script.source script.settings (es ++ more)).ending ≢ Waiting
  ended_on es more ended = subst (λ (r : Report). r.ending ≢ Waiting) (sym (ending_stays script.source script.settings es more ended)) ended

  says_on : (k k' : Kept) (es more : List Event) → Took k more k' → (IsTrue k.lives → (later : List Event) → left k later ≡ meaning script.source script.settings (es ++ later)) → IsTrue k'.lives → (later : List Event) → left k' later ≡ meaning script.source script.settings ((es ++ more) ++ later)
  says_on k k' es more t says lives later =
      Took_says more k k' t lives later ∙ says (Took_lives more k k' t lives) (more ++ later) ∙ ap (meaning script.source script.settings) (sym (append_assoc es more later))

  -- events come that answer nothing
  passed : (line : ScriptState) (k k' : Kept) (es more : List Event) → Took k more k' → answers_in more ≡ [] → IsInLine rings keeper script line k es → IsInLine rings keeper script line k' (es ++ more)
  passed line k k' es more t none l = record {
    name = l.name;
    last = l.last ∙ ap (λ (xs : List Answer). keeper.made + length xs) (sym same);
    answers = subst (λ (xs : List Answer). AreAmong rings.told keeper.name keeper.made xs (asked_by (es ++ more))) (sym same)
        (subst (AreAmong rings.told keeper.name keeper.made (answers_in es)) (sym on.asked) (told_more rings.told keeper.name keeper.made (answers_in es) (asked_by es) on.more l.answers));
    children = subst (λ (xs : List Reply). AreOf xs (asked_by (es ++ more))) (sym as_before) (subst (AreOf (replies_in es)) (sym on.asked) (of_more (replies_in es) (asked_by es) on.more l.children));
    says = says_on k k' es more t l.says;
    handed = took_handed more k k' t ∙ l.handed ∙ ap (λ (xs : List Answer). length xs + (if is_some line.awaited then 1 else 0)) (sym same);
    next = λ r is.
        ap (λ (qs : List Request). slice_get qs (length (answers_in (es ++ more)))) on.asked
        ∙ ap (λ (xs : List Answer). slice_get (asked_by es ++ on.more) (length xs)) same
        ∙ still_there (length (answers_in es)) (asked_by es) on.more r (l.next r is);
    sent = l.sent;
    asked = l.asked ∙ ap (λ (qs : List Request). map Asks qs ++ stop_of line) (sym grown);
    over = λ o lives. ended_on es more (l.over o (Took_lives more k k' t lives));
  }
    where
      on : Continues (meaning script.source script.settings es) (meaning script.source script.settings (es ++ more))
      on = only_grows script.source script.settings es more

      same : answers_in (es ++ more) ≡ answers_in es
      same = flat_map-append answer_in es more ∙ ap (λ (xs : List Answer). answers_in es ++ xs) none ∙ append-nil (answers_in es)

      as_before : replies_in (es ++ more) ≡ replies_in es
      as_before = flat_map-append reply_in es more ∙ ap (λ (xs : List Reply). replies_in es ++ xs) (no_replies more none) ∙ append-nil (replies_in es)

      grown : take (put_count line (es ++ more)) (asked_by (es ++ more)) ≡ take (put_count line es) (asked_by es)
      grown =
          ap (λ (xs : List Answer). take (length xs + (if line.sent then 1 else 0)) (asked_by (es ++ more))) same
          ∙ ap (take (put_count line es)) on.asked
          ∙ take-append-le (put_count line es) (asked_by es) on.more (put_within line k es l)

  -- the answer comes that is awaited
  answered : (us : List Telling) → IsWithin rings.told us → (line : ScriptState) (k k' : Kept) (es more : List Event) (r : Request) (a : Answer) → Took k more k' → answers_in more ≡ a ∷ [] → replies_in more ≡ record { child = r.child; answer = a } ∷ [] →
      IsTrue line.sent → line.awaited ≡ Some r → Contains us (record { name = line.name; call = line.last + 1; request = r; answer = a }) →
      IsInLine rings keeper script line k es → IsInLine (record rings { told = us }) keeper script (record line { last = line.last + 1; awaited = None; sent = false }) k' (es ++ more)
  answered us within line k k' es more r a t one reply sent waits is l = record {
    name = l.name;
    last = ap (λ (n : ℕ). n + 1) l.last ∙ (let e : keeper.made + length (answers_in es) + 1 ≡ keeper.made + (length (answers_in es) + 1) = omega arith in e) ∙ ap (λ (n : ℕ). keeper.made + n) (sym longer);
    answers = subst (λ (xs : List Answer). AreAmong us keeper.name keeper.made xs (asked_by (es ++ more))) (sym same)
        (subst (AreAmong us keeper.name keeper.made (answers_in es ++ a ∷ [])) (sym on.asked)
        (told_more us keeper.name keeper.made (answers_in es ++ a ∷ []) (asked_by es) on.more
        (told_last us keeper.name keeper.made (answers_in es) a (asked_by es) r (among_more rings.told us within keeper.name keeper.made (answers_in es) (asked_by es) l.answers) (l.next r waits)
        (subst (λ (n : ℕ). Contains us (record { name = keeper.name; call = n + 1; request = r; answer = a })) l.last (subst (λ (n : ℕ). Contains us (record { name = n; call = line.last + 1; request = r; answer = a })) l.name is)))));
    children = subst (λ (xs : List Reply). AreOf xs (asked_by (es ++ more))) (sym one_more) (subst (AreOf (replies_in es ++ record { child = r.child; answer = a } ∷ [])) (sym on.asked)
        (of_more (replies_in es ++ record { child = r.child; answer = a } ∷ []) (asked_by es) on.more
        (of_last (replies_in es) (record { child = r.child; answer = a }) (asked_by es) r l.children (ap (slice_get (asked_by es)) (replies_counted es) ∙ l.next r waits) refl)));
    says = says_on k k' es more t l.says;
    handed = took_handed more k k' t ∙ l.handed ∙ ap (λ (o : Option Request). length (answers_in es) + (if is_some o then 1 else 0)) waits ∙ (let n : ℕ = length (answers_in es) in let e : n + 1 ≡ n + 1 + 0 = omega arith in e) ∙ ap (λ (n : ℕ). n + 0) (sym longer);
    next = λ q none. absurd (let e : ◌≡◌ {A = Option Request} None (Some q) = none in cc);
    sent = λ s. absurd (let e : false ≡ true = s in cc);
    asked = l.asked ∙ ap (λ (qs : List Request). map Asks qs ++ stop_of line) (sym grown);
    over = λ o lives. ended_on es more (l.over o (Took_lives more k k' t lives));
  }
    where
      on : Continues (meaning script.source script.settings es) (meaning script.source script.settings (es ++ more))
      on = only_grows script.source script.settings es more

      same : answers_in (es ++ more) ≡ answers_in es ++ a ∷ []
      same = flat_map-append answer_in es more ∙ ap (λ (xs : List Answer). answers_in es ++ xs) one

      snoc : (xs : List Answer) → length (xs ++ a ∷ []) ≡ length xs + 1
      snoc [] = refl
      snoc (x ∷ xs) = let e = snoc xs in omega (arith, e)

      longer : length (answers_in (es ++ more)) ≡ length (answers_in es) + 1
      longer = ap length same ∙ snoc (answers_in es)

      one_more : replies_in (es ++ more) ≡ replies_in es ++ record { child = r.child; answer = a } ∷ []
      one_more = flat_map-append reply_in es more ∙ ap (λ (xs : List Reply). replies_in es ++ xs) reply

      as_many : length (answers_in (es ++ more)) + 0 ≡ put_count line es
      as_many = (let n = longer in let e : length (answers_in (es ++ more)) + 0 ≡ length (answers_in es) + 1 = omega (arith, n) in e) ∙ ap (λ (b : Bool). length (answers_in es) + (if b then 1 else 0)) (sym sent)

      grown : take (length (answers_in (es ++ more)) + 0) (asked_by (es ++ more)) ≡ take (put_count line es) (asked_by es)
      grown = ap (λ (n : ℕ). take n (asked_by (es ++ more))) as_many ∙ ap (take (put_count line es)) on.asked ∙ take-append-le (put_count line es) (asked_by es) on.more (put_within line k es l)

  pub asked_line : (at : ℕ) (line : ScriptState) (request : Option Request) (old new : Book) → at < length old.hall → line.awaited ≡ None → Requested (at + 1) old.hall request new.hall → logged new ≡ logged old →
      InLine rings keeper script at line old → InLine rings keeper script at (record line { awaited = request }) new
  asked_line at line request old new lt free req log (k, here, l) =
      let h = handed_at at request old.hall new.hall lt req in
      let is : h.0 ≡ k = one_there h.0 k (sym h.2 ∙ here) in (
        h.1,
        ap (λ (ks : List Kept). slice_get ks at) h.4 ∙ set_here at old.hall k h.1 here,
        subst (λ (es : List HallEvent). IsInLine rings keeper script (record line { awaited = request }) h.1 (own (at + 1) es)) (sym log)
            (asked line request k h.1 (own (at + 1) (logged old)) free (subst (λ (x : Kept). HandsOut x request h.1) is h.3) l),
      )

  number : (at : ℕ) → 1 + at ≡ at + 1
  number at = omega arith

  pub passed_line : (at : ℕ) (line : ScriptState) (e : HallEvent) (old new : Book) → AllTook 1 (e ∷ []) old.hall new.hall → logged new ≡ logged old ++ e ∷ [] → answers_in (own (at + 1) (e ∷ [])) ≡ [] →
      InLine rings keeper script at line old → InLine rings keeper script at line new
  passed_line at line e old new t log none (k, here, l) =
      let w = took_at 1 at (e ∷ []) old.hall new.hall k t here in
      let took : Took k (own (at + 1) (e ∷ [])) w.0 = subst (λ (n : ℕ). Took k (own n (e ∷ [])) w.0) (number at) w.2 in
      (w.0, w.1, subst (IsInLine rings keeper script line w.0) (sym (ap (own (at + 1)) log ∙ own-append (at + 1) (logged old) (e ∷ []))) (passed line k w.0 (own (at + 1) (logged old)) (own (at + 1) (e ∷ [])) took none l))

  pub answered_line : (us : List Telling) → IsWithin rings.told us → (at : ℕ) (line : ScriptState) (e : HallEvent) (old new : Book) (r : Request) (a : Answer) → AllTook 1 (e ∷ []) old.hall new.hall → logged new ≡ logged old ++ e ∷ [] → answers_in (own (at + 1) (e ∷ [])) ≡ a ∷ [] →
      replies_in (own (at + 1) (e ∷ [])) ≡ record { child = r.child; answer = a } ∷ [] → IsTrue line.sent → line.awaited ≡ Some r → Contains us (record { name = line.name; call = line.last + 1; request = r; answer = a }) →
      InLine rings keeper script at line old → InLine (record rings { told = us }) keeper script at (record line { last = line.last + 1; awaited = None; sent = false }) new
  answered_line us within at line e old new r a t log one reply sent waits is (k, here, l) =
      let w = took_at 1 at (e ∷ []) old.hall new.hall k t here in
      let took : Took k (own (at + 1) (e ∷ [])) w.0 = subst (λ (n : ℕ). Took k (own n (e ∷ [])) w.0) (number at) w.2 in (
        w.0,
        w.1,
        subst (IsInLine (record rings { told = us }) keeper script (record line { last = line.last + 1; awaited = None; sent = false }) w.0) (sym (ap (own (at + 1)) log ∙ own-append (at + 1) (logged old) (e ∷ [])))
            (answered us within line k w.0 (own (at + 1) (logged old)) (own (at + 1) (e ∷ [])) r a took one reply sent waits is l),
      )

  -- what is known to have been told may be more than before
  pub more_told : (us : List Telling) → IsWithin rings.told us → (at : ℕ) (line : ScriptState) (book : Book) → InLine rings keeper script at line book → InLine (record rings { told = us }) keeper script at line book
  more_told us within at line book (k, here, l) = (
    k,
    here,
    record {
      name = l.name;
      last = l.last;
      answers = among_more rings.told us within keeper.name keeper.made (answers_in (own (at + 1) (logged book))) (asked_by (own (at + 1) (logged book))) l.answers;
      children = l.children;
      says = l.says;
      handed = l.handed;
      next = l.next;
      sent = l.sent;
      asked = l.asked;
      over = l.over;
    },
  )

  -- the request that waits is put to the hand
  pub sent_line : (at : ℕ) (line : ScriptState) (r : Request) (book : Book) → line.over ≡ false → line.sent ≡ false → line.awaited ≡ Some r → InLine rings keeper script at line book → InLine (asking rings (Asks r ∷ [])) keeper script at (record line { sent = true }) book
  sent_line at line r book open_still unsent waits (k, here, l) = (
    k,
    here,
    record {
      name = l.name;
      last = l.last;
      answers = l.answers;
      children = l.children;
      says = l.says;
      handed = l.handed;
      next = l.next;
      sent = λ s. ap is_some waits;
      asked =
          ap (λ (ps : List Put). ps ++ Asks r ∷ []) was
          ∙ sym (map_one (take count asks) r)
          ∙ ap (map Asks) (sym (take_one count asks r (l.next r waits)))
          ∙ ap (λ (n : ℕ). map Asks (take n asks)) (let e : suc count ≡ count + 1 = omega arith in e)
          ∙ sym (append-nil (map Asks (take (count + 1) asks)))
          ∙ ap (λ (b : Bool). map Asks (take (count + 1) asks) ++ (if b then Stops ∷ [] else [])) (sym open_still);
      over = l.over;
    },
  )
    where
      asks : List Request
      asks = asked_by (own (at + 1) (logged book))

      count : ℕ
      count = length (answers_in (own (at + 1) (logged book)))

      was : rings.asked ≡ map Asks (take count asks)
      was =
          l.asked
          ∙ ap (λ (b : Bool). map Asks (take (count + (if b then 1 else 0)) asks) ++ stop_of line) unsent
          ∙ ap (λ (b : Bool). map Asks (take (count + 0) asks) ++ (if b then Stops ∷ [] else [])) open_still
          ∙ append-nil (map Asks (take (count + 0) asks))
          ∙ ap (λ (n : ℕ). map Asks (take n asks)) (let e : count + 0 ≡ count = omega arith in e)

  -- the session of a script has an ending
  pub ended_line : (at : ℕ) (line : ScriptState) (book : Book) → line.over ≡ false → ((k : Kept) → slice_get book.hall at ≡ Some k → IsTrue k.lives → (left k []).ending ≢ Waiting) →
      InLine rings keeper script at line book → InLine (asking rings (Stops ∷ [])) keeper script at (record line { over = true }) book
  ended_line at line book open_still ended (k, here, l) = (
    k,
    here,
    record {
      name = l.name;
      last = l.last;
      answers = l.answers;
      children = l.children;
      says = l.says;
      handed = l.handed;
      next = l.next;
      sent = l.sent;
      asked = ap (λ (ps : List Put). ps ++ Stops ∷ []) (l.asked ∙ ap (λ (b : Bool). asks ++ (if b then Stops ∷ [] else [])) open_still ∙ append-nil asks);
      over = λ o lives. subst (λ (r : Report). r.ending ≢ Waiting) (l.says lives [] ∙ ap (meaning script.source script.settings) (append-nil (own (at + 1) (logged book)))) (ended k here lives);
    },
  )
    where
      asks : List Put
      asks = map Asks (take (put_count line (own (at + 1) (logged book))) (asked_by (own (at + 1) (logged book))))

  -- the request that waits names a child from 1 to 16, so a hall takes its answer
  pub never_refused : (at : ℕ) (line : ScriptState) (book : Book) (r : Request) (a : Answer) (e : HallEvent) → e ≡ answer_at at r.child book.stamp a → book.stamp ≤ 9000000000000000 → line.awaited ≡ Some r → InLine rings keeper script at line book →
      refusal_of (length book.hall) e ≢ None → ⊥
  never_refused at line book r a e is early waits (k, here, l) refused =
      let es = own (at + 1) (logged book) in
      let names = all_there (asked_by es) (length (answers_in es)) r (all_name_a_child script.source script.settings es) (l.next r waits) in
      refused (ap (refusal_of (length book.hall)) is ∙ answer_taken (length book.hall) at r.child book.stamp a (slice_get_within book.hall at k here) names.0 names.1 early)

  -- and at the end
  pub means : (at : ℕ) (line : ScriptState) (book : Book) (k : Kept) (r : Report) → slice_get book.hall at ≡ Some k → Reports k r → InLine rings keeper script at line book → Means script line (own (at + 1) (logged book)) r
  means at line book x r there reports (k, here, l) = by_life k.lives refl
    where
      es : List Event
      es = own (at + 1) (logged book)

      mine : Reports k r
      mine = subst (λ (z : Kept). Reports z r) (one_there x k (sym there ∙ here)) reports

      or_memory : IsTrue k.lives → (r ≡ left k []) ⊎ (r ≡ memory_report) → Means script line es r
      or_memory lives (inl said) =
          let is = said ∙ l.says lives [] ∙ ap (meaning script.source script.settings) (append-nil es) in
          inl (is, λ o. subst (λ (z : Report). z.ending ≢ Waiting) (sym is) (l.over o lives))
      or_memory lives (inr none) = inr none

      by_life : (b : Bool) → k.lives ≡ b → Means script line es r
      by_life true lives = or_memory lives (mine.lives lives)
      by_life false spent = inr (mine.spent spent)

pub passes_all : (e : HallEvent) (took : Bool) (old new : Book) → Enters e took old new → PassesAll e old new
passes_all e true old new t rings keeper script at line none l = passed_line rings keeper script at line e old new t.1 t.2 none l
passes_all e false old new t rings keeper script at line none l = subst (InLine rings keeper script at line) (sym t.0) l

-- at the start
pub first_line : (name calls at : ℕ) (script : Script) (k : Kept) (book : Book) → slice_get book.hall at ≡ Some k → logged book ≡ [] → Begins script k → InLine no_rings (record { name = name; made = calls }) script at (record { name = name; last = calls; awaited = None; sent = false; over = false }) book
first_line name calls at script k book here empty b = (
  k,
  here,
  subst (λ (es : List HallEvent). IsInLine no_rings (record { name = name; made = calls }) script (record { name = name; last = calls; awaited = None; sent = false; over = false }) k (own (at + 1) es)) (sym empty) (record {
    name = refl;
    last = (let e : calls ≡ calls + 0 = omega arith in e);
    answers = tt;
    children = tt;
    says = b.says;
    handed = b.handed ∙ (let e : 0 ≡ 0 + 0 = omega arith in e);
    next = λ r none. absurd (let e : ◌≡◌ {A = Option Request} None (Some r) = none in cc);
    sent = λ s. absurd (let e : false ≡ true = s in cc);
    asked = refl;
    over = λ o lives. absurd (let e : false ≡ true = o in cc);
  }),
)

-- the session whose report stands at a place
reported_at : (i : ℕ) (ks : List Kept) (rs : List Report) (r : Report) → AllReport ks rs → slice_get rs i ≡ Some r → (k : Kept) × (slice_get ks i ≡ Some k) × Reports k r
reported_at i [] [] r all got = absurd (nothing_there r got)
reported_at i [] (x ∷ rs) r all got = absurd all
reported_at i (k ∷ ks) [] r all got = absurd all
reported_at zero (k ∷ ks) (x ∷ rs) r all got = (k, refl, subst (λ (z : Report). Reports k z) (one_there x r got) all.0)
reported_at (suc i) (k ∷ ks) (x ∷ rs) r all got = reported_at i ks rs r all.1 got

pub all_shown : (book : Book) (reports : List Report) → AllReport book.hall reports → AllShown book reports
all_shown book rs all = record {
  count = sym (Paired-length Reports book.hall rs all);
  each = λ at r got rings keeper script line l. let k = reported_at at book.hall rs r all got in means rings keeper script at line book k.0 r k.1 k.2 l;
}
