-- What a worker has served, from what its desk keeps.
use Rattle.std.proofs.Common.{◌≡◌, ◌≢◌, ◌⊎◌, inl, inr, ℕ, zero, suc, ◌+◌, ◌-◌, ◌*◌, ◌≤◌, ◌<◌, List, [], ◌∷◌, length, map, Bool, true, false, ◌&&◌, Option, None, Some, refl, sym, ap, subst, ◌∙◌, arith}
use Rattle.std.specs.Prelude.{slice_get, Contains, nat_le, IsTrue, if◌then◌else◌}
use Rattle.child_events.specs.declared.child_numbers.ChildNumbers.TheVariants.{To16}
use Rattle.child_events.specs.declared.event.Answer.{Answer}
use Rattle.child_events.specs.declared.event.What.{What}
use Rattle.child_events.specs.declared.event.What.TheVariants as what
use Rattle.child_events.specs.declared.event.Event.{Event}
use Rattle.child_events.specs.declared.event.HallEvent.{HallEvent}
use Rattle.child_events.specs.declared.event.HallEvent.TheVariants as hall
use Rattle.child_events.specs.World.{own}
use Rattle.child_events.specs.Log.{AllFit, fits, piece_len}
use Rattle.tcl_host.specs.declared.ending.Ending.{Ending}
use Rattle.tcl_host.specs.declared.ending.Ending.TheVariants.{Exit, Error, StepLimit, TimeLimit, Memory, Waiting}
use Rattle.expect_core.specs.declared.request.Request.{Request}
use Rattle.session.specs.declared.report.Report.{Report}
use Rattle.session.specs.Left.{Kept}
use Rattle.session.specs.Meaning.{meaning}
use Rattle.session.specs.Spent.{memory_report}
use Rattle.dialogue_sched.specs.declared.script.Script.{Script}
use Rattle.dialogue_sched.specs.declared.refusal.HallRefusal.{HallRefusal}
use Rattle.dialogue_sched.specs.declared.refusal.HallRefusal.TheVariants.{MomentTooLarge}
use Rattle.dialogue_sched.specs.Refusal.{refusal_of, piece_len as taken_len}
use Rattle.dialogue_sched.specs.Hall.{Begins, AllBegin}
use Rattle.dialogue_sched.specs.Ticks.{WithTicks, none as no_more, kept as kept_one}
use Rattle.child_desk.specs.declared.book.Book.{Book}
use Rattle.child_desk.specs.declared.line.ScriptState.{ScriptState}
use Rattle.child_desk.specs.Book.{AllTaken, AllUntil, IsRecord, logged, ring_log}
use Rattle.child_hands.specs.Record.{Ascends, ItemsAscendFrom}
use Rattle.run_records.specs.Merged.{AllNumbered}
use Rattle.run_records.proofs.Handing.{items_events}
use Rattle.child_desk.proofs.Kept.{until_later}
use Rattle.child_desk.specs.Heard.{recorded}
use Rattle.std.specs.declared.io.traits.Read.{Ghosts as ReadGhosts}
use Rattle.child_hands.specs.declared.keeper.Keeper.{Ghosts}
use Rattle.child_hands.specs.declared.items.RingItem.{RingItem}
use Rattle.feed_rings.specs.Ends.{put_items, taken_items}
use Rattle.child_desk.specs.declared.ends.Ends.{Ends}
use Rattle.child_desk.specs.Told.{Put, no_rings, AreAmong, answers_in, all_told, heard_of_hand, asked_of_hand, rings_of}
use Rattle.child_desk.specs.Line.{Keeping, InLine, Means, KeepsAll, AllOver, AllShown}
use Rattle.child_desk.proofs.Places.{one_there}
use Rattle.child_desk.proofs.Lining.{first_line}
use Rattle.child_serve.specs.declared.served.WorkerResult.{WorkerResult}
use Rattle.child_serve.specs.declared.worker.Team.{Team}
use Rattle.run_records.specs.Joined.{script_of, numbered}
use Rattle.child_serve.specs.Given.{IsGiven}
use Rattle.child_serve.specs.Served.{Tells, IsServed}
use Rattle.child_serve.specs.Whole.{keeping_of}
use Rattle.child_serve.specs.Teams.{AreFirst, IsTeam, IsWork}
use Rattle.child_serve.proofs.Giving.{among_told}
use Rattle.child_serve.proofs.Wholes.{mapped, unmapped, map_length}
use Rattle.child_serve.proofs.Accepting.{le_true, Limits, limits, taken_accepted, accepted_none}

-- an entry that a hall takes is within the limits

same_len : (w : What) → taken_len w ≡ piece_len w
same_len (what.Out piece) = refl
same_len what.Eof = refl
same_len (what.ReadFail cause) = refl
same_len (what.Answer a) = refl

six_true : (a b c d e f : Bool) → a ≡ true → b ≡ true → c ≡ true → d ≡ true → e ≡ true → f ≡ true → (a && b && c && d && e && f) ≡ true
six_true true true true true true true ha hb hc hd he hf = refl
six_true true true true true true false ha hb hc hd he hf = absurd (cc)
six_true true true true true false f ha hb hc hd he hf = absurd (cc)
six_true true true true false e f ha hb hc hd he hf = absurd (cc)
six_true true true false d e f ha hb hc hd he hf = absurd (cc)
six_true true false c d e f ha hb hc hd he hf = absurd (cc)
six_true false b c d e f ha hb hc hd he hf = absurd (cc)

-- under another number, too
child_fits : (scripts s c m n : ℕ) (w : What) → Limits scripts s c m w → 1 ≤ n → n ≤ 64 → IsTrue (fits To16 (hall.Child n c m w))
child_fits scripts s c m n w l low high =
    six_true (nat_le 1 n) (nat_le n 64) (nat_le 1 c) (nat_le c 16) (nat_le m 9000000000000000) (nat_le (piece_len w) 4096)
    (le_true 1 n low) (le_true n 64 high) (le_true 1 c l.child_low) (le_true c 16 l.child_high) (le_true m 9000000000000000 l.moment_high)
    (le_true (piece_len w) 4096 (subst (λ (k : ℕ). k ≤ 4096) (same_len w) l.few))

tick_fits : (scripts m : ℕ) → refusal_of scripts (hall.Tick m) ≡ None → IsTrue (fits To16 (hall.Tick m))
tick_fits scripts m h = by_test (nat_le m 9000000000000000) refl h
  where
    by_test : (t : Bool) → nat_le m 9000000000000000 ≡ t → ◌≡◌ {A = Option HallRefusal} (if t then None else Some MomentTooLarge) None → nat_le m 9000000000000000 ≡ true
    by_test true e h = e
    by_test false e h = absurd (cc)

all_fit : (scripts last : ℕ) (es : List HallEvent) → scripts ≤ 64 → AllTaken scripts last es → AllFit To16 es
all_fit scripts last [] few t = tt
all_fit scripts last (hall.Child s c m w ∷ es) few t =
    let l = limits scripts s c m w t.0.0 in
    (child_fits scripts s c m s w l l.script_low (let h = l.script_high in omega (arith, h, few)), all_fit scripts last es few t.1)
all_fit scripts last (hall.Tick m ∷ es) few t = (tick_fits scripts m t.0.0, all_fit scripts last es few t.1)

all_among : (n w scripts last : ℕ) (es : List HallEvent) → ((number : ℕ) → 1 ≤ number → number ≤ scripts → script_of n w number ≤ 64) → AllTaken scripts last es → AllFit To16 (map (numbered n w) es)
all_among n w scripts last [] numbers t = tt
all_among n w scripts last (hall.Child s c m x ∷ es) numbers t =
    let l = limits scripts s c m x t.0.0 in
    (child_fits scripts s c m (script_of n w s) x l (let low : 1 ≤ (s - 1) * n + w + 1 = omega arith in low) (numbers s l.script_low l.script_high), all_among n w scripts last es numbers t.1)
all_among n w scripts last (hall.Tick m ∷ es) numbers t = (tick_fits scripts m t.0.0, all_among n w scripts last es numbers t.1)

all_numbered : (n w scripts last : ℕ) (es : List HallEvent) → ((number : ℕ) → 1 ≤ number → number ≤ scripts → script_of n w number ≤ 64) → AllTaken scripts last es → AllNumbered n w es
all_numbered n w scripts last [] numbers t = tt
all_numbered n w scripts last (hall.Child s c m x ∷ es) numbers t =
    let l = limits scripts s c m x t.0.0 in
    let few = numbers s l.script_low l.script_high in
    (omega (arith, few), all_numbered n w scripts last es numbers t.1)
all_numbered n w scripts last (hall.Tick m ∷ es) numbers t = (tt, all_numbered n w scripts last es numbers t.1)

-- scripts to which nothing has happened

begun_at : (scripts : List Script) (ks : List Kept) (i : ℕ) (script : Script) → AllBegin scripts ks → slice_get scripts i ≡ Some script → (k : Kept) × (slice_get ks i ≡ Some k) × Begins script k
begun_at [] ks i script b got = absurd (let none : ◌≡◌ {A = Option Script} None (Some script) = got in cc)
begun_at (x ∷ scripts) [] i script b got = absurd b
begun_at (x ∷ scripts) (k ∷ ks) zero script b got = let is : x ≡ script = cc in (k, refl, subst (λ (s : Script). Begins s k) is b.0)
begun_at (x ∷ scripts) (k ∷ ks) (suc i) script b got = begun_at scripts ks i script b.1 got

pub begun_length : (scripts : List Script) (ks : List Kept) → AllBegin scripts ks → length ks ≡ length scripts
begun_length [] [] b = refl
begun_length [] (k ∷ ks) b = absurd b
begun_length (x ∷ scripts) [] b = absurd b
begun_length (x ∷ scripts) (k ∷ ks) b = ap suc (begun_length scripts ks b.1)

abbrev pub line_of : {K : Type 0} → (K → ℕ) → (K → ℕ) → K → ScriptState
line_of named made k = record { name = named k; last = made k; awaited = None; sent = false; over = false }

pub first_length : {K : Type 0} (named made : K → ℕ) (keepers : List K) (lines : List ScriptState) → AreFirst named made keepers lines → length lines ≡ length keepers
first_length named made keepers lines are = ap length are ∙ map_length (line_of named made) keepers

-- an ending is `Waiting` or another
waits : (e : Ending) → (e ≡ Waiting) ⊎ (e ≢ Waiting)
waits (Exit n) = inr (λ h. cc)
waits Error = inr (λ h. cc)
waits StepLimit = inr (λ h. cc)
waits TimeLimit = inr (λ h. cc)
waits Memory = inr (λ h. cc)
waits Waiting = inl refl

-- no tick is put in
all_kept : (es : List Event) → WithTicks es es
all_kept [] = no_more
all_kept (e ∷ es) = kept_one e es es (all_kept es)

-- The lines and the hall at the start, what turning left of them, what was taken behind that, the reports, and what the record has of each child.
module _ {K C O : Type 0} {g : Ghosts K O} {r : ReadGhosts O} (n w : ℕ) (team : Team K C) (first lines : List ScriptState) (opened between ends : List (Ends K O g r)) (begun turned settled : Book) (s : WorkerResult)
    (is : IsTeam n w team)
    (are : AreFirst g.named g.made team.keepers.items first) (begin : AllBegin team.scripts.items begun.hall) (empty : logged begun ≡ []) (good : IsRecord begun)
    (unheard : (i : ℕ) (keeper : K) → slice_get team.keepers.items i ≡ Some keeper → (e : Ends K O g r) × (slice_get opened i ≡ Some e) × (taken_items e.answers ≡ []) × (asked_of_hand e ≡ []))
    (kept : KeepsAll first opened begun lines between turned) (over : s.served.stopped ≡ false → AllOver lines)
    (left : KeepsAll lines between turned lines ends settled)
    (shown : AllShown settled s.served.reports) (put : s.log ≡ settled.log)
    (given : (i index : ℕ) (keeper : K) (e : Ends K O g r) (xs : List Answer) (qs : List Request) → slice_get team.keepers.items i ≡ Some keeper → slice_get ends i ≡ Some e → AreAmong (heard_of_hand e.answers) (g.named keeper) (g.made keeper) xs qs →
    index < 16 → (Contains s.served.unsettled.items (record { script = script_of n w (i + 1); child = index + 1 }) → ⊥) →
    IsGiven g.told g.gives (g.named keeper) (g.made keeper) (index + 1) xs qs (recorded (i + 1) (index + 1) (logged settled))) where
  is_stopped : (b : Bool) → s.served.stopped ≡ b → (s.served.stopped ≡ false) ⊎ IsTrue s.served.stopped
  is_stopped true e = inr e
  is_stopped false e = inl e

  ended_by : (i : ℕ) (script : Script) (line : ScriptState) (es : List Event) (report : Report) → slice_get lines i ≡ Some line → Means script line es report → Tells script report s.served.stopped es
  ended_by i script line es report got (inr memory) = inr (inl memory)
  ended_by i script line es report got (inl (same, ends)) = by_end (waits report.ending) (is_stopped s.served.stopped refl)
    where
      by_end : (report.ending ≡ Waiting) ⊎ (report.ending ≢ Waiting) → (s.served.stopped ≡ false) ⊎ IsTrue s.served.stopped → Tells script report s.served.stopped es
      by_end (inr ended) stop = inl (same, ended)
      by_end (inl waiting) (inr stopped) = inr (inr (stopped, waiting, (es, all_kept es, same)))
      by_end (inl waiting) (inl running) = absurd (ends (over running i line got) waiting)

  of_one : (i : ℕ) (keeper : Keeping) (script : Script) (report : Report) → slice_get (map (keeping_of g.named g.made) team.keepers.items) i ≡ Some keeper → slice_get team.scripts.items i ≡ Some script → slice_get s.served.reports i ≡ Some report →
      IsServed g.told g.gives (script_of n w (i + 1)) keeper script report s.served.unsettled.items s.served.stopped (own (i + 1) (ring_log s.log))
  of_one i keeper script report got_keeper got_script got_report =
      subst (λ (es : List HallEvent). IsServed g.told g.gives (script_of n w (i + 1)) keeper script report s.served.unsettled.items s.served.stopped (own (i + 1) es)) (sym (ap ring_log put)) (record {
        ended = ended_by i script line.0 (own (i + 1) (logged settled)) report line.2 (shown.each i report got_report (rings_of last.0) keeper script line.0 last.2);
        answers = among_told (taken_items last.0.answers) keeper.name keeper.made (answers_in (own (i + 1) (logged settled))) asked last.2.2.answers;
        children = last.2.2.children;
        given = given_one;
      })
    where
      k : (x : K) × (slice_get team.keepers.items i ≡ Some x) × (keeping_of g.named g.made x ≡ keeper)
      k = unmapped (keeping_of g.named g.made) team.keepers.items i keeper got_keeper

      asked : List Request
      asked = (meaning script.source script.settings (own (i + 1) (logged settled))).requests

      b : (x : Kept) × (slice_get begun.hall i ≡ Some x) × Begins script x
      b = begun_at team.scripts.items begun.hall i script begin got_script

      start : InLine no_rings keeper script i (line_of g.named g.made k.0) begun
      start = subst (λ (x : Keeping). InLine no_rings x script i (line_of g.named g.made k.0) begun) k.2 (first_line (g.named k.0) (g.made k.0) i script b.0 begun b.1 empty b.2)

      e : (x : Ends K O g r) × (slice_get opened i ≡ Some x) × (taken_items x.answers ≡ []) × (asked_of_hand x ≡ [])
      e = unheard i k.0 k.1

      line : (x : ScriptState) × (y : Ends K O g r) × (slice_get lines i ≡ Some x) × (slice_get between i ≡ Some y) × InLine (rings_of y) keeper script i x turned
      line = kept.each keeper script i (line_of g.named g.made k.0) e.0 (ap (λ (l : List ScriptState). slice_get l i) are ∙ mapped (line_of g.named g.made) team.keepers.items i k.0 k.1) e.1
          (subst (λ (xs : List (RingItem K O g r)). InLine (record { told = all_told xs; asked = asked_of_hand e.0 }) keeper script i (line_of g.named g.made k.0) begun) (sym e.2)
          (subst (λ (ps : List Put). InLine (record { told = []; asked = ps }) keeper script i (line_of g.named g.made k.0) begun) (sym e.3) start))

      -- where the script is at the end
      last : (y : Ends K O g r) × (slice_get ends i ≡ Some y) × InLine (rings_of y) keeper script i line.0 settled
      last =
          let p = left.each keeper script i line.0 line.1 line.2 line.3 line.4 in
          (p.1, p.3, subst (λ (l : ScriptState). InLine (rings_of p.1) keeper script i l settled) (one_there p.0 line.0 (sym p.2 ∙ line.2)) p.4)

      given_one : (child : ℕ) → 1 ≤ child → child ≤ 16 → (Contains s.served.unsettled.items (record { script = script_of n w (i + 1); child = child }) → ⊥) →
          IsGiven g.told g.gives keeper.name keeper.made child (answers_in (own (i + 1) (logged settled))) asked (recorded (i + 1) child (logged settled))
      given_one child low high apart =
          let back : child - 1 + 1 ≡ child = omega (arith, low) in
          let xs = answers_in (own (i + 1) (logged settled)) in
          let among = subst (λ (x : Keeping). AreAmong (heard_of_hand last.0.answers) x.name x.made xs asked) (sym k.2) last.2.2.answers in
          subst (λ (c : ℕ). IsGiven g.told g.gives keeper.name keeper.made c xs asked (recorded (i + 1) c (logged settled))) back
          (subst (λ (x : Keeping). IsGiven g.told g.gives x.name x.made (child - 1 + 1) xs asked (recorded (i + 1) (child - 1 + 1) (logged settled))) k.2
          (given i (child - 1) k.0 last.0 xs asked k.1 last.1 among (omega (arith, low, high)) (λ listed. apart (subst (λ (c : ℕ). Contains s.served.unsettled.items (record { script = script_of n w (i + 1); child = c })) back listed))))

  in_record : IsRecord settled
  in_record = left.book (kept.book good)

  as_many : length settled.hall ≡ length team.scripts.items
  as_many = left.halls ∙ kept.halls ∙ begun_length team.scripts.items begun.hall begin

  taken : AllTaken (length team.scripts.items) settled.stamp (ring_log s.log)
  taken = subst (AllTaken (length team.scripts.items) settled.stamp) (sym (ap ring_log put)) (subst (λ (k : ℕ). AllTaken k settled.stamp (logged settled)) as_many in_record.taken)

  pub is_work : IsWork g.told g.gives g.named g.made n w team s
  is_work = record {
    served = record {
      count = shown.count ∙ as_many;
      each = of_one;
    };
    fits = record {
      ascends = subst Ascends (sym (ap ring_log put)) (items_events 0 (put_items settled.log) in_record.rises);
      here = all_fit (length team.scripts.items) settled.stamp (ring_log s.log) is.few taken;
      among = all_among n w (length team.scripts.items) settled.stamp (ring_log s.log) is.numbers taken;
    };
    sound = record {
      ascends = subst (ItemsAscendFrom 0) (sym (ap put_items put)) in_record.rises;
      until = subst (AllUntil 9000000000000000) (sym (ap put_items put)) (until_later settled.stamp 9000000000000000 (put_items settled.log) settled.within in_record.until);
      numbers = all_numbered n w (length team.scripts.items) settled.stamp (ring_log s.log) is.numbers taken;
    };
    taken = accepted_none (length team.scripts.items) 0 (ring_log s.log) (taken_accepted (length team.scripts.items) settled.stamp (ring_log s.log) taken);
  }
