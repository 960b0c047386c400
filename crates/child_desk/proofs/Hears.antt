-- What is taken from readers' rings is what the record has of them.
use Rattle.std.proofs.Common.{◌≡◌, ◌⊎◌, inl, inr, ℕ, zero, suc, ◌+◌, ◌<◌, ◌≤◌, List, [], ◌∷◌, ◌++◌, length, Bool, true, false, Option, Some, None, refl, sym, ap, subst, ◌∙◌, append_assoc, append-nil, arith}
use Rattle.std.specs.Prelude.{slice_get, slice_set, IfSome, IfNone, nat_lt, nat_le, ◌==◌, ◌&&◌, if◌then◌else◌}
use Rattle.std.proofs.lemmas.Grind.{flat_map-append}
use Rattle.std.proofs.lemmas.Bool.{cases_eq}
use Rattle.std.proofs.lemmas.Bool.Decides.{nat_tests}
use Rattle.std.specs.declared.io.traits.Read.{Ghosts as ReadGhosts}
use Rattle.child_events.specs.declared.event.Answer.{Answer}
use Rattle.child_events.specs.declared.event.What.{What}
use Rattle.child_events.specs.declared.event.What.TheVariants as what
use Rattle.child_events.specs.declared.event.Event.TheVariants as event
use Rattle.child_events.specs.declared.event.HallEvent.{HallEvent}
use Rattle.child_events.specs.declared.event.HallEvent.TheVariants as hall
use Rattle.child_events.specs.World.{own, after_own}
use Rattle.child_events.proofs.Worlds.{own-append}
use Rattle.child_hands.specs.declared.items.RingItem.{RingItem}
use Rattle.child_hands.specs.declared.keeper.Keeper.{Ghosts}
use Rattle.feed_rings.specs.Ends.{taken_items, seen_items, all_put, SameOut}
use Rattle.feed_rings.specs.declared.feed.Finished.{Finished}
use Rattle.feed_rings.specs.declared.feed.FeedOut.{FeedOut}
use Rattle.child_desk.specs.Ends.{IsOutput, output_at}
use Rattle.child_desk.specs.Line.{answer_at}
use Rattle.child_desk.specs.Book.{Enters, logged}
use Rattle.child_desk.specs.declared.book.Book.{Book}
use Rattle.dialogue_sched.specs.Refusal.{refusal_of, piece_len}
use Rattle.child_desk.specs.declared.ends.Ends.{Ends}
use Rattle.child_desk.specs.declared.readers.Readers.{Readers}
use Rattle.child_desk.specs.declared.readers.Taken.{Taken}
use Rattle.child_desk.specs.Heard.{is_output, said_in, said_by, recorded, Unheard, Adds, heard_of, heard, Says, LeavesOneLess, IsLeftOf, SeenAt, TakenAt, TakenIn, TakesAt, IsTaken, HearsAt, HearsMore, HearsOwn, Hears, HearsAll, Settles}
use Rattle.child_desk.proofs.Places.{one_there, set_here, set_there, set_length}

-- an entry adds what it says
recorded_on : (s c : ℕ) (es : List HallEvent) (e : HallEvent) → recorded s c (es ++ e ∷ []) ≡ recorded s c es ++ said_by c (own s (e ∷ []))
recorded_on s c es e = ap (said_by c) (own-append s es (e ∷ [])) ∙ flat_map-append (said_in c) (own s es) (own s (e ∷ []))

same_number : (x : ℕ) → (x == x) ≡ true
same_number x = grind (arith, nat_tests)

number_said : (x y : ℕ) → (x == y) ≡ true → x ≡ y
number_said x y h = grind (arith, nat_tests, h)

entry_said : (c m : ℕ) (w : What) (s n k : ℕ) → said_by k (own n (hall.Child s c m w ∷ [])) ≡ (if s == n then said_by k (event.Child c m w ∷ []) else [])
entry_said c m w s n k = by_script (s == n)
  where
    by_script : (t : Bool) → said_by k (after_own (if t then Some (event.Child c m w) else None) []) ≡ (if t then said_by k (event.Child c m w ∷ []) else [])
    by_script true = refl
    by_script false = refl

said_itself : (c m : ℕ) (w : What) (s : ℕ) → IsOutput w → said_by c (own s (hall.Child s c m w ∷ [])) ≡ w ∷ []
said_itself c m w s out = entry_said c m w s s c ∙ ap (λ (t : Bool). if t then said_by c (event.Child c m w ∷ []) else []) (same_number s) ∙ by_kind w out
  where
    by_kind : (w : What) → IsOutput w → said_by c (event.Child c m w ∷ []) ≡ w ∷ []
    by_kind (what.Out piece) out = ap (λ (t : Bool). (if t && true then what.Out piece ∷ [] else []) ++ []) (same_number c)
    by_kind what.Eof out = ap (λ (t : Bool). (if t && true then what.Eof ∷ [] else []) ++ []) (same_number c)
    by_kind (what.ReadFail cause) out = ap (λ (t : Bool). (if t && true then what.ReadFail cause ∷ [] else []) ++ []) (same_number c)
    by_kind (what.Answer a) out = absurd out

said_apart : (c m : ℕ) (w : What) (s n k : ℕ) → ((n ≡ s) × (k ≡ c) → ⊥) → said_by k (own n (hall.Child s c m w ∷ [])) ≡ []
said_apart c m w s n k apart = entry_said c m w s n k ∙ by_script (s == n) refl
  where
    by_child : (t : Bool) → (c == k) ≡ t → s ≡ n → said_by k (event.Child c m w ∷ []) ≡ []
    by_child true e same = absurd (apart (sym same, sym (number_said c k e)))
    by_child false e same = ap (λ (t : Bool). (if t && is_output w then w ∷ [] else []) ++ []) e

    by_script : (t : Bool) → (s == n) ≡ t → (if t then said_by k (event.Child c m w ∷ []) else []) ≡ []
    by_script true e = by_child (c == k) refl (number_said s n e)
    by_script false e = refl

said_answer : (c m : ℕ) (a : Answer) (s n k : ℕ) → said_by k (own n (hall.Child s c m (what.Answer a) ∷ [])) ≡ []
said_answer c m a s n k = entry_said c m (what.Answer a) s n k ∙ by_script (s == n)
  where
    by_child : (t : Bool) → ◌≡◌ {A = List What} ((if t && false then what.Answer a ∷ [] else []) ++ []) []
    by_child true = refl
    by_child false = refl

    by_script : (t : Bool) → (if t then said_by k (event.Child c m (what.Answer a) ∷ []) else []) ≡ []
    by_script true = by_child (c == k)
    by_script false = refl

pub adds_output : (at child m : ℕ) (w : What) (es es' : List HallEvent) → es' ≡ es ++ output_at at child m w ∷ [] → IsOutput w → Adds (at + 1) child (w ∷ []) es es'
adds_output at child m w es es' is out = record {
  here = ap (recorded (at + 1) child) is ∙ recorded_on (at + 1) child es (output_at at child m w) ∙ ap (λ (l : List What). recorded (at + 1) child es ++ l) (said_itself child m w (at + 1) out);
  others = λ s c apart.
      ap (recorded s c) is ∙ recorded_on s c es (output_at at child m w) ∙ ap (λ (l : List What). recorded s c es ++ l) (said_apart child m w (at + 1) s c apart) ∙ append-nil (recorded s c es);
}

lt_true : (a b : ℕ) → a < b → nat_lt a b ≡ true
lt_true a b h = grind (arith, nat_tests)

le_true : (a b : ℕ) → a ≤ b → nat_le a b ≡ true
le_true a b h = grind (arith, nat_tests)

-- a hall takes what comes from a child of one of its scripts
pub output_taken : (scripts at child m : ℕ) (w : What) → at < scripts → 1 ≤ child → child ≤ 16 → m ≤ 9000000000000000 → piece_len w ≤ 4096 → refusal_of scripts (output_at at child m w) ≡ None
output_taken scripts at child m w within low high early few =
    rw (lt_true 0 (at + 1) (omega arith), le_true (at + 1) scripts (omega arith), lt_true 0 child (omega arith), le_true child 16 high, le_true m 9000000000000000 early, le_true (piece_len w) 4096 few)

pub adds_nothing : (s c : ℕ) (said : List What) (es es' : List HallEvent) → es' ≡ es → said ≡ [] → Adds s c said es es'
adds_nothing s c said es es' same none = record {
  here = ap (recorded s c) same ∙ sym (append-nil (recorded s c es)) ∙ ap (λ (l : List What). recorded s c es ++ l) (sym none);
  others = λ n k apart. ap (recorded n k) same;
}

pub adds_then : (s c : ℕ) (xs ys : List What) (a b d : List HallEvent) → Adds s c xs a b → Adds s c ys b d → Adds s c (xs ++ ys) a d
adds_then s c xs ys a b d f g = record {
  here = g.here ∙ ap (λ (l : List What). l ++ ys) f.here ∙ append_assoc (recorded s c a) xs ys;
  others = λ n k apart. g.others n k apart ∙ f.others n k apart;
}

tick_said : (m s c : ℕ) → said_by c (own s (hall.Tick m ∷ [])) ≡ []
tick_said m s c = refl

entered_unheard : (e : HallEvent) (took : Bool) (old new : Book) → Enters e took old new → ((s c : ℕ) → said_by c (own s (e ∷ [])) ≡ []) → Unheard (logged old) (logged new)
entered_unheard e true old new t none s c =
    ap (recorded s c) t.2 ∙ recorded_on s c (logged old) e ∙ ap (λ (l : List What). recorded s c (logged old) ++ l) (none s c) ∙ append-nil (recorded s c (logged old))
entered_unheard e false old new t none s c = ap (λ (b : Book). recorded s c (logged b)) t.0

pub tick_unheard : (m : ℕ) (took : Bool) (old new : Book) → Enters (hall.Tick m) took old new → Unheard (logged old) (logged new)
tick_unheard m took old new t = entered_unheard (hall.Tick m) took old new t (tick_said m)

pub answer_unheard : (at child m : ℕ) (a : Answer) (e : HallEvent) (took : Bool) (old new : Book) → e ≡ answer_at at child m a → Enters e took old new → Unheard (logged old) (logged new)
answer_unheard at child m a e took old new is t =
    entered_unheard e took old new t (λ s c. ap (λ (x : HallEvent). said_by c (own s (x ∷ []))) is ∙ said_answer child m a (at + 1) s c)

-- what was told of the log beside other changes of a book
pub unheard_on : (a b d : List HallEvent) → b ≡ a → Unheard b d → Unheard a d
unheard_on a b d same silent s c = silent s c ∙ ap (recorded s c) same

module _ {K O : Type 0} {g : Ghosts K O} {r : ReadGhosts O} where
  pub same_out : (a : FeedOut (RingItem K O g r)) → SameOut a a
  same_out a = (refl, refl, refl, refl)

  pub then_out : (a b c : FeedOut (RingItem K O g r)) → SameOut a b → SameOut b c → SameOut a c
  then_out a b c p q = (q.0 ∙ p.0, q.1 ∙ p.1, q.2 ∙ p.2, q.3 ∙ p.3)

  heard_append : (s c : ℕ) (xs ys : List (RingItem K O g r)) → heard s c (xs ++ ys) ≡ heard s c xs ++ heard s c ys
  heard_append s c xs ys = flat_map-append (heard_of s c) xs ys

  pub takes_none : (index : ℕ) (rs : Readers K O g r) → TakesAt index rs rs []
  takes_none index rs = record {
    here = λ out got. (out, got, same_out out, sym (append-nil (taken_items out)));
    others = λ i other. refl;
    count = refl;
    number = refl;
  }

  pub takes_set : (index : ℕ) (rs rs' : Readers K O g r) (out out' : FeedOut (RingItem K O g r)) (more : List (RingItem K O g r)) → slice_get rs.outs.items index ≡ Some out →
      rs'.outs.items ≡ slice_set rs.outs.items index out' → rs'.script ≡ rs.script → SameOut out out' → taken_items out' ≡ taken_items out ++ more → TakesAt index rs rs' more
  takes_set index rs rs' out out' more here is number ring taken = record {
    here = λ o got.
        let one : out ≡ o = one_there out o (sym here ∙ got) in
        let F : FeedOut (RingItem K O g r) → Type 0 = λ k. SameOut k out' × (taken_items out' ≡ taken_items k ++ more) in
        let f = subst F one (ring, taken) in
        (out', ap (λ (l : List (FeedOut (RingItem K O g r))). slice_get l index) is ∙ set_here index rs.outs.items out out' here, f.0, f.1);
    others = λ i other. ap (λ (l : List (FeedOut (RingItem K O g r))). slice_get l i) is ∙ set_there index i rs.outs.items out' other;
    count = ap length is ∙ set_length index rs.outs.items out';
    number = number;
  }

  -- the place was read as another number
  pub takes_read : (index at : ℕ) (rs rs' : Readers K O g r) (out out' : FeedOut (RingItem K O g r)) (more : List (RingItem K O g r)) → at ≡ index → slice_get rs.outs.items at ≡ Some out →
      rs'.outs.items ≡ slice_set rs.outs.items at out' → rs'.script ≡ rs.script → SameOut out out' → taken_items out' ≡ taken_items out ++ more → TakesAt index rs rs' more
  takes_read index at rs rs' out out' more e here is number ring taken = subst (λ (n : ℕ). TakesAt n rs rs' more) e (takes_set at rs rs' out out' more here is number ring taken)

  pub takes_then : (index : ℕ) (a b c : Readers K O g r) (xs ys : List (RingItem K O g r)) → TakesAt index a b xs → TakesAt index b c ys → TakesAt index a c (xs ++ ys)
  takes_then index a b c xs ys f h = record {
    here = λ out got.
        let p = f.here out got in
        let q = h.here p.0 p.1 in
        (q.0, q.1, then_out out p.0 q.0 p.2 q.2, q.3 ∙ ap (λ (l : List (RingItem K O g r)). l ++ ys) p.3 ∙ append_assoc (taken_items out) xs ys);
    others = λ i other. h.others i other ∙ f.others i other;
    count = h.count ∙ f.count;
    number = h.number ∙ f.number;
  }

  -- an item was taken, or none
  pub takes_some : (index at : ℕ) (rs rs' : Readers K O g r) (out out' : FeedOut (RingItem K O g r)) (found : Option (RingItem K O g r)) → at ≡ index → slice_get rs.outs.items at ≡ Some out →
      rs'.outs.items ≡ slice_set rs.outs.items at out' → rs'.script ≡ rs.script → SameOut out out' →
      (P : RingItem K O g r → Type 0) → IfSome found (λ x. (taken_items out' ≡ taken_items out ++ x ∷ []) × P x) → IfSome found (λ x. TakesAt index rs rs' (x ∷ []))
  takes_some index at rs rs' out out' None e here is number ring P some = some
  takes_some index at rs rs' out out' (Some x) e here is number ring P some = takes_read index at rs rs' out out' (x ∷ []) e here is number ring some.0

  pub takes_no : (index at : ℕ) (rs rs' : Readers K O g r) (out out' : FeedOut (RingItem K O g r)) (found : Option (RingItem K O g r)) → at ≡ index → slice_get rs.outs.items at ≡ Some out →
      rs'.outs.items ≡ slice_set rs.outs.items at out' → rs'.script ≡ rs.script → SameOut out out' → IfNone found (taken_items out' ≡ taken_items out) → IfNone found (TakesAt index rs rs' [])
  takes_no index at rs rs' out out' None e here is number ring none = takes_read index at rs rs' out out' [] e here is number ring (none ∙ sym (append-nil (taken_items out)))
  takes_no index at rs rs' out out' (Some x) e here is number ring none = none

  -- what was taken says what its item says
  pub one_taken : (index : ℕ) (rs rs' : Readers K O g r) (x : RingItem K O g r) (taken : Taken) → TakesAt index rs rs' (x ∷ []) → Says (heard_of rs.script (index + 1) x) taken → IsTaken index rs rs' taken
  one_taken index rs rs' x taken takes says = (x ∷ [], takes, subst (λ (l : List What). Says l taken) (sym (append-nil (heard_of rs.script (index + 1) x))) says)

  pub left_read : (index at n : ℕ) (all : List (RingItem K O g r)) (outs : List (FeedOut (RingItem K O g r))) (out out' : FeedOut (RingItem K O g r)) → at ≡ index → slice_get outs at ≡ Some out →
      taken_items out' ++ seen_items out' ≡ all → n ≡ length (seen_items out') →
      (o : FeedOut (RingItem K O g r)) → slice_get (slice_set outs at out') index ≡ Some o → (taken_items o ++ seen_items o ≡ all) × (n ≡ length (seen_items o))
  left_read index at n all outs out out' e here is count o got =
      let one : out' ≡ o = one_there out' o (sym (set_here at outs out out' here) ∙ subst (λ (k : ℕ). slice_get (slice_set outs at out') k ≡ Some o) (sym e) got) in
      subst (λ (k : FeedOut (RingItem K O g r)). (taken_items k ++ seen_items k ≡ all) × (n ≡ length (seen_items k))) one (is, count)

  pub one_less : (index at n : ℕ) (x : RingItem K O g r) (all : List (RingItem K O g r)) (outs : List (FeedOut (RingItem K O g r))) (out out' : FeedOut (RingItem K O g r)) → at ≡ index → slice_get outs at ≡ Some out →
      taken_items out' ≡ taken_items out ++ x ∷ [] → seen_items out ≡ x ∷ seen_items out' →
      ((o : FeedOut (RingItem K O g r)) → slice_get outs index ≡ Some o → (taken_items o ++ seen_items o ≡ all) × (n + 1 ≡ length (seen_items o))) →
      (o : FeedOut (RingItem K O g r)) → slice_get (slice_set outs at out') index ≡ Some o → (taken_items o ++ seen_items o ≡ all) × (n ≡ length (seen_items o))
  one_less index at n x all outs out out' e here taken seen left =
      let was = left out (subst (λ (k : ℕ). slice_get outs k ≡ Some out) e here) in
      let size : n + 1 ≡ length (x ∷ seen_items out') = was.1 ∙ ap length seen in
      let is : taken_items out' ++ seen_items out' ≡ all =
      ap (λ (l : List (RingItem K O g r)). l ++ seen_items out') taken ∙ append_assoc (taken_items out) (x ∷ []) (seen_items out') ∙ ap (λ (l : List (RingItem K O g r)). taken_items out ++ l) (sym seen) ∙ was.0 in
      left_read index at n all outs out out' e here is (omega (arith, size))

  pub left_by : (index : ℕ) (a b c : Readers K O g r) → c ≡ b → LeavesOneLess index a b → LeavesOneLess index a c
  left_by index a b c is less = subst (λ (k : Readers K O g r). LeavesOneLess index a k) (sym is) less

  -- so many items are left at a turn of a loop that takes them one by one
  abbrev pub AreLeft : ℕ → ℕ → ℕ → Finished (RingItem K O g r) → Readers K O g r → Type 0
  AreLeft index turn count finished rs = (n : ℕ) × (n + turn ≡ count) × IsLeftOf index finished rs n

  pub are_left : (index count : ℕ) (finished : Finished (RingItem K O g r)) (rs : Readers K O g r) → IsLeftOf index finished rs count → AreLeft index 0 count finished rs
  are_left index count finished rs is = (count, omega arith, is)

  pub left_seen : (index turn count : ℕ) (finished : Finished (RingItem K O g r)) (rs : Readers K O g r) → turn < count → AreLeft index turn count finished rs → SeenAt index rs
  left_seen index turn count finished rs lt (n, sum, is) out got = let size = (is out got).1 in omega (arith, lt, sum, size)

  pub left_step : (index turn count : ℕ) (finished : Finished (RingItem K O g r)) (rs rs' : Readers K O g r) → turn < count → AreLeft index turn count finished rs → LeavesOneLess index rs rs' → AreLeft index (turn + 1) count finished rs'
  left_step index turn count finished rs rs' lt (zero, sum, is) less = absurd (omega (arith, lt, sum))
  left_step index turn count finished rs rs' lt (suc n, sum, is) less = (n, omega (arith, sum), less finished n (λ out got. let w = is out got in let size = w.1 in (w.0, omega (arith, size))))

  pub left_none : (index turn count : ℕ) (finished : Finished (RingItem K O g r)) (all : List (RingItem K O g r)) (rs : Readers K O g r) → count ≤ turn → all_put finished ≡ all → AreLeft index turn count finished rs → TakenAt index all rs
  left_none index turn count finished all rs le same (n, sum, is) out got =
      let w = is out got in
      let size = w.1 in
      sym (append-nil (taken_items out)) ∙ ap (λ (l : List (RingItem K O g r)). taken_items out ++ l) (sym (empty (seen_items out) (omega (arith, le, sum, size)))) ∙ w.0 ∙ same
    where
      empty : (xs : List (RingItem K O g r)) → length xs ≡ 0 → xs ≡ []
      empty [] h = refl
      empty (x ∷ xs) h = absurd (omega (arith, h))

  pub hears_at_none : (script index : ℕ) (rs rs' : Readers K O g r) (es es' : List HallEvent) → TakesAt index rs rs' [] → es' ≡ es → HearsAt script index rs es rs' es'
  hears_at_none script index rs rs' es es' takes same = record { more = []; takes = takes; adds = adds_nothing script (index + 1) [] es es' same refl }

  -- what was taken behind a look was entered
  pub hears_taken : (script index : ℕ) (a b c d : Readers K O g r) (es mid es' : List HallEvent) (taken : Taken) → TakesAt index a b [] → mid ≡ es → IsTaken index b c taken → d ≡ c →
      ((said : List What) → Says said taken → Adds script (index + 1) said mid es') → HearsAt script index a es d es'
  hears_taken script index a b c d es mid es' taken looked same (more, takes, says) is adds =
      let number : heard b.script (index + 1) more ≡ heard a.script (index + 1) more = ap (λ (n : ℕ). heard n (index + 1) more) looked.number in
      record {
        more = more;
        takes = subst (λ (k : Readers K O g r). TakesAt index a k more) (sym is) (takes_then index a b c [] more looked takes);
        adds = subst (λ (l : List HallEvent). Adds script (index + 1) (heard a.script (index + 1) more) l es') same (subst (λ (l : List What). Adds script (index + 1) l mid es') number (adds (heard b.script (index + 1) more) says));
      }

  pub hears_at_same : (script index : ℕ) (rs : Readers K O g r) (es : List HallEvent) → HearsAt script index rs es rs es
  hears_at_same script index rs es = hears_at_none script index rs rs es es (takes_none index rs) refl

  pub hears_at_then : (script index : ℕ) (a b c : Readers K O g r) (x y z : List HallEvent) → HearsAt script index a x b y → HearsAt script index b y c z → HearsAt script index a x c z
  hears_at_then script index a b c x y z f h =
      let number : heard b.script (index + 1) h.more ≡ heard a.script (index + 1) h.more = ap (λ (n : ℕ). heard n (index + 1) h.more) f.takes.number in
      record {
        more = f.more ++ h.more;
        takes = takes_then index a b c f.more h.more f.takes h.takes;
        adds =
            subst (λ (l : List What). Adds script (index + 1) l x z) (ap (λ (l : List What). heard a.script (index + 1) f.more ++ l) number ∙ sym (heard_append a.script (index + 1) f.more h.more))
            (adds_then script (index + 1) (heard a.script (index + 1) f.more) (heard b.script (index + 1) h.more) x y z f.adds h.adds);
      }

  pub more_none : (number script child : ℕ) (out : FeedOut (RingItem K O g r)) (es es' : List HallEvent) → recorded script child es' ≡ recorded script child es → HearsMore number script child out es out es'
  more_none number script child out es es' same =
      record { ring = same_out out; more = []; taken = sym (append-nil (taken_items out)); entered = same ∙ sym (append-nil (recorded script child es)) }

  more_then : (number script child : ℕ) (a b c : FeedOut (RingItem K O g r)) (x y z : List HallEvent) → HearsMore number script child a x b y → HearsMore number script child b y c z → HearsMore number script child a x c z
  more_then number script child a b c x y z f h = record {
    ring = then_out a b c f.ring h.ring;
    more = f.more ++ h.more;
    taken = h.taken ∙ ap (λ (l : List (RingItem K O g r)). l ++ h.more) f.taken ∙ append_assoc (taken_items a) f.more h.more;
    entered =
        h.entered ∙ ap (λ (l : List What). l ++ heard number child h.more) f.entered ∙ append_assoc (recorded script child x) (heard number child f.more) (heard number child h.more)
        ∙ ap (λ (l : List What). recorded script child x ++ l) (sym (heard_append number child f.more h.more));
  }

  -- what was heard of one child, as of each
  pub hears_of : (script index : ℕ) (rs rs' : Readers K O g r) (es es' : List HallEvent) → HearsAt script index rs es rs' es' → Hears script rs es rs' es'
  hears_of script index rs rs' es es' f = record {
    own = record {
      each = λ i out got. by_place i out got (cases_eq i index);
      count = f.takes.count;
      number = f.takes.number;
    };
    others = λ s c other. f.adds.others s c (λ both. other both.0);
  }
    where
      at_index : (out : FeedOut (RingItem K O g r)) → slice_get rs.outs.items index ≡ Some out → (out' : FeedOut (RingItem K O g r)) × (slice_get rs'.outs.items index ≡ Some out') × HearsMore rs.script script (index + 1) out es out' es'
      at_index out got = let p = f.takes.here out got in (p.0, p.1, record { ring = p.2; more = f.more; taken = p.3; entered = f.adds.here })

      by_place : (i : ℕ) (out : FeedOut (RingItem K O g r)) → slice_get rs.outs.items i ≡ Some out → (i ≡ index) ⊎ (i ≡ index → ⊥) →
          (out' : FeedOut (RingItem K O g r)) × (slice_get rs'.outs.items i ≡ Some out') × HearsMore rs.script script (i + 1) out es out' es'
      by_place i out got (inl same) =
          subst (λ (n : ℕ). (out' : FeedOut (RingItem K O g r)) × (slice_get rs'.outs.items n ≡ Some out') × HearsMore rs.script script (n + 1) out es out' es') (sym same)
          (at_index out (subst (λ (n : ℕ). slice_get rs.outs.items n ≡ Some out) same got))
      by_place i out got (inr other) =
          (out, f.takes.others i other ∙ got, more_none rs.script script (i + 1) out es es' (f.adds.others script (i + 1) (λ both. other (let e = both.1 in omega (arith, e)))))

  own_silent : (script : ℕ) (rs rs' : Readers K O g r) (es es' : List HallEvent) → rs' ≡ rs → ((c : ℕ) → recorded script c es' ≡ recorded script c es) → HearsOwn script rs es rs' es'
  own_silent script rs rs' es es' same silent = record {
    each = λ i out got. (out, ap (λ (x : Readers K O g r). slice_get x.outs.items i) same ∙ got, more_none rs.script script (i + 1) out es es' (silent (i + 1)));
    count = ap (λ (x : Readers K O g r). length x.outs.items) same;
    number = ap (λ (x : Readers K O g r). x.script) same;
  }

  own_then : (script : ℕ) (a b c : Readers K O g r) (x y z : List HallEvent) → HearsOwn script a x b y → HearsOwn script b y c z → HearsOwn script a x c z
  own_then script a b c x y z f h = record {
    each = λ i out got.
        let p = f.each i out got in
        let q = h.each i p.0 p.1 in
        (q.0, q.1, more_then a.script script (i + 1) out p.0 q.0 x y z p.2 (subst (λ (n : ℕ). HearsMore n script (i + 1) p.0 y q.0 z) f.number q.2));
    count = h.count ∙ f.count;
    number = h.number ∙ f.number;
  }

  pub hears_silent : (script : ℕ) (rs rs' : Readers K O g r) (es es' : List HallEvent) → rs' ≡ rs → Unheard es es' → Hears script rs es rs' es'
  hears_silent script rs rs' es es' same silent = record { own = own_silent script rs rs' es es' same (silent script); others = λ s c other. silent s c }

  pub hears_same : (script : ℕ) (rs : Readers K O g r) (es : List HallEvent) → Hears script rs es rs es
  hears_same script rs es = hears_silent script rs rs es es refl (λ s c. refl)

  pub hears_then : (script : ℕ) (a b c : Readers K O g r) (x y z : List HallEvent) → Hears script a x b y → Hears script b y c z → Hears script a x c z
  hears_then script a b c x y z f h = record { own = own_then script a b c x y z f.own h.own; others = λ s k other. h.others s k other ∙ f.others s k other }

  -- an answer, what children have, and a request
  pub hears_three : (script : ℕ) (a b c d : Readers K O g r) (x y z w : List HallEvent) → b ≡ a → Unheard x y → Hears script b y c z → d ≡ c → w ≡ z → Hears script a x d w
  hears_three script a b c d x y z w same silent f is log =
      hears_then script a b d x y w (hears_silent script a b x y same silent)
      (subst (λ (l : List HallEvent). Hears script b y d l) (sym log) (subst (λ (k : Readers K O g r). Hears script b y k z) (sym is) f))

  pub all_silent : (ends : List (Ends K O g r)) (es es' : List HallEvent) → Unheard es es' → HearsAll ends es ends es'
  all_silent ends es es' silent = record {
    each = λ at e here. (e, here, own_silent (at + 1) e.readers e.readers es es' refl (silent (at + 1)));
    count = refl;
  }

  pub all_same : (ends : List (Ends K O g r)) (es : List HallEvent) → HearsAll ends es ends es
  all_same ends es = all_silent ends es es (λ s c. refl)

  pub all_then : (a b c : List (Ends K O g r)) (x y z : List HallEvent) → HearsAll a x b y → HearsAll b y c z → HearsAll a x c z
  all_then a b c x y z f h = record {
    each = λ at e here.
        let p = f.each at e here in
        let q = h.each at p.0 p.1 in
        (q.0, q.1, own_then (at + 1) e.readers p.0.readers q.0.readers x y z p.2 q.2);
    count = h.count ∙ f.count;
  }

  -- the script at a place heard
  pub all_set : (at : ℕ) (ends : List (Ends K O g r)) (e e' : Ends K O g r) (es es' : List HallEvent) → slice_get ends at ≡ Some e → Hears (at + 1) e.readers es e'.readers es' → HearsAll ends es (slice_set ends at e') es'
  all_set at ends e e' es es' here f = record {
    each = λ n x got. by_place n x got (cases_eq n at);
    count = set_length at ends e';
  }
    where
      by_place : (n : ℕ) (x : Ends K O g r) → slice_get ends n ≡ Some x → (n ≡ at) ⊎ (n ≡ at → ⊥) → (x' : Ends K O g r) × (slice_get (slice_set ends at e') n ≡ Some x') × HearsOwn (n + 1) x.readers es x'.readers es'
      by_place n x got (inl same) =
          let one : e ≡ x = one_there e x (sym here ∙ subst (λ (k : ℕ). slice_get ends k ≡ Some x) same got) in (
            e',
            subst (λ (k : ℕ). slice_get (slice_set ends at e') k ≡ Some e') (sym same) (set_here at ends e e' here),
            subst (λ (k : ℕ). HearsOwn (k + 1) x.readers es e'.readers es') (sym same) (subst (λ (y : Ends K O g r). HearsOwn (at + 1) y.readers es e'.readers es') one f.own),
          )
      by_place n x got (inr other) =
          (x, set_there at n ends e' other ∙ got, own_silent (n + 1) x.readers x.readers es es' refl (λ c. f.others (n + 1) c (λ k. other (omega (arith, k)))))

  pub settles_set : (at index : ℕ) (ends : List (Ends K O g r)) (e e' : Ends K O g r) (es es' : List HallEvent) → slice_get ends at ≡ Some e → HearsAt (at + 1) index e.readers es e'.readers es' → Settles at index ends es (slice_set ends at e') es'
  settles_set at index ends e e' es es' here f = record {
    here = λ x got. subst (λ (y : Ends K O g r). (x' : Ends K O g r) × (slice_get (slice_set ends at e') at ≡ Some x') × HearsAt (at + 1) index y.readers es x'.readers es') (one_there e x (sym here ∙ got)) (e', set_here at ends e e' here, f);
    others = λ i other. set_there at i ends e' other;
    silent = f.adds.others;
    count = set_length at ends e';
  }

  -- nothing is there
  pub settles_none : (at index : ℕ) (ends : List (Ends K O g r)) (es : List HallEvent) → ((e : Ends K O g r) → slice_get ends at ≡ Some e → ⊥) → Settles at index ends es ends es
  settles_none at index ends es none = record {
    here = λ e got. absurd (none e got);
    others = λ i other. refl;
    silent = λ s c other. refl;
    count = refl;
  }

  pub taken_in : (at index : ℕ) (all : List (RingItem K O g r)) (ends : List (Ends K O g r)) (e e' : Ends K O g r) → slice_get ends at ≡ Some e → TakenAt index all e'.readers → TakenIn at index all (slice_set ends at e')
  taken_in at index all ends e e' here taken x got =
      subst (λ (y : Ends K O g r). TakenAt index all y.readers) (one_there e' x (sym (set_here at ends e e' here) ∙ got)) taken
