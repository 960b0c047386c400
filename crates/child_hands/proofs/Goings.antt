-- The answers of a hand, as one more is put.
use Rattle.std.proofs.Common.{◌≡◌, ◌≢◌, ℕ, ◌+◌, ◌≤◌, Bool, true, false, ◌&&◌, ◌==◌, List, [], ◌∷◌, ◌++◌, length, refl, sym, ◌∙◌, ap, arith, Option, None, Some, cond, subst, length-append, ◌⊎◌, ⊎_elim}
use Rattle.std.proofs.lemmas.Bool.Decides.{nat_tests}
use Rattle.std.specs.declared.io.traits.Read.{Ghosts as ReadGhosts}
use Rattle.child_hands.specs.declared.keeper.Keeper.{Ghosts}
use Rattle.child_hands.specs.declared.items.RingItem.{RingItem}
use Rattle.child_hands.specs.declared.items.RingItem.TheVariants.{Out, End, ReadFail, Answer, Ask, Stop}
use Rattle.child_hands.specs.declared.items.Answered.{Answered}
use Rattle.expect_core.specs.declared.request.Request.{Request}
use Rattle.feed_rings.specs.declared.feed.FeedIn.{FeedIn}
use Rattle.child_hands.specs.declared.order.Instruction.TheVariants.{Do, Halt, Nothing}
use Rattle.child_hands.specs.declared.work.Reader.{Reader}
use Rattle.child_hands.specs.declared.work.Work.{Work}
use Rattle.child_hands.specs.Handed.{starts, failure_of, requests_of, failures_of, AreAnswers, spawn_call, ArePlaces, StartsAt, KeepsWorks, IsGoing, KeepsGoing, At, GoesOn, order_of, KeepsPlaces}
use Rattle.child_hands.proofs.Works.{work_moved, readers_moved}

first_none : {T : Type 0} → (h : Bool) (b w v z : Option T) → cond h b w ≡ None → (w ≡ None → v ≡ z) → (b ≡ None → ⊥) → cond h b v ≡ z
first_none true b w v z none then some = absurd (some none)
first_none false b w v z none then some = then none

first_some : {T : Type 0} → (h : Bool) (b w v z : Option T) → cond h b w ≡ z → (w ≡ z → v ≡ z) → cond h b v ≡ z
first_some true b w v z some then = some
first_some false b w v z some then = then some

and_false : (b : Bool) → (b && false) ≡ false
and_false true = refl
and_false false = refl

and_other : (m c : ℕ) (b : Bool) → c ≢ m → ((m == c) && b) ≡ false
and_other m c b other = grind (arith, nat_tests)

and_same : (m c : ℕ) (b : Bool) → m ≡ c → b ≡ true → ((m == c) && b) ≡ true
and_same m c b same is = grind (arith, nat_tests)

module _ {K O : Type 0} {g : Ghosts K O} {r : ReadGhosts O} where
  requests_of-ask : (xs : List (RingItem K O g r)) (q : Request) → requests_of (xs ++ Ask q ∷ []) ≡ requests_of xs ++ q ∷ []
  requests_of-ask [] q = refl
  requests_of-ask (Ask p ∷ xs) q = ap (λ w. p ∷ w) (requests_of-ask xs q)
  requests_of-ask (Out s c p ∷ xs) q = requests_of-ask xs q
  requests_of-ask (End s c ∷ xs) q = requests_of-ask xs q
  requests_of-ask (ReadFail s c e ∷ xs) q = requests_of-ask xs q
  requests_of-ask (Answer s a ∷ xs) q = requests_of-ask xs q
  requests_of-ask (Stop ∷ xs) q = requests_of-ask xs q

  failures_of-answer : (xs : List (RingItem K O g r)) (s : ℕ) (a : Answered K O g r) → failures_of (xs ++ Answer s a ∷ []) ≡ failures_of xs + failure_of a.answer
  failures_of-answer [] s a = omega arith
  failures_of-answer (Answer t b ∷ xs) s a = let more = failures_of-answer xs s a in omega (arith, more)
  failures_of-answer (Ask p ∷ xs) s a = failures_of-answer xs s a
  failures_of-answer (Out t c p ∷ xs) s a = failures_of-answer xs s a
  failures_of-answer (End t c ∷ xs) s a = failures_of-answer xs s a
  failures_of-answer (ReadFail t c e ∷ xs) s a = failures_of-answer xs s a
  failures_of-answer (Stop ∷ xs) s a = failures_of-answer xs s a

  answers_more : (script name n : ℕ) (qs : List Request) (xs : List (RingItem K O g r)) (q : Request) (a : Answered K O g r)
      → AreAnswers script name n qs xs → a.name ≡ name → a.call ≡ n + length qs + 1 → a.request ≡ q → AreAnswers script name n (qs ++ q ∷ []) (xs ++ Answer script a ∷ [])
  answers_more script name n [] [] q a are named called asked = (refl, named, omega arith, asked, tt)
  answers_more script name n [] (x ∷ xs) q a are named called asked = absurd are
  answers_more script name n (p ∷ qs) [] q a are named called asked = absurd are
  answers_more script name n (p ∷ qs) (Answer t b ∷ xs) q a are named called asked =
      (are.0, are.1, are.2, are.3, answers_more script name (n + 1) qs xs q a are.4 named (omega arith) asked)
  answers_more script name n (p ∷ qs) (Out t c b ∷ xs) q a are named called asked = absurd are
  answers_more script name n (p ∷ qs) (End t c ∷ xs) q a are named called asked = absurd are
  answers_more script name n (p ∷ qs) (ReadFail t c b ∷ xs) q a are named called asked = absurd are
  answers_more script name n (p ∷ qs) (Ask b ∷ xs) q a are named called asked = absurd are
  answers_more script name n (p ∷ qs) (Stop ∷ xs) q a are named called asked = absurd are

  -- whether an answer starts this child
  abbrev hits : ℕ → Answered K O g r → Bool
  hits c a = (a.request.child == c) && starts a.request a.answer

  spawn_call-miss : (c s : ℕ) (a : Answered K O g r) (xs : List (RingItem K O g r)) → hits c a ≡ false → spawn_call c (xs ++ Answer s a ∷ []) ≡ spawn_call c xs
  spawn_call-miss c s a [] miss = rw miss refl
  spawn_call-miss c s a (Answer t b ∷ xs) miss = ap (λ w. cond (hits c b) (Some b.call) w) (spawn_call-miss c s a xs miss)
  spawn_call-miss c s a (Out t d p ∷ xs) miss = spawn_call-miss c s a xs miss
  spawn_call-miss c s a (End t d ∷ xs) miss = spawn_call-miss c s a xs miss
  spawn_call-miss c s a (ReadFail t d e ∷ xs) miss = spawn_call-miss c s a xs miss
  spawn_call-miss c s a (Ask q ∷ xs) miss = spawn_call-miss c s a xs miss
  spawn_call-miss c s a (Stop ∷ xs) miss = spawn_call-miss c s a xs miss

  spawn_call-hit : (c s : ℕ) (a : Answered K O g r) (xs : List (RingItem K O g r)) → hits c a ≡ true → spawn_call c xs ≡ None → spawn_call c (xs ++ Answer s a ∷ []) ≡ Some a.call
  spawn_call-hit c s a [] hit none = rw hit refl
  spawn_call-hit c s a (Answer t b ∷ xs) hit none = first_none (hits c b) _ _ _ _ none (λ h. spawn_call-hit c s a xs hit h) (λ e. cc)
  spawn_call-hit c s a (Out t d p ∷ xs) hit none = spawn_call-hit c s a xs hit none
  spawn_call-hit c s a (End t d ∷ xs) hit none = spawn_call-hit c s a xs hit none
  spawn_call-hit c s a (ReadFail t d e ∷ xs) hit none = spawn_call-hit c s a xs hit none
  spawn_call-hit c s a (Ask q ∷ xs) hit none = spawn_call-hit c s a xs hit none
  spawn_call-hit c s a (Stop ∷ xs) hit none = spawn_call-hit c s a xs hit none

  spawn_call-later : (c s k : ℕ) (a : Answered K O g r) (xs : List (RingItem K O g r)) → spawn_call c xs ≡ Some k → spawn_call c (xs ++ Answer s a ∷ []) ≡ Some k
  spawn_call-later c s k a [] some = cc
  spawn_call-later c s k a (Answer t b ∷ xs) some = first_some (hits c b) _ _ _ _ some (λ h. spawn_call-later c s k a xs h)
  spawn_call-later c s k a (Out t d p ∷ xs) some = spawn_call-later c s k a xs some
  spawn_call-later c s k a (End t d ∷ xs) some = spawn_call-later c s k a xs some
  spawn_call-later c s k a (ReadFail t d e ∷ xs) some = spawn_call-later c s k a xs some
  spawn_call-later c s k a (Ask q ∷ xs) some = spawn_call-later c s k a xs some
  spawn_call-later c s k a (Stop ∷ xs) some = spawn_call-later c s k a xs some

  miss_idle : (c : ℕ) (a : Answered K O g r) → starts a.request a.answer ≡ false → hits c a ≡ false
  miss_idle c a idle = rw idle (and_false (a.request.child == c))

  starts_at : (child s : ℕ) (a : Answered K O g r) (xs : List (RingItem K O g r)) → a.request.child ≡ child → starts a.request a.answer ≡ true
      → StartsAt child a.call xs (xs ++ Answer s a ∷ [])
  starts_at child s a xs same start = record {
    others = λ c other. spawn_call-miss c s a xs (and_other a.request.child c (starts a.request a.answer) (λ e. other (e ∙ same)));
    first = spawn_call-hit child s a xs (and_same a.request.child child (starts a.request a.answer) same start);
    later = λ k. spawn_call-later child s k a xs;
  }

  -- the places behind an answer that started no child
  pub places_idle : (script name s : ℕ) (a : Answered K O g r) (put : List (RingItem K O g r)) (works : List (Work K O g r)) (readers : List (Reader K O g r))
      → starts a.request a.answer ≡ false
      → (feeds : List (FeedIn (RingItem K O g r))) → ArePlaces script name put feeds works readers → ArePlaces script name (put ++ Answer s a ∷ []) feeds works readers
  places_idle script name s a put works readers idle feeds are = record {
    free = λ i was work at here. work_moved script (i + 1) name put (put ++ Answer s a ∷ []) was work (spawn_call-miss (i + 1) s a put (miss_idle (i + 1) a idle)) (are.free i was work at here);
    busy = readers_moved script name put (put ++ Answer s a ∷ []) feeds readers (λ c k. spawn_call-later c s k a put) are.busy;
  }

  -- the places behind an answer that started a child, whose output is of these bytes
  pub places_started : (script name s : ℕ) (bytes : Option (List ℕ)) (a : Answered K O g r) (put : List (RingItem K O g r)) (works works' : List (Work K O g r)) (readers readers' : List (Reader K O g r))
      → starts a.request a.answer ≡ true → KeepsWorks script a.request.child bytes works readers works' readers' → g.gives name a.call bytes
      → (feeds : List (FeedIn (RingItem K O g r))) → ArePlaces script name put feeds works readers → ArePlaces script name (put ++ Answer s a ∷ []) feeds works' readers'
  places_started script name s bytes a put works works' readers readers' start keeps gives feeds are =
      keeps name a.call put (put ++ Answer s a ∷ []) feeds gives (starts_at a.request.child s a put refl start) are

  -- one answer more
  pub going_step : (script name made made' failed failed' : ℕ) (q : Request) (a : Answered K O g r) (put put' : List (RingItem K O g r)) (works works' : List (Work K O g r)) (readers readers' : List (Reader K O g r))
      → put' ≡ put ++ Answer script a ∷ [] → a.name ≡ name → a.call ≡ made' → made' ≡ made + 1 → a.request ≡ q → failed + failure_of a.answer ≤ failed'
      → ((feeds : List (FeedIn (RingItem K O g r))) → ArePlaces script name put feeds works readers → ArePlaces script name (put ++ Answer script a ∷ []) feeds works' readers')
      → KeepsGoing script name q (record { made = made; failed = failed; taken = []; put = put; works = works; readers = readers })
      (record { made = made'; failed = failed'; taken = []; put = put'; works = works'; readers = readers' })
  going_step script name made made' failed failed' q a put put' works works' readers readers' is named called more asked fails fits taken start before feeds going =
      let P : List (RingItem K O g r) → Type 0 = λ w. IsGoing script name start before made' failed' (taken ++ Ask q ∷ []) w feeds works' readers' in
      let Q : List Request → Type 0 = λ w. AreAnswers script name start w (put ++ Answer script a ∷ []) in
      let calls : made ≡ start + length (requests_of taken) = going.calls in
      let now : IsGoing script name start before made' failed' (taken ++ Ask q ∷ []) (put ++ Answer script a ∷ []) feeds works' readers' = record {
        answers = subst Q (sym (requests_of-ask taken q)) (answers_more script name start (requests_of taken) put q a going.answers named (omega arith) asked);
        calls = rw requests_of-ask (omega (arith, length-append (requests_of taken) (q ∷ [])));
        fails = let counted = failures_of-answer put script a in let had : before + failures_of put ≤ failed = going.fails in omega (arith, counted, had, fails);
        places = fits feeds going.places;
      } in
      subst P (sym is) now

  order_ask : (x : RingItem K O g r) (q : Request) → Do q ≡ order_of x → x ≡ Ask q
  order_ask (Ask p) q is = ap (λ z. Ask z) (sym cc)
  order_ask (Out s c p) q is = cc
  order_ask (End s c) q is = cc
  order_ask (ReadFail s c e) q is = cc
  order_ask (Answer s a) q is = cc
  order_ask Stop q is = cc

  requests_of-other : (t : List (RingItem K O g r)) (x : RingItem K O g r) → requests_of (x ∷ []) ≡ [] → requests_of (t ++ x ∷ []) ≡ requests_of t
  requests_of-other [] x none = none
  requests_of-other (Ask p ∷ t) x none = ap (λ w. p ∷ w) (requests_of-other t x none)
  requests_of-other (Out s c p ∷ t) x none = requests_of-other t x none
  requests_of-other (End s c ∷ t) x none = requests_of-other t x none
  requests_of-other (ReadFail s c e ∷ t) x none = requests_of-other t x none
  requests_of-other (Answer s a ∷ t) x none = requests_of-other t x none
  requests_of-other (Stop ∷ t) x none = requests_of-other t x none

  no_request : (x : RingItem K O g r) → (Nothing ≡ order_of x) ⊎ (Halt ≡ order_of x) → requests_of (x ∷ []) ≡ []
  no_request (Ask q) is = ⊎_elim (λ (e : Nothing ≡ Do q). cc) (λ (e : Halt ≡ Do q). cc) is
  no_request (Out s c p) is = refl
  no_request (End s c) is = refl
  no_request (ReadFail s c e) is = refl
  no_request (Answer s a) is = refl
  no_request Stop is = refl

  -- what the ends of the rings show may be known by other words
  pub goes_same : (s n : ℕ) (a b : At (RingItem K O g r) (Work K O g r) (Reader K O g r)) (t p : List (RingItem K O g r))
      → GoesOn s n a b → t ≡ b.taken → p ≡ b.put → GoesOn s n a (record b { taken = t; put = p })
  goes_same s n a b t p on same also start before feeds going =
      let P : List (RingItem K O g r) → Type 0 = λ k. IsGoing s n start before b.made b.failed k b.put feeds b.works b.readers in
      let Q : List (RingItem K O g r) → Type 0 = λ k. IsGoing s n start before b.made b.failed t k feeds b.works b.readers in
      subst Q (sym also) (subst P (sym same) (on start before feeds going))

  -- an item that asks for nothing
  pub goes_other : (s n : ℕ) (a b : At (RingItem K O g r) (Work K O g r) (Reader K O g r)) (t p : List (RingItem K O g r)) (x : RingItem K O g r)
      → GoesOn s n a b → (Nothing ≡ order_of x) ⊎ (Halt ≡ order_of x) → t ≡ b.taken ++ x ∷ [] → p ≡ b.put → GoesOn s n a (record b { taken = t; put = p })
  goes_other s n a b t p x on other more also =
      goes_same s n a (record b { taken = b.taken ++ x ∷ [] }) t p (λ start before feeds going.
      let now : IsGoing s n start before b.made b.failed b.taken b.put feeds b.works b.readers = on start before feeds going in
      let same : requests_of (b.taken ++ x ∷ []) ≡ requests_of b.taken = requests_of-other b.taken x (no_request x other) in
      record { answers = rw same now.answers; calls = rw same now.calls; fails = now.fails; places = now.places }) more also

  -- an item that asks for a request, which is carried out
  pub goes_ask : (s n : ℕ) (a b d : At (RingItem K O g r) (Work K O g r) (Reader K O g r)) (p : List (RingItem K O g r)) (x : RingItem K O g r) (q : Request)
      → GoesOn s n a b → Do q ≡ order_of x → d.taken ≡ b.taken ++ x ∷ [] → p ≡ b.put → KeepsGoing s n q (record b { put = p }) d → GoesOn s n a d
  goes_ask s n a b d p x q on is more also keeps start before feeds going =
      let P : List (RingItem K O g r) → Type 0 = λ k. IsGoing s n start before d.made d.failed k d.put feeds d.works d.readers in
      let Q : List (RingItem K O g r) → Type 0 = λ k. IsGoing s n start before b.made b.failed b.taken k feeds b.works b.readers in
      let e : d.taken ≡ b.taken ++ Ask q ∷ [] = more ∙ ap (λ k. b.taken ++ k ∷ []) (order_ask x q is) in
      subst P (sym e) (keeps b.taken start before feeds (subst Q (sym also) (on start before feeds going)))

  pub goes_places : (s n : ℕ) (a b d : At (RingItem K O g r) (Work K O g r) (Reader K O g r))
      → GoesOn s n a b → KeepsPlaces b.works b.readers d.works d.readers → d.made ≡ b.made → d.failed ≡ b.failed → d.taken ≡ b.taken → d.put ≡ b.put → GoesOn s n a d
  goes_places s n a b d on kept made failed taken put start before feeds going =
      let now : IsGoing s n start before b.made b.failed b.taken b.put feeds b.works b.readers = on start before feeds going in
      let then : IsGoing s n start before b.made b.failed b.taken b.put feeds d.works d.readers =
      record { answers = now.answers; calls = now.calls; fails = now.fails; places = kept s n b.put feeds now.places } in
      rw (made, failed, taken, put) then
