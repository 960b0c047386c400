-- What a hand's child put, as its keeper gave it.
use Rattle.std.proofs.Common.{◌≡◌, ◌⊎◌, inl, inr, ℕ, ◌+◌, ◌<◌, ◌≤◌, List, [], ◌∷◌, ◌++◌, map, Bool, true, false, Option, Some, refl, sym, ap, subst, ◌∙◌, arith}
use Rattle.std.specs.Prelude.{Contains, ◌==◌, ◌&&◌, if◌then◌else◌}
use Rattle.std.proofs.lemmas.Grind.{flat_map-append}
use Rattle.std.proofs.lemmas.List.Elements.{Contains-append_left, Contains-append_cases, Contains-push_cases}
use Rattle.std.specs.Io.KnownBytes.{IsAtEnd}
use Rattle.std.proofs.lemmas.Bool.Decides.{nat_tests}
use Rattle.std.specs.declared.io.traits.Read.{Ghosts as ReadGhosts}
use Rattle.child_events.specs.declared.event.Answer.{Answer as Reply}
use Rattle.child_events.specs.declared.event.Answer.TheVariants as reply
use Rattle.child_events.specs.declared.event.Cause.{Cause}
use Rattle.child_events.specs.declared.event.What.{What}
use Rattle.child_events.specs.declared.event.What.TheVariants as what
use Rattle.expect_core.specs.declared.request.Act.{Act}
use Rattle.expect_core.specs.declared.request.Act.TheVariants as act
use Rattle.expect_core.specs.declared.request.Request.{Request}
use Rattle.child_hands.specs.declared.keeper.Keeper.{Ghosts}
use Rattle.child_hands.specs.declared.items.Answered.{Answered}
use Rattle.child_hands.specs.declared.items.RingItem.{RingItem}
use Rattle.child_hands.specs.declared.items.RingItem.TheVariants.{Out, End, ReadFail, Answer, Ask, Stop}
use Rattle.child_hands.specs.Handed.{is_spawn, is_ok, starts, AreAnswers, spawn_call}
use Rattle.child_hands.specs.Pumped.{outs_of, IsPumpList}
use Rattle.child_desk.specs.Heard.{heard_of, heard}
use Rattle.child_desk.proofs.Places.{nothing_there, one_there}
use Rattle.child_desk.specs.Told.{Telling, AreTold, AreAmong, telling_of, tells, all_told}
use Rattle.child_desk.proofs.Telling.{among_more}
use Rattle.child_serve.specs.Given.{IsOutputOf, StartsWith, IsGiven, IsPut, started_by}

number_said : (x y : ℕ) → (x == y) ≡ true → x ≡ y
number_said x y h = grind (arith, nat_tests, h)

number_itself : (x : ℕ) → (x == x) ≡ true
number_itself x = grind (arith, nat_tests)

both_true : (p q : Bool) → p ≡ true → q ≡ true → (p && q) ≡ true
both_true true true hp hq = refl
both_true true false hp hq = absurd (cc)
both_true false q hp hq = absurd (cc)

first_true : (p q : Bool) → (p && q) ≡ true → p ≡ true
first_true true q h = refl
first_true false q h = absurd (cc)

never_true : (p : Bool) → (p && false) ≡ true → ⊥
never_true true h = cc
never_true false h = cc

itself : (s c : ℕ) → ((s == s) && (c == c)) ≡ true
itself s c = both_true (s == s) (c == c) (number_itself s) (number_itself c)

-- a request that started a child
start_told : (T : Request → Reply → Type 0) (child c : ℕ) (a : Act) (answer : Reply) → ((c == child) && (is_spawn a && is_ok answer)) ≡ true → T (record { child = c; act = a }) answer →
    (words : List (List ℕ)) × T (record { child = child; act = act.Spawn words }) reply.Ok
start_told T child c (act.Spawn words) reply.Ok h t = (words, subst (λ (n : ℕ). T (record { child = n; act = act.Spawn words }) reply.Ok) (number_said c child (first_true (c == child) true h)) t)
start_told T child c (act.Spawn words) (reply.Fail cause) h t = absurd (never_true (c == child) h)
start_told T child c (act.Spawn words) (reply.Exit status) h t = absurd (never_true (c == child) h)
start_told T child c (act.Spawn words) reply.Killed h t = absurd (never_true (c == child) h)
start_told T child c (act.Write bytes) answer h t = absurd (never_true (c == child) h)
start_told T child c act.End answer h t = absurd (never_true (c == child) h)
start_told T child c act.Close answer h t = absurd (never_true (c == child) h)
start_told T child c act.Wait answer h t = absurd (never_true (c == child) h)

-- the call that first started a child is one of those behind the first n
abbrev IsStart : (ℕ → ℕ → Request → Reply → Type 0) → ℕ → ℕ → ℕ → ℕ → Type 0
IsStart told name n child call = (n < call) × ((words : List (List ℕ)) × ∥ told name call (record { child = child; act = act.Spawn words }) reply.Ok ∥₁)

-- lists of what was told

none_in : (t : Telling) → Contains [] t → ⊥
none_in t has = let lt = has.1 in omega (arith, lt)

first_or_later : (x : Telling) (ts : List Telling) (t : Telling) → Contains (x ∷ ts) t → (x ≡ t) ⊎ Contains ts t
first_or_later x ts t has = elim (Contains-append_cases (x ∷ []) ts t has) [
  | inl one ↦ elim (Contains-push_cases [] x t one) [
    | inl none ↦ absurd (none_in t none)
    | inr same ↦ inl same
  ]
  | inr more ↦ inr more
]

-- what a call told is none of what later calls told
behind : (x : Telling) (ts : List Telling) (name n : ℕ) (xs : List Reply) (qs : List Request) → x.call ≤ n → AreAmong (x ∷ ts) name n xs qs → AreAmong ts name n xs qs
behind x ts name n [] qs le among = tt
behind x ts name n (a ∷ xs) [] le among = absurd among
behind x ts name n (a ∷ xs) (q ∷ qs) le among = (
  elim (first_or_later x ts _ among.0) [
    | inl same ↦ absurd (let call = ap (λ (t : Telling). t.call) same in omega (arith, call, le))
    | inr more ↦ more
  ],
  behind x ts name (n + 1) xs qs (omega (arith, le)) among.1,
)

module _ {K O : Type 0} {g : Ghosts K O} {r : ReadGhosts O} where
  no_more : (script name n : ℕ) (x : RingItem K O g r) (put : List (RingItem K O g r)) → AreAnswers script name n [] (x ∷ put) → ⊥
  no_more script name n (Out s c p) put are = are
  no_more script name n (End s c) put are = are
  no_more script name n (ReadFail s c e) put are = are
  no_more script name n (Answer s a) put are = are
  no_more script name n (Ask q) put are = are
  no_more script name n Stop put are = are

  answer_told : (name child call : ℕ) (a : Answered K O g r) → ((a.request.child == child) && starts a.request a.answer) ≡ true → a.name ≡ name → a.call ≡ call →
      (words : List (List ℕ)) × ∥ g.told name call (record { child = child; act = act.Spawn words }) reply.Ok ∥₁
  answer_told name child call a h named called =
      start_told (λ q s. ∥ g.told name call q s ∥₁) child a.request.child a.request.act a.answer h
      (subst (λ (n : ℕ). ∥ g.told name n a.request a.answer ∥₁) called (subst (λ (n : ℕ). ∥ g.told n a.call a.request a.answer ∥₁) named a.told))

  spawned : (script name n child call : ℕ) (qs : List Request) (xs : List (RingItem K O g r)) → AreAnswers script name n qs xs → spawn_call child xs ≡ Some call → IsStart g.told name n child call
  spawned script name n child call [] [] are is = absurd (nothing_there call is)
  spawned script name n child call [] (Out s c p ∷ xs) are is = absurd are
  spawned script name n child call [] (End s c ∷ xs) are is = absurd are
  spawned script name n child call [] (ReadFail s c e ∷ xs) are is = absurd are
  spawned script name n child call [] (Answer s a ∷ xs) are is = absurd are
  spawned script name n child call [] (Ask q ∷ xs) are is = absurd are
  spawned script name n child call [] (Stop ∷ xs) are is = absurd are
  spawned script name n child call (q ∷ qs) [] are is = absurd are
  spawned script name n child call (q ∷ qs) (Out s c p ∷ xs) are is = absurd are
  spawned script name n child call (q ∷ qs) (End s c ∷ xs) are is = absurd are
  spawned script name n child call (q ∷ qs) (ReadFail s c e ∷ xs) are is = absurd are
  spawned script name n child call (q ∷ qs) (Answer s a ∷ xs) are is = by_test ((a.request.child == child) && starts a.request a.answer) refl is (λ h. spawned script name (n + 1) child call qs xs are.4 h)
    where
      by_test : (t : Bool) → ((a.request.child == child) && starts a.request a.answer) ≡ t → (if t then Some a.call else spawn_call child xs) ≡ Some call →
          (spawn_call child xs ≡ Some call → IsStart g.told name (n + 1) child call) → IsStart g.told name n child call
      by_test true e h later =
          let same : a.call ≡ call = one_there a.call call h in
          let next = are.2 in
          (omega (arith, same, next), answer_told name child call a e are.1 same)
      by_test false e h later =
          let rest = later h in
          let lt = rest.0 in
          (omega (arith, lt), rest.1)
  spawned script name n child call (q ∷ qs) (Ask p ∷ xs) are is = absurd are
  spawned script name n child call (q ∷ qs) (Stop ∷ xs) are is = absurd are

  pub starts_with : (script name n child call : ℕ) (bytes : Option (List ℕ)) (qs : List Request) (xs : List (RingItem K O g r)) → AreAnswers script name n qs xs → spawn_call child xs ≡ Some call → g.gives name call bytes →
      StartsWith g.told g.gives name n child bytes
  starts_with script name n child call bytes qs xs are is gave = let s = spawned script name n child call qs xs are is in (call, s.1.0, s.0, s.1.1, gave)

  -- what is heard of a pump list

  heard_pieces : (s c : ℕ) (pieces : List (List ℕ)) (x : RingItem K O g r) (w : What) → heard_of s c x ≡ w ∷ [] → heard s c (outs_of s c pieces ++ x ∷ []) ≡ map (λ p. what.Out p) pieces ++ w ∷ []
  heard_pieces s c [] x w is = ap (λ (l : List What). l ++ []) is
  heard_pieces s c (p ∷ pieces) x w is =
      ap (λ (t : Bool). (if t then what.Out p ∷ [] else []) ++ heard s c (outs_of s c pieces ++ x ∷ [])) (itself s c) ∙ ap (λ (l : List What). what.Out p ∷ l) (heard_pieces s c pieces x w is)

  heard_list : (s c : ℕ) (bytes : Option (List ℕ)) (items : List (RingItem K O g r)) → IsPumpList s c bytes items → IsOutputOf bytes (heard s c items)
  heard_list s c bytes items p = record { pieces = p.pieces; sizes = p.sizes; rest = p.rest; begins = p.begins; last = by_last p.last }
    where
      one : (w : What) → (if (s == s) && (c == c) then w ∷ [] else []) ≡ w ∷ []
      one w = ap (λ (t : Bool). if t then w ∷ [] else []) (itself s c)

      by_last : ((items ≡ outs_of s c p.pieces ++ End s c ∷ []) × IsAtEnd p.rest) ⊎ ((cause : Cause) × (items ≡ outs_of s c p.pieces ++ ReadFail s c cause ∷ [])) →
          ((heard s c items ≡ map (λ q. what.Out q) p.pieces ++ what.Eof ∷ []) × IsAtEnd p.rest) ⊎ ((cause : Cause) × (heard s c items ≡ map (λ q. what.Out q) p.pieces ++ what.ReadFail cause ∷ []))
      by_last (inl (is, end)) = inl (ap (heard s c) is ∙ heard_pieces s c p.pieces (End s c) what.Eof (one what.Eof), end)
      by_last (inr (cause, is)) = inr (cause, ap (heard s c) is ∙ heard_pieces s c p.pieces (ReadFail s c cause) (what.ReadFail cause) (one (what.ReadFail cause)))

  -- answers that a desk took are the first that the hand put

  later : (script name n : ℕ) (qs : List Request) (put : List (RingItem K O g r)) (t : Telling) → AreAnswers script name n qs put → Contains (all_told put) t → n < t.call
  later script name n [] [] t are has = absurd (none_in t has)
  later script name n [] (x ∷ put) t are has = absurd (no_more script name n x put are)
  later script name n (q ∷ qs) [] t are has = absurd are
  later script name n (q ∷ qs) (Out s c p ∷ put) t are has = absurd are
  later script name n (q ∷ qs) (End s c ∷ put) t are has = absurd are
  later script name n (q ∷ qs) (ReadFail s c e ∷ put) t are has = absurd are
  later script name n (q ∷ qs) (Answer s a ∷ put) t are has = by_place (first_or_later (telling_of a) (all_told put) t has) (λ more. later script name (n + 1) qs put t are.4 more)
    where
      by_place : (telling_of a ≡ t) ⊎ Contains (all_told put) t → (Contains (all_told put) t → n + 1 < t.call) → n < t.call
      by_place (inl same) behind_it =
          let call = sym (ap (λ (x : Telling). x.call) same) ∙ are.2 in
          omega (arith, call)
      by_place (inr more) behind_it = let lt = behind_it more in omega (arith, lt)
  later script name n (q ∷ qs) (Ask r ∷ put) t are has = absurd are
  later script name n (q ∷ qs) (Stop ∷ put) t are has = absurd are

  pub started_first : (script name n child call : ℕ) (qs : List Request) (put : List (RingItem K O g r)) (xs : List Reply) (rs : List Request) → AreAnswers script name n qs put → AreAmong (all_told put) name n xs rs →
      started_by child n xs rs ≡ Some call → spawn_call child put ≡ Some call
  started_first script name n child call qs put [] rs are among is = absurd (nothing_there call is)
  started_first script name n child call qs put (x ∷ xs) [] are among is = absurd among
  started_first script name n child call [] [] (x ∷ xs) (r ∷ rs) are among is = absurd (none_in _ among.0)
  started_first script name n child call [] (i ∷ put) (x ∷ xs) (r ∷ rs) are among is = absurd (no_more script name n i put are)
  started_first script name n child call (q ∷ qs) [] (x ∷ xs) (r ∷ rs) are among is = absurd are
  started_first script name n child call (q ∷ qs) (Out s c p ∷ put) (x ∷ xs) (r ∷ rs) are among is = absurd are
  started_first script name n child call (q ∷ qs) (End s c ∷ put) (x ∷ xs) (r ∷ rs) are among is = absurd are
  started_first script name n child call (q ∷ qs) (ReadFail s c e ∷ put) (x ∷ xs) (r ∷ rs) are among is = absurd are
  started_first script name n child call (q ∷ qs) (Answer s a ∷ put) (x ∷ xs) (r ∷ rs) are among is =
      by_test ((r.child == child) && starts r x) refl is (started_first script name (n + 1) child call qs put xs rs are.4 rest)
    where
      -- the answer of the next call is the next one
      mine : telling_of a ≡ record { name = name; call = n + 1; request = r; answer = x }
      mine = elim (first_or_later (telling_of a) (all_told put) _ among.0) [
        | inl same ↦ same
        | inr more ↦ absurd (let lt = later script name (n + 1) qs put _ are.4 more in omega (arith, lt))
      ]

      rest : AreAmong (all_told put) name (n + 1) xs rs
      rest = behind (telling_of a) (all_told put) name (n + 1) xs rs (let call = are.2 in omega (arith, call)) among.1

      tests : ((a.request.child == child) && starts a.request a.answer) ≡ ((r.child == child) && starts r x)
      tests = ap (λ (t : Telling). (t.request.child == child) && starts t.request t.answer) mine

      by_test : (t : Bool) → ((r.child == child) && starts r x) ≡ t → (if t then Some (n + 1) else started_by child (n + 1) xs rs) ≡ Some call → (started_by child (n + 1) xs rs ≡ Some call → spawn_call child put ≡ Some call) →
          (if (a.request.child == child) && starts a.request a.answer then Some a.call else spawn_call child put) ≡ Some call
      by_test true e h more = ap (λ (b : Bool). if b then Some a.call else spawn_call child put) (tests ∙ e) ∙ ap (λ (k : ℕ). Some k) are.2 ∙ h
      by_test false e h more = ap (λ (b : Bool). if b then Some a.call else spawn_call child put) (tests ∙ e) ∙ more h
  started_first script name n child call (q ∷ qs) (Ask p ∷ put) (x ∷ xs) (r ∷ rs) are among is = absurd are
  started_first script name n child call (q ∷ qs) (Stop ∷ put) (x ∷ xs) (r ∷ rs) are among is = absurd are

  -- and were told
  telling_told : (items : List (RingItem K O g r)) (t : Telling) → Contains (all_told items) t → ∥ g.told t.name t.call t.request t.answer ∥₁
  telling_told [] t has = absurd (none_in t has)
  telling_told (Out s c p ∷ items) t has = telling_told items t has
  telling_told (End s c ∷ items) t has = telling_told items t has
  telling_told (ReadFail s c e ∷ items) t has = telling_told items t has
  telling_told (Answer s a ∷ items) t has = elim (first_or_later (telling_of a) (all_told items) t has) [
    | inl same ↦ subst (λ (x : Telling). ∥ g.told x.name x.call x.request x.answer ∥₁) same a.told
    | inr more ↦ telling_told items t more
  ]
  telling_told (Ask q ∷ items) t has = telling_told items t has
  telling_told (Stop ∷ items) t has = telling_told items t has

  pub among_told : (items : List (RingItem K O g r)) (name n : ℕ) (xs : List Reply) (qs : List Request) → AreAmong (all_told items) name n xs qs → AreTold g.told name n xs qs
  among_told items name n [] qs among = tt
  among_told items name n (x ∷ xs) [] among = absurd among
  among_told items name n (x ∷ xs) (q ∷ qs) among = (telling_told items _ among.0, among_told items name (n + 1) xs qs among.1)

  -- the first of what was put
  told_front : (xs rest : List (RingItem K O g r)) (t : Telling) → Contains (all_told xs) t → Contains (all_told (xs ++ rest)) t
  told_front xs rest t has = subst (λ (ts : List Telling). Contains ts t) (sym (flat_map-append tells xs rest)) (Contains-append_left (all_told xs) (all_told rest) t has)

  pub given_of : (s name made c : ℕ) (qs : List Request) (put taken rest items : List (RingItem K O g r)) (xs : List Reply) (rs : List Request) → AreAnswers s name made qs put → taken ++ rest ≡ put →
      AreAmong (all_told taken) name made xs rs → IsPut s name c put items → IsGiven g.told g.gives name made c xs rs (heard s c items)
  given_of s name made c qs put taken rest items xs rs are front among (inl (never, none)) = record {
    started = λ call is. absurd (nothing_there call (sym never ∙ started_first s name made c call qs put xs rs are all_among is));
    any = inl (ap (heard s c) none);
  }
    where
      all_among : AreAmong (all_told put) name made xs rs
      all_among = subst (λ (l : List (RingItem K O g r)). AreAmong (all_told l) name made xs rs) front (among_more (all_told taken) (all_told (taken ++ rest)) (told_front taken rest) name made xs rs among)
  given_of s name made c qs put taken rest items xs rs are front among (inr (first, bytes, is_first, gave, list)) = record {
    started = λ call is.
        let same : first ≡ call = one_there first call (sym is_first ∙ started_first s name made c call qs put xs rs are all_among is) in
        (bytes, subst (λ (k : ℕ). g.gives name k bytes) same gave, heard_list s c bytes items list);
    any = inr (bytes, starts_with s name made c first bytes qs put are is_first gave, heard_list s c bytes items list);
  }
    where
      all_among : AreAmong (all_told put) name made xs rs
      all_among = subst (λ (l : List (RingItem K O g r)). AreAmong (all_told l) name made xs rs) front (among_more (all_told taken) (all_told (taken ++ rest)) (told_front taken rest) name made xs rs among)
