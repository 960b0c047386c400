-- Records that are merged by their moments.
use Rattle.std.proofs.Common.{◌≡◌, ℕ, zero, suc, ◌+◌, ◌-◌, ◌*◌, ◌/◌, ◌%◌, ◌≤◌, ◌<◌, List, [], ◌∷◌, ◌++◌, map, length, Bool, true, false, ◌⊎◌, inl, inr, Option, Some, None, refl, sym, ap, subst, ◌∙◌, arith}
use Rattle.std.specs.List.{AllByRecursion}
use Rattle.std.specs.Prelude.{nat_le, ◌==◌, if◌then◌else◌, slice_get, IsTrue}
use Rattle.std.proofs.lemmas.Bool.Decides.{nat_tests}
use Rattle.std.proofs.lemmas.List.Elements.{filter-append}
use Rattle.std.proofs.lemmas.Nat.{mod-mul-add, div-mul-add}
use Rattle.child_events.specs.declared.child_numbers.ChildNumbers.TheVariants.{To16}
use Rattle.child_events.specs.declared.event.What.{What}
use Rattle.child_events.specs.declared.event.Event.{Event}
use Rattle.child_events.specs.declared.event.Event.TheVariants as event
use Rattle.child_events.specs.declared.event.HallEvent.{HallEvent}
use Rattle.child_events.specs.declared.event.HallEvent.TheVariants as hall
use Rattle.child_events.specs.World.{own, own_of, after_own}
use Rattle.child_events.specs.Log.{AllFit, fits}
use Rattle.dialogue_sched.specs.Ticks.{RisesFrom, Rises, WithTicks, none, tick}
use Rattle.dialogue_sched.proofs.Ticking.{ticks_change_nothing, ticks_only_add}
use Rattle.run_records.specs.Joined.{script_of, numbered, all_from, at_moment, AllFitFrom, AllFits, IsJoined, EachSees, EachMeans}
use Rattle.child_hands.specs.Record.{moment_in, AscendsFrom, Ascends}
use Rattle.run_records.proofs.Ticking.{OnlyTicks, unchanged, put_twice, after_both, ticks_behind, tick_more}

abbrev pub Entries : Type 0
Entries = List HallEvent

-- x goes before the first entry that isn't earlier, and what goes on from there is k's
abbrev pub put_in : HallEvent → (Entries → Entries) → Entries → Entries
put_in x k [] = x ∷ k []
put_in x k (y ∷ ys) = if nat_le (moment_in x) (moment_in y) then x ∷ k (y ∷ ys) else y ∷ put_in x k ys

-- two records as one: of equal moments the first record's entries come first
abbrev pub merged : Entries → Entries → Entries
merged [] ys = ys
merged (x ∷ xs) ys = put_in x (merged xs) ys

abbrev pub merged_from : ℕ → ℕ → List Entries → Entries
merged_from workers w [] = []
merged_from workers w (r ∷ rs) = merged (map (numbered workers w) r) (merged_from workers (w + 1) rs)

by_test : {A : Type 0} (P : A → Type 0) (a b : ℕ) (x y : A) → (a ≤ b → P x) → (b < a → P y) → P (if nat_le a b then x else y)
by_test P a b x y low high = tested (nat_le a b) refl
  where
    tested : (t : Bool) → nat_le a b ≡ t → P (if t then x else y)
    tested true e = low (grind (arith, nat_tests, e))
    tested false e = high (grind (arith, nat_tests, e))

-- moments of a merged record

pub ascends_lower : (l m : ℕ) (xs : Entries) → l ≤ m → AscendsFrom m xs → AscendsFrom l xs
ascends_lower l m [] le a = tt
ascends_lower l m (x ∷ xs) le a = (omega (arith, le, a.0), a.1)

put_ascends : (l : ℕ) (x : HallEvent) (k : Entries → Entries) (ys : Entries) → l ≤ moment_in x → AscendsFrom l ys → ((zs : Entries) → AscendsFrom (moment_in x) zs → AscendsFrom (moment_in x) (k zs)) → AscendsFrom l (put_in x k ys)
put_ascends l x k [] le a more = (le, more [] tt)
put_ascends l x k (y ∷ ys) le a more =
    by_test (AscendsFrom l) (moment_in x) (moment_in y) (x ∷ k (y ∷ ys)) (y ∷ put_in x k ys)
    (λ h. (le, more (y ∷ ys) (h, a.1)))
    (λ h. (a.0, put_ascends (moment_in y) x k ys (omega (arith, h)) a.1 more))

pub merged_ascends : (l : ℕ) (xs ys : Entries) → AscendsFrom l xs → AscendsFrom l ys → AscendsFrom l (merged xs ys)
merged_ascends l [] ys a b = b
merged_ascends l (x ∷ xs) ys a b = put_ascends l x (merged xs) ys a.0 b (λ zs c. merged_ascends (moment_in x) xs zs a.1 c)

pub numbered_moment : (workers w : ℕ) (x : HallEvent) → moment_in (numbered workers w x) ≡ moment_in x
numbered_moment workers w (hall.Child s c m x) = refl
numbered_moment workers w (hall.Tick m) = refl

numbered_ascends : (workers w l : ℕ) (r : Entries) → AscendsFrom l r → AscendsFrom l (map (numbered workers w) r)
numbered_ascends workers w l [] a = tt
numbered_ascends workers w l (x ∷ r) a =
    let e = numbered_moment workers w x in
    (subst (λ (n : ℕ). l ≤ n) (sym e) a.0, subst (λ (n : ℕ). AscendsFrom n (map (numbered workers w) r)) (sym e) (numbered_ascends workers w (moment_in x) r a.1))

pub all_ascend : (workers w : ℕ) (rs : List Entries) → AllFitFrom workers w rs → Ascends (merged_from workers w rs)
all_ascend workers w [] f = tt
all_ascend workers w (r ∷ rs) f = merged_ascends 0 _ _ (numbered_ascends workers w 0 r f.0.ascends) (all_ascend workers (w + 1) rs f.1)

-- the entries of a moment

pub at_here : (m : ℕ) (x : HallEvent) (xs : Entries) → moment_in x ≡ m → at_moment m (x ∷ xs) ≡ x ∷ at_moment m xs
at_here m x xs e = let t : (moment_in x == m) ≡ true = grind (arith, nat_tests, e) in ap (λ (b : Bool). if b then x ∷ at_moment m xs else at_moment m xs) t

pub at_other : (m : ℕ) (x : HallEvent) (xs : Entries) → (moment_in x ≡ m → ⊥) → at_moment m (x ∷ xs) ≡ at_moment m xs
at_other m x xs e = let t : (moment_in x == m) ≡ false = grind (arith, nat_tests, e) in ap (λ (b : Bool). if b then x ∷ at_moment m xs else at_moment m xs) t

none_below : (m l : ℕ) (xs : Entries) → m < l → AscendsFrom l xs → at_moment m xs ≡ []
none_below m l [] lt a = refl
none_below m l (x ∷ xs) lt a = at_other m x xs (λ e. absurd (omega (arith, lt, a.0, e))) ∙ none_below m (moment_in x) xs (omega (arith, lt, a.0)) a.1

pub decided : (a b : ℕ) → (a ≡ b) ⊎ (a ≡ b → ⊥)
decided a b = tested (a == b) refl
  where
    tested : (t : Bool) → (a == b) ≡ t → (a ≡ b) ⊎ (a ≡ b → ⊥)
    tested true e = inl (grind (arith, nat_tests, e))
    tested false e = inr (λ h. absurd (grind (arith, nat_tests, e, h)))

put_at : (m : ℕ) (x : HallEvent) (xs : Entries) (k : Entries → Entries) (ys : Entries) → AscendsFrom (moment_in x) xs → ((zs : Entries) → at_moment m (k zs) ≡ at_moment m xs ++ at_moment m zs) → at_moment m (put_in x k ys) ≡ at_moment m (x ∷ xs) ++ at_moment m ys
put_at m x xs k ys a more = on ys
  where
    first : (zs : Entries) → at_moment m (x ∷ k zs) ≡ at_moment m (x ∷ xs) ++ at_moment m zs
    first zs = elim (decided (moment_in x) m) [
      | inl e ↦ at_here m x (k zs) e ∙ ap (λ (l : Entries). x ∷ l) (more zs) ∙ ap (λ (l : Entries). l ++ at_moment m zs) (sym (at_here m x xs e))
      | inr n ↦ at_other m x (k zs) n ∙ more zs ∙ ap (λ (l : Entries). l ++ at_moment m zs) (sym (at_other m x xs n))
    ]

    on : (ys : Entries) → at_moment m (put_in x k ys) ≡ at_moment m (x ∷ xs) ++ at_moment m ys
    on [] = first []
    on (y ∷ ys) =
        by_test (λ (l : Entries). at_moment m l ≡ at_moment m (x ∷ xs) ++ at_moment m (y ∷ ys)) (moment_in x) (moment_in y) (x ∷ k (y ∷ ys)) (y ∷ put_in x k ys)
        (λ h. first (y ∷ ys))
        (λ h. elim (decided (moment_in y) m) [
          | inl e ↦
              let empty : at_moment m (x ∷ xs) ≡ [] = none_below m (moment_in x) (x ∷ xs) (omega (arith, h, e)) (omega arith, a) in
              at_here m y (put_in x k ys) e
              ∙ ap (λ (l : Entries). y ∷ l) (on ys)
              ∙ ap (λ (l : Entries). y ∷ (l ++ at_moment m ys)) empty
              ∙ sym (at_here m y ys e)
              ∙ ap (λ (l : Entries). l ++ at_moment m (y ∷ ys)) (sym empty)
          | inr n ↦ at_other m y (put_in x k ys) n ∙ on ys ∙ ap (λ (l : Entries). at_moment m (x ∷ xs) ++ l) (sym (at_other m y ys n))
        ])

merged_at : (m l : ℕ) (xs ys : Entries) → AscendsFrom l xs → at_moment m (merged xs ys) ≡ at_moment m xs ++ at_moment m ys
merged_at m l [] ys a = refl
merged_at m l (x ∷ xs) ys a = put_at m x xs (merged xs) ys a.1 (λ zs. merged_at m (moment_in x) xs zs a.1)

pub all_at : (m workers w : ℕ) (rs : List Entries) → AllFitFrom workers w rs → at_moment m (merged_from workers w rs) ≡ at_moment m (all_from workers w rs)
all_at m workers w [] f = refl
all_at m workers w (r ∷ rs) f =
    merged_at m 0 (map (numbered workers w) r) (merged_from workers (w + 1) rs) (numbered_ascends workers w 0 r f.0.ascends)
    ∙ ap (λ (l : Entries). at_moment m (map (numbered workers w) r) ++ l) (all_at m workers (w + 1) rs f.1)
    ∙ sym (filter-append (λ (e : HallEvent). moment_in e == m) (map (numbered workers w) r) (all_from workers (w + 1) rs))

-- a list is known by its order of moments and its entries of each

head_is : (x y : HallEvent) (xs ys : Entries) → x ∷ xs ≡ y ∷ ys → x ≡ y
head_is x y xs ys e = cc

tail_is : (x y : HallEvent) (xs ys : Entries) → x ∷ xs ≡ y ∷ ys → xs ≡ ys
tail_is x y xs ys e = cc

no_entry : (x : HallEvent) (xs : Entries) → x ∷ xs ≡ [] → ⊥
no_entry x xs e = cc

-- the first of one list isn't earlier than the first of another one with the same entries of each moment
not_earlier : (x y : HallEvent) (xs ys : Entries) → AscendsFrom (moment_in y) ys → ((m : ℕ) → at_moment m (x ∷ xs) ≡ at_moment m (y ∷ ys)) → moment_in x < moment_in y → ⊥
not_earlier x y xs ys a same lt =
    no_entry x (at_moment (moment_in x) xs) (sym (at_here (moment_in x) x xs refl) ∙ same (moment_in x) ∙ none_below (moment_in x) (moment_in y) (y ∷ ys) lt (omega arith, a))

pub known_by : (k l : ℕ) (xs ys : Entries) → AscendsFrom k xs → AscendsFrom l ys → ((m : ℕ) → at_moment m xs ≡ at_moment m ys) → xs ≡ ys
known_by k l [] [] a b same = refl
known_by k l [] (y ∷ ys) a b same = absurd (no_entry y _ (sym (at_here (moment_in y) y ys refl) ∙ sym (same (moment_in y))))
known_by k l (x ∷ xs) [] a b same = absurd (no_entry x _ (sym (at_here (moment_in x) x xs refl) ∙ same (moment_in x)))
known_by k l (x ∷ xs) (y ∷ ys) a b same =
    let one : moment_in x ≡ moment_in y = level (not_earlier x y xs ys b.1 same) (not_earlier y x ys xs a.1 (λ m. sym (same m))) in
    let both = sym (at_here (moment_in x) x xs refl) ∙ same (moment_in x) ∙ at_here (moment_in x) y ys (sym one) in
    let first : x ≡ y = head_is x y _ _ both in
    let rest : xs ≡ ys = known_by (moment_in x) (moment_in y) xs ys a.1 b.1 (behind one (tail_is x y _ _ both)) in
    cc
  where
    level : (moment_in x < moment_in y → ⊥) → (moment_in y < moment_in x → ⊥) → moment_in x ≡ moment_in y
    level p q = omega (arith, p, q)

    behind : moment_in x ≡ moment_in y → at_moment (moment_in x) xs ≡ at_moment (moment_in x) ys → (m : ℕ) → at_moment m xs ≡ at_moment m ys
    behind one here m = elim (decided (moment_in x) m) [
      | inl e ↦ subst (λ (n : ℕ). at_moment n xs ≡ at_moment n ys) e here
      | inr n ↦ sym (at_other m x xs n) ∙ same m ∙ at_other m y ys (λ e. n (one ∙ e))
    ]

-- What a script sees of merged records.

module _ (k : ℕ) where
  put_first : (x : HallEvent) (xs : Entries) (f : Entries → Entries) (ys : Entries) → OnlyTicks (own k ys) → ((zs : Entries) → OnlyTicks (own k zs) → WithTicks (own k xs) (own k (f zs))) → WithTicks (own k (x ∷ xs)) (own k (put_in x f ys))
  put_first x xs f [] o more = after_both (own_of k x) (own k xs) (own k (f [])) (more [] o)
  put_first x xs f (y ∷ ys) o more =
      by_test (λ (l : Entries). WithTicks (own k (x ∷ xs)) (own k l)) (moment_in x) (moment_in y) (x ∷ f (y ∷ ys)) (y ∷ put_in x f ys)
      (λ h. after_both (own_of k x) (own k xs) (own k (f (y ∷ ys))) (more (y ∷ ys) o))
      (λ h. tick_more (own_of k y) (own k ys) (own k (x ∷ xs)) (own k (put_in x f ys)) o (put_first x xs f ys (ticks_behind (own_of k y) (own k ys) o) more))

  -- of the first record, where the second one has nothing for the script but ticks
  pub sees_first : (xs ys : Entries) → OnlyTicks (own k ys) → WithTicks (own k xs) (own k (merged xs ys))
  sees_first [] ys o = o
  sees_first (x ∷ xs) ys o = put_first x xs (merged xs) ys o (λ zs p. sees_first xs zs p)

  put_second : (x : HallEvent) (xs : Entries) (f : Entries → Entries) (ys : Entries) → OnlyTicks (own k (x ∷ xs)) → ((zs : Entries) → WithTicks (own k zs) (own k (f zs))) → WithTicks (own k ys) (own k (put_in x f ys))
  put_second x xs f [] o more = tick_more (own_of k x) (own k xs) [] (own k (f [])) o (more [])
  put_second x xs f (y ∷ ys) o more =
      by_test (λ (l : Entries). WithTicks (own k (y ∷ ys)) (own k l)) (moment_in x) (moment_in y) (x ∷ f (y ∷ ys)) (y ∷ put_in x f ys)
      (λ h. tick_more (own_of k x) (own k xs) (own k (y ∷ ys)) (own k (f (y ∷ ys))) o (more (y ∷ ys)))
      (λ h. after_both (own_of k y) (own k ys) (own k (put_in x f ys)) (put_second x xs f ys o more))

  -- of the second, where the first one has nothing for it but ticks
  pub sees_second : (xs ys : Entries) → OnlyTicks (own k xs) → WithTicks (own k ys) (own k (merged xs ys))
  sees_second [] ys o = unchanged (own k ys)
  sees_second (x ∷ xs) ys o = put_second x xs (merged xs) ys o (λ zs. sees_second xs zs (ticks_behind (own_of k x) (own k xs) o))

  sees_neither : (xs ys : Entries) → OnlyTicks (own k xs) → OnlyTicks (own k ys) → OnlyTicks (own k (merged xs ys))
  sees_neither xs ys o p = put_twice [] (own k ys) (own k (merged xs ys)) p (sees_second xs ys o)

differs : (a b : ℕ) → (a ≡ b → ⊥) → (a == b) ≡ false
differs a b d = grind (arith, nat_tests, d)

-- a script's number tells its worker and its number there
same_worker : (n a b w v : ℕ) → w < n → v < n → a * n + w + 1 ≡ b * n + v + 1 → w ≡ v
same_worker n a b w v lt less e =
    let same : a * n + w ≡ b * n + v = omega (arith, e) in
    sym (mod-mul-add a n w lt) ∙ ap (λ (x : ℕ). x % n) same ∙ mod-mul-add b n v less

same_number : (n a b w : ℕ) → w < n → a * n + w + 1 ≡ b * n + w + 1 → a ≡ b
same_number n a b w lt e =
    let same : a * n + w ≡ b * n + w = omega (arith, e) in
    sym (div-mul-add a n w lt) ∙ ap (λ (x : ℕ). x / n) same ∙ div-mul-add b n w lt

from_one : (s c m : ℕ) (x : What) → IsTrue (fits To16 (hall.Child s c m x)) → 1 ≤ s
from_one s c m x f = grind (arith, nat_tests, f)

module _ (n w : ℕ) (here : w < n) (number : ℕ) (one : 1 ≤ number) where
  abbrev k : ℕ
  k = script_of n w number

  mine : (s c m : ℕ) (x : What) → 1 ≤ s → own_of k (numbered n w (hall.Child s c m x)) ≡ own_of number (hall.Child s c m x)
  mine s c m x from = ap (λ (t : Bool). if t then Some (event.Child c m x) else None) tests
    where
      back : script_of n w s ≡ script_of n w number → s ≡ number
      back e = let h : s - 1 ≡ number - 1 = same_number n (s - 1) (number - 1) w here e in omega (arith, h, from, one)

      tests : (script_of n w s == script_of n w number) ≡ (s == number)
      tests = elim (decided s number) [
        | inl e ↦
            let t : (s == number) ≡ true = grind (arith, nat_tests, e) in
            let u : (script_of n w s == script_of n w number) ≡ true = let same : script_of n w s ≡ script_of n w number = ap (script_of n w) e in grind (arith, nat_tests, same) in
            u ∙ sym t
        | inr d ↦
            let t : (s == number) ≡ false = grind (arith, nat_tests, d) in
            let u : (script_of n w s == script_of n w number) ≡ false = differs (script_of n w s) (script_of n w number) (λ e. d (back e)) in
            u ∙ sym t
      ]

  own_numbered : (r : Entries) → AllFit To16 r → own k (map (numbered n w) r) ≡ own number r
  own_numbered [] f = refl
  own_numbered (hall.Child s c m x ∷ r) f =
      ap (λ (o : Option Event). after_own o (own k (map (numbered n w) r))) (mine s c m x (from_one s c m x f.0)) ∙ ap (after_own (own_of number (hall.Child s c m x))) (own_numbered r f.1)
  own_numbered (hall.Tick m ∷ r) f = ap (λ (l : List Event). event.Tick m ∷ l) (own_numbered r f.1)

  -- another worker's record has nothing for it but ticks
  other_worker : (v : ℕ) → v < n → (v ≡ w → ⊥) → (r : Entries) → OnlyTicks (own k (map (numbered n v) r))
  other_worker v less d [] = none
  other_worker v less d (hall.Tick m ∷ r) = tick m [] _ (other_worker v less d r)
  other_worker v less d (hall.Child s c m x ∷ r) =
      subst (λ (o : Option Event). OnlyTicks (after_own o (own k (map (numbered n v) r)))) (sym theirs) (other_worker v less d r)
    where
      theirs : own_of k (numbered n v (hall.Child s c m x)) ≡ None
      theirs = ap (λ (t : Bool). if t then Some (event.Child c m x) else None) (differs (script_of n v s) (script_of n w number) (λ e. d (same_worker n (s - 1) (number - 1) v w less here e)))

  later_workers : (v : ℕ) (rs : List Entries) → w < v → v + length rs ≤ n → OnlyTicks (own k (merged_from n v rs))
  later_workers v [] lt le = none
  later_workers v (r ∷ rs) lt le =
      sees_neither k (map (numbered n v) r) (merged_from n (v + 1) rs)
      (other_worker v (omega (arith, le)) (λ e. absurd (omega (arith, lt, e))) r)
      (later_workers (v + 1) rs (omega (arith, lt)) (omega (arith, le)))

  pub sees_at : (v i : ℕ) (rs : List Entries) (r : Entries) → v + i ≡ w → v + length rs ≤ n → AllFitFrom n v rs → slice_get rs i ≡ Some r → WithTicks (own number r) (own k (merged_from n v rs))
  sees_at v i [] r e le f got = absurd (no_some r got)
    where
      no_some : (r : Entries) → ◌≡◌ {A = Option Entries} None (Some r) → ⊥
      no_some r h = cc
  sees_at v zero (x ∷ rs) r e le f got =
      let v_is : v ≡ w = omega (arith, e) in
      let is : x ≡ r = some_is x r got in
      subst (λ (y : Entries). WithTicks (own number y) (own k (merged_from n v (x ∷ rs)))) is
      (subst (λ (u : ℕ). WithTicks (own number x) (own k (merged (map (numbered n u) x) (merged_from n (v + 1) rs)))) (sym v_is)
      (subst (λ (l : List Event). WithTicks l (own k (merged (map (numbered n w) x) (merged_from n (v + 1) rs)))) (own_numbered x f.0.here)
      (sees_first k (map (numbered n w) x) (merged_from n (v + 1) rs) (later_workers (v + 1) rs (omega (arith, e)) (omega (arith, le))))))
    where
      some_is : (x r : Entries) → Some x ≡ Some r → x ≡ r
      some_is x r h = cc
  sees_at v (suc i) (x ∷ rs) r e le f got =
      put_twice (own number r) (own k (merged_from n (v + 1) rs)) _
      (sees_at (v + 1) i rs r (omega (arith, e)) (omega (arith, le)) f.1 got)
      (sees_second k (map (numbered n v) x) (merged_from n (v + 1) rs) (other_worker v (omega (arith, le)) (λ h. absurd (omega (arith, e, h))) x))

-- what holds of each entry

module _ (P : HallEvent → Type 0) where
  put_each : (x : HallEvent) (k : Entries → Entries) (ys : Entries) → P x → AllByRecursion P ys → ((zs : Entries) → AllByRecursion P zs → AllByRecursion P (k zs)) → AllByRecursion P (put_in x k ys)
  put_each x k [] p a more = (p, more [] tt)
  put_each x k (y ∷ ys) p a more =
      by_test (AllByRecursion P) (moment_in x) (moment_in y) (x ∷ k (y ∷ ys)) (y ∷ put_in x k ys) (λ h. (p, more (y ∷ ys) a)) (λ h. (a.0, put_each x k ys p a.1 more))

  merged_each : (xs ys : Entries) → AllByRecursion P xs → AllByRecursion P ys → AllByRecursion P (merged xs ys)
  merged_each [] ys a b = b
  merged_each (x ∷ xs) ys a b = put_each x (merged xs) ys a.0 b (λ zs c. merged_each xs zs a.1 c)

  -- it holds of each entry under the number that its script has among all
  abbrev pub EachFrom : ℕ → ℕ → List Entries → Type 0
  EachFrom workers w [] = Unit {0}
  EachFrom workers w (r ∷ rs) = AllByRecursion P (map (numbered workers w) r) × EachFrom workers (w + 1) rs

  each_merged : (workers w : ℕ) (rs : List Entries) → EachFrom workers w rs → AllByRecursion P (merged_from workers w rs)
  each_merged workers w [] e = tt
  each_merged workers w (r ∷ rs) e = merged_each _ _ e.0 (each_merged workers (w + 1) rs e.1)

each_fits : (workers w : ℕ) (rs : List Entries) → AllFitFrom workers w rs → EachFrom (λ e. IsTrue (fits To16 e)) workers w rs
each_fits workers w [] f = tt
each_fits workers w (r ∷ rs) f = (f.0.among, each_fits workers (w + 1) rs f.1)

-- what a script sees of a record rises as the record does

lower : (l m : ℕ) (es : List Event) → l ≤ m → RisesFrom m es → RisesFrom l es
lower l m [] le up = tt
lower l m (e ∷ es) le up = (omega (arith, le, up.0), up.1)

own_rises : (k l : ℕ) (es : Entries) → AscendsFrom l es → RisesFrom l (own k es)
own_rises k l [] up = tt
own_rises k l (hall.Tick m ∷ es) up = (up.0, own_rises k m es up.1)
own_rises k l (hall.Child s c m x ∷ es) up = tested (s == k) (own_rises k m es up.1)
  where
    tested : (t : Bool) → RisesFrom m (own k es) → RisesFrom l (after_own (if t then Some (event.Child c m x) else None) (own k es))
    tested true more = (up.0, more)
    tested false more = lower l m (own k es) up.0 more

pub ascends_own : (k : ℕ) (es : Entries) → Ascends es → Rises (own k es)
ascends_own k es up = own_rises k 0 es up

-- the joined record

module _ (records : List Entries) (es : Entries) (f : AllFits records) (j : IsJoined records es) where
  joined_is : merged_from (length records) 0 records ≡ es
  joined_is =
      known_by 0 0 (merged_from (length records) 0 records) es (all_ascend (length records) 0 records f) j.ascends
      (λ m. all_at m (length records) 0 records f ∙ sym (j.ties m))

  pub joined_sees : EachSees records es
  joined_sees w number r got one =
      subst (λ (l : Entries). WithTicks (own number r) (own (script_of (length records) w number) l)) joined_is
      (sees_at (length records) w (within w records r got) number one 0 w records r (omega arith) (omega arith) f got)
    where
      within : (i : ℕ) (rs : List Entries) (r : Entries) → slice_get rs i ≡ Some r → i < length rs
      within i [] r h = absurd (no_some r h)
        where
          no_some : (r : Entries) → ◌≡◌ {A = Option Entries} None (Some r) → ⊥
          no_some r h = cc
      within zero (x ∷ rs) r h = omega arith
      within (suc i) (x ∷ rs) r h = omega (arith, within i rs r h)

  pub joined_means : EachMeans records es
  joined_means w number r got one source settings =
      let up : Rises (own (script_of (length records) w number) es) = ascends_own (script_of (length records) w number) es j.ascends in
      let sees = joined_sees w number r got one in
      (ticks_change_nothing source settings _ _ up sees, ticks_only_add source settings _ _ up sees)

  pub joined_each : (P : HallEvent → Type 0) → EachFrom P (length records) 0 records → AllByRecursion P es
  joined_each P each = subst (AllByRecursion P) joined_is (each_merged P (length records) 0 records each)

  pub joined_fit : AllFit To16 es
  joined_fit = joined_each (λ e. IsTrue (fits To16 e)) (each_fits (length records) 0 records f)
