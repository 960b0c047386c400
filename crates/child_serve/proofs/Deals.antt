-- Dealing out, one element after another.
use Rattle.std.proofs.Common.{◌≡◌, ◌≢◌, ℕ, zero, suc, ◌+◌, ◌*◌, ◌/◌, ◌%◌, ◌≤◌, ◌<◌, List, [], ◌∷◌, ◌++◌, length, map, Bool, true, false, Option, Some, None, refl, sym, ap, subst, ◌∙◌, append_assoc, append-nil, arith}
use Rattle.std.specs.Prelude.{slice_get, slice_set, ◌==◌, nat_lt, if◌then◌else◌}
use Rattle.std.proofs.Math.Nat.{mul-lt-mul_of_pos_right, mod-lt, suc-mod, mod-eq_of_lt, mod_self}
use Rattle.std.proofs.lemmas.Nat.{div-add-mod', mod-mul-add}
use Rattle.std.proofs.lemmas.Option.{slice_get_past, slice_get_within}
use Rattle.std.proofs.lemmas.Bool.Decides.{nat_tests}
use Rattle.child_serve.specs.Dealt.{IsDealt, AllDealt, Pushed}

module _ {X : Type 0} where
  no_x : (x : X) → ◌≡◌ {A = Option X} None (Some x) → ⊥
  no_x x h = cc

  snoc_before : (xs : List X) (x : X) (j : ℕ) → j < length xs → slice_get (xs ++ x ∷ []) j ≡ slice_get xs j
  snoc_before [] x j lt = absurd (omega (arith, lt))
  snoc_before (y ∷ xs) x zero lt = refl
  snoc_before (y ∷ xs) x (suc j) lt = snoc_before xs x j (omega (arith, lt))

  snoc_at : (xs : List X) (x : X) → slice_get (xs ++ x ∷ []) (length xs) ≡ Some x
  snoc_at [] x = refl
  snoc_at (y ∷ xs) x = snoc_at xs x

  snoc_length : (xs : List X) (x : X) → length (xs ++ x ∷ []) ≡ length xs + 1
  snoc_length [] x = refl
  snoc_length (y ∷ xs) x = let e = snoc_length xs x in omega (arith, e)

  snoc_past : (xs : List X) (x : X) (j : ℕ) → length xs < j → slice_get (xs ++ x ∷ []) j ≡ None
  snoc_past xs x j lt = let e = snoc_length xs x in slice_get_past (xs ++ x ∷ []) j (omega (arith, e, lt))

  pub there : (xs : List X) (j : ℕ) → j < length xs → (x : X) × (slice_get xs j ≡ Some x)
  there [] j lt = absurd (omega (arith, lt))
  there (x ∷ xs) zero lt = (x, refl)
  there (x ∷ xs) (suc j) lt = there xs j (omega (arith, lt))

  pub beyond : (xs : List X) (j : ℕ) → slice_get xs j ≡ None → length xs ≤ j
  beyond xs j none = by_place (nat_lt j (length xs)) refl
    where
      by_place : (t : Bool) → nat_lt j (length xs) ≡ t → length xs ≤ j
      by_place true e =
          let lt : j < length xs = grind (arith, nat_tests, e) in
          let h = there xs j lt in absurd (no_x h.0 (sym none ∙ h.1))
      by_place false e = grind (arith, nat_tests, e)

  module _ (n : ℕ) (some : 0 < n) (all part : List X) where
    abbrev q : ℕ
    q = length all / n

    -- the place behind all
    last : (w : ℕ) → length all % n ≡ w → q * n + w ≡ length all
    last w e = ap (λ (k : ℕ). q * n + k) (sym e) ∙ div-add-mod' (length all) n

    as_long : (w : ℕ) → length all % n ≡ w → IsDealt n w all part → length part ≡ q
    as_long w e d = let a = at_most in let b = at_least in omega (arith, a, b)
      where
        at_most : length part ≤ q
        at_most = beyond part q (d q ∙ ap (slice_get all) (last w e) ∙ slice_get_past all (length all) (let le : length all ≤ length all = omega arith in le))

        at_least : q ≤ length part
        at_least = by_place (nat_lt (length part) q) refl
          where
            by_place : (t : Bool) → nat_lt (length part) q ≡ t → q ≤ length part
            by_place true f =
                let lt : length part < q = grind (arith, nat_tests, f) in
                let less = mul-lt-mul_of_pos_right {m = length part} {n = q} {k = n} lt some in
                let l = last w e in
                let h = there all (length part * n + w) (omega (arith, less, l)) in
                absurd (no_x h.0 (sym (slice_get_past part (length part) (let le : length part ≤ length part = omega arith in le)) ∙ d (length part) ∙ h.1))
            by_place false f = grind (arith, nat_tests, f)

    pub dealt_here : (w : ℕ) (x : X) → length all % n ≡ w → IsDealt n w all part → IsDealt n w (all ++ x ∷ []) (part ++ x ∷ [])
    dealt_here w x e d i = by_order (nat_lt i q) (nat_lt q i) refl refl
      where
        size : length part ≡ q
        size = as_long w e d

        end : q * n + w ≡ length all
        end = last w e

        by_order : (s t : Bool) → nat_lt i q ≡ s → nat_lt q i ≡ t → slice_get (part ++ x ∷ []) i ≡ slice_get (all ++ x ∷ []) (i * n + w)
        by_order true t f g =
            let lt : i < q = grind (arith, nat_tests, f) in
            let less = mul-lt-mul_of_pos_right {m = i} {n = q} {k = n} lt some in
            let sz = size in let en = end in
            snoc_before part x i (omega (arith, lt, sz)) ∙ d i ∙ sym (snoc_before all x (i * n + w) (omega (arith, less, en)))
        by_order false true f g =
            let lt : q < i = grind (arith, nat_tests, g) in
            let less = mul-lt-mul_of_pos_right {m = q} {n = i} {k = n} lt some in
            let sz = size in let en = end in
            snoc_past part x i (omega (arith, lt, sz)) ∙ sym (snoc_past all x (i * n + w) (omega (arith, less, en)))
        by_order false false f g =
            let a : q ≤ i = grind (arith, nat_tests, f) in
            let b : i ≤ q = grind (arith, nat_tests, g) in
            let is : i ≡ q = omega (arith, a, b) in
            ap (slice_get (part ++ x ∷ [])) (is ∙ sym size) ∙ snoc_at part x ∙ sym (snoc_at all x)
            ∙ ap (slice_get (all ++ x ∷ [])) (sym end ∙ ap (λ (k : ℕ). k * n + w) (sym is))

    pub dealt_there : (w : ℕ) (x : X) → w < n → length all % n ≢ w → IsDealt n w all part → IsDealt n w (all ++ x ∷ []) part
    dealt_there w x small other d i = d i ∙ by_order (nat_lt (i * n + w) (length all)) (nat_lt (length all) (i * n + w)) refl refl
      where
        by_order : (s t : Bool) → nat_lt (i * n + w) (length all) ≡ s → nat_lt (length all) (i * n + w) ≡ t → slice_get all (i * n + w) ≡ slice_get (all ++ x ∷ []) (i * n + w)
        by_order true t f g = sym (snoc_before all x (i * n + w) (grind (arith, nat_tests, f)))
        by_order false true f g =
            let lt : length all < i * n + w = grind (arith, nat_tests, g) in
            slice_get_past all (i * n + w) (omega (arith, lt)) ∙ sym (snoc_past all x (i * n + w) lt)
        by_order false false f g =
            let a : length all ≤ i * n + w = grind (arith, nat_tests, f) in
            let b : i * n + w ≤ length all = grind (arith, nat_tests, g) in
            let is : length all ≡ i * n + w = omega (arith, a, b) in
            absurd (other (ap (λ (k : ℕ). k % n) is ∙ mod-mul-add i n w small))

  no_list : (x : List X) → ◌≡◌ {A = Option (List X)} None (Some x) → ⊥
  no_list x h = cc

  set_at : (i : ℕ) (ls : List (List X)) (l m : List X) → slice_get ls i ≡ Some l → slice_get (slice_set ls i m) i ≡ Some m
  set_at i [] l m h = absurd (no_list l h)
  set_at zero (x ∷ ls) l m h = refl
  set_at (suc i) (x ∷ ls) l m h = set_at i ls l m h

  set_other : (i j : ℕ) (ls : List (List X)) (m : List X) → j ≢ i → slice_get (slice_set ls i m) j ≡ slice_get ls j
  set_other i j [] m other = refl
  set_other zero zero (x ∷ ls) m other = absurd (other refl)
  set_other zero (suc j) (x ∷ ls) m other = refl
  set_other (suc i) zero (x ∷ ls) m other = refl
  set_other (suc i) (suc j) (x ∷ ls) m other = set_other i j ls m (λ e. other (ap suc e))

  pub set_length : (i : ℕ) (ls : List (List X)) (m : List X) → length (slice_set ls i m) ≡ length ls
  set_length i [] m = refl
  set_length zero (x ∷ ls) m = refl
  set_length (suc i) (x ∷ ls) m = ap suc (set_length i ls m)

  some_list : (l m : List X) → Some l ≡ Some m → l ≡ m
  some_list l m h = cc

  -- one element more, to the list whose turn it is
  pub dealt_more : (n turn : ℕ) (all : List X) (x : X) (old new : List (List X)) → 0 < n → length old ≡ n → length all % n ≡ turn → AllDealt n all old → Pushed turn x old new → AllDealt n (all ++ x ∷ []) new
  dealt_more n turn all x old new some count is d (part, here, push) w l got = by_place (w == turn) refl
    where
      got' : slice_get (slice_set old turn (part ++ x ∷ [])) w ≡ Some l
      got' = ap (λ (ls : List (List X)). slice_get ls w) (sym push) ∙ got

      by_place : (t : Bool) → (w == turn) ≡ t → IsDealt n w (all ++ x ∷ []) l
      by_place true e =
          let same : w ≡ turn = grind (arith, nat_tests, e) in
          let one : l ≡ part ++ x ∷ [] = some_list l (part ++ x ∷ []) (sym got' ∙ ap (slice_get (slice_set old turn (part ++ x ∷ []))) same ∙ set_at turn old part (part ++ x ∷ []) here) in
          subst (λ (k : List X). IsDealt n w (all ++ x ∷ []) k) (sym one)
          (dealt_here n some all part w x (is ∙ sym same) (d w part (ap (slice_get old) same ∙ here)))
      by_place false e =
          let differs : w ≢ turn = λ h. (grind (arith, nat_tests, e, h)) in
          let there' : slice_get old w ≡ Some l = sym (set_other turn w old (part ++ x ∷ []) differs) ∙ got' in
          let small = in_range w there' in
          dealt_there n some all l w x small (λ h. differs (sym h ∙ is)) (d w l there')
        where
          in_range : (v : ℕ) → slice_get old v ≡ Some l → v < n
          in_range v h = let lt = slice_get_within old v l h in omega (arith, lt, count)

-- whose turn it is next
pub next_turn : (n t l : ℕ) → 0 < n → l % n ≡ t → (l + 1) % n ≡ (if nat_lt (t + 1) n then t + 1 else 0)
next_turn n t l some e = ap (λ (k : ℕ). k % n) (let s : l + 1 ≡ suc l = omega arith in s) ∙ suc-mod l n ∙ ap (λ (k : ℕ). suc k % n) e ∙ by_size (nat_lt (t + 1) n) refl
  where
    small : t < n
    small = subst (λ (k : ℕ). k < n) e (mod-lt l some)

    by_size : (b : Bool) → nat_lt (t + 1) n ≡ b → suc t % n ≡ (if b then t + 1 else 0)
    by_size true f =
        let lt : suc t < n = grind (arith, nat_tests, f) in
        mod-eq_of_lt lt ∙ (let s : suc t ≡ t + 1 = omega arith in s)
    by_size false f =
        let le : n ≤ t + 1 = grind (arith, nat_tests, f) in
        let sm = small in
        let is : suc t ≡ n = omega (arith, le, sm) in
        ap (λ (k : ℕ). k % n) is ∙ mod_self n

-- lists behind a view
module _ {V X : Type 0} (f : V → List X) where
  set_map : (at : ℕ) (vs : List V) (v : V) → map f (slice_set vs at v) ≡ slice_set (map f vs) at (f v)
  set_map at [] v = refl
  set_map zero (y ∷ vs) v = refl
  set_map (suc at) (y ∷ vs) v = ap (λ l. f y ∷ l) (set_map at vs v)

  get_map : (at : ℕ) (vs : List V) (v : V) → slice_get vs at ≡ Some v → slice_get (map f vs) at ≡ Some (f v)
  get_map at [] v h = absurd (let e : ◌≡◌ {A = Option V} None (Some v) = h in cc)
  get_map zero (y ∷ vs) v h = let e : y ≡ v = cc in ap (λ z. Some (f z)) e
  get_map (suc at) (y ∷ vs) v h = get_map at vs v h

  pub pushed_there : (at : ℕ) (x : X) (vs vs' : List V) (v w : V) → slice_get vs at ≡ Some v → vs' ≡ slice_set vs at w → f w ≡ f v ++ x ∷ [] → Pushed at x (map f vs) (map f vs')
  pushed_there at x vs vs' v w here is grown = (f v, get_map at vs v here, ap (map f) is ∙ set_map at vs w ∙ ap (slice_set (map f vs) at) grown)

  pub map_length : (vs : List V) → length (map f vs) ≡ length vs
  map_length [] = refl
  map_length (y ∷ vs) = ap suc (map_length vs)

  -- lists without elements
  pub all_empty : (n : ℕ) (vs : List V) (v : V) → f v ≡ [] → AllDealt n [] (map f vs) → AllDealt n [] (map f (vs ++ v ∷ []))
  all_empty n [] v e d zero part got i = ap (λ (l : List X). slice_get l i) (sym (let h : f v ≡ part = cc in h) ∙ e) ∙ nothing i ∙ sym (nothing (i * n + zero))
    where
      nothing : (j : ℕ) → ◌≡◌ {A = Option X} (slice_get [] j) None
      nothing j = refl
  all_empty n [] v e d (suc w) part got i = absurd (let h : ◌≡◌ {A = Option (List X)} None (Some part) = got in cc)
  all_empty n (y ∷ vs) v e d zero part got i = d zero part got i
  all_empty n (y ∷ vs) v e d (suc w) part got i = all_empty n vs v e (λ u p h j. d (suc u) p h j ∙ sym (nothing (j * n + u))) w part got i
    where
      nothing : (j : ℕ) → ◌≡◌ {A = Option X} (slice_get [] j) None
      nothing j = refl

  pub none_empty : (n : ℕ) → AllDealt n [] (map f [])
  none_empty n w part got i = absurd (let h : ◌≡◌ {A = Option (List X)} None (Some part) = got in cc)

pub snoc_count : {V : Type 0} (vs : List V) (v : V) → length (vs ++ v ∷ []) ≡ length vs + 1
snoc_count [] v = refl
snoc_count (y ∷ vs) v = let e = snoc_count vs v in omega (arith, e)

-- lists to which some of the elements were dealt, and the list whose turn it is
module _ {V X : Type 0} (f : V → List X) where
  pub record DealtTo (n : ℕ) (all rest : List X) (turn : ℕ) (parts : List V) : Type 0 where
    pub count : length parts ≡ n
    pub before : List X
    pub is : all ≡ before ++ rest
    pub next : length before % n ≡ turn
    pub dealt : AllDealt n before (map f parts)

  pub none_dealt : (n : ℕ) (all : List X) (parts : List V) → 0 < n → length parts ≡ n → AllDealt n [] (map f parts) → DealtTo n all all 0 parts
  none_dealt n all parts some count d = record { count = count; before = []; is = refl; next = mod-eq_of_lt some; dealt = d }

  pub one_dealt : (n turn : ℕ) (all rest rest' : List X) (x : X) (parts parts' : List V) → 0 < n → rest ≡ x ∷ rest' → Pushed turn x (map f parts) (map f parts') → DealtTo n all rest turn parts →
      DealtTo n all rest' (if nat_lt (turn + 1) n then turn + 1 else 0) parts'
  one_dealt n turn all rest rest' x parts parts' some step push d = record {
    count = sym (map_length f parts') ∙ ap length push.2 ∙ set_length turn (map f parts) (push.0 ++ x ∷ []) ∙ map_length f parts ∙ d.count;
    before = d.before ++ x ∷ [];
    is = d.is ∙ ap (λ (l : List X). d.before ++ l) step ∙ sym (append_assoc d.before (x ∷ []) rest');
    next = ap (λ (k : ℕ). k % n) (snoc_count d.before x) ∙ next_turn n turn (length d.before) some d.next;
    dealt = dealt_more n turn d.before x (map f parts) (map f parts') some (map_length f parts ∙ d.count) d.next d.dealt push;
  }

  pub all_dealt : (n turn : ℕ) (all : List X) (parts : List V) → DealtTo n all [] turn parts → AllDealt n all (map f parts)
  all_dealt n turn all parts d = subst (λ (l : List X). AllDealt n l (map f parts)) (sym (d.is ∙ append-nil d.before)) d.dealt
