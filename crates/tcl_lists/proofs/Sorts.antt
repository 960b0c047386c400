-- A list in order is what a stable sort makes of it.
use Rattle.std.proofs.Common.{◌≡◌, ℕ, suc, ◌+◌, ◌<◌, Bool, true, false, cond, not, ◌&&◌, List, [], ◌∷◌, length, get_or, if◌then◌else◌, refl, sym, ap, subst, ◌∙◌, arith}
use Rattle.std.specs.Cmp.{IsStrictWeakOrder}
use Rattle.std.specs.List.{filter}
use Rattle.std.specs.List.Sorted.{IsSortedBy, IsStableBy, ties}
use Rattle.std.specs.Fn.{Called, ComparesAs}
use Rattle.std.specs.Ordering.{is_lt}
use Rattle.std.specs.declared.cmp.Ordering.{Ordering}
use Rattle.std.proofs.lemmas.Bool.{false≢true}
use Rattle.std.proofs.lemmas.Fn.{always_returns_same}
use denote.Param.Members.{Mut}
use denote.Ref.{Bor}
use Rattle.tcl_lists.specs.Sorting.{put, in_order}

both_not : (a b : Bool) → a ≡ false → b ≡ false → (not a && not b) ≡ true
both_not false false p q = refl
both_not false true p q = absurd (false≢true (sym q))
both_not true b p q = absurd (false≢true (sym p))

first_not : (a b : Bool) → (not a && not b) ≡ true → a ≡ false
first_not false b h = refl
first_not true b h = absurd (false≢true h)

second_not : (a b : Bool) → (not a && not b) ≡ true → b ≡ false
second_not false false h = refl
second_not false true h = absurd (false≢true h)
second_not true b h = absurd (false≢true h)

not_both : (a b : Bool) → b ≡ true → (not a && not b) ≡ false
not_both false true h = refl
not_both true b h = refl
not_both false false h = absurd (false≢true h)

module _ {X : Type 0} where
  -- a filter that keeps or drops its first element
  kept : (t : Bool) (x : X) (xs : List X) → t ≡ true → cond t (x ∷ xs) xs ≡ x ∷ xs
  kept true x xs h = refl
  kept false x xs h = absurd (false≢true h)

  tail_of : (t : Bool) (x : X) (a b : List X) → cond t (x ∷ a) a ≡ cond t (x ∷ b) b → a ≡ b
  tail_of true x a b h = cc
  tail_of false x a b h = h

  -- all elements of a list pass
  AllOf : (X → Type 0) → List X → Type 0
  AllOf P [] = Unit {0}
  AllOf P (x ∷ xs) = P x × AllOf P xs

  head_holds : (p : X → Bool) (P : X → Type 0) (l : List X) (v : X) (vs : List X) → AllOf P l → filter p l ≡ v ∷ vs → P v
  unfolding AllOf
  head_holds p P [] v vs all e = absurd (cc)
  head_holds p P (x ∷ xs) v vs all e = by (head_holds p P xs v vs all.1) (p x) refl
    where
      by : (filter p xs ≡ v ∷ vs → P v) → (t : Bool) → p x ≡ t → P v
      by on true is =
          let front : x ∷ filter p xs ≡ v ∷ vs = subst (λ (b : Bool). cond b (x ∷ filter p xs) (filter p xs) ≡ v ∷ vs) is e in
          let same : x ≡ v = cc in subst P same all.0
      by on false is = on (subst (λ (b : Bool). cond b (x ∷ filter p xs) (filter p xs) ≡ v ∷ vs) is e)

  swapped : (a b : Bool) (v y : X) (G F : List X) → (a ≡ true → b ≡ false) → F ≡ cond a (v ∷ G) G → cond b (y ∷ F) F ≡ cond a (v ∷ cond b (y ∷ G) G) (cond b (y ∷ G) G)
  swapped true true v y G F apart is = absurd (false≢true (sym (apart refl)))
  swapped true false v y G F apart is = is
  swapped false b v y G F apart is = ap (λ (l : List X). cond b (y ∷ l) l) is

  module _ (lt : X → X → Bool) (o : IsStrictWeakOrder lt) where
    irreflexive : (x : X) → lt x x ≡ false
    irreflexive x = by (lt x x) refl
      where
        by : (t : Bool) → lt x x ≡ t → lt x x ≡ false
        by true is = o.one_way x x is
        by false is = is

    ties_self : (x : X) → ties lt x x ≡ true
    ties_self x = both_not (lt x x) (lt x x) (irreflexive x) (irreflexive x)

    -- no element comes before those in front of it
    Ascends : List X → Type 0
    Ascends [] = Unit {0}
    Ascends (y ∷ ys) = AllOf (λ z. lt z y ≡ false) ys × Ascends ys

    none_on : (y z : X) (zs : List X) → lt z y ≡ false → AllOf (λ w. lt w z ≡ false) zs → AllOf (λ w. lt w y ≡ false) zs
    unfolding AllOf
    none_on y z [] h all = tt
    none_on y z (w ∷ ws) h all = (o.chain w z y all.0 h, none_on y z ws h all.1)

    sorted_tail : (y : X) (ys : List X) → IsSortedBy lt (y ∷ ys) → IsSortedBy lt ys
    sorted_tail y ys h k d low high =
        let next : suc (k + 1) ≡ suc k + 1 = omega arith in
        let same : suc k ≡ k + 1 = omega arith in
        let above : suc k + 1 < length (y ∷ ys) = omega arith in
        let there : lt (get_or (y ∷ ys) (suc k + 1) d) (get_or (y ∷ ys) (suc k) d) ≡ false = h (suc k) d (omega arith) above in
        subst (λ (n : ℕ). lt (get_or (y ∷ ys) n d) (get_or ys k d) ≡ false) (sym next) there

    ascends : (ys : List X) → IsSortedBy lt ys → Ascends ys
    unfolding AllOf Ascends
    ascends [] h = tt
    ascends (y ∷ []) h = (tt, tt)
    ascends (y ∷ z ∷ zs) h =
        let rest = ascends (z ∷ zs) (sorted_tail y (z ∷ zs) h) in
        let first : lt z y ≡ false = h 0 y (omega arith) (omega arith) in
        ((first, none_on y z zs first rest.0), rest)

    -- two lists in order with the same ties are the same
    only_one : (ys zs : List X) → Ascends ys → Ascends zs → ((x : X) → filter (ties lt x) ys ≡ filter (ties lt x) zs) → ys ≡ zs
    unfolding AllOf Ascends
    only_one [] [] a b e = refl
    only_one [] (z ∷ zs) a b e = let front = e z ∙ kept (ties lt z z) z (filter (ties lt z) zs) (ties_self z) in absurd (cc)
    only_one (y ∷ ys) [] a b e = let front = sym (kept (ties lt y y) y (filter (ties lt y) ys) (ties_self y)) ∙ e y in absurd (cc)
    only_one (y ∷ ys) (z ∷ zs) a b e =
        let y_first : filter (ties lt y) (z ∷ zs) ≡ y ∷ filter (ties lt y) ys = sym (e y) ∙ kept (ties lt y y) y (filter (ties lt y) ys) (ties_self y) in
        let z_first : filter (ties lt z) (y ∷ ys) ≡ z ∷ filter (ties lt z) zs = e z ∙ kept (ties lt z z) z (filter (ties lt z) zs) (ties_self z) in
        let one : lt y z ≡ false = head_holds (ties lt y) (λ v. lt v z ≡ false) (z ∷ zs) y (filter (ties lt y) ys) (irreflexive z, b.0) y_first in
        let other : lt z y ≡ false = head_holds (ties lt z) (λ v. lt v y ≡ false) (y ∷ ys) z (filter (ties lt z) zs) (irreflexive y, a.0) z_first in
        let tie : ties lt y z ≡ true = both_not (lt y z) (lt z y) one other in
        let front : z ∷ filter (ties lt y) zs ≡ y ∷ filter (ties lt y) ys = sym (kept (ties lt y z) z (filter (ties lt y) zs) tie) ∙ y_first in
        let same : z ≡ y = cc in
        let rest : (x : X) → filter (ties lt x) ys ≡ filter (ties lt x) zs = λ x. tail_of (ties lt x y) y (filter (ties lt x) ys) (filter (ties lt x) zs) (e x ∙ ap (λ (w : X). filter (ties lt x) (w ∷ zs)) same) in
        ap (λ (l : List X). y ∷ l) (only_one ys zs a.1 b.1 rest) ∙ ap (λ (w : X). w ∷ zs) (sym same)

    none_put : (y x : X) (ys : List X) → lt x y ≡ false → AllOf (λ z. lt z y ≡ false) ys → AllOf (λ z. lt z y ≡ false) (put lt x ys)
    unfolding AllOf
    none_put y x [] h all = (h, tt)
    none_put y x (w ∷ ws) h all = by (none_put y x ws h all.1) (lt w x)
      where
        by : AllOf (λ z. lt z y ≡ false) (put lt x ws) → (t : Bool) → AllOf (λ z. lt z y ≡ false) (if t then w ∷ put lt x ws else x ∷ w ∷ ws)
        by on true = (all.0, on)
        by on false = (h, all)

    put_ascends : (x : X) (ys : List X) → Ascends ys → Ascends (put lt x ys)
    unfolding AllOf Ascends
    put_ascends x [] a = (tt, tt)
    put_ascends x (y ∷ ys) a = by (put_ascends x ys a.1) (lt y x) refl
      where
        by : Ascends (put lt x ys) → (t : Bool) → lt y x ≡ t → Ascends (if t then y ∷ put lt x ys else x ∷ y ∷ ys)
        by on true is = (none_put y x ys (o.one_way y x is) a.0, on)
        by on false is = ((is, none_on x y ys is a.0), a)

    order_ascends : (xs : List X) → Ascends (in_order lt xs)
    unfolding Ascends
    order_ascends [] = tt
    order_ascends (x ∷ xs) = put_ascends x (in_order lt xs) (order_ascends xs)

    put_kept : (p : X → Bool) (v : X) (ys : List X) → ((y : X) → lt y v ≡ true → p v ≡ true → p y ≡ false) → filter p (put lt v ys) ≡ filter p (v ∷ ys)
    put_kept p v [] apart = refl
    put_kept p v (y ∷ ys) apart = by (put_kept p v ys apart) (lt y v) refl
      where
        by : filter p (put lt v ys) ≡ filter p (v ∷ ys) → (t : Bool) → lt y v ≡ t → filter p (if t then y ∷ put lt v ys else v ∷ y ∷ ys) ≡ filter p (v ∷ y ∷ ys)
        by on true is = swapped (p v) (p y) v y (filter p ys) (filter p (put lt v ys)) (apart y is) on
        by on false is = refl

    ties_apart : (x v y : X) → lt y v ≡ true → ties lt x v ≡ true → ties lt x y ≡ false
    ties_apart x v y before tie = by (lt y x) refl
      where
        by : (t : Bool) → lt y x ≡ t → ties lt x y ≡ false
        by true is = not_both (lt x y) (lt y x) is
        by false is = absurd (false≢true (sym (o.chain y x v is (first_not (lt x v) (lt v x) tie)) ∙ before))

    order_stable : (xs : List X) (x : X) → filter (ties lt x) (in_order lt xs) ≡ filter (ties lt x) xs
    order_stable [] x = refl
    order_stable (v ∷ xs) x =
        put_kept (ties lt x) v (in_order lt xs) (λ y before tie. ties_apart x v y before tie)
        ∙ ap (λ (l : List X). cond (ties lt x v) (v ∷ l) l) (order_stable xs x)

    -- what a stable sort makes
    pub in_order_is : (xs ys : List X) → IsSortedBy lt ys → IsStableBy lt xs ys → ys ≡ in_order lt xs
    in_order_is xs ys sorted stable = only_one ys (in_order lt xs) (ascends ys sorted) (order_ascends xs) (λ x. stable x ∙ sym (order_stable xs x))

    -- what a sort makes whose closure says which of two elements comes before the other
    pub sorted_by : {F : Type 0} {g : Mut F (Bor X × (Bor X × Unit {0})) Ordering} {f : F} (xs ys : List X)
        → ((by : X → X → Bool) → IsStrictWeakOrder by → ComparesAs g by f → IsSortedBy by ys)
        → ((by : X → X → Bool) → IsStrictWeakOrder by → ComparesAs g by f → IsStableBy by xs ys)
        → ((a : Bor X × (Bor X × Unit {0})) (r : Ordering) (f' : F) → Called g f a r f' → (is_lt r ≡ lt a.0.now a.1.0.now) × (f' ≡ f)) → ys ≡ in_order lt xs
    sorted_by {g = g} {f = f} xs ys sorted stable h =
        let compares = always_returns_same g (λ a r. is_lt r ≡ lt a.0.now a.1.0.now) f h in
        in_order_is xs ys (sorted lt o compares) (stable lt o compares)
