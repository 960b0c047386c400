-- What is taken in turn.
use Rattle.std.proofs.Common.{◌≡◌, ℕ, zero, suc, ◌+◌, ◌*◌, ◌<◌, List, [], ◌∷◌, ◌++◌, length, Option, Some, None, refl, ap, subst, ◌∙◌, arith, length-append}
use Rattle.std.specs.Prelude.{slice_get}
use Rattle.std.proofs.Math.Nat.{suc-mul}
use Rattle.child_serve.specs.Turns.{in_turn}

-- there is enough of each for so many turns
abbrev pub Enough : {X : Type 0} → ℕ → ℕ → List (List X) → Type 0
Enough {X} n c parts = (w i : ℕ) (part : List X) → slice_get parts w ≡ Some part → i * n + w < c → i < length part

module _ {X : Type 0} where
  no_part : (part : List X) → ◌≡◌ {A = Option (List X)} None (Some part) → ⊥
  no_part part h = cc

  some_part : (x y : List X) → Some x ≡ Some y → x ≡ y
  some_part x y h = cc

  -- what stands in front of the last
  in_front : (parts : List (List X)) (last : List X) (w : ℕ) → w < length parts → slice_get (parts ++ last ∷ []) w ≡ slice_get parts w
  in_front [] last w lt = absurd (omega (arith, lt))
  in_front (p ∷ parts) last zero lt = refl
  in_front (p ∷ parts) last (suc w) lt = in_front parts last w (omega (arith, lt))

  at_last : (parts : List (List X)) (last : List X) → slice_get (parts ++ last ∷ []) (length parts) ≡ Some last
  at_last [] last = refl
  at_last (p ∷ parts) last = at_last parts last

  within : (parts : List (List X)) (w : ℕ) (part : List X) → slice_get parts w ≡ Some part → w < length parts
  within [] w part h = absurd (no_part part h)
  within (p ∷ parts) zero part h = omega arith
  within (p ∷ parts) (suc w) part h = omega (arith, within parts w part h)

  -- a place behind the last one, or one of those before it
  turned : (n : ℕ) (parts : List (List X)) (last part : List X) (w : ℕ) → n ≡ suc (length parts) → slice_get (parts ++ last ∷ []) w ≡ Some part →
      (P : ℕ → List X → Type 0) → ((v : ℕ) → slice_get parts v ≡ Some part → P v part) → P (length parts) last → P w part
  turned n [] last part zero e got P before at = subst (P zero) (some_part last part got) at
  turned n [] last part (suc w) e got P before at = absurd (no_part part got)
  turned n (p ∷ parts) last part zero e got P before at = before zero got
  turned n (p ∷ parts) last part (suc w) e got P before at = turned (length (p ∷ parts)) parts last part w refl got (λ v. P (suc v)) (λ v h. before (suc v) h) at

  enough_on : (n c : ℕ) (x : X) (part : List X) (parts : List (List X)) → n ≡ suc (length parts) → Enough n (suc c) ((x ∷ part) ∷ parts) → Enough n c (parts ++ part ∷ [])
  enough_on n c x part parts e enough w i p got lt =
      turned n parts part p w e got (λ v q. i * n + v < c → i < length q)
      (λ v h less. enough (suc v) i p h (omega (arith, less)))
      (λ less.
      let here : suc i < length (x ∷ part) = enough zero (suc i) (x ∷ part) refl (let f : suc i * n ≡ i * n + n = suc-mul i n in omega (arith, f, less, e)) in
      omega (arith, here))
      lt

  pub turn_length : (n c : ℕ) (parts : List (List X)) → n ≡ length parts → 0 < n → Enough n c parts → length (in_turn c parts) ≡ c
  turn_length n zero parts e some enough = refl
  turn_length n (suc c) [] e some enough = absurd (omega (arith, e, some))
  turn_length n (suc c) ([] ∷ parts) e some enough = absurd (let h : 0 < 0 = enough zero zero [] refl (omega arith) in omega (arith, h))
  turn_length n (suc c) ((x ∷ part) ∷ parts) e some enough =
      ap suc (turn_length n c (parts ++ part ∷ []) (omega (arith, e, length-append parts (part ∷ []))) some (enough_on n c x part parts e enough))

  pub turn_at : (n c : ℕ) (parts : List (List X)) → n ≡ length parts → Enough n c parts → (w i : ℕ) (part : List X) → slice_get parts w ≡ Some part → i * n + w < c → slice_get (in_turn c parts) (i * n + w) ≡ slice_get part i
  turn_at n zero parts e enough w i part got lt = absurd (omega (arith, lt))
  turn_at n (suc c) [] e enough w i part got lt = absurd (no_part part got)
  turn_at n (suc c) ([] ∷ parts) e enough w i part got lt = absurd (let h : 0 < 0 = enough zero zero [] refl (omega arith) in omega (arith, h))
  turn_at n (suc c) ((x ∷ p) ∷ parts) e enough (suc w) i part got lt =
      let same : i * n + suc w ≡ suc (i * n + w) = omega arith in
      ap (λ k. slice_get (x ∷ in_turn c (parts ++ p ∷ [])) k) same
      ∙ turn_at n c (parts ++ p ∷ []) (omega (arith, e, length-append parts (p ∷ []))) (enough_on n c x p parts e enough) w i part (in_front parts p w (within parts w part got) ∙ got) (omega (arith, lt))
  turn_at n (suc c) ((x ∷ p) ∷ parts) e enough zero zero part got lt =
      let is : x ∷ p ≡ part = some_part (x ∷ p) part got in
      let same : 0 * n + 0 ≡ 0 = omega arith in
      ap (λ k. slice_get (x ∷ in_turn c (parts ++ p ∷ [])) k) same ∙ ap (λ (l : List X). slice_get l 0) is
  turn_at n (suc c) ((x ∷ p) ∷ parts) e enough zero (suc i) part got lt =
      let is : x ∷ p ≡ part = some_part (x ∷ p) part got in
      let m : ℕ = length parts in
      let f : suc i * n ≡ i * n + n = suc-mul i n in
      let same : suc i * n + 0 ≡ suc (i * n + m) = omega (arith, f, e) in
      ap (λ k. slice_get (x ∷ in_turn c (parts ++ p ∷ [])) k) same
      ∙ turn_at n c (parts ++ p ∷ []) (omega (arith, e, length-append parts (p ∷ []))) (enough_on n c x p parts e enough) m i p (at_last parts p) (omega (arith, f, e, lt))
      ∙ ap (λ (l : List X). slice_get l (suc i)) is
