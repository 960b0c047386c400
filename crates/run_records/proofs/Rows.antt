-- Lists that belong together, of which one is changed place by place.
use Rattle.std.proofs.Common.{◌≡◌, ℕ, zero, suc, ◌+◌, ◌≤◌, ◌<◌, List, [], ◌∷◌, ◌++◌, length, get_or, Option, Some, None, refl, sym, ap, subst, ◌∙◌, arith}
use Rattle.std.specs.Prelude.{slice_get, slice_set}
use Rattle.run_records.specs.Merged.{AllPaired}

no_one : {X : Type 0} (x : X) → ◌≡◌ {A = Option X} None (Some x) → ⊥
no_one x h = cc

same_one : {X : Type 0} (x y : X) → Some x ≡ Some y → x ≡ y
same_one x y h = cc

-- what is read at a place within a list stands there
pub read_at : {X : Type 0} (xs : List X) (i : ℕ) (d : X) → i < length xs → slice_get xs i ≡ Some (get_or xs i d)
read_at [] i d lt = absurd (omega (arith, lt))
read_at (y ∷ xs) zero d lt = refl
read_at (y ∷ xs) (suc i) d lt = read_at xs i d (omega (arith, lt))

module _ {X : Type 0} (Are : ℕ → X → X → Type 0) where
  pub paired_same : ((w : ℕ) (x : X) → Are w x x) → (w : ℕ) (xs : List X) → AllPaired Are w xs xs
  paired_same same w [] = tt
  paired_same same w (x ∷ xs) = (same w x, paired_same same (w + 1) xs)

  pub paired_then : ((w : ℕ) (x y z : X) → Are w x y → Are w y z → Are w x z) → (w : ℕ) (xs ys zs : List X) → AllPaired Are w xs ys → AllPaired Are w ys zs → AllPaired Are w xs zs
  paired_then then w [] [] zs f g = g
  paired_then then w [] (y ∷ ys) zs f g = absurd f
  paired_then then w (x ∷ xs) [] zs f g = absurd f
  paired_then then w (x ∷ xs) (y ∷ ys) [] f g = absurd g
  paired_then then w (x ∷ xs) (y ∷ ys) (z ∷ zs) f g = (then w x y z f.0 g.0, paired_then then (w + 1) xs ys zs f.1 g.1)

module _ {X Y : Type 0} (Are : ℕ → X → Y → Type 0) where
  pub paired_count : (w : ℕ) (xs : List X) (ys : List Y) → AllPaired Are w xs ys → length ys ≡ length xs
  paired_count w [] [] all = refl
  paired_count w [] (y ∷ ys) all = absurd all
  paired_count w (x ∷ xs) [] all = absurd all
  paired_count w (x ∷ xs) (y ∷ ys) all = ap suc (paired_count (w + 1) xs ys all.1)

  pub paired_at : (w i : ℕ) (xs : List X) (ys : List Y) (y : Y) → slice_get ys i ≡ Some y → AllPaired Are w xs ys → (x : X) × (slice_get xs i ≡ Some x) × Are (w + i) x y
  paired_at w i [] [] y got all = absurd (no_one y got)
  paired_at w i [] (z ∷ ys) y got all = absurd all
  paired_at w i (x ∷ xs) [] y got all = absurd all
  paired_at w zero (x ∷ xs) (z ∷ ys) y got all = (x, refl, subst (λ (v : ℕ). Are v x y) (let e : w ≡ w + 0 = omega arith in e) (subst (Are w x) (same_one z y got) all.0))
  paired_at w (suc i) (x ∷ xs) (z ∷ ys) y got all =
      let r = paired_at (w + 1) i xs ys y got all.1 in
      (r.0, r.1, subst (λ (v : ℕ). Are v r.0 y) (let e : w + 1 + i ≡ w + suc i = omega arith in e) r.2)

  module _ (Be : ℕ → X → Y → Type 0) where
    pub paired_map : (w : ℕ) (xs : List X) (ys : List Y) → ((v : ℕ) (x : X) (y : Y) → w < v + 1 → Are v x y → Be v x y) → AllPaired Are w xs ys → AllPaired Be w xs ys
    paired_map w [] [] step all = tt
    paired_map w [] (y ∷ ys) step all = absurd all
    paired_map w (x ∷ xs) [] step all = absurd all
    paired_map w (x ∷ xs) (y ∷ ys) step all = (step w x y (omega arith) all.0, paired_map (w + 1) xs ys (λ v a b le. step v a b (omega (arith, le))) all.1)

    -- one of them is changed
    pub paired_put : (w i : ℕ) (xs : List X) (ys : List Y) (y z : Y) → ((v : ℕ) (x : X) (u : Y) → (v ≡ w + i → ⊥) → Are v x u → Be v x u) → ((x : X) → slice_get xs i ≡ Some x → Are (w + i) x y → Be (w + i) x z) →
        slice_get ys i ≡ Some y → AllPaired Are w xs ys → AllPaired Be w xs (slice_set ys i z)
    paired_put w i [] [] y z other here got all = absurd (no_one y got)
    paired_put w i [] (u ∷ ys) y z other here got all = absurd all
    paired_put w i (x ∷ xs) [] y z other here got all = absurd all
    paired_put w zero (x ∷ xs) (u ∷ ys) y z other here got all = (
      subst (λ (v : ℕ). Be v x z) (let e : w + 0 ≡ w = omega arith in e)
          (here x refl (subst (λ (v : ℕ). Are v x y) (let e : w ≡ w + 0 = omega arith in e) (subst (Are w x) (same_one u y got) all.0))),
      paired_map (w + 1) xs ys (λ v a b le. other v a b (λ e. absurd (omega (arith, le, e)))) all.1,
    )
    paired_put w (suc i) (x ∷ xs) (u ∷ ys) y z other here got all = (
      other w x u (λ e. absurd (omega (arith, e))) all.0,
      paired_put (w + 1) i xs ys y z (λ v a b d. other v a b (λ e. d (omega (arith, e))))
          (λ a there r. subst (λ (v : ℕ). Be v a z) (let e : w + suc i ≡ w + 1 + i = omega arith in e) (here a there (subst (λ (v : ℕ). Are v a y) (let e : w + 1 + i ≡ w + suc i = omega arith in e) r)))
          got all.1,
    )

-- what holds of those before a place holds of all before the end
pub paired_upto : {X Y : Type 0} (Are : X → Y → Type 0) (n w : ℕ) (xs : List X) (ys : List Y) → w + length xs ≤ n → AllPaired (λ v x y. v < n → Are x y) w xs ys → AllPaired (λ v x y. Are x y) w xs ys
paired_upto Are n w [] [] le all = tt
paired_upto Are n w [] (y ∷ ys) le all = absurd all
paired_upto Are n w (x ∷ xs) [] le all = absurd all
paired_upto Are n w (x ∷ xs) (y ∷ ys) le all = (all.0 (omega (arith, le)), paired_upto Are n (w + 1) xs ys (omega (arith, le)) all.1)
