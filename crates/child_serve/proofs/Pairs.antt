-- Lists whose elements belong together, of which the first is looked at.
use Rattle.std.proofs.Common.{◌≡◌, ℕ, zero, suc, ◌+◌, List, [], ◌∷◌, ◌++◌, length, Option, Some, None, refl, subst, arith}
use Rattle.std.specs.Prelude.{slice_get}
use Rattle.std.specs.List.{AllByRecursion}
use Rattle.run_records.specs.Merged.{AllPaired}
use Rattle.child_desk.proofs.Places.{nothing_there, one_there}

module _ {X Y : Type 0} (Are : ℕ → X → Y → Type 0) where
  pub paired_more : (w : ℕ) (xs : List X) (ys : List Y) (x : X) (y : Y) → AllPaired Are w xs ys → Are (w + length ys) x y → AllPaired Are w (xs ++ x ∷ []) (ys ++ y ∷ [])
  paired_more w [] [] x y all one = (subst (λ (v : ℕ). Are v x y) (let e : w + 0 ≡ w = omega arith in e) one, tt)
  paired_more w [] (z ∷ ys) x y all one = absurd all
  paired_more w (z ∷ xs) [] x y all one = absurd all
  paired_more w (v ∷ xs) (z ∷ ys) x y all one = (all.0, paired_more (w + 1) xs ys x y all.1 (subst (λ (v : ℕ). Are v x y) (let e : w + suc (length ys) ≡ w + 1 + length ys = omega arith in e) one))

  pub pair_at : (w i : ℕ) (xs : List X) (ys : List Y) (x : X) → AllPaired Are w xs ys → slice_get xs i ≡ Some x → (y : Y) × (slice_get ys i ≡ Some y) × Are (w + i) x y
  pair_at w i [] ys x all got = absurd (nothing_there x got)
  pair_at w i (z ∷ xs) [] x all got = absurd all
  pair_at w zero (z ∷ xs) (y ∷ ys) x all got =
      (y, refl, subst (λ (v : X). Are (w + 0) v y) (one_there z x got) (subst (λ (v : ℕ). Are v z y) (let e : w ≡ w + 0 = omega arith in e) all.0))
  pair_at w (suc i) (z ∷ xs) (y ∷ ys) x all got =
      let r = pair_at (w + 1) i xs ys x all.1 got in
      (r.0, r.1, subst (λ (v : ℕ). Are v x r.0) (let e : w + 1 + i ≡ w + suc i = omega arith in e) r.2)

module _ {X : Type 0} (Is : X → Type 0) where
  pub all_more : (xs : List X) (x : X) → AllByRecursion Is xs → Is x → AllByRecursion Is (xs ++ x ∷ [])
  all_more [] x all one = (one, tt)
  all_more (y ∷ xs) x all one = (all.0, all_more xs x all.1 one)

pub long_one : {X : Type 0} (xs : List X) (x : X) → length (xs ++ x ∷ []) ≡ length xs + 1
long_one [] x = refl
long_one (y ∷ xs) x = let e = long_one xs x in omega (arith, e)
