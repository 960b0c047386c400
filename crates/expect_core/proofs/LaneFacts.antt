-- A lane that grows, and another one, or the same.
use Rattle.std.proofs.Common.{◌≡◌, ℕ, zero, suc, ◌<◌, List, [], ◌∷◌, length, ◌⊎◌, inl, inr, refl, ap, arith}
use Rattle.expect_core.specs.declared.lanes.Lane.{Lane}
use Rattle.expect_core.specs.Lanes.{no_lane, lane_of, with_lane, Inbox, answer_box, item_box, with_left, grown}

pub record Same (i j : ℕ) (g : Lane → Lane) (lanes : List Lane) : Type 0 where
  pub here : lane_of i (grown g j lanes) ≡ g (lane_of i lanes)
  pub put : (x : Lane) → with_lane i (g x) (grown g j lanes) ≡ grown g j (with_lane i x lanes)

pub record Apart (i j : ℕ) (g : Lane → Lane) (lanes : List Lane) : Type 0 where
  pub here : lane_of i (grown g j lanes) ≡ lane_of i lanes
  pub put : (x : Lane) → with_lane i x (grown g j lanes) ≡ grown g j (with_lane i x lanes)

further : (i j : ℕ) (g : Lane → Lane) (l : Lane) (ls : List Lane) → Same i j g ls ⊎ Apart i j g ls → Same (suc i) (suc j) g (l ∷ ls) ⊎ Apart (suc i) (suc j) g (l ∷ ls)
further i j g l ls (inl s) = inl (record { here = s.here; put = λ x. ap (λ (ls : List Lane). l ∷ ls) (s.put x) })
further i j g l ls (inr s) = inr (record { here = s.here; put = λ x. ap (λ (ls : List Lane). l ∷ ls) (s.put x) })

pub parted : (i j : ℕ) (g : Lane → Lane) (lanes : List Lane) → Same i j g lanes ⊎ Apart i j g lanes
parted i j g [] = inr (record { here = refl; put = λ x. refl })
parted zero zero g (l ∷ ls) = inl (record { here = refl; put = λ x. refl })
parted zero (suc j) g (l ∷ ls) = inr (record { here = refl; put = λ x. refl })
parted (suc i) zero g (l ∷ ls) = inr (record { here = refl; put = λ x. refl })
parted (suc i) (suc j) g (l ∷ ls) = further i j g l ls (parted i j g ls)

-- there is no lane at a place
pub record IsBeyond (i : ℕ) (lanes : List Lane) : Type 0 where
  pub put : (x : Lane) → with_lane i x lanes ≡ lanes
  pub none : lane_of i lanes ≡ no_lane

beyond_more : (i : ℕ) (l : Lane) (ls : List Lane) → (i < length ls) ⊎ IsBeyond i ls → (suc i < length (l ∷ ls)) ⊎ IsBeyond (suc i) (l ∷ ls)
beyond_more i l ls (inl lt) = inl (omega arith)
beyond_more i l ls (inr b) = inr (record { put = λ x. ap (λ (ls : List Lane). l ∷ ls) (b.put x); none = b.none })

pub within : (i : ℕ) (lanes : List Lane) → (i < length lanes) ⊎ IsBeyond i lanes
within i [] = inr (record { put = λ x. refl; none = refl })
within zero (l ∷ ls) = inl (omega arith)
within (suc i) (l ∷ ls) = beyond_more i l ls (within i ls)

-- what is put is there, and nothing else changes
pub record IsInbox {X Y : Type 0} (b : Inbox X Y) : Type 0 where
  pub there : (l : List X) (x : Lane) → b.read (b.put l x) ≡ l
  pub back : (x : Lane) → b.put (b.read x) x ≡ x
  pub twice : (l k : List X) (x : Lane) → b.put k (b.put l x) ≡ b.put k x
  pub none : b.read no_lane ≡ []

pub of_answers : IsInbox answer_box
of_answers = record { there = λ l x. refl; back = λ x. refl; twice = λ l k x. refl; none = refl }

pub of_items : IsInbox item_box
of_items = record { there = λ l x. refl; back = λ x. refl; twice = λ l k x. refl; none = refl }

module _ {X Y : Type 0} (b : Inbox X Y) (is : IsInbox b) where
  pub left_back : (i : ℕ) (lanes : List Lane) → with_left b i (b.read (lane_of i lanes)) lanes ≡ lanes
  left_back i [] = refl
  left_back zero (x ∷ xs) = ap (λ (x : Lane). x ∷ xs) (is.back x)
  left_back (suc i) (x ∷ xs) = ap (λ (ls : List Lane). x ∷ ls) (left_back i xs)

  pub left_twice : (i : ℕ) (l k : List X) (lanes : List Lane) → with_left b i k (with_left b i l lanes) ≡ with_left b i k lanes
  left_twice i l k [] = refl
  left_twice zero l k (x ∷ xs) = ap (λ (x : Lane). x ∷ xs) (is.twice l k x)
  left_twice (suc i) l k (x ∷ xs) = ap (λ (ls : List Lane). x ∷ ls) (left_twice i l k xs)

  pub left_there : (i : ℕ) (l : List X) (lanes : List Lane) → i < length lanes → b.read (lane_of i (with_left b i l lanes)) ≡ l
  left_there i l [] lt = absurd (let no : i < 0 = lt in omega arith)
  left_there zero l (x ∷ xs) lt = is.there l x
  left_there (suc i) l (x ∷ xs) lt = left_there i l xs (omega (arith, lt))

pub grown-length : (g : Lane → Lane) (j : ℕ) (lanes : List Lane) → length (grown g j lanes) ≡ length lanes
grown-length g j [] = refl
grown-length g zero (x ∷ xs) = refl
grown-length g (suc j) (x ∷ xs) = ap suc (grown-length g j xs)
