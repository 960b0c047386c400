-- A text from a place on.
use Rattle.std.proofs.Common.{◌≡◌, ℕ, zero, suc, ◌+◌, ◌<◌, ◌≤◌, List, [], ◌∷◌, length, drop, get_or, refl, ap, ◌∙◌, add-one, drop-cons}
use Rattle.std.proofs.lemmas.List.{drop_all, drop-drop}
use Rattle.tcl_words.specs.Course.{course, reading}

pub byte_at : (s : List ℕ) (i : ℕ) → i < length s → drop i s ≡ get_or s i 0 ∷ drop (i + 1) s
byte_at s i h = rw (add-one, drop-cons s i 0) refl

-- a reading that begins k bytes in is a reading of what stands there
pub course_on : {A : Type 0} (e : A) (step : (ℕ → A) → ℕ → List ℕ → A) (s : List ℕ) (k : ℕ) → course e step s k ≡ reading e step (drop k s)
unfolding course
course_on e step [] zero = refl
course_on e step [] (suc k) = refl
course_on e step (b ∷ s) zero = refl
course_on e step (b ∷ s) (suc k) = course_on e step s k

-- one step, with the readings of the later places
pub reading_step : {A : Type 0} (e : A) (step : (ℕ → A) → ℕ → List ℕ → A) (b : ℕ) (s : List ℕ) → reading e step (b ∷ s) ≡ step (λ k. reading e step (drop k s)) b s
unfolding course
reading_step e step b s = ap (λ (on : ℕ → _). step on b s) (λ i k. course_on e step s k i)

pub reading_end : {A : Type 0} (e : A) (step : (ℕ → A) → ℕ → List ℕ → A) → reading e step [] ≡ e
unfolding course
reading_end e step = refl

-- the same at a place of a longer text
pub reading_here : {A : Type 0} (e : A) (step : (ℕ → A) → ℕ → List ℕ → A) (s : List ℕ) (i : ℕ) → i < length s
    → reading e step (drop i s) ≡ step (λ k. reading e step (drop (i + 1 + k) s)) (get_or s i 0) (drop (i + 1) s)
reading_here e step s i h =
    ap (reading e step) (byte_at s i h) ∙ reading_step e step (get_or s i 0) (drop (i + 1) s)
    ∙ ap (λ (on : ℕ → _). step on (get_or s i 0) (drop (i + 1) s)) (λ j k. reading e step (drop-drop k (i + 1) s j))

pub reading_over : {A : Type 0} (e : A) (step : (ℕ → A) → ℕ → List ℕ → A) (s : List ℕ) (i : ℕ) → length s ≤ i → reading e step (drop i s) ≡ e
reading_over e step s i h = ap (reading e step) (drop_all i s h) ∙ reading_end e step
