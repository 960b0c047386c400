-- What stands up to the last newline, and how many there are.
use Rattle.std.proofs.Common.{◌≡◌, ◌⊎◌, inl, inr, ℕ, zero, suc, ◌+◌, ◌<◌, ◌≤◌, List, [], ◌∷◌, ◌++◌, length, take, get_or, Bool, true, false, cond, refl, sym, ap, ◌∙◌, append_assoc, arith}
use Rattle.std.specs.Prelude.{◌==◌, if◌then◌else◌}
use Rattle.std.proofs.lemmas.List.Sums.{sum_by-cons}
use Rattle.child_events.proofs.Parts.{Without}
use Rattle.cut_logs.specs.Cut.{kept, whole, lines}

kept_on : (b : ℕ) (w : List ℕ) (c : ℕ) (cs : List ℕ) → kept b (w ++ c ∷ cs) ≡ b ∷ (w ++ c ∷ cs)
kept_on b [] c cs = refl
kept_on b (x ∷ w) c cs = refl

kept_newline : (bs : List ℕ) → kept 10 bs ≡ 10 ∷ bs
kept_newline [] = refl
kept_newline (b ∷ bs) = refl

-- what stands up to a newline is kept
pub whole_behind : (w bs : List ℕ) → whole (w ++ 10 ∷ bs) ≡ w ++ 10 ∷ whole bs
whole_behind [] bs = kept_newline (whole bs)
whole_behind (b ∷ w) bs = ap (kept b) (whole_behind w bs) ∙ kept_on b w 10 (whole bs)

pub whole_ended : (a w : List ℕ) → whole (a ++ (w ++ 10 ∷ [])) ≡ a ++ (w ++ 10 ∷ [])
whole_ended a w = ap whole (sym (append_assoc a w (10 ∷ []))) ∙ whole_behind (a ++ w) [] ∙ append_assoc a w (10 ∷ [])

-- and without one nothing is
pub whole_none : (w : List ℕ) → Without 10 w → whole w ≡ []
whole_none [] none = refl
whole_none (b ∷ w) none = ap (kept b) (whole_none w none.1) ∙ ap (λ (t : Bool). if t then b ∷ [] else []) none.0

lines_cons : (b : ℕ) (bs : List ℕ) → lines (b ∷ bs) ≡ cond (b == 10) 1 0 + lines bs
lines_cons b bs = sum_by-cons (λ x. cond (x == 10) 1 0) b bs

pub lines_none : (w : List ℕ) → Without 10 w → lines w ≡ 0
lines_none [] none = refl
lines_none (b ∷ w) none = lines_cons b w ∙ ap (λ (t : Bool). cond t 1 0 + lines w) none.0 ∙ omega (arith, lines_none w none.1)

pub lines_behind : (w bs : List ℕ) → Without 10 w → lines (w ++ 10 ∷ bs) ≡ suc (lines bs)
lines_behind [] bs none = lines_cons 10 bs ∙ omega arith
lines_behind (b ∷ w) bs none =
    lines_cons b (w ++ 10 ∷ bs) ∙ ap (λ (t : Bool). cond t 1 0 + lines (w ++ 10 ∷ bs)) none.0 ∙ omega (arith, lines_behind w bs none.1)

is_no : (t : Bool) → (t ≡ true → ⊥) → t ≡ false
is_no true never = absurd (never refl)
is_no false never = refl

-- a text with a newline at no place
pub without : (bs : List ℕ) → ((j : ℕ) → j < length bs → (get_or bs j 0 == 10) ≡ true → ⊥) → Without 10 bs
without [] none = tt
without (b ∷ bs) none = (is_no (b == 10) (none 0 (omega arith)), without bs (λ j below. none (suc j) (omega arith)))

-- a text with its last newline at k
pub whole_at : (bs : List ℕ) (k : ℕ) → k < length bs → (get_or bs k 0 == 10) ≡ true → ((j : ℕ) → k < j → j < length bs → (get_or bs j 0 == 10) ≡ true → ⊥) → take (suc k) bs ≡ whole bs
whole_at [] k below is none = absurd (omega arith)
whole_at (b ∷ bs) zero below is none =
    sym (ap (kept b) (whole_none bs (without bs (λ j lt. none (suc j) (omega arith) (omega arith)))) ∙ ap (λ (t : Bool). if t then b ∷ [] else []) is)
whole_at (b ∷ []) (suc k) below is none = absurd (omega arith)
whole_at (b ∷ c ∷ cs) (suc k) below is none =
    ap (kept b) (whole_at (c ∷ cs) k (omega arith) is (λ j above lt. none (suc j) (omega arith) (omega arith)))

-- a front that ends within the first line
pub record Within (w front : List ℕ) : Type 0 where
  pub none : Without 10 front
  pub short : length front ≤ length w

-- a front that goes on behind it
pub record Behind (w t front rest : List ℕ) : Type 0 where
  pub more : List ℕ
  pub text : front ≡ w ++ 10 ∷ more
  pub left : more ++ rest ≡ t

pub first_line : (w t front rest : List ℕ) → Without 10 w → front ++ rest ≡ w ++ 10 ∷ t → Within w front ⊎ Behind w t front rest
first_line w t [] rest none same = inl (record { none = tt; short = omega arith })
first_line [] t (x ∷ front) rest none same =
    let byte : x ≡ 10 = cc in
    let others : front ++ rest ≡ t = cc in
    inr (record { more = front; text = ap (λ (b : ℕ). b ∷ front) byte; left = others })
first_line (b ∷ w) t (x ∷ front) rest none same =
    let byte : x ≡ b = cc in
    let others : front ++ rest ≡ w ++ 10 ∷ t = cc in
    by_case byte (first_line w t front rest none.1 others)
  where
    by_case : x ≡ b → Within w front ⊎ Behind w t front rest → Within (b ∷ w) (x ∷ front) ⊎ Behind (b ∷ w) t (x ∷ front) rest
    by_case byte (inl is) = inl (record { none = (ap (λ (c : ℕ). c == 10) byte ∙ none.0, is.none); short = let e = is.short in omega arith })
    by_case byte (inr is) = inr (record { more = is.more; text = ap (λ (c : ℕ). c ∷ front) byte ∙ ap (λ (l : List ℕ). b ∷ l) is.text; left = is.left })
