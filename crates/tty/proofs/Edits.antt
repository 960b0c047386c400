-- The text of a line's bytes, with one byte more.
use Rattle.std.proofs.Common.{◌≡◌, ℕ, zero, suc, Bool, true, false, cond, eqb, ◌||◌, List, [], ◌∷◌, ◌++◌, refl, sym, ap, ◌∙◌, ⊎_elim, arith}
use Rattle.std.specs.List.{list_any}
use Rattle.std.proofs.lemmas.Bool.Decides.{eqb_tells}
use Rattle.tty.specs.Editing.{behind_kill, without_first_erase, erase_count, times, erased, edited}
use Rattle.tty.specs.Buffer.{without_last}

same_byte : (a b : ℕ) → eqb a b ≡ true → a ≡ b
same_byte a b h = ⊎_elim (λ p. p.1) (λ p. let e : true ≡ false = sym h ∙ p.0 in absurd (cc)) (eqb_tells a b)

or_true : (x : Bool) → x || true ≡ true
or_true true = refl
or_true false = refl

any_last : (p : ℕ → Bool) (t : List ℕ) (b : ℕ) → p b ≡ true → list_any p (t ++ b ∷ []) ≡ true
any_last p [] b h = ap (λ (x : Bool). x || false) h
any_last p (a ∷ t) b h = ap (λ (x : Bool). p a || x) (any_last p t b h) ∙ or_true (p a)

any_other : (p : ℕ → Bool) (t : List ℕ) (b : ℕ) → p b ≡ false → list_any p (t ++ b ∷ []) ≡ list_any p t
any_other p [] b h = ap (λ (x : Bool). x || false) h
any_other p (a ∷ t) b h = ap (λ (x : Bool). p a || x) (any_other p t b h)

-- a KILL at the end drops all
kill_last : (t : List ℕ) → behind_kill (t ++ 21 ∷ []) ≡ []
kill_last [] = refl
kill_last (a ∷ t) =
    ap (λ (x : Bool). cond x (behind_kill (t ++ 21 ∷ [])) (cond (eqb a 21) (t ++ 21 ∷ []) (a ∷ (t ++ 21 ∷ [])))) (any_last (λ c. eqb c 21) t 21 refl) ∙ kill_last t

no_kill : (t : List ℕ) (b : ℕ) → eqb b 21 ≡ false → behind_kill (t ++ b ∷ []) ≡ behind_kill t ++ b ∷ []
no_kill [] b h = ap (λ (x : Bool). cond x [] (b ∷ [])) h
no_kill (a ∷ t) b h =
    ap (λ (x : Bool). cond x (behind_kill (t ++ b ∷ [])) (cond (eqb a 21) (t ++ b ∷ []) (a ∷ (t ++ b ∷ [])))) (any_other (λ c. eqb c 21) t b h)
    ∙ go (list_any (λ c. eqb c 21) t) (eqb a 21) (no_kill t b h)
  where
    go : (x y : Bool) → behind_kill (t ++ b ∷ []) ≡ behind_kill t ++ b ∷ []
        → cond x (behind_kill (t ++ b ∷ [])) (cond y (t ++ b ∷ []) (a ∷ (t ++ b ∷ []))) ≡ cond x (behind_kill t) (cond y t (a ∷ t)) ++ b ∷ []
    go true y ih = ih
    go false true ih = refl
    go false false ih = refl

-- while there is an ERASE, what stands at the end doesn't count
first_other : (t : List ℕ) (b n : ℕ) → erase_count t ≡ suc n → without_first_erase (t ++ b ∷ []) ≡ without_first_erase t ++ b ∷ []
first_other [] b n h = absurd (omega arith)
first_other (a ∷ []) b n h = go (eqb a 127) h
  where
    go : (x : Bool) → cond x (suc zero) zero ≡ suc n → cond x (b ∷ []) (cond (eqb b 127) [] (a ∷ without_first_erase (b ∷ []))) ≡ cond x [] (a ∷ []) ++ b ∷ []
    go true k = refl
    go false k = absurd (omega arith)
first_other (a ∷ c ∷ t) b n h = go (eqb a 127) (eqb c 127) (first_other (c ∷ t) b n) h
  where
    go : (x y : Bool) → (erase_count (c ∷ t) ≡ suc n → without_first_erase (c ∷ (t ++ b ∷ [])) ≡ without_first_erase (c ∷ t) ++ b ∷ [])
        → cond x (suc (erase_count (c ∷ t))) (erase_count (c ∷ t)) ≡ suc n
        → cond x (c ∷ (t ++ b ∷ [])) (cond y (t ++ b ∷ []) (a ∷ without_first_erase (c ∷ (t ++ b ∷ [])))) ≡ cond x (c ∷ t) (cond y t (a ∷ without_first_erase (c ∷ t))) ++ b ∷ []
    go true y ih k = refl
    go false true ih k = refl
    go false false ih k = ap (λ (s : List ℕ). a ∷ s) (ih k)

count_first : (t : List ℕ) (n : ℕ) → erase_count t ≡ suc n → erase_count (without_first_erase t) ≡ n
count_first [] n h = absurd (omega arith)
count_first (a ∷ []) n h = go (eqb a 127) h
  where
    go : (x : Bool) → cond x (suc zero) zero ≡ suc n → erase_count (cond x [] (a ∷ [])) ≡ n
    go true k = omega arith
    go false k = absurd (omega arith)
count_first (a ∷ c ∷ t) n h = go (eqb a 127) (eqb c 127) refl refl (count_first (c ∷ t) n) h
  where
    go : (x y : Bool) → eqb a 127 ≡ x → eqb c 127 ≡ y → (erase_count (c ∷ t) ≡ suc n → erase_count (without_first_erase (c ∷ t)) ≡ n)
        → cond x (suc (erase_count (c ∷ t))) (erase_count (c ∷ t)) ≡ suc n
        → erase_count (cond x (c ∷ t) (cond y t (a ∷ without_first_erase (c ∷ t)))) ≡ n
    go true y ix iy ih k = omega arith
    go false true ix iy ih k =
        let all : erase_count (c ∷ t) ≡ suc (erase_count t) = ap (λ (z : Bool). cond z (suc (erase_count t)) (erase_count t)) iy in
        let less : suc (erase_count t) ≡ suc n = sym all ∙ k in omega (arith, less)
    go false false ix iy ih k =
        ap (λ (z : Bool). cond z (suc (erase_count (without_first_erase (c ∷ t)))) (erase_count (without_first_erase (c ∷ t)))) ix ∙ ih k

times_last : (n : ℕ) (t : List ℕ) (b : ℕ) → erase_count t ≡ n → times n without_first_erase (t ++ b ∷ []) ≡ times n without_first_erase t ++ b ∷ []
times_last zero t b h = refl
times_last (suc n) t b h = ap (times n without_first_erase) (first_other t b n h) ∙ times_last n (without_first_erase t) b (count_first t n h)

none_left : (n : ℕ) (t : List ℕ) → erase_count t ≡ n → erase_count (times n without_first_erase t) ≡ zero
none_left zero t h = h
none_left (suc n) t h = none_left n (without_first_erase t) (count_first t n h)

count_other : (t : List ℕ) (b : ℕ) → eqb b 127 ≡ false → erase_count (t ++ b ∷ []) ≡ erase_count t
count_other [] b h = ap (λ (x : Bool). cond x (suc zero) zero) h
count_other (a ∷ t) b h = ap (λ (k : ℕ). cond (eqb a 127) (suc k) k) (count_other t b h)

count_more : (t : List ℕ) → erase_count (t ++ 127 ∷ []) ≡ suc (erase_count t)
count_more [] = refl
count_more (a ∷ t) = ap (λ (k : ℕ). cond (eqb a 127) (suc k) k) (count_more t) ∙ go (eqb a 127)
  where
    go : (x : Bool) → cond x (suc (suc (erase_count t))) (suc (erase_count t)) ≡ suc (cond x (suc (erase_count t)) (erase_count t))
    go true = refl
    go false = refl

-- an ERASE behind a text without any takes its last byte
erase_end : (t : List ℕ) → erase_count t ≡ zero → without_first_erase (t ++ 127 ∷ []) ≡ without_last t
erase_end [] h = refl
erase_end (a ∷ []) h = go (eqb a 127) h
  where
    go : (x : Bool) → cond x (suc zero) zero ≡ zero → cond {A = List ℕ} x (127 ∷ []) [] ≡ []
    go true k = absurd (omega arith)
    go false k = refl
erase_end (a ∷ c ∷ t) h = go (eqb a 127) (eqb c 127) refl (erase_end (c ∷ t)) h
  where
    go : (x y : Bool) → eqb c 127 ≡ y → (erase_count (c ∷ t) ≡ zero → without_first_erase (c ∷ (t ++ 127 ∷ [])) ≡ without_last (c ∷ t))
        → cond x (suc (erase_count (c ∷ t))) (erase_count (c ∷ t)) ≡ zero
        → cond x (c ∷ (t ++ 127 ∷ [])) (cond y (t ++ 127 ∷ []) (a ∷ without_first_erase (c ∷ (t ++ 127 ∷ [])))) ≡ a ∷ without_last (c ∷ t)
    go true y iy ih k = absurd (omega arith)
    go false true iy ih k =
        let all : erase_count (c ∷ t) ≡ suc (erase_count t) = ap (λ (z : Bool). cond z (suc (erase_count t)) (erase_count t)) iy in
        let none : suc (erase_count t) ≡ zero = sym all ∙ k in absurd (omega (arith, none))
    go false false iy ih k = ap (λ (s : List ℕ). a ∷ s) (ih k)

times_out : (n : ℕ) (f : List ℕ → List ℕ) (t : List ℕ) → times (suc n) f t ≡ f (times n f t)
times_out zero f t = refl
times_out (suc n) f t = times_out n f (f t)

erased_erase : (t : List ℕ) → erased (t ++ 127 ∷ []) ≡ without_last (erased t)
erased_erase t =
    ap (λ (k : ℕ). times k without_first_erase (t ++ 127 ∷ [])) (count_more t)
    ∙ times_out (erase_count t) without_first_erase (t ++ 127 ∷ [])
    ∙ ap without_first_erase (times_last (erase_count t) t 127 refl)
    ∙ erase_end (erased t) (none_left (erase_count t) t refl)

erased_other : (t : List ℕ) (b : ℕ) → eqb b 127 ≡ false → erased (t ++ b ∷ []) ≡ erased t ++ b ∷ []
erased_other t b h =
    ap (λ (k : ℕ). times k without_first_erase (t ++ b ∷ [])) (count_other t b h)
    ∙ times_last (erase_count t) t b refl

-- the text behind a byte that ends no line, or does
abbrev pub text_when : Bool → ℕ → List ℕ → List ℕ
text_when d b t = cond (d || eqb b 21) [] (cond (eqb b 127) (without_last t) (t ++ b ∷ []))

pub edited_last : (t : List ℕ) (b : ℕ) → edited (t ++ b ∷ []) ≡ text_when false b (edited t)
edited_last t b = go (eqb b 21) (eqb b 127) refl refl
  where
    go : (x y : Bool) → eqb b 21 ≡ x → eqb b 127 ≡ y → edited (t ++ b ∷ []) ≡ cond x [] (cond y (without_last (edited t)) (edited t ++ b ∷ []))
    go true y ix iy = ap (λ (c : ℕ). erased (behind_kill (t ++ c ∷ []))) (same_byte b 21 ix) ∙ ap erased (kill_last t)
    go false true ix iy = ap erased (no_kill t b ix) ∙ ap (λ (c : ℕ). erased (behind_kill t ++ c ∷ [])) (same_byte b 127 iy) ∙ erased_erase (behind_kill t)
    go false false ix iy = ap erased (no_kill t b ix) ∙ erased_other (behind_kill t) b iy
