-- The counts that are read are those of the rules.
use Rattle.std.proofs.Common.{◌≡◌, ◌≢◌, ℕ, ◌+◌, ◌-◌, ◌*◌, ◌<◌, ◌≤◌, nat_le, Bool, true, false, not, ◌&&◌, ◌||◌, List, [], ◌∷◌, drop, get_or, Option, Some, None, IfSome, eqb, refl, sym, ap, ◌∙◌, subst, arith}
use Rattle.std.proofs.lemmas.Bool.{eqb-true}
use Rattle.std.proofs.lemmas.List.{drop-drop, get_or-drop}
use Rattle.tcl_words.specs.Lists.{plus}
use Rattle.exp_match.specs.Grammar.{Number, Times, Repeat, one_digit, two_digits, exactly, at_least, between, greedy, lazy}
use Rattle.exp_match.specs.Grammar as grammar
use Rattle.exp_match.specs.Scan.{is_digit, three_digits, number, count_to, count_on, count_from, count, with_lazy}
use Rattle.exp_match.proofs.Accepting.{both_of}
use Rattle.exp_match.proofs.Tokens.{by_test, front, front_two, leb_le}

pub neither : (a b : Bool) → a || b ≡ false → (a ≡ false) × (b ≡ false)
neither false false e = (refl, refl)
neither false true e = absurd (cc)
neither true b e = absurd (cc)

pub not_false : (t : Bool) → not t ≡ false → t ≡ true
not_false true e = refl
not_false false e = absurd (cc)

pub digit_some : (c : ℕ) → is_digit c ≡ true → (48 ≤ c) × (c ≤ 57)
digit_some c t = let p = both_of (nat_le 48 c) (nat_le c 57) t in (leb_le 48 c p.0, leb_le c 57 p.1)

not_nul : (c : ℕ) → is_digit c ≡ true → c ≢ 0
not_nul c t z = let p = digit_some c t in omega (arith, p.0)

-- a digit by its value
value_of : (c : ℕ) → is_digit c ≡ true → c ≡ 48 + (c - 48)
value_of c t = let p = digit_some c t in omega (arith, p.0)

small : (c : ℕ) → is_digit c ≡ true → c - 48 < 10
small c t = let p = digit_some c t in omega (arith, p.0, p.1)

large : (c : ℕ) → is_digit c ≡ true → eqb c 48 ≡ false → 0 < c - 48
large c t e = let p = digit_some c t in let ne : c ≢ 48 = λ z. absurd (other c z e) in omega (arith, p.0, p.1)
  where
    other : (c : ℕ) → c ≡ 48 → eqb c 48 ≡ false → ⊥
    other c z e = let t : true ≡ false = sym (ap (λ (x : ℕ). eqb x 48) z) ∙ e in absurd (cc)

front_three : (s : List ℕ) → get_or s 0 0 ≢ 0 → get_or s 1 0 ≢ 0 → get_or s 2 0 ≢ 0 → s ≡ get_or s 0 0 ∷ get_or s 1 0 ∷ get_or s 2 0 ∷ drop 3 s
front_three [] a b c = absurd (a refl)
front_three (x ∷ []) a b c = absurd (b refl)
front_three (x ∷ y ∷ []) a b c = absurd (c refl)
front_three (x ∷ y ∷ z ∷ s) a b c = refl

abbrev IsNumber : List ℕ → ℕ × ℕ → Type 0
IsNumber s p = Number p.0 s (drop p.1 s)

one_is : (s : List ℕ) → is_digit (get_or s 0 0) ≡ true → Number (get_or s 0 0 - 48) s (drop 1 s)
one_is s a =
    subst (λ (x : List ℕ). Number (get_or s 0 0 - 48) x (drop 1 s)) (sym (front s (get_or s 0 0) (not_nul _ a) refl ∙ ap (λ (x : ℕ). x ∷ drop 1 s) (value_of _ a)))
    (one_digit (get_or s 0 0 - 48) (drop 1 s) (small _ a))

two_is : (s : List ℕ) → is_digit (get_or s 0 0) ≡ true → eqb (get_or s 0 0) 48 ≡ false → is_digit (get_or s 1 0) ≡ true
    → Number (10 * (get_or s 0 0 - 48) + (get_or s 1 0 - 48)) s (drop 2 s)
two_is s a some b =
    subst (λ (x : List ℕ). Number (10 * (get_or s 0 0 - 48) + (get_or s 1 0 - 48)) x (drop 2 s))
    (sym (front_two s (get_or s 0 0) (get_or s 1 0) (not_nul _ a) (not_nul _ b) refl refl ∙ ap (λ (x : ℕ). x ∷ get_or s 1 0 ∷ drop 2 s) (value_of _ a) ∙ ap (λ (x : ℕ). (48 + (get_or s 0 0 - 48)) ∷ x ∷ drop 2 s) (value_of _ b)))
    (two_digits (get_or s 0 0 - 48) (get_or s 1 0 - 48) (drop 2 s) (large _ a some) (small _ a) (small _ b))

three_is : (s : List ℕ) → is_digit (get_or s 0 0) ≡ true → eqb (get_or s 0 0) 48 ≡ false → is_digit (get_or s 1 0) ≡ true → is_digit (get_or s 2 0) ≡ true
    → (n : ℕ) → n ≡ 100 * (get_or s 0 0 - 48) + 10 * (get_or s 1 0 - 48) + (get_or s 2 0 - 48) → n ≤ 255 → Number n s (drop 3 s)
three_is s a some b c n is le =
    let v = 100 * (get_or s 0 0 - 48) + 10 * (get_or s 1 0 - 48) + (get_or s 2 0 - 48) in
    subst (λ (k : ℕ). Number k s (drop 3 s)) (sym is)
    (subst (λ (x : List ℕ). Number v x (drop 3 s))
    (sym (front_three s (not_nul _ a) (not_nul _ b) (not_nul _ c) ∙ ap (λ (x : ℕ). x ∷ get_or s 1 0 ∷ get_or s 2 0 ∷ drop 3 s) (value_of _ a)
    ∙ ap (λ (x : ℕ). (48 + (get_or s 0 0 - 48)) ∷ x ∷ get_or s 2 0 ∷ drop 3 s) (value_of _ b)
    ∙ ap (λ (x : ℕ). (48 + (get_or s 0 0 - 48)) ∷ (48 + (get_or s 1 0 - 48)) ∷ x ∷ drop 3 s) (value_of _ c)))
    (grammar.three_digits (get_or s 0 0 - 48) (get_or s 1 0 - 48) (get_or s 2 0 - 48) (drop 3 s) (large _ a some) (small _ a) (small _ b) (small _ c) (subst (λ (k : ℕ). k ≤ 255) is le)))

bounded_is : (s : List ℕ) (n : ℕ) → (n ≤ 255 → Number n s (drop 3 s)) → IfSome {T = ℕ × ℕ} (three_digits n) (IsNumber s)
bounded_is s n k =
    by_test (λ (o : Option (ℕ × ℕ)). IfSome o (IsNumber s)) (nat_le n 255) _ _ (λ t. k (leb_le n 255 t)) (λ t. tt)

pub number_is : (s : List ℕ) → IfSome {T = ℕ × ℕ} (number s) (IsNumber s)
unfolding number
number_is s =
    by_test (λ (o : Option (ℕ × ℕ)). IfSome o (IsNumber s)) (not (is_digit (get_or s 0 0))) _ _ (λ t. tt)
    (λ t. by_test (λ (o : Option (ℕ × ℕ)). IfSome o (IsNumber s)) (eqb (get_or s 0 0) 48 || not (is_digit (get_or s 1 0))) _ _
    (λ u. one_is s (not_false _ t))
    (λ u. let p = neither _ _ u in
    by_test (λ (o : Option (ℕ × ℕ)). IfSome o (IsNumber s)) (not (is_digit (get_or s 2 0))) _ _
    (λ v. two_is s (not_false _ t) p.0 (not_false _ p.1))
    (λ v. bounded_is s _ (λ le. three_is s (not_false _ t) p.0 (not_false _ p.1) (not_false _ v) _ refl le))))

-- a character at a place, with those behind it
pub at_place : (s : List ℕ) (k c : ℕ) → c ≢ 0 → eqb (get_or s k 0) c ≡ true → drop k s ≡ c ∷ drop (k + 1) s
at_place s k c some t =
    let here : k + 0 ≡ k = omega arith in
    front (drop k s) c some (get_or-drop k s 0 0 ∙ ap (λ (i : ℕ). get_or s i 0) here ∙ eqb-true _ c t) ∙ ap (λ (x : List ℕ). c ∷ x) (drop-drop 1 k s)

count_to_is : (m : ℕ) (s u : List ℕ) → Number m s (44 ∷ u) → (o : Option (ℕ × ℕ)) → IfSome o (IsNumber u) → IfSome (count_to m u o) (λ (k : ℕ). Times (123 ∷ s) (drop k u))
count_to_is m s u low None h = tt
count_to_is m s u low (Some q) h =
    by_test (λ (o : Option ℕ). IfSome o (λ (k : ℕ). Times (123 ∷ s) (drop k u))) (eqb (get_or u q.1 0) 125 && nat_le m q.0) _ _
    (λ t. let p = both_of _ _ t in
    between m q.0 s u (drop (q.1 + 1) u) low (subst (Number q.0 u) (at_place u q.1 125 (λ z. omega arith) p.0) h) (leb_le m q.0 p.1))
    (λ t. tt)

count_on_is : (m : ℕ) (s u : List ℕ) → Number m s (44 ∷ u) → IfSome (count_on m u) (λ (k : ℕ). Times (123 ∷ s) (drop k u))
count_on_is m s u low =
    by_test (λ (o : Option ℕ). IfSome o (λ (k : ℕ). Times (123 ∷ s) (drop k u))) (eqb (get_or u 0 0) 125) _ _
    (λ t. at_least m s (drop 1 u) (subst (λ (x : List ℕ). Number m s (44 ∷ x)) (front u 125 (λ z. omega arith) (eqb-true _ 125 t)) low))
    (λ t. count_to_is m s u low (number u) (number_is u))

further : (s : List ℕ) (n : ℕ) (o : Option ℕ) → IfSome o (λ (k : ℕ). Times (123 ∷ s) (drop k (drop n s))) → IfSome (plus n o) (λ (k : ℕ). Times (123 ∷ s) (drop k s))
further s n None h = tt
further s n (Some k) h = subst (Times (123 ∷ s)) (drop-drop k n s) h

count_from_is : (s : List ℕ) (o : Option (ℕ × ℕ)) → IfSome o (IsNumber s) → IfSome (count_from s o) (λ (k : ℕ). Times (123 ∷ s) (drop k s))
count_from_is s None h = tt
count_from_is s (Some p) h =
    by_test (λ (o : Option ℕ). IfSome o (λ (k : ℕ). Times (123 ∷ s) (drop k s))) (eqb (get_or s p.1 0) 125) _ _
    (λ t. exactly p.0 s (drop (p.1 + 1) s) (subst (Number p.0 s) (at_place s p.1 125 (λ z. omega arith) t) h))
    (λ t. by_test (λ (o : Option ℕ). IfSome o (λ (k : ℕ). Times (123 ∷ s) (drop k s))) (eqb (get_or s p.1 0) 44) _ _
    (λ u. further s (p.1 + 1) (count_on p.0 (drop (p.1 + 1) s)) (count_on_is p.0 s (drop (p.1 + 1) s) (subst (Number p.0 s) (at_place s p.1 44 (λ z. omega arith) u) h)))
    (λ u. tt))

pub count_is : (s : List ℕ) → IfSome (count s) (λ (k : ℕ). Times (123 ∷ s) (drop k s))
unfolding count
count_is s = count_from_is s (number s) (number_is s)

-- a `?` behind a repetition belongs to it
pub lazy_is : (c : ℕ) (s : List ℕ) (n : ℕ) → Times (c ∷ s) (drop n s) → Repeat (c ∷ s) (drop (with_lazy s n) s)
lazy_is c s n h =
    by_test (λ (k : ℕ). Repeat (c ∷ s) (drop k s)) (eqb (get_or s n 0) 63) (n + 1) n
    (λ t. lazy (c ∷ s) (drop (n + 1) s) (subst (Times (c ∷ s)) (at_place s n 63 (λ z. omega arith) t) h))
    (λ t. greedy (c ∷ s) (drop n s) h)
