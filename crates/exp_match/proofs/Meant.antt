-- What is read as a token is what the rules have there.
use Rattle.std.proofs.Common.{◌≡◌, ◌≢◌, ℕ, Bool, true, false, ◌||◌, List, ◌∷◌, drop, get_or, Option, Some, None, IfSome, option_map, eqb, refl, sym, ap, ◌∙◌, subst, ◌⊎◌, inl, inr, ⊎_elim, arith}
use Rattle.std.proofs.lemmas.Bool.{eqb-true}
use Rattle.exp_match.specs.declared.token.Token.{Token}
use Rattle.exp_match.specs.declared.token.Token.TheVariants as token
use Rattle.exp_match.specs.Grammar.{Times, Repeat, Escape, Atom, any, literal, character}
use Rattle.exp_match.specs.Grammar as grammar
use Rattle.exp_match.specs.Scan.{is_special, is_set, is_digit, escaped, opening, escape, brace, with_lazy, token_at, class, count}
use Rattle.exp_match.proofs.Derived.{Means}
use Rattle.exp_match.proofs.Tokens.{by_test, front, front_two, escaped_is, class_is}
use Rattle.exp_match.proofs.Counts.{neither, count_is, lazy_is}

abbrev IsToken : ℕ → List ℕ → Token × ℕ → Type 0
IsToken c s p = Means p.0 (c ∷ s) (drop p.1 s)

pub either_of : (a b : Bool) → a || b ≡ true → (a ≡ true) ⊎ (b ≡ true)
either_of true b e = inl refl
either_of false b e = inr e

bounds : (c : ℕ) (s : List ℕ) → (eqb c 124 || eqb c 94) || eqb c 36 ≡ true → Means token.Bound (c ∷ s) s
bounds c s t =
    ⊎_elim
    (λ u. ⊎_elim (λ e. inl (ap (λ (x : ℕ). x ∷ s) (eqb-true c 124 e))) (λ e. inr (inl (ap (λ (x : ℕ). x ∷ s) (eqb-true c 94 e)))) (either_of (eqb c 124) (eqb c 94) u))
    (λ e. inr (inr (ap (λ (x : ℕ). x ∷ s) (eqb-true c 36 e))))
    (either_of (eqb c 124 || eqb c 94) (eqb c 36) t)

times : (c : ℕ) (s : List ℕ) → (eqb c 42 || eqb c 43) || eqb c 63 ≡ true → Times (c ∷ s) s
times c s t =
    let at = λ (b : ℕ) (r : Times (b ∷ s) s) (e : c ≡ b). subst (λ (x : ℕ). Times (x ∷ s) s) (sym e) r in
    ⊎_elim
    (λ u. ⊎_elim (λ e. at 42 (grammar.star s) (eqb-true c 42 e)) (λ e. at 43 (grammar.plus s) (eqb-true c 43 e)) (either_of (eqb c 42) (eqb c 43) u))
    (λ e. at 63 (grammar.optional s) (eqb-true c 63 e))
    (either_of (eqb c 42 || eqb c 43) (eqb c 63) t)

counted : (c : ℕ) (s : List ℕ) → c ≡ 123 → (o : Option ℕ) → IfSome o (λ (k : ℕ). Times (123 ∷ s) (drop k s))
    → IfSome {T = Token × ℕ} (option_map (λ n. (token.Repeat, with_lazy s n)) o) (IsToken c s)
counted c s e None h = tt
counted c s e (Some k) h = subst (λ (x : ℕ). Repeat (x ∷ s) (drop (with_lazy s k) s)) (sym e) (lazy_is 123 s k h)

braced : (c : ℕ) (s : List ℕ) → c ≡ 123 → IfSome {T = Token × ℕ} (brace s) (IsToken c s)
braced c s e =
    by_test (λ (o : Option (Token × ℕ)). IfSome o (IsToken c s)) (is_digit (get_or s 0 0)) _ _
    (λ t. counted c s e (count s) (count_is s))
    (λ t d. subst (λ (x : ℕ). Atom d (x ∷ s) s) (sym e) (grammar.brace d s t))

classed : (c : ℕ) (s : List ℕ) → c ≡ 91 → (o : Option ℕ) → IfSome o (λ (k : ℕ). (d : ℕ) → Atom d (91 ∷ s) (drop k s)) → IfSome {T = Token × ℕ} (option_map (λ n. (token.Atom, n)) o) (IsToken c s)
classed c s e None h = tt
classed c s e (Some k) h = λ d. subst (λ (x : ℕ). Atom d (x ∷ s) (drop k s)) (sym e) (h d)

opened : (c : ℕ) (s : List ℕ) → c ≡ 40 → IfSome {T = Token × ℕ} (opening s) (IsToken c s)
opened c s e =
    by_test (λ (o : Option (Token × ℕ)). IfSome o (IsToken c s)) (eqb (get_or s 0 0) 63) _ _
    (λ t. by_test (λ (o : Option (Token × ℕ)). IfSome o (IsToken c s)) (eqb (get_or s 1 0) 58) _ _
    (λ u. inr (ap (λ (x : ℕ). x ∷ s) e ∙ ap (λ (x : List ℕ). 40 ∷ x) (front_two s 63 58 (λ z. omega arith) (λ z. omega arith) (eqb-true _ 63 t) (eqb-true _ 58 u))))
    (λ u. tt))
    (λ t. inl (ap (λ (x : ℕ). x ∷ s) e))

set_head : (c : ℕ) → is_set c ≡ true → c ≢ 0
set_head c t e = let bad : is_set 0 ≡ true = subst (λ (x : ℕ). is_set x ≡ true) e t in absurd (cc)

backslashed : (c : ℕ) (s : List ℕ) → c ≡ 92 → IfSome {T = Token × ℕ} (escape s) (IsToken c s)
backslashed c s e =
    by_test (λ (o : Option (Token × ℕ)). IfSome o (IsToken c s)) (is_set (get_or s 0 0)) _ _
    (λ t d. subst (λ (x : List ℕ). Atom d x (drop 1 s)) (sym (ap (λ (x : ℕ). x ∷ s) e ∙ ap (λ (x : List ℕ). 92 ∷ x) (front s (get_or s 0 0) (set_head _ t) refl))) (grammar.set d (get_or s 0 0) (drop 1 s) t))
    (λ t. by (escaped s) (escaped_is s))
  where
    by : (o : Option (ℕ × ℕ)) → IfSome o (λ p. Escape p.0 s (drop p.1 s)) → IfSome {T = Token × ℕ} (option_map (λ p. (token.Atom, p.1)) o) (IsToken c s)
    by None h = tt
    by (Some p) h = λ d. subst (λ (x : ℕ). Atom d (x ∷ s) (drop p.1 s)) (sym e) (character d p.0 s (drop p.1 s) h)

plainly : (c : ℕ) (s : List ℕ) → (eqb c 124 || eqb c 94) || eqb c 36 ≡ false → (eqb c 42 || eqb c 43) || eqb c 63 ≡ false → eqb c 123 ≡ false → eqb c 40 ≡ false
    → eqb c 41 ≡ false → eqb c 91 ≡ false → eqb c 92 ≡ false → (d : ℕ) → Atom d (c ∷ s) s
plainly c s a b e123 e40 e41 e91 e92 d =
    by_test (λ (t : Bool). t ≡ t → Atom d (c ∷ s) s) (eqb c 46) true false
    (λ e r. subst (λ (x : ℕ). Atom d (x ∷ s) s) (sym (eqb-true c 46 e)) (any d s))
    (λ e46 r.
    let p = neither (eqb c 124 || eqb c 94) (eqb c 36) a in
    let q = neither (eqb c 124) (eqb c 94) p.0 in
    let u = neither (eqb c 42 || eqb c 43) (eqb c 63) b in
    let v = neither (eqb c 42) (eqb c 43) u.0 in
    let special : is_special c ≡ false = rw (e92, e46, v.1, v.0, u.1, e40, e41, q.0, e91, e123, q.1, p.1) refl in
    literal d c s special)
    refl

pub token_means : (c : ℕ) (s : List ℕ) → IfSome {T = Token × ℕ} (token_at c s) (λ p. Means p.0 (c ∷ s) (drop p.1 s))
unfolding token_at
token_means c s =
    let P = λ (o : Option (Token × ℕ)). IfSome o (IsToken c s) in
    by_test P ((eqb c 124 || eqb c 94) || eqb c 36) _ _ (λ t. bounds c s t)
    (λ a. by_test P ((eqb c 42 || eqb c 43) || eqb c 63) _ _ (λ t. lazy_is c s 0 (times c s t))
    (λ b. by_test P (eqb c 123) _ _ (λ t. braced c s (eqb-true c 123 t))
    (λ e123. by_test P (eqb c 40) _ _ (λ t. opened c s (eqb-true c 40 t))
    (λ e40. by_test P (eqb c 41) _ _ (λ t. ap (λ (x : ℕ). x ∷ s) (eqb-true c 41 t))
    (λ e41. by_test P (eqb c 91) _ _ (λ t. classed c s (eqb-true c 91 t) (class s) (class_is s))
    (λ e91. by_test P (eqb c 92) _ _ (λ t. backslashed c s (eqb-true c 92 t))
    (λ e92. plainly c s a b e123 e40 e41 e91 e92)))))))
