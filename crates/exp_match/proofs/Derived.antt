-- What the reading of a pattern accepts is derived by the rules.
use Rattle.std.proofs.Common.{◌≡◌, ◌≢◌, ℕ, zero, suc, ◌+◌, ◌-◌, Bool, true, false, cond, List, [], ◌∷◌, drop, Option, Some, None, IfSome, eqb, refl, sym, subst, ◌⊎◌, inl, inr, arith}
use Rattle.std.proofs.lemmas.Bool.{eqb-true}
use Rattle.std.proofs.lemmas.Bool.Decides.{nat_tests}
use Rattle.exp_match.specs.declared.token.Token.{Token}
use Rattle.exp_match.specs.declared.token.Token.TheVariants as token
use Rattle.exp_match.specs.declared.token.Nesting.{Nesting}
use Rattle.tcl_words.proofs.ListGraph.{course_induction}
use Rattle.exp_match.specs.Grammar.{Re, Piece, Atom, Repeat, alone, either, empty, next, start, end, once, repeated, group, plain_group}
use Rattle.exp_match.specs.Scan.{accepts, accepts_step, behind, behind_token, go_on, token_at, outermost}

-- the rest of a pattern, up to t; where f is true an atom stands before it, which may be repeated
abbrev pub From : ℕ → Bool → List ℕ → List ℕ → Type 0
From d false s t = Re d s t
From d true s t = (u : List ℕ) × ((s ≡ u) ⊎ Repeat s u) × Re d u t

-- the rest of a pattern where n groups are open
abbrev pub Opened : ℕ → ℕ → Bool → List ℕ → Type 0
Opened zero d f s = From d f s []
Opened (suc n) d f s = (t : List ℕ) × From d f s (41 ∷ t) × Opened n (suc d) true t

pub loosen : (d : ℕ) (f : Bool) (s t : List ℕ) → Re d s t → From d f s t
loosen d true s t r = (s, inl refl, r)
loosen d false s t r = r

pub grow : (n d : ℕ) (f g : Bool) (s u : List ℕ) → ((t : List ℕ) → From d f s t → From d g u t) → Opened n d f s → Opened n d g u
grow zero d f g s u k o = k [] o
grow (suc n) d f g s u k o = (o.0, k (41 ∷ o.0) o.1, o.2)

pub prepend : (d : ℕ) (s t u : List ℕ) → Piece d s t → Re d t u → Re d s u
prepend d s t u p (alone d' t' u' q) = alone d s u (next d s t u p q)
prepend d s t u p (either d' t' v u' q r) = either d s v u (next d s t (124 ∷ v) p q) r

pub with_atom : (d : ℕ) (s t u : List ℕ) → Atom d s t → From d true t u → Re d s u
with_atom d s t u a (v, inl e, r) = prepend d s t u (once d s t a) (subst (λ x. Re d x u) (sym e) r)
with_atom d s t u a (v, inr p, r) = prepend d s v u (repeated d s t v a p) r

-- what a token stands for
abbrev pub Means : Token → List ℕ → List ℕ → Type 0
Means token.Bound s t = (s ≡ 124 ∷ t) ⊎ ((s ≡ 94 ∷ t) ⊎ (s ≡ 36 ∷ t))
Means token.Repeat s t = Repeat s t
Means token.Open s t = (s ≡ 40 ∷ t) ⊎ (s ≡ 40 ∷ 63 ∷ 58 ∷ t)
Means token.Close s t = s ≡ 41 ∷ t
Means token.Atom s t = (d : ℕ) → Atom d s t

at_bound : (d : ℕ) (s t r : List ℕ) → Means token.Bound s t → Re d t r → Re d s r
at_bound d s t r (inl e) q = subst (λ x. Re d x r) (sym e) (either d (124 ∷ t) t r (empty d (124 ∷ t)) q)
at_bound d s t r (inr (inl e)) q = subst (λ x. Re d x r) (sym e) (prepend d (94 ∷ t) t r (start d t) q)
at_bound d s t r (inr (inr e)) q = subst (λ x. Re d x r) (sym e) (prepend d (36 ∷ t) t r (end d t) q)

at_group : (d : ℕ) (s t u : List ℕ) → Means token.Open s t → Re d t (41 ∷ u) → Atom (suc d) s u
at_group d s t u (inl e) q = subst (λ x. Atom (suc d) x u) (sym e) (group d t u q)
at_group d s t u (inr e) q = subst (λ x. Atom (suc d) x u) (sym e) (plain_group d t u q)

opens : (n d : ℕ) (f : Bool) (s t : List ℕ) → d ≢ 0 → Means token.Open s t → Opened (n + 1) (d - 1) false t → Opened n d f s
opens n zero f s t some m o = absurd (some refl)
opens n (suc d) f s t some m o =
    let up : n + 1 ≡ suc n = omega arith in
    let down : suc d - 1 ≡ d = omega arith in
    let p : Opened (suc n) d false t = subst (λ (k : ℕ). Opened k d false t) up (subst (λ (k : ℕ). Opened (n + 1) k false t) down o) in
    grow n (suc d) true f p.0 s (λ r q. loosen (suc d) f s r (with_atom (suc d) s p.0 r (at_group d s t p.0 m p.1) q)) p.2

closes : (n d : ℕ) (f : Bool) (s t : List ℕ) → n ≢ 0 → s ≡ 41 ∷ t → Opened (n - 1) (d + 1) true t → Opened n d f s
closes zero d f s t some e o = absurd (some refl)
closes (suc n) d f s t some e o =
    let down : suc n - 1 ≡ n = omega arith in
    let up : d + 1 ≡ suc d = omega arith in
    let p : Opened n (suc d) true t = subst (λ (k : ℕ). Opened n k true t) up (subst (λ (k : ℕ). Opened k (d + 1) true t) down o) in
    (t, subst (λ x. From d f x (41 ∷ t)) (sym e) (loosen d f (41 ∷ t) (41 ∷ t) (alone d (41 ∷ t) (41 ∷ t) (empty d (41 ∷ t)))), p)

-- a choice that gave something
taken : (t : Bool) (m : Nesting) (on : Nesting → Bool) → go_on on (cond t None (Some m)) ≡ true → (t ≡ false) × (on m ≡ true)
taken true m on e = absurd (cc)
taken false m on e = (refl, e)

not_zero : (n : ℕ) → eqb n 0 ≡ false → n ≢ 0
not_zero n e z = grind (arith, nat_tests)

by_token : (n d : ℕ) (f : Bool) (k : Token) (s t : List ℕ) → Means k s t
    → ((m : Nesting) → accepts t m ≡ true → Opened m.opened m.left m.repeatable t)
    → go_on (accepts t) (behind (record { opened = n; left = d; repeatable = f }) k) ≡ true → Opened n d f s
by_token n d f token.Bound s t m ih e =
    grow n d false f t s (λ r q. loosen d f s r (at_bound d s t r m q)) (ih (record { opened = n; left = d; repeatable = false }) e)
by_token n d true token.Repeat s t m ih e =
    grow n d false true t s (λ r q. (t, inr m, q)) (ih (record { opened = n; left = d; repeatable = false }) e)
by_token n d false token.Repeat s t m ih e = absurd (cc)
by_token n d f token.Open s t m ih e =
    let p = taken (eqb d 0) (record { opened = n + 1; left = d - 1; repeatable = false }) (accepts t) e in
    opens n d f s t (not_zero d p.0) m (ih (record { opened = n + 1; left = d - 1; repeatable = false }) p.1)
by_token n d f token.Close s t m ih e =
    let p = taken (eqb n 0) (record { opened = n - 1; left = d + 1; repeatable = true }) (accepts t) e in
    closes n d f s t (not_zero n p.0) m (ih (record { opened = n - 1; left = d + 1; repeatable = true }) p.1)
by_token n d f token.Atom s t m ih e =
    grow n d true f t s (λ r q. loosen d f s r (with_atom d s t r (m d) q)) (ih (record { opened = n; left = d; repeatable = true }) e)

module _ (token_means : (c : ℕ) (s : List ℕ) → IfSome (token_at c s) (λ p. Means p.0 (c ∷ s) (drop p.1 s))) where
  abbrev IsDerived : List ℕ → (Nesting → Bool) → Type 0
  IsDerived s on = (n : Nesting) → on n ≡ true → Opened n.opened n.left n.repeatable s

  derived_turn : (c : ℕ) (s : List ℕ) → ((k : ℕ) → IsDerived (drop k s) (accepts (drop k s))) → IsDerived (c ∷ s) (accepts_step (λ k. accepts (drop k s)) c s)
  derived_turn c s ih n e = by (token_at c s) (token_means c s) e
    where
      by : (o : Option (Token × ℕ)) → IfSome o (λ p. Means p.0 (c ∷ s) (drop p.1 s)) → behind_token (λ k. accepts (drop k s)) n o ≡ true → Opened n.opened n.left n.repeatable (c ∷ s)
      by None m e = absurd (cc)
      by (Some p) m e = by_token n.opened n.left n.repeatable p.0 (c ∷ s) (drop p.1 s) m (ih p.1) e

  derived_end : IsDerived [] (λ n. eqb n.opened 0)
  derived_end n e = subst (λ (k : ℕ). Opened k n.left n.repeatable []) (sym (eqb-true n.opened 0 e)) (loosen n.left n.repeatable [] [] (alone n.left [] [] (empty n.left [])))

  pub derived : (s : List ℕ) → accepts s outermost ≡ true → Re 50 s []
  unfolding accepts
  derived s e = course_induction (λ n. eqb n.opened 0) accepts_step IsDerived derived_end derived_turn s 0 outermost e
