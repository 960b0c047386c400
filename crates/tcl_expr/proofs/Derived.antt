-- What is read is a phrase of the rules.
use Rattle.std.proofs.Common.{◌≡◌, ℕ, zero, suc, ◌+◌, ◌≤◌, true, List, [], ◌∷◌, ◌++◌, length, take, drop, Option, Some, None, Ok, Err, refl, sym, ap, ◌∙◌, subst, eqb, length-drop, arith}
use Rattle.std.proofs.lemmas.Bool.{eqb-true, cond_both}
use Rattle.std.proofs.lemmas.List.{take-append-drop, length-take-le}
use Rattle.tcl_words.specs.Lists.{begins_with}
use Rattle.tcl_words.proofs.ListGraph.{course_induction}
use Rattle.tcl_expr.specs.declared.operators.Prefix.{Prefix}
use Rattle.tcl_expr.specs.declared.operators.Infix.{Infix}
use Rattle.tcl_expr.specs.White.{gap, past}
use Rattle.tcl_expr.specs.Infix.{infix_at, level_of, of_level, prefix_at}
use Rattle.tcl_expr.specs.Tree.{Tree, unary, choice, joined}
use Rattle.tcl_expr.specs.Leaf.{Read, leaf, is_lowest, digits_len, lowest}
use Rattle.tcl_expr.specs.Grammar.{behind, in_parens, prefixed, term, to_left, to_right, link, chain, chain_step, chained, level, otherwise, colon, question, whole, inside_of}
use Rattle.tcl_expr.specs.Rules.{Rank, Phrase}
use Rattle.tcl_expr.proofs.Lowest.{lowest_digits, lowest_text, digits_end}
use Rattle.tcl_expr.proofs.Writings.{of_level_is}
use Rattle.tcl_expr.proofs.Places.{past_gap, drop_more, drop_behind, begins}

-- a phrase one nesting deeper
abbrev Under : ℕ → Rank → List ℕ → Tree → List ℕ → Type 0
Under zero rank s t r = ⊥
Under (suc d) rank s t r = Phrase d rank s t r

-- what was read within a text is a phrase
abbrev Derives : ℕ → Rank → List ℕ → Read → Type 0
Derives d rank s (Err e) = Unit {0}
Derives d rank s (Ok p) = p.1 ≤ length s → Phrase d rank s p.0 (drop p.1 s)

abbrev DerivesUnder : ℕ → Rank → List ℕ → Read → Type 0
DerivesUnder d rank s (Err e) = Unit {0}
DerivesUnder d rank s (Ok p) = p.1 ≤ length s → Under d rank s p.0 (drop p.1 s)

-- ---- level 0

leaf_derives : (d : ℕ) (s : List ℕ) (r : Read) → leaf s ≡ r → Derives d (Rank.level 0) s r
leaf_derives d s (Err e) is = tt
leaf_derives d s (Ok p) is = λ le.
    let whole : take p.1 s ++ drop p.1 s ≡ s = take-append-drop p.1 s in
    let long : length (take p.1 s) ≡ p.1 = length-take-le p.1 s le in
    let same : leaf (take p.1 s ++ drop p.1 s) ≡ Ok (p.0, length (take p.1 s)) = ap leaf whole ∙ is ∙ ap (λ (n : ℕ). Ok (p.0, n)) (sym long) in
    subst (λ x. Phrase d (Rank.level 0) x p.0 (drop p.1 s)) whole (Phrase.simple d (take p.1 s) (drop p.1 s) p.0 same)

parens_under : (d : ℕ) (s r : List ℕ) (t : Tree) → Under d Rank.whole (past s) t (41 ∷ r) → Phrase d (Rank.level 0) (40 ∷ s) t (past r)
parens_under zero s r t u = absurd u
parens_under (suc d) s r t u = Phrase.parens d s r t u

parens_derive : (d : ℕ) (s : List ℕ) (r : Read) → DerivesUnder d Rank.whole (drop (gap (40 ∷ s) 1) (40 ∷ s)) r → Derives d (Rank.level 0) (40 ∷ s) (in_parens (40 ∷ s) (gap (40 ∷ s) 1) r)
parens_derive d s (Err e) h = tt
parens_derive d s (Ok p) h =
    let text : List ℕ = 40 ∷ s in
    let n : ℕ = gap text 1 in
    cond_both (begins_with 41 (drop (n + p.1) text)) _ _ (Derives d (Rank.level 0) text)
    (λ t le.
    let within : p.1 ≤ length (drop n text) = omega (arith, length-drop n text) in
    let shape : drop p.1 (drop n text) ≡ 41 ∷ drop (n + p.1 + 1) text =
    drop_more text n p.1 (n + p.1) refl ∙ begins 41 (drop (n + p.1) text) t ∙ ap (λ x. 41 ∷ x) (drop_more text (n + p.1) 1 (n + p.1 + 1) refl) in
    let u : Under d Rank.whole (past s) p.0 (41 ∷ drop (n + p.1 + 1) text) =
    subst (λ x. Under d Rank.whole x p.0 (41 ∷ drop (n + p.1 + 1) text)) (sym (past_gap text 1)) (subst (Under d Rank.whole (drop n text) p.0) shape (h within)) in
    subst (Phrase d (Rank.level 0) text p.0) (past_gap text (n + p.1 + 1)) (parens_under d s (drop (n + p.1 + 1) text) p.0 u))
    (λ f. tt)

prefix_under : (d b : ℕ) (s r : List ℕ) (op : Prefix) (t : Tree) → prefix_at b ≡ Some op → Under d (Rank.level 0) (past s) t r → Phrase d (Rank.level 0) (b ∷ s) (unary op t) r
prefix_under zero b s r op t is u = absurd u
prefix_under (suc d) b s r op t is u = Phrase.prefix d b s r op t is u

prefix_derives : (d b : ℕ) (s : List ℕ) (op : Prefix) → prefix_at b ≡ Some op → (r : Read) → DerivesUnder d (Rank.level 0) (drop (gap (b ∷ s) 1) (b ∷ s)) r
    → Derives d (Rank.level 0) (b ∷ s) (behind (gap (b ∷ s) 1) (unary op) r)
prefix_derives d b s op is (Err e) h = tt
prefix_derives d b s op is (Ok p) h = λ le.
    let text : List ℕ = b ∷ s in
    let n : ℕ = gap text 1 in
    let within : p.1 ≤ length (drop n text) = omega (arith, length-drop n text) in
    let u : Under d (Rank.level 0) (past s) p.0 (drop (n + p.1) text) =
    subst (λ x. Under d (Rank.level 0) x p.0 (drop (n + p.1) text)) (sym (past_gap text 1)) (subst (Under d (Rank.level 0) (drop n text) p.0) (drop_more text n p.1 (n + p.1) refl) (h within)) in
    prefix_under d b s (drop (n + p.1) text) op p.0 is u

least_derives : (d b : ℕ) (s : List ℕ) → is_lowest b s ≡ true → Phrase d (Rank.level 0) (b ∷ s) (Tree.number lowest) (drop (gap (b ∷ s) (1 + digits_len s)) (b ∷ s))
least_derives d b s is =
    let n : ℕ = digits_len s in
    let one : 1 + n ≡ suc n = omega arith in
    let rest : past (drop n s) ≡ drop (gap (b ∷ s) (1 + n)) (b ∷ s) = ap past (sym (drop_behind b s n (1 + n) one)) ∙ past_gap (b ∷ s) (1 + n) in
    subst (λ x. Phrase d (Rank.level 0) x (Tree.number lowest) (drop (gap (b ∷ s) (1 + n)) (b ∷ s))) (sym (lowest_text b s is))
    (subst (Phrase d (Rank.level 0) (45 ∷ (lowest_digits ++ drop n s)) (Tree.number lowest)) rest (Phrase.least d (drop n s) (digits_end s)))

term_derives : (d : ℕ) → ((s : List ℕ) → DerivesUnder d Rank.whole s ((inside_of d).whole s)) → ((s : List ℕ) → DerivesUnder d (Rank.level 0) s ((inside_of d).term s))
    → (s : List ℕ) → Derives d (Rank.level 0) s (term (inside_of d) s)
unfolding term
term_derives d wholes terms [] = tt
term_derives d wholes terms (b ∷ s) =
    cond_both (eqb b 40) _ _ (Derives d (Rank.level 0) (b ∷ s))
    (λ t. subst (λ (x : ℕ). Derives d (Rank.level 0) (x ∷ s) (in_parens (x ∷ s) (gap (x ∷ s) 1) ((inside_of d).whole (drop (gap (x ∷ s) 1) (x ∷ s))))) (sym (eqb-true b 40 t))
    (parens_derive d s _ (wholes (drop (gap (40 ∷ s) 1) (40 ∷ s)))))
    (λ f. cond_both (is_lowest b s) _ _ (Derives d (Rank.level 0) (b ∷ s))
    (λ t le. least_derives d b s t)
    (λ g. by (prefix_at b) refl))
  where
    by : (o : Option Prefix) → prefix_at b ≡ o → Derives d (Rank.level 0) (b ∷ s) (prefixed (inside_of d) (b ∷ s) o)
    by None is = leaf_derives d (b ∷ s) (leaf (b ∷ s)) refl
    by (Some op) is = prefix_derives d b s op is _ (terms (drop (gap (b ∷ s) 1) (b ∷ s)))

-- ---- levels

-- A left operand that leaves a text, and the chain there: with it the phrase goes on.
abbrev GoesOn : ℕ → ℕ → List ℕ → List ℕ → Read → Type 0
GoesOn d k s rest (Err e) = Unit {0}
GoesOn d k s rest (Ok p) = p.1 ≤ length rest → Phrase d (Rank.level (suc k)) s p.0 (drop p.1 rest)

-- the right operand of an operator, behind n more bytes of it
right_operand : (d k n : ℕ) (m : List ℕ) (p : Tree × ℕ) → Derives d (Rank.level k) (drop (gap m n) m) (Ok p) → gap m n + p.1 ≤ length m → Phrase d (Rank.level k) (past (drop n m)) p.0 (drop (gap m n + p.1) m)
right_operand d k n m p h le =
    let within : p.1 ≤ length (drop (gap m n) m) = omega (arith, length-drop (gap m n) m) in
    let behind_it : drop p.1 (drop (gap m n) m) ≡ drop (gap m n + p.1) m = drop_more m (gap m n) p.1 (gap m n + p.1) refl in
    subst (λ x. Phrase d (Rank.level k) x p.0 (drop (gap m n + p.1) m)) (sym (past_gap m n)) (subst (Phrase d (Rank.level k) (drop (gap m n) m) p.0) behind_it (h within))

-- what is left behind the operand, from the operator's first byte on
rest_there : (b : ℕ) (m : List ℕ) (g i j : ℕ) → drop j (drop (g + i) m) ≡ drop (1 + g + i + j) (b ∷ m)
rest_there b m g i j =
    let place : 1 + g + i + j ≡ suc (g + i + j) = omega arith in
    drop_more m (g + i) j (g + i + j) refl ∙ sym (drop_behind b m (g + i + j) (1 + g + i + j) place)

to_left_goes_on : (d k b n : ℕ) (s m : List ℕ) (op : Infix) (l : Tree) → Phrase d (Rank.level (suc (suc k))) s l (b ∷ m) → infix_at b m ≡ Some (op, n) → level_of op ≡ suc (suc k)
    → (on : ℕ → Tree → Read) → ((j : ℕ) (u : Tree) → Phrase d (Rank.level (suc (suc k))) s u (drop j m) → GoesOn d (suc k) s (drop j m) (on j u))
    → (x : Read) → Derives d (Rank.level (suc k)) (drop (gap m n) m) x → GoesOn d (suc k) s (b ∷ m) (to_left on op (gap m n) l x)
to_left_goes_on d k b n s m op l left is same on goes (Err e) h = tt
to_left_goes_on d k b n s m op l left is same on goes (Ok p) h = last (on (g + p.1) (joined op l p.0)) (λ right. goes (g + p.1) (joined op l p.0) right)
  where
    g : ℕ
    g = gap m n

    last : (y : Read) → (Phrase d (Rank.level (suc (suc k))) s (joined op l p.0) (drop (g + p.1) m) → GoesOn d (suc k) s (drop (g + p.1) m) y) → GoesOn d (suc k) s (b ∷ m) (behind (1 + g + p.1) (λ t. t) y)
    last (Err e) then = tt
    last (Ok q) then = λ le.
        let left_over : q.1 ≤ length (drop (g + p.1) m) = omega (arith, length-drop (g + p.1) m) in
        let right : Phrase d (Rank.level (suc k)) (past (drop n m)) p.0 (drop (g + p.1) m) = right_operand d (suc k) n m p h (omega arith) in
        let both : Phrase d (Rank.level (suc (suc k))) s (joined op l p.0) (drop (g + p.1) m) = Phrase.infixed d k b n s m (drop (g + p.1) m) op l p.0 left is same right in
        subst (Phrase d (Rank.level (suc (suc k))) s q.0) (rest_there b m g p.1 q.1) (then both left_over)

to_right_goes_on : (d b n : ℕ) (s m : List ℕ) (op : Infix) (l : Tree) → Phrase d (Rank.level 0) s l (b ∷ m) → infix_at b m ≡ Some (op, n) → level_of op ≡ 1
    → (on : ℕ → Tree → Read) → ((j : ℕ) (u : Tree) (s' : List ℕ) → Phrase d (Rank.level 0) s' u (drop j m) → GoesOn d 0 s' (drop j m) (on j u))
    → (x : Read) → Derives d (Rank.level 0) (drop (gap m n) m) x → GoesOn d 0 s (b ∷ m) (to_right on op (gap m n) l x)
to_right_goes_on d b n s m op l left is same on goes (Err e) h = tt
to_right_goes_on d b n s m op l left is same on goes (Ok p) h = last (on (g + p.1) p.0) (λ right. goes (g + p.1) p.0 (past (drop n m)) right)
  where
    g : ℕ
    g = gap m n

    last : (y : Read) → (Phrase d (Rank.level 0) (past (drop n m)) p.0 (drop (g + p.1) m) → GoesOn d 0 (past (drop n m)) (drop (g + p.1) m) y) → GoesOn d 0 s (b ∷ m) (behind (1 + g + p.1) (joined op l) y)
    last (Err e) then = tt
    last (Ok q) then = λ le.
        let left_over : q.1 ≤ length (drop (g + p.1) m) = omega (arith, length-drop (g + p.1) m) in
        let right : Phrase d (Rank.level 1) (past (drop n m)) q.0 (drop q.1 (drop (g + p.1) m)) = then (right_operand d 0 n m p h (omega arith)) left_over in
        subst (Phrase d (Rank.level 1) s (joined op l q.0)) (rest_there b m g p.1 q.1) (Phrase.raised d b n s m (drop q.1 (drop (g + p.1) m)) op l q.0 left is same right)

module _ (d : ℕ) (terms : (s : List ℕ) → Derives d (Rank.level 0) s (term (inside_of d) s)) where
  abbrev RightGoesOn : List ℕ → (Tree → Read) → Type 0
  RightGoesOn rest f = (s : List ℕ) (l : Tree) → Phrase d (Rank.level 0) s l rest → GoesOn d 0 s rest (f l)

  right_end : RightGoesOn [] (λ l. Ok (l, 0))
  right_end s l p = λ le. Phrase.tighter d 0 s [] l p

  right_turn : (b : ℕ) (m : List ℕ) → ((j : ℕ) → RightGoesOn (drop j m) (chain to_right (term (inside_of d)) 1 (drop j m)))
      → RightGoesOn (b ∷ m) (chain_step to_right (term (inside_of d)) 1 (λ j. chain to_right (term (inside_of d)) 1 (drop j m)) b m)
  right_turn b m ih s l p = by (of_level 1 (infix_at b m)) refl
    where
      by : (o : Option (Infix × ℕ)) → of_level 1 (infix_at b m) ≡ o → GoesOn d 0 s (b ∷ m) (link to_right (term (inside_of d)) 1 (λ j. chain to_right (term (inside_of d)) 1 (drop j m)) m l o)
      by None is = λ le. Phrase.tighter d 0 s (b ∷ m) l p
      by (Some (op, n)) is =
          let found = of_level_is 1 (infix_at b m) op n is in
          to_right_goes_on d b n s m op l p found.is found.same (λ j. chain to_right (term (inside_of d)) 1 (drop j m)) (λ j u s' q. ih j s' u q) _ (terms (drop (gap m n) m))

  right_goes_on : (rest : List ℕ) → RightGoesOn rest (chain to_right (term (inside_of d)) 1 rest)
  unfolding chain
  right_goes_on rest = course_induction (λ l. Ok (l, 0)) (chain_step to_right (term (inside_of d)) 1) RightGoesOn right_end right_turn rest 0

  powers_derive : (s : List ℕ) (x : Read) → Derives d (Rank.level 0) s x → Derives d (Rank.level 1) s (chained to_right (term (inside_of d)) 1 s x)
  powers_derive s (Err e) h = tt
  powers_derive s (Ok p) h = by (chain to_right (term (inside_of d)) 1 (drop p.1 s) p.0) (λ first. right_goes_on (drop p.1 s) s p.0 first)
    where
      by : (y : Read) → (Phrase d (Rank.level 0) s p.0 (drop p.1 s) → GoesOn d 0 s (drop p.1 s) y) → Derives d (Rank.level 1) s (behind p.1 (λ t. t) y)
      by (Err e) then = tt
      by (Ok q) then = λ le.
          let left_over : q.1 ≤ length (drop p.1 s) = omega (arith, length-drop p.1 s) in
          subst (Phrase d (Rank.level 1) s q.0) (drop_more s p.1 q.1 (p.1 + q.1) refl) (then (h (omega arith)) left_over)

module _ (d k : ℕ) (next : List ℕ → Read) (nexts : (s : List ℕ) → Derives d (Rank.level (suc k)) s (next s)) where
  abbrev ChainGoesOn : List ℕ → (Tree → Read) → Type 0
  ChainGoesOn rest f = (s : List ℕ) (l : Tree) → Phrase d (Rank.level (suc (suc k))) s l rest → GoesOn d (suc k) s rest (f l)

  chain_end : ChainGoesOn [] (λ l. Ok (l, 0))
  chain_end s l p = λ le. p

  chain_turn : (b : ℕ) (m : List ℕ) → ((j : ℕ) → ChainGoesOn (drop j m) (chain to_left next (suc (suc k)) (drop j m)))
      → ChainGoesOn (b ∷ m) (chain_step to_left next (suc (suc k)) (λ j. chain to_left next (suc (suc k)) (drop j m)) b m)
  chain_turn b m ih s l p = by (of_level (suc (suc k)) (infix_at b m)) refl
    where
      by : (o : Option (Infix × ℕ)) → of_level (suc (suc k)) (infix_at b m) ≡ o → GoesOn d (suc k) s (b ∷ m) (link to_left next (suc (suc k)) (λ j. chain to_left next (suc (suc k)) (drop j m)) m l o)
      by None is = λ le. p
      by (Some (op, n)) is =
          let found = of_level_is (suc (suc k)) (infix_at b m) op n is in
          to_left_goes_on d k b n s m op l p found.is found.same (λ j. chain to_left next (suc (suc k)) (drop j m)) (λ j u q. ih j s u q) _ (nexts (drop (gap m n) m))

  pub chain_goes_on : (rest : List ℕ) → ChainGoesOn rest (chain to_left next (suc (suc k)) rest)
  unfolding chain
  chain_goes_on rest = course_induction (λ l. Ok (l, 0)) (chain_step to_left next (suc (suc k))) ChainGoesOn chain_end chain_turn rest 0

  pub chained_derives : (s : List ℕ) (x : Read) → Derives d (Rank.level (suc k)) s x → Derives d (Rank.level (suc (suc k))) s (chained to_left next (suc (suc k)) s x)
  chained_derives s (Err e) h = tt
  chained_derives s (Ok p) h = by (chain to_left next (suc (suc k)) (drop p.1 s) p.0) (λ first. chain_goes_on (drop p.1 s) s p.0 first)
    where
      by : (y : Read) → (Phrase d (Rank.level (suc (suc k))) s p.0 (drop p.1 s) → GoesOn d (suc k) s (drop p.1 s) y) → Derives d (Rank.level (suc (suc k))) s (behind p.1 (λ t. t) y)
      by (Err e) then = tt
      by (Ok q) then = λ le.
          let first : Phrase d (Rank.level (suc (suc k))) s p.0 (drop p.1 s) = Phrase.tighter d (suc k) s (drop p.1 s) p.0 (h (omega arith)) in
          let left_over : q.1 ≤ length (drop p.1 s) = omega (arith, length-drop p.1 s) in
          subst (Phrase d (Rank.level (suc (suc k))) s q.0) (drop_more s p.1 q.1 (p.1 + q.1) refl) (then first left_over)

level_derives : (d : ℕ) → ((s : List ℕ) → Derives d (Rank.level 0) s (term (inside_of d) s)) → (k : ℕ) (s : List ℕ) → Derives d (Rank.level k) s (level (inside_of d) k s)
unfolding level
level_derives d terms zero s = terms s
level_derives d terms (suc zero) s = powers_derive d terms s _ (terms s)
level_derives d terms (suc (suc k)) s = chained_derives d k (level (inside_of d) (suc k)) (level_derives d terms (suc k)) s _ (level_derives d terms (suc k) s)

-- ---- whole expressions

branches_under : (d : ℕ) (s m p r : List ℕ) (c x y : Tree) → Phrase d (Rank.level 13) s c (63 ∷ m) → Under d Rank.whole (past m) x (58 ∷ p) → Under d Rank.whole (past p) y r
    → Phrase d Rank.whole s (choice c x y) r
branches_under zero s m p r c x y condition first second = absurd first
branches_under (suc d) s m p r c x y condition first second = Phrase.branches d s m p r c x y condition first second

module _ (d : ℕ) (wholes : (s : List ℕ) → DerivesUnder d Rank.whole s ((inside_of d).whole s)) where
  -- the condition takes m bytes and the first branch p.1 more, behind g
  otherwise_derives : (s : List ℕ) (c : Tree) (m : ℕ) (p : Tree × ℕ) → (m ≤ length s → Phrase d (Rank.level 13) s c (drop m s)) → drop m s ≡ 63 ∷ drop (m + 1) s
      → DerivesUnder d Rank.whole (drop (gap s (m + 1)) s) (Ok p) → drop (gap s (m + 1) + p.1) s ≡ 58 ∷ drop (gap s (m + 1) + p.1 + 1) s
      → (y : Read) → DerivesUnder d Rank.whole (drop (gap s (gap s (m + 1) + p.1 + 1)) s) y → Derives d Rank.whole s (otherwise c p.0 (gap s (gap s (m + 1) + p.1 + 1)) y)
  otherwise_derives s c m p condition mark h stop (Err e) h' = tt
  otherwise_derives s c m p condition mark h stop (Ok q) h' = λ le.
      let g : ℕ = gap s (m + 1) in
      let k : ℕ = gap s (g + p.1 + 1) in
      let first : Under d Rank.whole (past (drop (m + 1) s)) p.0 (58 ∷ drop (g + p.1 + 1) s) =
      subst (λ x. Under d Rank.whole x p.0 (58 ∷ drop (g + p.1 + 1) s)) (sym (past_gap s (m + 1)))
      (subst (Under d Rank.whole (drop g s) p.0) (drop_more s g p.1 (g + p.1) refl ∙ stop) (h (omega (arith, length-drop g s)))) in
      let second : Under d Rank.whole (past (drop (g + p.1 + 1) s)) q.0 (drop (k + q.1) s) =
      subst (λ x. Under d Rank.whole x q.0 (drop (k + q.1) s)) (sym (past_gap s (g + p.1 + 1)))
      (subst (Under d Rank.whole (drop k s) q.0) (drop_more s k q.1 (k + q.1) refl) (h' (omega (arith, length-drop k s)))) in
      branches_under d s (drop (m + 1) s) (drop (g + p.1 + 1) s) (drop (k + q.1) s) c p.0 q.0 (subst (Phrase d (Rank.level 13) s c) mark (condition (omega arith))) first second

  marked : (c m : ℕ) (s : List ℕ) → begins_with c (drop m s) ≡ true → drop m s ≡ c ∷ drop (m + 1) s
  marked c m s t = begins c (drop m s) t ∙ ap (λ x. c ∷ x) (drop_more s m 1 (m + 1) refl)

  colon_derives : (s : List ℕ) (c : Tree) (m : ℕ) → (m ≤ length s → Phrase d (Rank.level 13) s c (drop m s)) → drop m s ≡ 63 ∷ drop (m + 1) s
      → (x : Read) → DerivesUnder d Rank.whole (drop (gap s (m + 1)) s) x → Derives d Rank.whole s (colon (inside_of d) s c (gap s (m + 1)) x)
  colon_derives s c m condition mark (Err e) h = tt
  colon_derives s c m condition mark (Ok p) h =
      let n : ℕ = gap s (m + 1) + p.1 in
      cond_both (begins_with 58 (drop n s)) _ _ (Derives d Rank.whole s)
      (λ t. otherwise_derives s c m p condition mark h (marked 58 n s t) _ (wholes (drop (gap s (n + 1)) s)))
      (λ f. tt)

  question_derives : (s : List ℕ) (x : Read) → Derives d (Rank.level 13) s x → Derives d Rank.whole s (question (inside_of d) s x)
  question_derives s (Err e) h = tt
  question_derives s (Ok p) h =
      cond_both (begins_with 63 (drop p.1 s)) _ _ (Derives d Rank.whole s)
      (λ t. colon_derives s p.0 p.1 h (marked 63 p.1 s t) _ (wholes (drop (gap s (p.1 + 1)) s)))
      (λ f le. Phrase.plain d s (drop p.1 s) p.0 (h le))

-- what is read with d more nestings allowed
record Both (d : ℕ) : Type 0 where
  whole_derives : (s : List ℕ) → Derives d Rank.whole s (whole (inside_of d) s)
  term_derives : (s : List ℕ) → Derives d (Rank.level 0) s (term (inside_of d) s)

with_insides : (d : ℕ) → ((s : List ℕ) → DerivesUnder d Rank.whole s ((inside_of d).whole s)) → ((s : List ℕ) → DerivesUnder d (Rank.level 0) s ((inside_of d).term s)) → Both d
unfolding whole
with_insides d wholes terms =
    let here : (s : List ℕ) → Derives d (Rank.level 0) s (term (inside_of d) s) = term_derives d wholes terms in
    record {
      whole_derives = λ s. question_derives d wholes s _ (level_derives d here 13 s);
      term_derives = here;
    }

both : (d : ℕ) → Both d
unfolding inside_of
both zero = with_insides zero (λ s. tt) (λ s. tt)
both (suc d) = with_insides (suc d) (both d).whole_derives (both d).term_derives

pub whole_phrase : (d : ℕ) (s : List ℕ) (t : Tree) (n : ℕ) → whole (inside_of d) s ≡ Ok (t, n) → n ≤ length s → Phrase d Rank.whole s t (drop n s)
whole_phrase d s t n is = subst (Derives d Rank.whole s) is ((both d).whole_derives s)
