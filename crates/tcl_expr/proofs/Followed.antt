-- A phrase of the rules is read so, where nothing behind it goes on with it.
use Rattle.std.proofs.Common.{◌≡◌, ℕ, zero, suc, ◌+◌, ◌<◌, ◌≤◌, Bool, true, false, List, [], ◌∷◌, ◌++◌, length, drop, Option, Some, None, Ok, Err, refl, sym, ap, ◌∙◌, eqb, length-drop, length-append, arith}
use Rattle.std.proofs.lemmas.Bool.{eqb-true, eq-eqb}
use Rattle.std.proofs.lemmas.Bool.Decides.{nat_tests}
use Rattle.std.proofs.Math.Seq.{drop-append_seam}
use Rattle.tcl_words.specs.Lists.{begins_with}
use Rattle.tcl_words.specs.Operands.{operand as operand_read}
use Rattle.tcl_words.proofs.Readings.{reading_step, reading_end}
use Rattle.tcl_expr.specs.declared.faults.ExprFault.TheVariants.{Syntax}
use Rattle.tcl_expr.specs.declared.operators.Prefix.{Prefix}
use Rattle.tcl_expr.specs.declared.operators.Infix.{Infix}
use Rattle.tcl_expr.specs.White.{gap, past}
use Rattle.tcl_expr.specs.Infix.{infix_at, level_of, of_level, prefix_at}
use Rattle.tcl_expr.specs.Tree.{Tree, number, unary, choice, joined}
use Rattle.tcl_expr.specs.Leaf.{Read, begins_digit, leaf, is_lowest, digits_len, lowest}
use Rattle.tcl_expr.specs.Grammar.{Inside, behind, in_parens, prefixed, term, to_left, to_right, link, chain, chain_step, chained, level, otherwise, colon, question, whole, inside_of}
use Rattle.tcl_expr.specs.Rules.{Rank, Phrase}
use Rattle.tcl_expr.proofs.Places.{past_gap, drop_more, drop_behind, gap_within}
use Rattle.tcl_expr.proofs.Lowest.{lowest_digits, no_minus, lowest_len, lowest_reads, lowest_alone}
use Rattle.tcl_expr.proofs.Writings.{behind_behind, behind_two}

-- A reading takes the front of a text, up to r, as a tree.
pub record Took (f : List ℕ → Read) (s : List ℕ) (t : Tree) (r : List ℕ) : Type 0 where
  pub n : ℕ
  pub is : f s ≡ Ok (t, n)
  pub rest : r ≡ drop n s
  pub within : n ≤ length s

-- The front of a text, up to r, is the tree of a chain's first operands, and the chain goes on there.
record Passed (d k : ℕ) (s : List ℕ) (t : Tree) (r : List ℕ) : Type 0 where
  n : ℕ
  is : level (inside_of d) (suc (suc k)) s ≡ behind n (λ t. t) (chain to_left (level (inside_of d) (suc k)) (suc (suc k)) r t)
  rest : r ≡ drop n s
  within : n ≤ length s

-- no operator of the levels up to k stands there
abbrev Clear : ℕ → List ℕ → Type 0
Clear k [] = Unit {0}
Clear k (b ∷ m) = (op : Infix) (n : ℕ) → infix_at b m ≡ Some (op, n) → k < level_of op

-- nor does `?`
abbrev Ends : List ℕ → Type 0
Ends r = Clear 13 r × (begins_with 63 r ≡ false)

abbrev Meant : ℕ → Rank → List ℕ → Tree → List ℕ → Type 0
Meant d (Rank.level zero) s t r = Took (term (inside_of d)) s t r
Meant d (Rank.level (suc zero)) s t r = Clear 1 r → Took (level (inside_of d) 1) s t r
Meant d (Rank.level (suc (suc k))) s t r = Clear (suc k) r → Passed d k s t r
Meant d Rank.whole s t r = Ends r → Took (whole (inside_of d)) s t r

-- ---- level 0

no_leaf : (c b : ℕ) (m : List ℕ) (p : Tree × ℕ) → leaf (c ∷ m) ≡ Err Syntax → leaf (b ∷ m) ≡ Ok p → eqb b c ≡ false
no_leaf c b m p none is = by (eqb b c) refl
  where
    by : (t : Bool) → eqb b c ≡ t → t ≡ false
    by true e = let no : leaf (b ∷ m) ≡ Err Syntax = ap (λ (x : ℕ). leaf (x ∷ m)) (eqb-true b c e) ∙ none in absurd (cc)
    by false e = refl

term_leaf : (inside : Inside) (s : List ℕ) (p : Tree × ℕ) → leaf s ≡ Ok p → term inside s ≡ Ok p
unfolding term leaf operand_read
term_leaf inside [] p is = absurd (cc)
term_leaf inside (b ∷ m) p is =
    let e40 : eqb b 40 ≡ false = no_leaf 40 b m p refl is in
    let e45 : eqb b 45 ≡ false = no_leaf 45 b m p refl is in
    let e43 : eqb b 43 ≡ false = no_leaf 43 b m p refl is in
    let e126 : eqb b 126 ≡ false = no_leaf 126 b m p refl is in
    let e33 : eqb b 33 ≡ false = no_leaf 33 b m p refl is in
    let low : is_lowest b m ≡ false = no_minus b m e45 in
    rw (e40, low, e45, e43, e126, e33) is

simple_means : (d : ℕ) (s r : List ℕ) (t : Tree) → leaf (s ++ r) ≡ Ok (t, length s) → Took (term (inside_of d)) (s ++ r) t r
simple_means d s r t is = record {
  n = length s;
  is = term_leaf (inside_of d) (s ++ r) (t, length s) is;
  rest = sym (drop-append_seam s r);
  within = omega (arith, length-append s r);
}

-- the 19 digits and the minus
least_means : (d : ℕ) (r : List ℕ) → begins_digit r ≡ false → Took (term (inside_of d)) (45 ∷ (lowest_digits ++ r)) (number lowest) (past r)
unfolding term
least_means d r ends =
    let text : List ℕ = 45 ∷ (lowest_digits ++ r) in
    let is : is_lowest 45 (lowest_digits ++ r) ≡ true = lowest_reads r ends in
    let n : digits_len (lowest_digits ++ r) ≡ 19 = lowest_len r ends in
    record {
      n = gap text 20;
      is = rw (is, n) refl;
      rest = past_gap text 20;
      within = gap_within text 20 (omega (arith, length-append (45 ∷ lowest_digits) r));
    }

-- a byte that stands n bytes behind a place
record Here (c : ℕ) (text : List ℕ) (at : ℕ) (r : List ℕ) : Type 0 where
  there : begins_with c (drop at text) ≡ true
  rest : r ≡ drop (at + 1) text
  within : at + 1 ≤ length text

here : (c : ℕ) (text : List ℕ) (at : ℕ) (r : List ℕ) → c ∷ r ≡ drop at text → Here c text at r
here c text at r e = record {
  there = ap (begins_with c) (sym e) ∙ eq-eqb c c refl;
  rest = ap (drop 1) e ∙ drop_more text at 1 (at + 1) refl;
  within = omega (arith, ap length e, length-drop at text);
}

-- what is read behind a gap
behind_gap : (text s : List ℕ) (at n : ℕ) (x : List ℕ) → s ≡ drop at text → x ≡ drop n (past s) → x ≡ drop (gap text at + n) text
behind_gap text s at n x start e =
    e ∙ ap (λ (y : List ℕ). drop n (past y)) start ∙ ap (drop n) (past_gap text at) ∙ drop_more text (gap text at) n (gap text at + n) refl

at_gap : (text s : List ℕ) (at : ℕ) → s ≡ drop at text → past s ≡ drop (gap text at) text
at_gap text s at start = ap past start ∙ past_gap text at

parens_mean : (d : ℕ) (s r : List ℕ) (t : Tree) → Took (whole (inside_of d)) (past s) t (41 ∷ r) → Took (term (inside_of (suc d))) (40 ∷ s) t (past r)
unfolding term inside_of
parens_mean d s r t w =
    let text : List ℕ = 40 ∷ s in
    let g : ℕ = gap text 1 in
    let close = here 41 text (g + w.n) r (behind_gap text s 1 w.n (41 ∷ r) refl w.rest) in
    let inner : whole (inside_of d) (drop g text) ≡ Ok (t, w.n) = ap (whole (inside_of d)) (sym (at_gap text s 1 refl)) ∙ w.is in
    record {
      n = gap text (g + w.n + 1);
      is = ap (in_parens text g) inner ∙ rw close.there refl;
      rest = at_gap text r (g + w.n + 1) close.rest;
      within = gap_within text (g + w.n + 1) close.within;
    }

prefix_means : (d b : ℕ) (s r : List ℕ) (op : Prefix) (t : Tree) → prefix_at b ≡ Some op → Took (term (inside_of d)) (past s) t r → Took (term (inside_of (suc d))) (b ∷ s) (unary op t) r
unfolding term inside_of
prefix_means d b s r op t is w =
    let text : List ℕ = b ∷ s in
    let g : ℕ = gap text 1 in
    let open_not : eqb b 40 ≡ false = no_paren (eqb b 40) refl in
    let low : is_lowest b s ≡ false = lowest_alone (inside_of d) b s (t, w.n) w.is in
    let inner : term (inside_of d) (drop g text) ≡ Ok (t, w.n) = ap (term (inside_of d)) (sym (at_gap text s 1 refl)) ∙ w.is in
    let long : length (past s) ≡ length (drop g text) = ap length (at_gap text s 1 refl) in
    record {
      n = g + w.n;
      is = rw (open_not, low) (ap (prefixed (inside_of (suc d)) text) is ∙ ap (behind g (unary op)) inner);
      rest = behind_gap text s 1 w.n r refl w.rest;
      within = omega (arith, w.within, long, length-drop g text, gap_within text 1 (omega arith));
    }
  where
    no_paren : (x : Bool) → eqb b 40 ≡ x → x ≡ false
    no_paren true e = let no : prefix_at b ≡ None = ap prefix_at (eqb-true b 40 e) in absurd (cc)
    no_paren false e = refl

-- ---- levels

-- a chain ends where no operator of its level stands
module _ (grouped : (ℕ → Tree → Read) → Infix → ℕ → Tree → Read → Read) (next : List ℕ → Read) (k : ℕ) where
  chain_stops : (r : List ℕ) (t : Tree) → Clear k r → chain grouped next k r t ≡ Ok (t, 0)
  unfolding chain
  chain_stops [] t clear = ap (λ (f : Tree → Read). f t) (reading_end (λ (l : Tree). Ok (l, 0)) (chain_step grouped next k))
  chain_stops (b ∷ m) t clear = ap (λ (f : Tree → Read). f t) (reading_step (λ (l : Tree). Ok (l, 0)) (chain_step grouped next k) b m) ∙ by (infix_at b m) refl
    where
      by : (o : Option (Infix × ℕ)) → infix_at b m ≡ o → link grouped next k (λ j. chain grouped next k (drop j m)) m t (of_level k o) ≡ Ok (t, 0)
      by None is = refl
      by (Some (op, n)) is = let other : eqb (level_of op) k ≡ false = (let above : k < level_of op = clear op n is in grind (arith, nat_tests)) in rw other refl

  chain_links : (b n : ℕ) (m : List ℕ) (op : Infix) (l y : Tree) (j : ℕ) → infix_at b m ≡ Some (op, n) → level_of op ≡ k → next (drop (gap m n) m) ≡ Ok (y, j)
      → chain grouped next k (b ∷ m) l ≡ grouped (λ j. chain grouped next k (drop j m)) op (gap m n) l (Ok (y, j))
  unfolding chain
  chain_links b n m op l y j is same right =
      let t : eqb (level_of op) k ≡ true = eq-eqb (level_of op) k same in
      ap (λ (f : Tree → Read). f l) (reading_step (λ (l : Tree). Ok (l, 0)) (chain_step grouped next k) b m) ∙ rw (is, t, right) refl

clearer : (k : ℕ) (r : List ℕ) → Clear (suc k) r → Clear k r
clearer k [] c = tt
clearer k (b ∷ m) c = λ op n is. let above : suc k < level_of op = c op n is in omega arith

settled : (d k : ℕ) (s : List ℕ) (t : Tree) (r : List ℕ) → Meant d (Rank.level k) s t r → Clear k r → Took (level (inside_of d) k) s t r
unfolding level
settled d zero s t r w clear = record { n = w.n; is = w.is; rest = w.rest; within = w.within }
settled d (suc zero) s t r means clear = means clear
settled d (suc (suc k)) s t r means clear =
    let p = means (clearer (suc k) r clear) in
    let stops : chain to_left (level (inside_of d) (suc k)) (suc (suc k)) r t ≡ Ok (t, 0) = chain_stops to_left (level (inside_of d) (suc k)) (suc (suc k)) r t clear in
    let all : p.n + 0 ≡ p.n = omega arith in
    record {
      n = p.n;
      is = p.is ∙ ap (behind p.n (λ t. t)) stops ∙ ap (λ (n : ℕ). Ok (t, n)) all;
      rest = p.rest;
      within = p.within;
    }

tighter_means : (d k : ℕ) (s r : List ℕ) (t : Tree) → Took (level (inside_of d) (suc k)) s t r → Passed d k s t r
unfolding level
tighter_means d k s r t w = record {
  n = w.n;
  is = ap (chained to_left (level (inside_of d) (suc k)) (suc (suc k)) s) w.is ∙ ap (λ (x : List ℕ). behind w.n (λ t. t) (chain to_left (level (inside_of d) (suc k)) (suc (suc k)) x t)) (sym w.rest);
  rest = w.rest;
  within = w.within;
}

-- nothing is no phrase
no_text : (inside : Inside) (k : ℕ) → level inside k [] ≡ Err Syntax
unfolding level term
no_text inside zero = refl
no_text inside (suc zero) = refl
no_text inside (suc (suc k)) = ap (chained to_left (level inside (suc k)) (suc (suc k)) []) (no_text inside (suc k))

some_text : (inside : Inside) (k : ℕ) (s : List ℕ) (p : Tree × ℕ) → level inside k s ≡ Ok p → 0 < length s
some_text inside k [] p is = let no = no_text inside k in absurd (cc)
some_text inside k (b ∷ m) p is = omega arith

same_operator : (b : ℕ) (m : List ℕ) (op : Infix) (n k : ℕ) → infix_at b m ≡ Some (op, n) → level_of op ≡ suc k → Clear k (b ∷ m)
same_operator b m op n k is same op' n' is' =
    let both : ◌≡◌ {A = Option (Infix × ℕ)} (Some (op', n')) (Some (op, n)) = sym is' ∙ is in
    let pair : ◌≡◌ {A = Infix × ℕ} (op', n') (op, n) = cc in
    let level_is : level_of op' ≡ suc k = ap (λ (p : Infix × ℕ). level_of p.0) pair ∙ same in
    omega arith

infixed_means : (d k b n : ℕ) (s m r : List ℕ) (op : Infix) (x y : Tree) → Passed d k s x (b ∷ m) → infix_at b m ≡ Some (op, n) → level_of op ≡ suc (suc k) → Took (level (inside_of d) (suc k)) (past (drop n m)) y r
    → Passed d k s (joined op x y) r
infixed_means d k b n s m r op x y left is same right =
    let next : List ℕ → Read = level (inside_of d) (suc k) in
    let g : ℕ = gap m n in
    let j : ℕ = right.n in
    let start : past (drop n m) ≡ drop g m = past_gap m n in
    let reads : next (drop g m) ≡ Ok (y, j) = ap next (sym start) ∙ right.is in
    let rest : r ≡ drop (g + j) m = behind_gap m (drop n m) n j r refl right.rest in
    let some : 0 < length (drop g m) = some_text (inside_of d) (suc k) (drop g m) (y, j) reads in
    let place : 1 + g + j ≡ suc (g + j) = omega arith in
    record {
      n = left.n + (1 + g + j);
      is =
          left.is ∙ ap (behind left.n (λ t. t)) (chain_links to_left next (suc (suc k)) b n m op x y j is same reads)
          ∙ behind_behind left.n (1 + g + j) (chain to_left next (suc (suc k)) (drop (g + j) m) (joined op x y))
          ∙ ap (λ (z : List ℕ). behind (left.n + (1 + g + j)) (λ t. t) (chain to_left next (suc (suc k)) z (joined op x y))) (sym rest);
      rest = rest ∙ sym (drop_behind b m (g + j) (1 + g + j) place) ∙ ap (drop (1 + g + j)) left.rest ∙ drop_more s left.n (1 + g + j) (left.n + (1 + g + j)) refl;
      within = omega (arith, left.within, right.within, ap length start, ap length left.rest, length-drop left.n s, length-drop g m, some);
    }

-- ---- `**`

alone_means : (d : ℕ) (s r : List ℕ) (t : Tree) → Took (term (inside_of d)) s t r → Clear 1 r → Took (level (inside_of d) 1) s t r
unfolding level
alone_means d s r t w clear =
    let next : List ℕ → Read = term (inside_of d) in
    let stops : chain to_right next 1 r t ≡ Ok (t, 0) = chain_stops to_right next 1 r t clear in
    let all : w.n + 0 ≡ w.n = omega arith in
    record {
      n = w.n;
      is =
          ap (chained to_right next 1 s) w.is ∙ ap (λ (x : List ℕ). behind w.n (λ t. t) (chain to_right next 1 x t)) (sym w.rest)
          ∙ ap (behind w.n (λ t. t)) stops ∙ ap (λ (n : ℕ). Ok (t, n)) all;
      rest = w.rest;
      within = w.within;
    }

-- the first operand of a chain, and the whole chain
record First (next : List ℕ → Read) (s : List ℕ) (y : Tree) (j : ℕ) : Type 0 where
  operand : Tree
  size : ℕ
  is : next s ≡ Ok (operand, size)
  all : behind size (λ t. t) (chain to_right next 1 (drop size s) operand) ≡ Ok (y, j)

first_of : (next : List ℕ → Read) (s : List ℕ) (y : Tree) (j : ℕ) → chained to_right next 1 s (next s) ≡ Ok (y, j) → First next s y j
first_of next s y j all = by (next s) refl all
  where
    by : (x : Read) → next s ≡ x → chained to_right next 1 s x ≡ Ok (y, j) → First next s y j
    by (Err e) is all = absurd (cc)
    by (Ok p) is all = record { operand = p.0; size = p.1; is = is; all = all }

raised_means : (d b n : ℕ) (s m r : List ℕ) (op : Infix) (x y : Tree) → Took (term (inside_of d)) s x (b ∷ m) → infix_at b m ≡ Some (op, n) → level_of op ≡ 1 → Took (level (inside_of d) 1) (past (drop n m)) y r
    → Took (level (inside_of d) 1) s (joined op x y) r
unfolding level
raised_means d b n s m r op x y left is same right =
    let next : List ℕ → Read = term (inside_of d) in
    let g : ℕ = gap m n in
    let j : ℕ = right.n in
    let start : past (drop n m) ≡ drop g m = past_gap m n in
    let reads : level (inside_of d) 1 (drop g m) ≡ Ok (y, j) = ap (level (inside_of d) 1) (sym start) ∙ right.is in
    let first : First next (drop g m) y j = first_of next (drop g m) y j reads in
    let i : ℕ = first.size in
    let more : drop i (drop g m) ≡ drop (g + i) m = drop_more m g i (g + i) refl in
    let rest : r ≡ drop (g + j) m = behind_gap m (drop n m) n j r refl right.rest in
    let some : 0 < length (drop g m) = some_text (inside_of d) 1 (drop g m) (y, j) reads in
    let place : 1 + g + j ≡ suc (g + j) = omega arith in
    let chain_is : chain to_right next 1 (b ∷ m) x ≡ Ok (joined op x y, 1 + g + j) =
    chain_links to_right next 1 b n m op x first.operand i is same first.is
    ∙ ap (λ (z : List ℕ). behind (1 + g + i) (joined op x) (chain to_right next 1 z first.operand)) (sym more)
    ∙ sym (behind_two (1 + g) i (joined op x) (λ t. t) (chain to_right next 1 (drop i (drop g m)) first.operand))
    ∙ ap (behind (1 + g) (joined op x)) first.all in
    record {
      n = left.n + (1 + g + j);
      is =
          ap (chained to_right next 1 s) left.is ∙ ap (λ (z : List ℕ). behind left.n (λ t. t) (chain to_right next 1 z x)) (sym left.rest)
          ∙ ap (behind left.n (λ t. t)) chain_is;
      rest = rest ∙ sym (drop_behind b m (g + j) (1 + g + j) place) ∙ ap (drop (1 + g + j)) left.rest ∙ drop_more s left.n (1 + g + j) (left.n + (1 + g + j)) refl;
      within = omega (arith, left.within, right.within, ap length start, ap length left.rest, length-drop left.n s, length-drop g m, some);
    }

-- ---- whole expressions

closed : (c : ℕ) (m : List ℕ) → infix_at c m ≡ None → Clear 13 (c ∷ m)
closed c m none op n is = absurd (cc)

plain_means : (d : ℕ) (s r : List ℕ) (t : Tree) → Took (level (inside_of d) 13) s t r → begins_with 63 r ≡ false → Took (whole (inside_of d)) s t r
unfolding whole
plain_means d s r t w ends =
    let no : begins_with 63 (drop w.n s) ≡ false = ap (begins_with 63) (sym w.rest) ∙ ends in
    record {
      n = w.n;
      is = ap (question (inside_of d) s) w.is ∙ rw no refl;
      rest = w.rest;
      within = w.within;
    }

branches_mean : (d : ℕ) (s m p r : List ℕ) (c x y : Tree) → Took (level (inside_of (suc d)) 13) s c (63 ∷ m) → Took (whole (inside_of d)) (past m) x (58 ∷ p) → Took (whole (inside_of d)) (past p) y r
    → Took (whole (inside_of (suc d))) s (choice c x y) r
unfolding whole inside_of
branches_mean d s m p r c x y condition first second =
    let inside : Inside = inside_of (suc d) in
    let mark = here 63 s condition.n m condition.rest in
    let g : ℕ = gap s (condition.n + 1) in
    let stop = here 58 s (g + first.n) p (behind_gap s m (condition.n + 1) first.n (58 ∷ p) mark.rest first.rest) in
    let k : ℕ = gap s (g + first.n + 1) in
    let start : past p ≡ drop k s = at_gap s p (g + first.n + 1) stop.rest in
    let one : whole (inside_of d) (drop g s) ≡ Ok (x, first.n) = ap (whole (inside_of d)) (sym (at_gap s m (condition.n + 1) mark.rest)) ∙ first.is in
    let two : whole (inside_of d) (drop k s) ≡ Ok (y, second.n) = ap (whole (inside_of d)) (sym start) ∙ second.is in
    let left : question inside s (Ok (c, condition.n)) ≡ colon inside s c g (whole (inside_of d) (drop g s)) = rw mark.there refl in
    let right : colon inside s c g (Ok (x, first.n)) ≡ otherwise c x k (whole (inside_of d) (drop k s)) = rw stop.there refl in
    record {
      n = k + second.n;
      is = ap (question inside s) condition.is ∙ left ∙ ap (colon inside s c g) one ∙ right ∙ ap (otherwise c x k) two;
      rest = behind_gap s p (g + first.n + 1) second.n r stop.rest second.rest;
      within = omega (arith, second.within, ap length start, length-drop k s, gap_within s (g + first.n + 1) stop.within);
    }

meant : (d : ℕ) (rank : Rank) (s : List ℕ) (t : Tree) (r : List ℕ) → Phrase d rank s t r → Meant d rank s t r
unfolding infix_at
meant d rank s t r (Phrase.simple d' s' r' t' is) = simple_means d s' r t is
meant d rank s t r (Phrase.least d' r' ends) = least_means d r' ends
meant d rank s t r (Phrase.parens d' s' r' t' p) = parens_mean d' s' r' t (meant d' Rank.whole (past s') t (41 ∷ r') p (closed 41 r' refl, refl))
meant d rank s t r (Phrase.prefix d' b s' r' op t' is p) = prefix_means d' b s' r op t' is (meant d' (Rank.level 0) (past s') t' r p)
meant d rank s t r (Phrase.tighter d' zero s' r' t' p) = λ clear. alone_means d s r t (meant d (Rank.level 0) s t r p) clear
meant d rank s t r (Phrase.tighter d' (suc k) s' r' t' p) = λ clear. tighter_means d k s r t (settled d (suc k) s t r (meant d (Rank.level (suc k)) s t r p) clear)
meant d rank s t r (Phrase.raised d' b n s' m r' op x y p is same q) = λ clear.
    raised_means d b n s m r op x y (meant d (Rank.level 0) s x (b ∷ m) p) is same (meant d (Rank.level 1) (past (drop n m)) y r q clear)
meant d rank s t r (Phrase.infixed d' k b n s' m r' op x y p is same q) = λ clear.
    infixed_means d k b n s m r op x y (meant d (Rank.level (suc (suc k))) s x (b ∷ m) p (same_operator b m op n (suc k) is same)) is same
    (settled d (suc k) (past (drop n m)) y r (meant d (Rank.level (suc k)) (past (drop n m)) y r q) clear)
meant d rank s t r (Phrase.plain d' s' r' t' p) = λ ends. plain_means d s r t (settled d 13 s t r (meant d (Rank.level 13) s t r p) ends.0) ends.1
meant d rank s t r (Phrase.branches d' s' m p r' c x y condition first second) = λ ends.
    branches_mean d' s m p r c x y (settled (suc d') 13 s c (63 ∷ m) (meant (suc d') (Rank.level 13) s c (63 ∷ m) condition) (closed 63 m refl))
    (meant d' Rank.whole (past m) x (58 ∷ p) first (closed 58 p refl, refl)) (meant d' Rank.whole (past p) y r second ends)

pub whole_reads : (d : ℕ) (s : List ℕ) (t : Tree) → Phrase d Rank.whole s t [] → Took (whole (inside_of d)) s t []
whole_reads d s t p = meant d Rank.whole s t [] p (tt, refl)
