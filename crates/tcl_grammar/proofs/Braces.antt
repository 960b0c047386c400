-- Text in braces: where it ends and what it is.
use Rattle.std.proofs.Common.{◌≡◌, ◌≢◌, ℕ, zero, suc, ◌+◌, ◌-◌, ◌≤◌, Bool, true, false, List, [], ◌∷◌, length, take, drop, Option, Some, None, refl, sym, ap, ◌∙◌, subst, eqb, cond, arith}
use Rattle.std.proofs.lemmas.Bool.{eqb-true, cond_both}
use Rattle.tcl_words.specs.Lists.{closing, closing_step, plus}
use Rattle.tcl_words.specs.Backslash.{blanks}
use Rattle.tcl_words.specs.Commands.{joined, joined_step}
use Rattle.tcl_words.proofs.Readings.{reading_step, reading_end}
use Rattle.tcl_words.proofs.ListGraph.{course_induction}
use Rattle.tcl_words.proofs.Closings.{plus-plus, plus-zero}
use Rattle.tcl_grammar.specs.CommandRules.{Braced, Span, is_indent}
use Rattle.tcl_grammar.proofs.Spans.{drop_cons, take_cons, other_byte, test_other, both_rest, both_within, blanks_of}

-- ---- The two functions, byte by byte

pub closing_next : (b : ℕ) (s : List ℕ) (n : ℕ) → closing (b ∷ s) n ≡ closing_step (λ k. closing (drop k s)) b s n
unfolding closing
closing_next b s n = ap (λ (f : ℕ → Option ℕ). f n) (reading_step (λ n. None) closing_step b s)

pub closing_nothing : (n : ℕ) → closing [] n ≡ None
unfolding closing
closing_nothing n = ap (λ (f : ℕ → Option ℕ). f n) (reading_end (λ n. None) closing_step)

joined_next : (b : ℕ) (s : List ℕ) → joined (b ∷ s) ≡ joined_step (λ k. joined (drop k s)) b s
unfolding joined
joined_next b s = reading_step [] joined_step b s

joined_nothing : joined [] ≡ []
unfolding joined
joined_nothing = reading_end [] joined_step

joined_line : (s : List ℕ) → joined (92 ∷ 10 ∷ s) ≡ 32 ∷ joined (drop (1 + blanks s) (10 ∷ s))
joined_line s = joined_next 92 (10 ∷ s)

joined_pair : (b : ℕ) (s : List ℕ) → eqb b 10 ≡ false → joined (92 ∷ b ∷ s) ≡ 92 ∷ b ∷ joined s
joined_pair b s e = joined_next 92 (b ∷ s) ∙ rw e refl

joined_plain : (b : ℕ) (s : List ℕ) → eqb b 92 ≡ false → joined (b ∷ s) ≡ b ∷ joined s
joined_plain b s e = joined_next b s ∙ rw e refl

pub closing_plain : (b : ℕ) (s : List ℕ) (n : ℕ) → eqb b 125 ≡ false → eqb b 123 ≡ false → eqb b 92 ≡ false → closing (b ∷ s) n ≡ plus 1 (closing s n)
closing_plain b s n e f g = closing_next b s n ∙ rw (e, f, g) refl

-- ---- What the rules derive

-- A text in braces was read: k bytes stand before the closing brace.
pub record Closed (n : ℕ) (s t r : List ℕ) : Type 0 where
  pub k : ℕ
  pub is : closing s n ≡ Some k
  pub text : joined (take k s) ≡ t
  pub rest : r ≡ drop (1 + k) s
  pub within : 1 + k ≤ length s

take_two : (a b k : ℕ) (s : List ℕ) → take (2 + k) (a ∷ b ∷ s) ≡ a ∷ b ∷ take k s
take_two a b k s = let m : 2 + k ≡ suc (suc k) = omega arith in ap (λ (i : ℕ). take i (a ∷ b ∷ s)) m

drop_two : (a b k : ℕ) (s : List ℕ) → drop (2 + k) (a ∷ b ∷ s) ≡ drop k s
drop_two a b k s = let m : 2 + k ≡ suc (suc k) = omega arith in ap (λ (i : ℕ). drop i (a ∷ b ∷ s)) m

-- blanks and tabs hide no brace
indent_no_brace : (b : ℕ) → is_indent b ≡ true → (eqb b 125 ≡ false) × (eqb b 123 ≡ false) × (eqb b 92 ≡ false) × (eqb b 10 ≡ false)
indent_no_brace b h = by (eqb b 32) refl
  where
    at : (c : ℕ) → b ≡ c → (eqb c 125 ≡ false) × (eqb c 123 ≡ false) × (eqb c 92 ≡ false) × (eqb c 10 ≡ false) → (eqb b 125 ≡ false) × (eqb b 123 ≡ false) × (eqb b 92 ≡ false) × (eqb b 10 ≡ false)
    at c e h = subst (λ (x : ℕ). (eqb x 125 ≡ false) × (eqb x 123 ≡ false) × (eqb x 92 ≡ false) × (eqb x 10 ≡ false)) (sym e) h

    by : (t : Bool) → eqb b 32 ≡ t → (eqb b 125 ≡ false) × (eqb b 123 ≡ false) × (eqb b 92 ≡ false) × (eqb b 10 ≡ false)
    by true e = at 32 (eqb-true b 32 e) (refl, refl, refl, refl)
    by false e = let tab : eqb b 9 ≡ true = sym (rw e refl) ∙ h in at 9 (eqb-true b 9 tab) (refl, refl, refl, refl)

-- Behind blanks and tabs the closing brace is where it is, and they are all of the blanks there.
record Indented (s m : List ℕ) (n k : ℕ) : Type 0 where
  j : ℕ
  counts : blanks s ≡ j
  closes : closing s n ≡ plus j (closing m n)
  front : blanks (take (j + k) s) ≡ j
  rest : m ≡ drop j s
  cut : drop j (take (j + k) s) ≡ take k m
  within : j ≤ length s

take_nothing : (n : ℕ) → take {A = ℕ} n [] ≡ []
take_nothing zero = refl
take_nothing (suc n) = refl

blanks_stop : (b k : ℕ) (s : List ℕ) → is_indent b ≡ false → blanks (take k (b ∷ s)) ≡ 0
unfolding blanks
blanks_stop b zero s e = refl
blanks_stop b (suc k) s e = rw e refl

blanks_nothing : blanks [] ≡ 0
unfolding blanks
blanks_nothing = refl

blanks_next : (b : ℕ) (s : List ℕ) → is_indent b ≡ true → blanks (b ∷ s) ≡ 1 + blanks s
unfolding blanks
blanks_next b s e = rw e refl

blanks_here : (b : ℕ) (s : List ℕ) → is_indent b ≡ false → blanks (b ∷ s) ≡ 0
unfolding blanks
blanks_here b s e = rw e refl

indented : (n k : ℕ) (s t m : List ℕ) → Span is_indent s t m → Indented s m n k
indented n k s t m Span.over =
    let z : 0 + k ≡ k = omega arith in
    record {
      j = 0;
      counts = blanks_nothing;
      closes = sym (plus-zero (closing [] n));
      front = ap blanks (take_nothing (0 + k)) ∙ blanks_nothing;
      rest = refl;
      cut = ap (λ (i : ℕ). take {A = ℕ} i []) z;
      within = omega arith;
    }
indented n k s t m (Span.stop b s' e) =
    let z : 0 + k ≡ k = omega arith in
    record {
      j = 0;
      counts = blanks_here b s' e;
      closes = sym (plus-zero (closing (b ∷ s') n));
      front = blanks_stop b (0 + k) s' e;
      rest = refl;
      cut = ap (λ (i : ℕ). take i (b ∷ s')) z;
      within = omega arith;
    }
indented n k s t m (Span.more b s' t' r' e h) =
    let ih = indented n k s' t' m h in
    let dark = indent_no_brace b e in
    let z : 1 + ih.j + k ≡ 1 + (ih.j + k) = omega arith in
    let front_is : take (1 + ih.j + k) (b ∷ s') ≡ b ∷ take (ih.j + k) s' = ap (λ (i : ℕ). take i (b ∷ s')) z ∙ take_cons b (ih.j + k) s' in
    record {
      j = 1 + ih.j;
      counts = blanks_next b s' e ∙ ap (λ (i : ℕ). 1 + i) ih.counts;
      closes = closing_plain b s' n dark.0 dark.1 dark.2 ∙ ap (plus 1) ih.closes ∙ plus-plus 1 ih.j (closing m n);
      front = ap blanks front_is ∙ blanks_next b (take (ih.j + k) s') e ∙ ap (λ (i : ℕ). 1 + i) ih.front;
      rest = ih.rest ∙ sym (drop_cons b ih.j s');
      cut = ap (drop (1 + ih.j)) front_is ∙ drop_cons b ih.j (take (ih.j + k) s') ∙ ih.cut;
      within = omega (arith, ih.within);
    }

-- one byte more, which stands for itself
more_closed : (n i b : ℕ) (s t r : List ℕ) → eqb b 92 ≡ false → closing (b ∷ s) n ≡ plus 1 (closing s i) → Closed i s t r → Closed n (b ∷ s) (b ∷ t) r
more_closed n i b s t r slash step c = record {
  k = 1 + c.k;
  is = step ∙ ap (plus 1) c.is;
  text = ap joined (take_cons b c.k s) ∙ joined_plain b (take c.k s) slash ∙ ap (λ x. b ∷ x) c.text;
  rest = c.rest ∙ sym (drop_cons b (1 + c.k) s);
  within = omega (arith, c.within);
}

closing_inner : (n : ℕ) (s : List ℕ) → closing (125 ∷ s) (suc n) ≡ plus 1 (closing s n)
closing_inner n s =
    let some : eqb (suc n) 0 ≡ false = test_other (suc n) 0 (λ e. absurd (omega arith)) in
    let down : suc n - 1 ≡ n = omega arith in
    closing_next 125 s (suc n) ∙ rw some (ap (λ (i : ℕ). plus 1 (closing s i)) down)

closing_opens : (n : ℕ) (s : List ℕ) → closing (123 ∷ s) n ≡ plus 1 (closing s (suc n))
closing_opens n s = let up : n + 1 ≡ suc n = omega arith in closing_next 123 s n ∙ ap (λ (i : ℕ). plus 1 (closing s i)) up

line_closed : (n : ℕ) (s u m t r : List ℕ) → Span is_indent s u m → Closed n m t r → Closed n (92 ∷ 10 ∷ s) (32 ∷ t) r
line_closed n s u m t r span c =
    let i = indented n c.k s u m span in
    let inner : List ℕ = take (i.j + c.k) s in
    let behind_line : drop (1 + blanks inner) (10 ∷ inner) ≡ take c.k m = drop_cons 10 (blanks inner) inner ∙ ap (λ (x : ℕ). drop x inner) i.front ∙ i.cut in
    let place : 1 + (2 + (i.j + c.k)) ≡ 2 + (i.j + (1 + c.k)) = omega arith in
    record {
      k = 2 + (i.j + c.k);
      is = closing_next 92 (10 ∷ s) n ∙ ap (plus 2) (i.closes ∙ ap (plus i.j) c.is);
      text = ap joined (take_two 92 10 (i.j + c.k) s) ∙ joined_line inner ∙ ap (λ x. 32 ∷ joined x) behind_line ∙ ap (λ x. 32 ∷ x) c.text;
      rest = both_rest s m r i.j (1 + c.k) i.rest c.rest ∙ sym (drop_two 92 10 (i.j + (1 + c.k)) s) ∙ ap (λ (x : ℕ). drop x (92 ∷ 10 ∷ s)) (sym place);
      within = omega (arith, both_within s m i.j (1 + c.k) i.rest i.within c.within);
    }

pair_closed : (n b : ℕ) (s t r : List ℕ) → b ≢ 10 → Closed n s t r → Closed n (92 ∷ b ∷ s) (92 ∷ b ∷ t) r
pair_closed n b s t r no_line c =
    let place : 1 + (2 + c.k) ≡ 2 + (1 + c.k) = omega arith in
    record {
      k = 2 + c.k;
      is = closing_next 92 (b ∷ s) n ∙ ap (plus 2) c.is;
      text = ap joined (take_two 92 b c.k s) ∙ joined_pair b (take c.k s) (test_other b 10 no_line) ∙ ap (λ x. 92 ∷ b ∷ x) c.text;
      rest = c.rest ∙ sym (drop_two 92 b (1 + c.k) s) ∙ ap (λ (x : ℕ). drop x (92 ∷ b ∷ s)) (sym place);
      within = omega (arith, c.within);
    }

pub braced_closed : (n : ℕ) (s t r : List ℕ) → Braced n s t r → Closed n s t r
braced_closed n s t r (Braced.last s') = record { k = 0; is = closing_next 125 s' 0; text = joined_nothing; rest = refl; within = omega arith }
braced_closed n s t r (Braced.closes n' s' t' r' h) = more_closed n n' 125 s' t' r refl (closing_inner n' s') (braced_closed n' s' t' r h)
braced_closed n s t r (Braced.opens n' s' t' r' h) = more_closed n (suc n) 123 s' t' r refl (closing_opens n s') (braced_closed (suc n) s' t' r h)
braced_closed n s t r (Braced.line n' s' u m t' r' span h) = line_closed n s' u m t' r span (braced_closed n m t' r h)
braced_closed n s t r (Braced.pair n' b s' t' r' no_line h) = pair_closed n b s' t' r no_line (braced_closed n s' t' r h)
braced_closed n s t r (Braced.plain n' b s' t' r' no_close no_open no_slash h) =
    let slash = test_other b 92 no_slash in
    more_closed n n b s' t' r slash (closing_plain b s' n (test_other b 125 no_close) (test_other b 123 no_open) slash) (braced_closed n s' t' r h)

-- ---- What is read is derived

-- some text is derived there
pub record IsBraced (n : ℕ) (s : List ℕ) : Type 0 where
  pub text : List ℕ
  pub rest : List ℕ
  pub derived : Braced n s text rest

abbrev Finds : List ℕ → (ℕ → Option ℕ) → Type 0
Finds s f = (n k : ℕ) → f n ≡ Some k → IsBraced n s

-- a place further on, and where it is counted from
plus_found : (j k : ℕ) (o : Option ℕ) → plus j o ≡ Some k → (i : ℕ) × (o ≡ Some i)
plus_found j k None is = absurd (cc)
plus_found j k (Some i) is = (i, refl)

found_closes : (n k : ℕ) (s : List ℕ) → Finds s (closing s) → eqb n 0 ≡ false → plus 1 (closing s (n - 1)) ≡ Some k → IsBraced n (125 ∷ s)
found_closes zero k s ih some is = absurd (cc)
found_closes (suc n) k s ih some is =
    let down : suc n - 1 ≡ n = omega arith in
    let f = plus_found 1 k (closing s (suc n - 1)) is in
    let b = ih n f.0 (ap (closing s) (sym down) ∙ f.1) in
    record { text = 125 ∷ b.text; rest = b.rest; derived = Braced.closes n s b.text b.rest b.derived }

found_opens : (n k : ℕ) (s : List ℕ) → Finds s (closing s) → plus 1 (closing s (n + 1)) ≡ Some k → IsBraced n (123 ∷ s)
found_opens n k s ih is =
    let up : n + 1 ≡ suc n = omega arith in
    let f = plus_found 1 k (closing s (n + 1)) is in
    let b = ih (suc n) f.0 (ap (closing s) (sym up) ∙ f.1) in
    record { text = 123 ∷ b.text; rest = b.rest; derived = Braced.opens n s b.text b.rest b.derived }

found_slash : (n k : ℕ) (s : List ℕ) → ((j : ℕ) → Finds (drop j s) (closing (drop j s))) → plus 2 (closing (drop 1 s) n) ≡ Some k → IsBraced n (92 ∷ s)
found_slash n k [] ih is = let f = plus_found 2 k (closing [] n) is in let none = closing_nothing n in absurd (cc)
found_slash n k (c ∷ s) ih is = by (eqb c 10) refl
  where
    by : (t : Bool) → eqb c 10 ≡ t → IsBraced n (92 ∷ c ∷ s)
    by true t =
        let f = plus_found 2 k (closing s n) is in
        let span = blanks_of s in
        let m : List ℕ = drop (blanks s) s in
        let i = indented n 0 s (take (blanks s) s) m span in
        let g = plus_found i.j f.0 (closing m n) (sym i.closes ∙ f.1) in
        let later : Finds m (closing m) = subst (λ x. Finds x (closing x)) (drop_cons c (blanks s) s) (ih (1 + blanks s)) in
        let b = later n g.0 g.1 in
        subst (λ (x : ℕ). IsBraced n (92 ∷ x ∷ s)) (sym (eqb-true c 10 t))
        (record { text = 32 ∷ b.text; rest = b.rest; derived = Braced.line n s (take (blanks s) s) m b.text b.rest span b.derived })
    by false t =
        let f = plus_found 2 k (closing s n) is in
        let b = ih 1 n f.0 f.1 in
        record { text = 92 ∷ c ∷ b.text; rest = b.rest; derived = Braced.pair n c s b.text b.rest (other_byte c 10 t) b.derived }

found_plain : (n k b : ℕ) (s : List ℕ) → Finds s (closing s) → eqb b 125 ≡ false → eqb b 123 ≡ false → eqb b 92 ≡ false → plus 1 (closing s n) ≡ Some k → IsBraced n (b ∷ s)
found_plain n k b s ih close opens slash is =
    let f = plus_found 1 k (closing s n) is in
    let i = ih n f.0 f.1 in
    record { text = b ∷ i.text; rest = i.rest; derived = Braced.plain n b s i.text i.rest (other_byte b 125 close) (other_byte b 123 opens) (other_byte b 92 slash) i.derived }

found_turn : (b : ℕ) (s : List ℕ) → ((j : ℕ) → Finds (drop j s) (closing (drop j s))) → Finds (b ∷ s) (closing_step (λ j. closing (drop j s)) b s)
found_turn b s ih n k =
    cond_both (eqb b 125) _ _ (λ (o : Option ℕ). o ≡ Some k → IsBraced n (b ∷ s))
    (λ t. subst (λ (x : ℕ). cond (eqb n 0) (Some 0) (plus 1 (closing s (n - 1))) ≡ Some k → IsBraced n (x ∷ s)) (sym (eqb-true b 125 t))
    (cond_both (eqb n 0) _ _ (λ (o : Option ℕ). o ≡ Some k → IsBraced n (125 ∷ s))
    (λ z _. subst (λ (x : ℕ). IsBraced x (125 ∷ s)) (sym (eqb-true n 0 z)) (record { text = []; rest = s; derived = Braced.last s }))
    (λ some is. found_closes n k s (ih 0) some is)))
    (λ close. cond_both (eqb b 123) _ _ (λ (o : Option ℕ). o ≡ Some k → IsBraced n (b ∷ s))
    (λ t is. subst (λ (x : ℕ). IsBraced n (x ∷ s)) (sym (eqb-true b 123 t)) (found_opens n k s (ih 0) is))
    (λ opens. cond_both (eqb b 92) _ _ (λ (o : Option ℕ). o ≡ Some k → IsBraced n (b ∷ s))
    (λ t is. subst (λ (x : ℕ). IsBraced n (x ∷ s)) (sym (eqb-true b 92 t)) (found_slash n k s ih is))
    (λ slash is. found_plain n k b s (ih 0) close opens slash is)))

pub braced_found : (s : List ℕ) (n k : ℕ) → closing s n ≡ Some k → IsBraced n s
unfolding closing
braced_found s = course_induction (λ n. None) closing_step Finds (λ n k is. absurd (cc)) found_turn s 0
