-- Runs of parts and scripts in brackets, passed over as a loop does.
use Rattle.std.proofs.Common.{◌≡◌, ℕ, ◌+◌, ◌-◌, ◌<◌, ◌≤◌, Bool, true, false, cond, eqb, ◌||◌, ◌&&◌, List, ◌∷◌, length, take, drop, get_or, Option, Some, None, Result, Ok, Err, refl, sym, ap, ◌∙◌, arith}
use Rattle.tcl_words.specs.declared.faults.WordFault.{WordFault}
use Rattle.tcl_words.specs.declared.faults.WordFault.TheVariants.{MissingBracket, ExtraAfterQuote, ExtraAfterBrace}
use Rattle.tcl_words.specs.declared.stop.Stop.{Stop}
use Rattle.tcl_words.specs.declared.stop.Stop.TheVariants.{Gap, NestedGap, Quote}
use Rattle.tcl_words.specs.Lists.{closing}
use Rattle.tcl_words.specs.Pieces.{literal, Pieces, no_pieces, piece}
use Rattle.tcl_words.specs.Backslash.{blanks}
use Rattle.tcl_words.specs.Commands.{Read, behind, Inside, Token, token_at, join, parts, part_step, put_token, stops, stop_len, at_end, may_end, is_gap, is_blank, ends_command, is_continued, gap_at, comment_len, count_of, more_bytes, script_at, script_step, nested_script, closed, in_quotes, in_braces, joined, plain_word, is_expansion, spelled, word}
use Rattle.tcl_words.proofs.Readings.{byte_at, reading_here, reading_over, reading_step}
use Rattle.tcl_words.proofs.Elements.{of_choice}

pub more-more : (a b : ℕ) (r : Result ℕ WordFault) → more_bytes a (more_bytes b r) ≡ more_bytes (a + b) r
more-more a b (Ok k) = let m : a + (b + k) ≡ a + b + k = omega arith in ap Ok m
more-more a b (Err e) = refl

pub more-none : (r : Result ℕ WordFault) → more_bytes 0 r ≡ r
more-none (Ok k) = let m : 0 + k ≡ k = omega arith in ap Ok m
more-none (Err e) = refl

pub count-behind : {A B : Type 0} (n : ℕ) (f : A → B) (r : Read A) → count_of (behind n f r) ≡ more_bytes n (count_of r)
count-behind n f (Ok p) = refl
count-behind n f (Err e) = refl

abbrev counted : ℕ → Result ℕ WordFault
counted n = Ok n

same_ok : (m n : ℕ) → counted m ≡ Ok n → m ≡ n
same_ok m n is = cc

join_count : (on : ℕ → Read Pieces) (r : Read Token) (n : ℕ) → count_of r ≡ Ok n → count_of (join on r) ≡ more_bytes (1 + n) (count_of (on n))
join_count on (Ok p) n is = count-behind (1 + p.1) (put_token p.0) (on p.1) ∙ ap (λ (k : ℕ). more_bytes (1 + k) (count_of (on k))) (same_ok p.1 n is)
join_count on (Err e) n is = absurd (cc)

join_fails : (on : ℕ → Read Pieces) (r : Read Token) (e : WordFault) → count_of r ≡ Err e → count_of (join on r) ≡ Err e
join_fails on (Ok p) e is = absurd (cc)
join_fails on (Err d) e is = is

module _ (inside : Inside) (stop : Stop) (s : List ℕ) where
  pub parts_here : (i : ℕ) → i < length s → parts inside stop (drop i s)
      ≡ cond (stops stop (get_or s i 0) (drop (i + 1) s)) (Ok (no_pieces, stop_len stop)) (join (λ k. parts inside stop (drop (i + 1 + k) s)) (token_at inside (get_or s i 0) (drop (i + 1) s)))
  unfolding parts
  parts_here i h = reading_here (at_end stop) (part_step inside stop) s i h

  pub parts_over : (i : ℕ) → length s ≤ i → parts inside stop (drop i s) ≡ at_end stop
  unfolding parts
  parts_over i h = reading_over (at_end stop) (part_step inside stop) s i h

  pub skip_last : (i : ℕ) (total : Result ℕ WordFault) → i < length s → stops stop (get_or s i 0) (drop (i + 1) s) ≡ true
      → more_bytes i (count_of (parts inside stop (drop i s))) ≡ total → Ok (i + stop_len stop) ≡ total
  skip_last i total h t so_far =
      let here : parts inside stop (drop i s) ≡ Ok (no_pieces, stop_len stop) = parts_here i h ∙ rw t refl in
      sym (ap (λ r. more_bytes i (count_of r)) here) ∙ so_far

  pub skip_turn : (i n : ℕ) (total : Result ℕ WordFault) → i < length s → stops stop (get_or s i 0) (drop (i + 1) s) ≡ false → count_of (token_at inside (get_or s i 0) (drop (i + 1) s)) ≡ Ok n
      → more_bytes i (count_of (parts inside stop (drop i s))) ≡ total → more_bytes (i + (1 + n)) (count_of (parts inside stop (drop (i + (1 + n)) s))) ≡ total
  skip_turn i n total h t is so_far =
      let here : count_of (parts inside stop (drop i s)) ≡ more_bytes (1 + n) (count_of (parts inside stop (drop (i + 1 + n) s))) =
      ap count_of (parts_here i h ∙ rw t refl) ∙ join_count (λ k. parts inside stop (drop (i + 1 + k) s)) _ n is in
      let m : i + 1 + n ≡ i + (1 + n) = omega arith in
      sym (ap (more_bytes i) here ∙ more-more i (1 + n) _ ∙ ap (λ (k : ℕ). more_bytes (i + (1 + n)) (count_of (parts inside stop (drop k s)))) m) ∙ so_far

  pub skip_fails : (i : ℕ) (e : WordFault) (total : Result ℕ WordFault) → i < length s → stops stop (get_or s i 0) (drop (i + 1) s) ≡ false → count_of (token_at inside (get_or s i 0) (drop (i + 1) s)) ≡ Err e
      → more_bytes i (count_of (parts inside stop (drop i s))) ≡ total → Err e ≡ total
  skip_fails i e total h t is so_far =
      let here : count_of (parts inside stop (drop i s)) ≡ Err e =
      ap count_of (parts_here i h ∙ rw t refl) ∙ join_fails (λ k. parts inside stop (drop (i + 1 + k) s)) _ e is in
      sym (ap (more_bytes i) here) ∙ so_far

  pub skip_over : (i : ℕ) (total : Result ℕ WordFault) → length s ≤ i → more_bytes i (count_of (parts inside stop (drop i s))) ≡ total → total ≡ more_bytes i (count_of (at_end stop))
  skip_over i total h so_far = sym so_far ∙ ap (λ r. more_bytes i (count_of r)) (parts_over i h)

-- a word takes a byte at least

abbrev pub Takes : {A : Type 0} → Read A → Type 0
Takes r = (n : ℕ) → count_of r ≡ Ok n → 0 < n

gap_none : (b : ℕ) (s : List ℕ) (first : Bool) → gap_at b s first ≡ None → is_gap b s ≡ false
gap_none b s first = go (ends_command b) (is_blank b) (is_continued b s) (eqb b 35 && first)
  where
    go : (t1 t2 t3 t4 : Bool) → cond {A = Option (ℕ × Bool)} t1 (Some (0, true)) (cond {A = Option (ℕ × Bool)} t2 (Some (0, first)) (cond {A = Option (ℕ × Bool)} t3 (Some (1 + blanks (drop 1 s), first)) (cond {A = Option (ℕ × Bool)} t4 (Some (comment_len s, true)) None))) ≡ None → t2 || t1 || t3 ≡ false
    go true t2 t3 t4 is = absurd (cc)
    go false true t3 t4 is = absurd (cc)
    go false false true t4 is = absurd (cc)
    go false false false t4 is = refl

more-takes : (k n : ℕ) (r : Result ℕ WordFault) → 0 < k → more_bytes k r ≡ Ok n → 0 < n
more-takes k n (Ok m) h is = let e : k + m ≡ n = same_ok (k + m) n is in omega arith
more-takes k n (Err e) h is = absurd (cc)

behind-takes : {A B : Type 0} (k : ℕ) (f : A → B) (r : Read A) → 0 < k → Takes (behind k f r)
behind-takes k f r h n is = more-takes k n (count_of r) h (sym (count-behind k f r) ∙ is)

join-takes : (on : ℕ → Read Pieces) (r : Read Token) → Takes (join on r)
join-takes on (Ok p) = behind-takes (1 + p.1) (put_token p.0) (on p.1) (omega arith)
join-takes on (Err e) = λ n is. absurd (cc)

closed-takes : (stop : Stop) (s : List ℕ) (fault : WordFault) (ps : Pieces) (k : ℕ) → Takes (closed stop s fault ps k)
closed-takes stop s fault ps k = of_choice Takes (may_end stop (drop k s)) (Ok (ps, 1 + k)) (Err fault) (λ n is. let e : 1 + k ≡ n = same_ok (1 + k) n is in omega arith) (λ n is. absurd (cc))

quotes-take : (stop : Stop) (s : List ℕ) (r : Read Pieces) → Takes (in_quotes stop s r)
quotes-take stop s (Ok p) = closed-takes stop s ExtraAfterQuote p.0 p.1
quotes-take stop s (Err e) = λ n is. absurd (cc)

braces-take : (stop : Stop) (s : List ℕ) (r : Option ℕ) → Takes (in_braces stop s r)
braces-take stop s None = λ n is. absurd (cc)
braces-take stop s (Some k) = closed-takes stop s ExtraAfterBrace (piece (literal (joined (take k s))) no_pieces) (1 + k)

parts-take : (inside : Inside) (stop : Stop) (b : ℕ) (s : List ℕ) → stops stop b s ≡ false → Takes (parts inside stop (b ∷ s))
unfolding parts
parts-take inside stop b s dark n is =
    let here : parts inside stop (b ∷ s) ≡ join (λ k. parts inside stop (drop k s)) (token_at inside b s) = reading_step (at_end stop) (part_step inside stop) b s ∙ rw dark refl in
    join-takes (λ k. parts inside stop (drop k s)) (token_at inside b s) n (ap count_of (sym here) ∙ is)

spelled-takes : (expand : Bool) (r : Read Pieces) → Takes r → Takes (spelled expand r)
spelled-takes expand (Ok p) h = h
spelled-takes expand (Err e) h = λ n is. absurd (cc)

plain-takes : (inside : Inside) (stop : Stop) (b : ℕ) (s : List ℕ) → stops stop b s ≡ false → Takes (plain_word inside stop (b ∷ s))
unfolding plain_word
plain-takes inside stop b s dark =
    of_choice Takes (eqb b 34) _ _ (quotes-take stop s (parts inside Quote s))
    (of_choice Takes (eqb b 123) _ _ (braces-take stop s (closing s 0)) (parts-take inside stop b s dark))

pub word-takes : (inside : Inside) (stop : Stop) (b : ℕ) (s : List ℕ) → stops stop b s ≡ false → Takes (word inside stop (b ∷ s))
unfolding word
word-takes inside stop b s dark =
    of_choice Takes (is_expansion stop (b ∷ s)) _ _ (spelled-takes true _ (behind-takes 3 (λ ps. ps) (plain_word inside stop (drop 3 (b ∷ s))) (omega arith)))
    (spelled-takes false _ (plain-takes inside stop b s dark))

pub word-takes-at : (inside : Inside) (stop : Stop) (s : List ℕ) (i n : ℕ) → i < length s → stops stop (get_or s i 0) (drop (i + 1) s) ≡ false → count_of (word inside stop (drop i s)) ≡ Ok n → 0 < n
word-takes-at inside stop s i n h dark is = word-takes inside stop (get_or s i 0) (drop (i + 1) s) dark n (ap (λ t. count_of (word inside stop t)) (sym (byte_at s i h)) ∙ is)

-- scripts in brackets

nested-dark : (b : ℕ) (s : List ℕ) (first : Bool) → eqb b 93 ≡ false → gap_at b s first ≡ None → stops NestedGap b s ≡ false
nested-dark b s first other none = rw (gap_none b s first none, other) refl

pub gap-dark : (b : ℕ) (s : List ℕ) (first : Bool) → gap_at b s first ≡ None → stops Gap b s ≡ false
gap-dark = gap_none

module _ (inside : Inside) (s : List ℕ) where
  script_here : (i : ℕ) (first : Bool) → i < length s → nested_script inside (drop i s) first
      ≡ cond (eqb (get_or s i 0) 93) (Ok 1) (script_at inside (λ k f. nested_script inside (drop (i + 1 + k) s) f) (drop i s) (gap_at (get_or s i 0) (drop (i + 1) s) first))
  unfolding nested_script
  script_here i first h =
      ap (λ (f : Bool → Result ℕ WordFault). f first) (reading_here (λ first. Err MissingBracket) (script_step inside) s i h)
      ∙ ap (λ t. cond (eqb (get_or s i 0) 93) (Ok 1) (script_at inside (λ k f. nested_script inside (drop (i + 1 + k) s) f) t (gap_at (get_or s i 0) (drop (i + 1) s) first))) (sym (byte_at s i h))

  pub script_over : (i : ℕ) (first : Bool) → length s ≤ i → nested_script inside (drop i s) first ≡ Err MissingBracket
  unfolding nested_script
  script_over i first h = ap (λ (f : Bool → Result ℕ WordFault). f first) (reading_over (λ first. Err MissingBracket) (script_step inside) s i h)

  pub script_last : (i : ℕ) (first : Bool) → i < length s → eqb (get_or s i 0) 93 ≡ true → nested_script inside (drop i s) first ≡ Ok 1
  script_last i first h b = script_here i first h ∙ rw b refl

  pub script_gap : (i n : ℕ) (first begins : Bool) (total : Result ℕ WordFault) → i < length s → eqb (get_or s i 0) 93 ≡ false → gap_at (get_or s i 0) (drop (i + 1) s) first ≡ Some (n, begins)
      → more_bytes i (nested_script inside (drop i s) first) ≡ total → more_bytes (i + (1 + n)) (nested_script inside (drop (i + (1 + n)) s) begins) ≡ total
  script_gap i n first begins total h b gap so_far =
      let here : nested_script inside (drop i s) first ≡ more_bytes (1 + n) (nested_script inside (drop (i + 1 + n) s) begins) = script_here i first h ∙ rw (b, gap) refl in
      let m : i + 1 + n ≡ i + (1 + n) = omega arith in
      sym (ap (more_bytes i) here ∙ more-more i (1 + n) _ ∙ ap (λ (k : ℕ). more_bytes (i + (1 + n)) (nested_script inside (drop k s) begins)) m) ∙ so_far

  pub nested_word-takes : (i n : ℕ) (first : Bool) → i < length s → eqb (get_or s i 0) 93 ≡ false → gap_at (get_or s i 0) (drop (i + 1) s) first ≡ None → count_of (word inside NestedGap (drop i s)) ≡ Ok n → 0 < n
  nested_word-takes i n first h b gap is = word-takes-at inside NestedGap s i n h (nested-dark (get_or s i 0) (drop (i + 1) s) first b gap) is

  pub script_word : (i n : ℕ) (first : Bool) (total : Result ℕ WordFault) → i < length s → eqb (get_or s i 0) 93 ≡ false → gap_at (get_or s i 0) (drop (i + 1) s) first ≡ None → count_of (word inside NestedGap (drop i s)) ≡ Ok n
      → more_bytes i (nested_script inside (drop i s) first) ≡ total → more_bytes (i + n) (nested_script inside (drop (i + n) s) false) ≡ total
  script_word i n first total h b gap is so_far =
      let takes = nested_word-takes i n first h b gap is in
      let m : i + 1 + (n - 1) ≡ i + n = omega arith in
      let here : nested_script inside (drop i s) first ≡ more_bytes n (nested_script inside (drop (i + n) s) false) =
      script_here i first h ∙ rw (b, gap, is) (ap (λ (k : ℕ). more_bytes n (nested_script inside (drop k s) false)) m) in
      sym (ap (more_bytes i) here ∙ more-more i n _) ∙ so_far

  pub script_fails : (i : ℕ) (e : WordFault) (first : Bool) (total : Result ℕ WordFault) → i < length s → eqb (get_or s i 0) 93 ≡ false → gap_at (get_or s i 0) (drop (i + 1) s) first ≡ None → count_of (word inside NestedGap (drop i s)) ≡ Err e
      → more_bytes i (nested_script inside (drop i s) first) ≡ total → Err e ≡ total
  script_fails i e first total h b gap is so_far =
      let here : nested_script inside (drop i s) first ≡ Err e = script_here i first h ∙ rw (b, gap, is) refl in
      sym (ap (more_bytes i) here) ∙ so_far
