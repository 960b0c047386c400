-- A written list is a command whose words are the list's elements.
use Rattle.std.proofs.Common.{◌≡◌, ℕ, suc, ◌+◌, ◌-◌, Bool, true, false, not, cond, eqb, ◌&&◌, List, [], ◌∷◌, ◌++◌, map, length, take, drop, Option, Some, None, Ok, refl, sym, ap, ◌∙◌, subst, append_assoc, length-append, arith}
use Rattle.std.specs.List.{list_any}
use Rattle.std.proofs.lemmas.Bool.Decides.{nat_tests}
use Rattle.std.proofs.lemmas.List.{drop_at, take_at}
use Rattle.tcl_words.specs.declared.stop.Stop.TheVariants.{Gap}
use Rattle.tcl_words.specs.Backslash.{backslash, digit, blanks}
use Rattle.tcl_words.specs.Pieces.{Pieces, no_pieces, piece, literal, literal_of, Spelled}
use Rattle.tcl_words.specs.Lists.{is_special, is_empty, begins_with, needs_quoting, fits_braces, balances, letter, escape, written_element, written_rest, written}
use Rattle.tcl_words.specs.Commands.{Read, Inside, text_token, token_at, put_text, may_end, at_end, parts, part_step, is_gap, is_blank, ends_command, is_continued, joined, joined_step, plain_word, is_expansion, word, words, words_step, gap_at, comment_len, start, start_step, inside_of, deepest, next_command}
use Rattle.tcl_words.specs.ListCommand.{word_of}
use Rattle.tcl_words.proofs.Readings.{reading_step, reading_end}
use Rattle.tcl_words.proofs.RoundTrip.{same_byte, or_false, and_true, not_true, backslash_letter, closing_balanced, not_empty_if_unfit}

-- a byte that isn't special is an ordinary one
plain_byte : (b : ℕ) (s : List ℕ) → is_special b ≡ false → (is_gap b s ≡ false) × (eqb b 92 ≡ false) × (eqb b 91 ≡ false) × (eqb b 36 ≡ false) × (eqb b 34 ≡ false) × (eqb b 123 ≡ false)
plain_byte b s h = (grind (arith, nat_tests), grind (arith, nat_tests), grind (arith, nat_tests), grind (arith, nat_tests), grind (arith, nat_tests), grind (arith, nat_tests))

letter_dark : (b : ℕ) → eqb (letter b) 10 ≡ false
letter_dark b = grind (arith, nat_tests)

module _ (inside : Inside) where
  parts_end : (rest : List ℕ) → may_end Gap rest ≡ true → parts inside Gap rest ≡ Ok (no_pieces, 0)
  unfolding parts
  parts_end [] ends = reading_end (at_end Gap) (part_step inside Gap)
  parts_end (b ∷ rest) ends = reading_step (at_end Gap) (part_step inside Gap) b rest ∙ rw ends refl

  plain_token : (b : ℕ) (s : List ℕ) → is_special b ≡ false → token_at inside b s ≡ Ok (text_token (b ∷ []), 0)
  unfolding token_at
  plain_token b s h = let p = plain_byte b s h in rw (p.1, p.2, p.3) refl

  special_token : (b : ℕ) (s : List ℕ) → is_special b ≡ true → token_at inside 92 (letter b ∷ s) ≡ Ok (text_token (b ∷ []), 1)
  unfolding token_at
  special_token b s h = rw (backslash_letter b s h) refl

  plain_more : (b : ℕ) (s : List ℕ) (ps : Pieces) (n : ℕ) → is_special b ≡ false → parts inside Gap s ≡ Ok (ps, n) → parts inside Gap (b ∷ s) ≡ Ok (put_text (b ∷ []) ps, suc n)
  unfolding parts
  plain_more b s ps n h more =
      let p = plain_byte b s h in
      let m : 1 + 0 + n ≡ suc n = omega arith in
      reading_step (at_end Gap) (part_step inside Gap) b s ∙ rw (p.0, plain_token b s h, more) (ap (λ (k : ℕ). Ok (put_text (b ∷ []) ps, k)) m)

  special_more : (b : ℕ) (s : List ℕ) (ps : Pieces) (n : ℕ) → is_special b ≡ true → parts inside Gap s ≡ Ok (ps, n) → parts inside Gap (92 ∷ letter b ∷ s) ≡ Ok (put_text (b ∷ []) ps, suc (suc n))
  unfolding parts
  special_more b s ps n h more =
      let m : 1 + 1 + n ≡ suc (suc n) = omega arith in
      reading_step (at_end Gap) (part_step inside Gap) 92 (letter b ∷ s) ∙ rw (letter_dark b, special_token b s h, more) (ap (λ (k : ℕ). Ok (put_text (b ∷ []) ps, k)) m)

  -- a byte before a literal
  literal_more : (b : ℕ) (e : List ℕ) (n : ℕ) (r : Read Pieces) → r ≡ Ok (put_text (b ∷ []) (literal_of e), n) → r ≡ Ok (literal_of (b ∷ e), n)
  literal_more b [] n r is = is
  literal_more b (c ∷ e) n r is = is

  parts_plain : (e rest : List ℕ) → list_any is_special e ≡ false → may_end Gap rest ≡ true → parts inside Gap (e ++ rest) ≡ Ok (literal_of e, length e)
  parts_plain [] rest plain ends = parts_end rest ends
  parts_plain (b ∷ e) rest plain ends =
      let p = or_false (is_special b) (list_any is_special e) plain in
      literal_more b e _ _ (plain_more b (e ++ rest) (literal_of e) (length e) p.0 (parts_plain e rest p.1 ends))

  parts_escaped : (e rest : List ℕ) → may_end Gap rest ≡ true → parts inside Gap (escape e ++ rest) ≡ Ok (literal_of e, length (escape e))
  parts_escaped [] rest ends = parts_end rest ends
  parts_escaped (b ∷ e) rest ends = literal_more b e _ _ (go (parts_escaped e rest ends) (is_special b) refl)
    where
      go : parts inside Gap (escape e ++ rest) ≡ Ok (literal_of e, length (escape e)) → (t : Bool) → is_special b ≡ t
          → parts inside Gap (cond t (92 ∷ letter b ∷ escape e) (b ∷ escape e) ++ rest) ≡ Ok (put_text (b ∷ []) (literal_of e), length (cond t (92 ∷ letter b ∷ escape e) (b ∷ escape e)))
      go more true is = special_more b (escape e ++ rest) (literal_of e) (length (escape e)) is more
      go more false is = plain_more b (escape e ++ rest) (literal_of e) (length (escape e)) is more

-- in braces with no backslash nothing is replaced
joined_plain : (e : List ℕ) → list_any (λ b. eqb b 92) e ≡ false → joined e ≡ e
unfolding joined
joined_plain [] plain = reading_end [] joined_step
joined_plain (b ∷ e) plain =
    let p = or_false (eqb b 92) (list_any (λ b. eqb b 92) e) plain in
    reading_step [] joined_step b e ∙ rw (p.0, joined_plain e p.1) refl

module _ (inside : Inside) (rest : List ℕ) (ends : may_end Gap rest ≡ true) where
  -- a word of each kind, but for `{*}`
  plain_is : (first : Bool) (e : List ℕ) → needs_quoting first e ≡ false → plain_word inside Gap (e ++ rest) ≡ Ok (piece (literal e) no_pieces, length e)
  unfolding plain_word
  plain_is first [] n = absurd (cc)
  plain_is first (b ∷ e) n =
      let p = or_false (list_any is_special (b ∷ e)) (first && begins_with 35 (b ∷ e)) n in
      let q = plain_byte b (e ++ rest) (or_false (is_special b) (list_any is_special e) p.0).0 in
      rw (q.4, q.5) (parts_plain inside (b ∷ e) rest p.0 ends)

  braces_is : (e : List ℕ) → list_any (λ b. eqb b 92) e ≡ false → balances 0 e ≡ true → plain_word inside Gap (((123 ∷ e) ++ 125 ∷ []) ++ rest) ≡ Ok (piece (literal e) no_pieces, length ((123 ∷ e) ++ 125 ∷ []))
  unfolding plain_word
  braces_is e plain even =
      let whole : (e ++ 125 ∷ []) ++ rest ≡ e ++ 125 ∷ rest = append_assoc e (125 ∷ []) rest in
      let front : take (length e) (e ++ 125 ∷ rest) ≡ e = take_at e (125 ∷ rest) (length e) refl in
      let size0 : length (e ++ 125 ∷ []) ≡ 1 + length e = omega (arith, length-append e (125 ∷ [])) in
      let behind : drop (1 + length e) (e ++ 125 ∷ rest) ≡ rest = ap (drop (1 + length e)) (sym whole) ∙ drop_at (e ++ 125 ∷ []) rest (1 + length e) size0 in
      let size : 1 + (1 + length e) ≡ suc (length (e ++ 125 ∷ [])) = omega (arith, length-append e (125 ∷ [])) in
      rw (whole, closing_balanced e rest 0 plain even, behind, ends, front, joined_plain e plain) (ap (λ (n : ℕ). Ok (piece (literal e) no_pieces, n)) size)

  escaped_is : (e : List ℕ) → is_empty e ≡ false → plain_word inside Gap (escape e ++ rest) ≡ Ok (piece (literal e) no_pieces, length (escape e))
  unfolding plain_word
  escaped_is [] n = absurd (cc)
  escaped_is (b ∷ e) n = go (is_special b) refl (parts_escaped inside (b ∷ e) rest ends)
    where
      go : (t : Bool) → is_special b ≡ t → parts inside Gap (cond t (92 ∷ letter b ∷ escape e) (b ∷ escape e) ++ rest) ≡ Ok (piece (literal (b ∷ e)) no_pieces, length (cond t (92 ∷ letter b ∷ escape e) (b ∷ escape e)))
          → plain_word inside Gap (cond t (92 ∷ letter b ∷ escape e) (b ∷ escape e) ++ rest) ≡ Ok (piece (literal (b ∷ e)) no_pieces, length (cond t (92 ∷ letter b ∷ escape e) (b ∷ escape e)))
      go true is reads = reads
      go false is reads = let q = plain_byte b (escape e ++ rest) is in rw (q.4, q.5) reads

  hash_35 : (e : List ℕ) → plain_word inside Gap (92 ∷ 35 ∷ (escape e ++ rest)) ≡ Ok (piece (literal (35 ∷ e)) no_pieces, suc (suc (length (escape e))))
  unfolding plain_word parts token_at backslash digit
  hash_35 e =
      let m : 1 + 1 + length (escape e) ≡ suc (suc (length (escape e))) = omega arith in
      reading_step (at_end Gap) (part_step inside Gap) 92 (35 ∷ (escape e ++ rest)) ∙ rw (parts_escaped inside e rest ends) (literal_more inside 35 e _ _ (ap (λ (k : ℕ). Ok (put_text (35 ∷ []) (literal_of e), k)) m))

  hash_is : (e : List ℕ) → begins_with 35 e ≡ true → plain_word inside Gap ((92 ∷ escape e) ++ rest) ≡ Ok (piece (literal e) no_pieces, length (92 ∷ escape e))
  hash_is [] n = absurd (cc)
  hash_is (b ∷ e) n = subst (λ (x : ℕ). plain_word inside Gap ((92 ∷ escape (x ∷ e)) ++ rest) ≡ Ok (piece (literal (x ∷ e)) no_pieces, length (92 ∷ escape (x ∷ e)))) (sym (same_byte b 35 n)) (hash_35 e)

-- `{*}` isn't written
no_expansion : (b : ℕ) (s : List ℕ) → eqb b 123 ≡ false → is_expansion Gap (b ∷ s) ≡ false
no_expansion b s h = rw h refl

no_braced_expansion : (first : Bool) (e rest : List ℕ) → needs_quoting first e ≡ true → balances 0 e ≡ true → is_expansion Gap (((123 ∷ e) ++ 125 ∷ []) ++ rest) ≡ false
unfolding balances
no_braced_expansion first [] rest needs even = refl
no_braced_expansion first (b ∷ []) rest needs even = go (eqb b 42) refl
  where
    go : (t : Bool) → eqb b 42 ≡ t → is_expansion Gap (123 ∷ b ∷ 125 ∷ rest) ≡ false
    go false is = rw is refl
    go true is = go42 first (subst (λ (x : ℕ). needs_quoting first (x ∷ []) ≡ true) (same_byte b 42 is) needs)
      where
        go42 : (first : Bool) → needs_quoting first (42 ∷ []) ≡ true → is_expansion Gap (123 ∷ b ∷ 125 ∷ rest) ≡ false
        go42 true n = absurd (cc)
        go42 false n = absurd (cc)
no_braced_expansion first (b ∷ c ∷ e) rest needs even = go (eqb b 42) (eqb c 125) refl refl
  where
    go : (t u : Bool) → eqb b 42 ≡ t → eqb c 125 ≡ u → is_expansion Gap (123 ∷ b ∷ c ∷ ((e ++ 125 ∷ []) ++ rest)) ≡ false
    go false u is third = rw is refl
    go true false is third = rw (is, third) refl
    go true true is third = let odd : balances 0 (42 ∷ 125 ∷ e) ≡ true = subst (λ (x : ℕ). balances 0 (x ∷ 125 ∷ e) ≡ true) (same_byte b 42 is) (subst (λ (y : ℕ). balances 0 (b ∷ y ∷ e) ≡ true) (same_byte c 125 third) even) in absurd (cc)

plain_expansion : (first : Bool) (e rest : List ℕ) → needs_quoting first e ≡ false → is_expansion Gap (e ++ rest) ≡ false
plain_expansion first [] rest n = absurd (cc)
plain_expansion first (b ∷ e) rest n =
    let p = or_false (list_any is_special (b ∷ e)) (first && begins_with 35 (b ∷ e)) n in
    no_expansion b (e ++ rest) (plain_byte b [] (or_false (is_special b) (list_any is_special e) p.0).0).5

escaped_expansion : (e rest : List ℕ) → is_empty e ≡ false → is_expansion Gap (escape e ++ rest) ≡ false
escaped_expansion [] rest n = absurd (cc)
escaped_expansion (b ∷ e) rest n = go (is_special b) refl
  where
    go : (t : Bool) → is_special b ≡ t → is_expansion Gap (cond t (92 ∷ letter b ∷ escape e) (b ∷ escape e) ++ rest) ≡ false
    go true is = no_expansion 92 (letter b ∷ (escape e ++ rest)) refl
    go false is = no_expansion b (escape e ++ rest) (plain_byte b [] is).5

-- a written element is a word
word_written : (inside : Inside) (first : Bool) (e rest : List ℕ) → may_end Gap rest ≡ true → word inside Gap (written_element first e ++ rest) ≡ Ok (word_of e, length (written_element first e))
unfolding word
word_written inside first e rest ends = go (needs_quoting first e) (fits_braces e) (first && begins_with 35 e) refl refl refl
  where
    go : (t u v : Bool) → needs_quoting first e ≡ t → fits_braces e ≡ u → first && begins_with 35 e ≡ v
        → word inside Gap (cond (not t) e (cond u ((123 ∷ e) ++ 125 ∷ []) (cond v (92 ∷ escape e) (escape e))) ++ rest)
        ≡ Ok (word_of e, length (cond (not t) e (cond u ((123 ∷ e) ++ 125 ∷ []) (cond v (92 ∷ escape e) (escape e)))))
    go false u v p q r = rw (plain_expansion first e rest p, plain_is inside rest ends first e p) refl
    go true true v p q r =
        let both = and_true (not (list_any (λ b. eqb b 92) e)) (balances 0 e) q in
        rw (no_braced_expansion first e rest p both.1, braces_is inside rest ends e (not_true (list_any (λ b. eqb b 92) e) both.0) both.1) refl
    go true false true p q r = rw (no_expansion 92 (escape e ++ rest) refl, hash_is inside rest ends e (and_true first (begins_with 35 e) r).1) refl
    go true false false p q r = rw (escaped_expansion e rest (not_empty_if_unfit e q), escaped_is inside rest ends e (not_empty_if_unfit e q)) refl

-- it begins with no gap, and the first one with no `#`
abbrev Begins : Bool → List ℕ → List ℕ → Type 0
Begins first w rest = (b : ℕ) × (s : List ℕ) × (w ≡ b ∷ s) × (gap_at b (s ++ rest) first ≡ None) × (ends_command b ≡ false)

and_turned : (a b : Bool) → a && b ≡ false → b && a ≡ false
and_turned true true h = absurd (cc)
and_turned true false h = refl
and_turned false true h = refl
and_turned false false h = refl

plain_begins : (first : Bool) (b : ℕ) (s : List ℕ) → is_special b ≡ false → first && (eqb b 35) ≡ false → (gap_at b s first ≡ None) × (ends_command b ≡ false)
plain_begins first b s h hash =
    let e : ends_command b ≡ false = grind (arith, nat_tests) in
    let w : is_blank b ≡ false = grind (arith, nat_tests) in
    let q : eqb b 92 ≡ false = grind (arith, nat_tests) in
    let c : is_continued b s ≡ false = ap (λ t. t && begins_with 10 s) q in
    (rw (e, w, c, and_turned first (eqb b 35) hash) refl, e)

written_begins : (first : Bool) (e rest : List ℕ) → Begins first (written_element first e) rest
written_begins first e rest = go e (needs_quoting first e) (fits_braces e) (first && begins_with 35 e) refl refl refl
  where
    head : (b : ℕ) (e : List ℕ) (t : Bool) → is_special b ≡ t → first && (eqb b 35) ≡ false → Begins first (cond t (92 ∷ letter b ∷ escape e) (b ∷ escape e)) rest
    head b e true is hash = (92, letter b ∷ escape e, refl, rw (letter_dark b) refl, refl)
    head b e false is hash = let p = plain_begins first b (escape e ++ rest) is hash in (b, escape e, refl, p.0, p.1)

    hashed : (b : ℕ) (e : List ℕ) → b ≡ 35 → Begins first (92 ∷ escape (b ∷ e)) rest
    hashed b e is = subst (λ (x : ℕ). Begins first (92 ∷ escape (x ∷ e)) rest) (sym is) (92, 35 ∷ escape e, refl, refl, refl)

    go : (e : List ℕ) (t u v : Bool) → needs_quoting first e ≡ t → fits_braces e ≡ u → first && begins_with 35 e ≡ v
        → Begins first (cond (not t) e (cond u ((123 ∷ e) ++ 125 ∷ []) (cond v (92 ∷ escape e) (escape e)))) rest
    go [] false u v p q r = absurd (cc)
    go (b ∷ e) false u v p q r =
        let o = or_false (list_any is_special (b ∷ e)) (first && begins_with 35 (b ∷ e)) p in
        let x = plain_begins first b (e ++ rest) (or_false (is_special b) (list_any is_special e) o.0).0 o.1 in
        (b, e, refl, x.0, x.1)
    go e true true v p q r = (123, e ++ 125 ∷ [], refl, refl, refl)
    go [] true false true p q r = absurd (let n : true ≡ false = not_empty_if_unfit [] q in cc)
    go (b ∷ e) true false true p q r = hashed b e (same_byte b 35 (and_true first (eqb b 35) r).1)
    go [] true false false p q r = absurd (let n : true ≡ false = not_empty_if_unfit [] q in cc)
    go (b ∷ e) true false false p q r = head b e (is_special b) refl r

ends_rest : (es : List (List ℕ)) → may_end Gap (written_rest es) ≡ true
ends_rest [] = refl
ends_rest (e ∷ es) = refl

module _ (inside : Inside) where
  words_more : (w e rest : List ℕ) (ws : List Spelled) (k b : ℕ) (s : List ℕ) → w ≡ b ∷ s → gap_at b (s ++ rest) false ≡ None → ends_command b ≡ false
      → word inside Gap (w ++ rest) ≡ Ok (word_of e, length w) → words inside rest ≡ Ok (ws, k) → words inside (w ++ rest) ≡ Ok (word_of e ∷ ws, length w + k)
  unfolding words
  words_more w e rest ws k b s shape gap end is more =
      let front : word inside Gap (b ∷ (s ++ rest)) ≡ Ok (word_of e, length w) = ap (λ v. word inside Gap (v ++ rest)) (sym shape) ∙ is in
      let n : length w - 1 ≡ length s = omega (arith, ap length shape) in
      let after : drop (length w - 1) (s ++ rest) ≡ rest = rw n (drop_at s rest (length s) refl) in
      ap (λ v. words inside (v ++ rest)) shape ∙ reading_step (Ok ([], 0)) (words_step inside) b (s ++ rest) ∙ rw (gap, end, front, after, more) refl

  words_rest : (es : List (List ℕ)) → words inside (written_rest es) ≡ Ok (map word_of es, length (written_rest es))
  unfolding words
  words_rest [] = reading_end (Ok ([], 0)) (words_step inside)
  words_rest (e ∷ es) =
      let d = written_begins false e (written_rest es) in
      let w = written_element false e in
      let more = words_more w e (written_rest es) (map word_of es) (length (written_rest es)) d.0 d.1 d.2 d.3 d.4 (word_written inside false e (written_rest es) (ends_rest es)) (words_rest es) in
      let m : 1 + 0 + (length w + length (written_rest es)) ≡ suc (length (w ++ written_rest es)) = omega (arith, length-append w (written_rest es)) in
      reading_step (Ok ([], 0)) (words_step inside) 32 (w ++ written_rest es) ∙ rw more (ap (λ (k : ℕ). Ok (map word_of (e ∷ es), k)) m)

start_is : (b : ℕ) (s : List ℕ) → gap_at b s true ≡ None → start (b ∷ s) ≡ Some 0
unfolding start
start_is b s gap = reading_step None start_step b s ∙ rw gap refl

gap_later : (b : ℕ) (s : List ℕ) → gap_at b s true ≡ None → gap_at b s false ≡ None
gap_later b s h = go (ends_command b) (is_blank b) (is_continued b s) (eqb b 35) h
  where
    go : (t1 t2 t3 t4 : Bool) → cond {A = Option (ℕ × Bool)} t1 (Some (0, true)) (cond {A = Option (ℕ × Bool)} t2 (Some (0, true)) (cond {A = Option (ℕ × Bool)} t3 (Some (1 + blanks (drop 1 s), true)) (cond {A = Option (ℕ × Bool)} (t4 && true) (Some (comment_len s, true)) None))) ≡ None
        → cond {A = Option (ℕ × Bool)} t1 (Some (0, true)) (cond {A = Option (ℕ × Bool)} t2 (Some (0, false)) (cond {A = Option (ℕ × Bool)} t3 (Some (1 + blanks (drop 1 s), false)) (cond {A = Option (ℕ × Bool)} (t4 && false) (Some (comment_len s, true)) None))) ≡ None
    go true t2 t3 t4 n = absurd (cc)
    go false true t3 t4 n = absurd (cc)
    go false false true t4 n = absurd (cc)
    go false false false true n = refl
    go false false false false n = refl

pub list_is_command : (e : List ℕ) (es : List (List ℕ)) → next_command (written (e ∷ es)) 0 ≡ Ok (Some (map word_of (e ∷ es), length (written (e ∷ es))))
unfolding next_command
list_is_command e es =
    let rest = written_rest es in
    let w = written_element true e in
    let d = written_begins true e rest in
    let begins : start (w ++ rest) ≡ Some 0 = ap (λ v. start (v ++ rest)) d.2 ∙ start_is d.0 (d.1 ++ rest) d.3 in
    let more = words_more (inside_of deepest) w e rest (map word_of es) (length rest) d.0 d.1 d.2 (gap_later d.0 (d.1 ++ rest) d.3) d.4 (word_written (inside_of deepest) true e rest (ends_rest es)) (words_rest (inside_of deepest) es) in
    let m : 0 + (length w + length rest) ≡ length (w ++ rest) = omega (arith, length-append w rest) in
    rw (begins, more) (ap (λ (k : ℕ). Ok (Some (map word_of (e ∷ es), k))) m)
