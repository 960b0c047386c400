-- What is written reads as what it was written from.
use Rattle.std.proofs.Common.{◌≡◌, ℕ, suc, ◌+◌, ◌-◌, Bool, true, false, not, cond, eqb, ◌||◌, ◌&&◌, List, [], ◌∷◌, ◌++◌, length, take, drop, Option, Some, None, refl, sym, ap, ◌∙◌, subst, ⊎_elim, append_assoc, length-append, arith}
use Rattle.std.specs.List.{list_any}
use Rattle.std.proofs.lemmas.Bool.Decides.{nat_tests, eqb_tells}
use Rattle.std.proofs.lemmas.List.{drop_at, take_at}
use Rattle.tcl_words.specs.Course.{course}
use Rattle.tcl_words.specs.Backslash.{backslash, digit}
use Rattle.tcl_words.specs.Lists.{is_white, begins_white, is_special, begins_with, is_empty, needs_quoting, fits_braces, balances, letter, escape, written_element, written_rest, written, elements, elements_step, element, content, content_step, closing, closing_step, plus}
use Rattle.tcl_words.proofs.Readings.{reading_step, reading_end}

pub same_byte : (a b : ℕ) → eqb a b ≡ true → a ≡ b
same_byte a b h = ⊎_elim (λ p. p.1) (λ p. let e : true ≡ false = sym h ∙ p.0 in absurd (cc)) (eqb_tells a b)

pub or_false : (a b : Bool) → a || b ≡ false → (a ≡ false) × (b ≡ false)
or_false true b h = absurd (cc)
or_false false b h = (refl, h)

pub white_if_special : (b : ℕ) → is_special b ≡ false → (is_white b ≡ false) × (eqb b 34 ≡ false) × (eqb b 123 ≡ false) × (eqb b 92 ≡ false)
white_if_special b h = (grind (arith, nat_tests), grind (arith, nat_tests), grind (arith, nat_tests), grind (arith, nat_tests))

one_of : (b v : ℕ) (s : List ℕ) → backslash (letter v ∷ s) ≡ (v ∷ [], 1) → (eqb b v ≡ false → backslash (letter b ∷ s) ≡ (b ∷ [], 1)) → backslash (letter b ∷ s) ≡ (b ∷ [], 1)
one_of b v s at_v other = ⊎_elim (λ p. subst (λ (n : ℕ). backslash (letter n ∷ s) ≡ (n ∷ [], 1)) (sym p.1) at_v) (λ p. other p.0) (eqb_tells b v)

none_of : (b : ℕ) → is_special b ≡ true → eqb b 32 ≡ false → eqb b 9 ≡ false → eqb b 10 ≡ false → eqb b 11 ≡ false → eqb b 12 ≡ false → eqb b 13 ≡ false → eqb b 34 ≡ false → eqb b 123 ≡ false → eqb b 125 ≡ false → eqb b 91 ≡ false → eqb b 93 ≡ false → eqb b 36 ≡ false → eqb b 59 ≡ false → eqb b 92 ≡ false → ⊥
none_of b h n32 n9 n10 n11 n12 n13 n34 n123 n125 n91 n93 n36 n59 n92 = grind (arith, nat_tests)

pub backslash_letter : (b : ℕ) (s : List ℕ) → is_special b ≡ true → backslash (letter b ∷ s) ≡ (b ∷ [], 1)
unfolding backslash digit
backslash_letter b s h =
    one_of b 32 s refl (λ n32.
    one_of b 9 s refl (λ n9.
    one_of b 10 s refl (λ n10.
    one_of b 11 s refl (λ n11.
    one_of b 12 s refl (λ n12.
    one_of b 13 s refl (λ n13.
    one_of b 34 s refl (λ n34.
    one_of b 123 s refl (λ n123.
    one_of b 125 s refl (λ n125.
    one_of b 91 s refl (λ n91.
    one_of b 93 s refl (λ n93.
    one_of b 36 s refl (λ n36.
    one_of b 59 s refl (λ n59.
    one_of b 92 s refl (λ n92.
    absurd (none_of b h n32 n9 n10 n11 n12 n13 n34 n123 n125 n91 n93 n36 n59 n92)))))))))))))))

one_longer : {A : Type 0} (f : ℕ → A) (n : ℕ) → f (1 + n) ≡ f (suc n)
one_longer f n = let m : 1 + n ≡ suc n = omega arith in ap f m

-- an element that needs no backslash
content_plain_text : (e rest : List ℕ) → list_any is_special e ≡ false → begins_white rest ≡ true → content false (e ++ rest) ≡ Some (e, length e)
unfolding content course
content_plain_text [] [] plain ends = refl
content_plain_text [] (b ∷ rest) plain ends = rw ends refl
content_plain_text (b ∷ e) rest plain ends =
    let p = or_false (is_special b) (list_any is_special e) plain in
    let q = white_if_special b p.0 in
    let more = content_plain_text e rest p.1 ends in
    reading_step (Some ([], 0)) (content_step false) b (e ++ rest) ∙ rw (q.0, q.3, more) (one_longer (λ n. Some (b ∷ e, n)) (length e))

-- an element with backslashes
content_escaped : (e rest : List ℕ) → begins_white rest ≡ true → content false (escape e ++ rest) ≡ Some (e, length (escape e))
unfolding content course
content_escaped [] [] ends = refl
content_escaped [] (b ∷ rest) ends = rw ends refl
content_escaped (b ∷ e) rest ends = go (content_escaped e rest ends) (is_special b) refl
  where
    go : content false (escape e ++ rest) ≡ Some (e, length (escape e)) → (t : Bool) → is_special b ≡ t → content false (cond t (92 ∷ letter b ∷ escape e) (b ∷ escape e) ++ rest) ≡ Some (b ∷ e, length (cond t (92 ∷ letter b ∷ escape e) (b ∷ escape e)))
    go more true is =
        reading_step (Some ([], 0)) (content_step false) 92 (letter b ∷ (escape e ++ rest)) ∙ rw (backslash_letter b (escape e ++ rest) is, more) (let m : 2 + length (escape e) ≡ suc (suc (length (escape e))) = omega arith in ap (λ (n : ℕ). Some (b ∷ e, n)) m)
    go more false is =
        let q = white_if_special b is in
        reading_step (Some ([], 0)) (content_step false) b (escape e ++ rest) ∙ rw (q.0, q.3, more) (one_longer (λ n. Some (b ∷ e, n)) (length (escape e)))

closing_one : (b : ℕ) (s : List ℕ) (n : ℕ) → closing (b ∷ s) n ≡ closing_step (λ k. closing (drop k s)) b s n
unfolding closing
closing_one b s n = ap (λ (f : ℕ → Option ℕ). f n) (reading_step (λ n. None) closing_step b s)

-- an element in braces
pub closing_balanced : (e rest : List ℕ) (n : ℕ) → list_any (λ b. eqb b 92) e ≡ false → balances n e ≡ true → closing (e ++ 125 ∷ rest) n ≡ Some (length e)
unfolding balances
closing_balanced [] rest n plain even = closing_one 125 rest n ∙ rw even refl
closing_balanced (b ∷ e) rest n plain even =
    let p = or_false (eqb b 92) (list_any (λ b. eqb b 92) e) plain in
    closing_one b (e ++ 125 ∷ rest) n ∙ go (λ k fair. closing_balanced e rest k p.1 fair) (eqb b 125) (eqb b 123) (eqb n 0) (eqb b 92) p.0 even
  where
    go : ((k : ℕ) → balances k e ≡ true → closing (e ++ 125 ∷ rest) k ≡ Some (length e)) → (t1 t2 t0 t3 : Bool) → t3 ≡ false → cond t1 (cond t0 false (balances (n - 1) e)) (cond t2 (balances (n + 1) e) (balances n e)) ≡ true
        → cond t1 (cond t0 (Some 0) (plus 1 (closing (e ++ 125 ∷ rest) (n - 1)))) (cond t2 (plus 1 (closing (e ++ 125 ∷ rest) (n + 1))) (cond t3 (plus 2 (closing (drop 1 (e ++ 125 ∷ rest)) n)) (plus 1 (closing (e ++ 125 ∷ rest) n)))) ≡ Some (suc (length e))
    go ih t1 t2 t0 true quoted fair = absurd (cc)
    go ih true t2 true false quoted fair = absurd (cc)
    go ih true t2 false false quoted fair = ap (plus 1) (ih (n - 1) fair) ∙ one_longer Some (length e)
    go ih false true t0 false quoted fair = ap (plus 1) (ih (n + 1) fair) ∙ one_longer Some (length e)
    go ih false false t0 false quoted fair = ap (plus 1) (ih n fair) ∙ one_longer Some (length e)

-- what an element is written as: as it is, in braces, or with backslashes
module _ (rest : List ℕ) (ends : begins_white rest ≡ true) where
  plain_reads : (first : Bool) (e : List ℕ) → needs_quoting first e ≡ false → element (e ++ rest) ≡ Some (e, length e)
  unfolding element
  plain_reads first [] n = absurd (cc)
  plain_reads first (b ∷ e) n =
      let p = or_false (list_any is_special (b ∷ e)) (first && begins_with 35 (b ∷ e)) n in
      let q = white_if_special b (or_false (is_special b) (list_any is_special e) p.0).0 in
      rw (q.2, q.1) (content_plain_text (b ∷ e) rest p.0 ends)

  braces_read : (e : List ℕ) → list_any (λ b. eqb b 92) e ≡ false → balances 0 e ≡ true → element (((123 ∷ e) ++ 125 ∷ []) ++ rest) ≡ Some (e, length ((123 ∷ e) ++ 125 ∷ []))
  unfolding element
  braces_read e plain even =
      let whole : (e ++ 125 ∷ []) ++ rest ≡ e ++ 125 ∷ rest = append_assoc e (125 ∷ []) rest in
      let front : take (length e) (e ++ 125 ∷ rest) ≡ e = take_at e (125 ∷ rest) (length e) refl in
      let regroup : e ++ 125 ∷ rest ≡ (e ++ 125 ∷ []) ++ rest = sym whole in
      let behind : drop (length e + 1) (e ++ 125 ∷ rest) ≡ rest = ap (drop (length e + 1)) regroup ∙ drop_at (e ++ 125 ∷ []) rest (length e + 1) (length-append e (125 ∷ [])) in
      let size : length e + 2 ≡ suc (length (e ++ 125 ∷ [])) = omega (arith, length-append e (125 ∷ [])) in
      rw (whole, closing_balanced e rest 0 plain even, behind, ends, front) (ap (λ (n : ℕ). Some (e, n)) size)

  escaped_reads : (e : List ℕ) → is_empty e ≡ false → element (escape e ++ rest) ≡ Some (e, length (escape e))
  unfolding element
  escaped_reads [] n = absurd (cc)
  escaped_reads (b ∷ e) n = go (is_special b) refl (content_escaped (b ∷ e) rest ends)
    where
      go : (t : Bool) → is_special b ≡ t → content false (cond t (92 ∷ letter b ∷ escape e) (b ∷ escape e) ++ rest) ≡ Some (b ∷ e, length (cond t (92 ∷ letter b ∷ escape e) (b ∷ escape e)))
          → element (cond t (92 ∷ letter b ∷ escape e) (b ∷ escape e) ++ rest) ≡ Some (b ∷ e, length (cond t (92 ∷ letter b ∷ escape e) (b ∷ escape e)))
      go true is reads = reads
      go false is reads = let q = white_if_special b is in rw (q.2, q.1) reads

  hash_reads : (e : List ℕ) → begins_with 35 e ≡ true → element ((92 ∷ escape e) ++ rest) ≡ Some (e, length (92 ∷ escape e))
  unfolding element content backslash digit
  hash_reads [] n = absurd (cc)
  hash_reads (b ∷ e) n = subst (λ (x : ℕ). element ((92 ∷ escape (x ∷ e)) ++ rest) ≡ Some (x ∷ e, length (92 ∷ escape (x ∷ e)))) (sym (same_byte b 35 n)) (go (content_escaped e rest ends))
    where
      go : content false (escape e ++ rest) ≡ Some (e, length (escape e)) → element (92 ∷ 35 ∷ (escape e ++ rest)) ≡ Some (35 ∷ e, suc (suc (length (escape e))))
      go more = reading_step (Some ([], 0)) (content_step false) 92 (35 ∷ (escape e ++ rest)) ∙ rw more (let m : 2 + length (escape e) ≡ suc (suc (length (escape e))) = omega arith in ap (λ (k : ℕ). Some (35 ∷ e, k)) m)

pub not_empty_if_unfit : (e : List ℕ) → fits_braces e ≡ false → is_empty e ≡ false
unfolding balances
not_empty_if_unfit [] h = absurd (cc)
not_empty_if_unfit (b ∷ e) h = refl

pub and_true : (a b : Bool) → a && b ≡ true → (a ≡ true) × (b ≡ true)
and_true true b h = (refl, h)
and_true false b h = absurd (cc)

pub not_true : (a : Bool) → not a ≡ true → a ≡ false
not_true true h = absurd (cc)
not_true false h = refl

-- an element as it is written, with the next behind it, is read again
element_written : (first : Bool) (e rest : List ℕ) → begins_white rest ≡ true → element (written_element first e ++ rest) ≡ Some (e, length (written_element first e))
element_written first e rest ends = go (needs_quoting first e) (fits_braces e) (first && begins_with 35 e) refl refl refl
  where
    go : (t u v : Bool) → needs_quoting first e ≡ t → fits_braces e ≡ u → first && begins_with 35 e ≡ v
        → element (cond (not t) e (cond u ((123 ∷ e) ++ 125 ∷ []) (cond v (92 ∷ escape e) (escape e))) ++ rest)
        ≡ Some (e, length (cond (not t) e (cond u ((123 ∷ e) ++ 125 ∷ []) (cond v (92 ∷ escape e) (escape e)))))
    go false u v p q r = plain_reads rest ends first e p
    go true true v p q r = let both = and_true (not (list_any (λ b. eqb b 92) e)) (balances 0 e) q in braces_read rest ends e (not_true (list_any (λ b. eqb b 92) e) both.0) both.1
    go true false true p q r = hash_reads rest ends e (and_true first (begins_with 35 e) r).1
    go true false false p q r = escaped_reads rest ends e (not_empty_if_unfit e q)

-- it begins with no white space
written_dark : (first : Bool) (e : List ℕ) → (b : ℕ) × (s : List ℕ) × (written_element first e ≡ b ∷ s) × (is_white b ≡ false)
written_dark first e = go e (needs_quoting first e) (fits_braces e) (first && begins_with 35 e) refl refl
  where
    head : (b : ℕ) (e : List ℕ) (t : Bool) → is_special b ≡ t → (c : ℕ) × (s : List ℕ) × (cond t (92 ∷ letter b ∷ escape e) (b ∷ escape e) ≡ c ∷ s) × (is_white c ≡ false)
    head b e true is = (92, letter b ∷ escape e, refl, refl)
    head b e false is = (b, escape e, refl, (white_if_special b is).0)

    go : (e : List ℕ) (t u v : Bool) → needs_quoting first e ≡ t → fits_braces e ≡ u
        → (b : ℕ) × (s : List ℕ) × (cond (not t) e (cond u ((123 ∷ e) ++ 125 ∷ []) (cond v (92 ∷ escape e) (escape e))) ≡ b ∷ s) × (is_white b ≡ false)
    go [] false u v p q = absurd (cc)
    go (b ∷ e) false u v p q =
        let r = or_false (list_any is_special (b ∷ e)) (first && begins_with 35 (b ∷ e)) p in
        (b, e, refl, (white_if_special b (or_false (is_special b) (list_any is_special e) r.0).0).0)
    go e true true v p q = (123, e ++ 125 ∷ [], refl, refl)
    go e true false true p q = (92, escape e, refl, refl)
    go [] true false false p q = let n : true ≡ false = not_empty_if_unfit [] q in absurd (cc)
    go (b ∷ e) true false false p q = head b e (is_special b) refl

-- one element more
elements_more : (w e rest : List ℕ) (es : List (List ℕ)) (b : ℕ) (s : List ℕ) → w ≡ b ∷ s → is_white b ≡ false → element (w ++ rest) ≡ Some (e, length w) → elements rest ≡ Some es → elements (w ++ rest) ≡ Some (e ∷ es)
unfolding elements
elements_more w e rest es b s shape dark is more =
    let front : element (b ∷ (s ++ rest)) ≡ Some (e, length w) = ap (λ v. element (v ++ rest)) (sym shape) ∙ is in
    let n : length w - 1 ≡ length s = omega (arith, ap length shape) in
    let after : drop (length w - 1) (s ++ rest) ≡ rest = rw n (drop_at s rest (length s) refl) in
    ap (λ v. elements (v ++ rest)) shape ∙ reading_step (Some []) elements_step b (s ++ rest) ∙ rw (dark, front, after, more) refl

begins_rest : (es : List (List ℕ)) → begins_white (written_rest es) ≡ true
begins_rest [] = refl
begins_rest (e ∷ es) = refl

elements_rest : (es : List (List ℕ)) → elements (written_rest es) ≡ Some es
unfolding elements
elements_rest [] = reading_end (Some []) elements_step
elements_rest (e ∷ es) =
    let d = written_dark false e in
    reading_step (Some []) elements_step 32 (written_element false e ++ written_rest es)
    ∙ elements_more (written_element false e) e (written_rest es) es d.0 d.1 d.2 d.3 (element_written false e (written_rest es) (begins_rest es)) (elements_rest es)

pub written_reads : (l : List (List ℕ)) → elements (written l) ≡ Some l
unfolding elements
written_reads [] = reading_end (Some []) elements_step
written_reads (e ∷ es) =
    let d = written_dark true e in
    elements_more (written_element true e) e (written_rest es) es d.0 d.1 d.2 d.3 (element_written true e (written_rest es) (begins_rest es)) (elements_rest es)
