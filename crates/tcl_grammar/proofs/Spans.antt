-- Spans, numbers, backslashes and comments: what the functions take is what the rules say, and the other way round.
use Rattle.std.proofs.Common.{◌≡◌, ◌≢◌, ℕ, zero, suc, ◌+◌, ◌*◌, ◌<◌, ◌≤◌, Bool, true, false, ◌&&◌, List, [], ◌∷◌, length, take, drop, Option, Some, None, refl, sym, ap, ◌∙◌, subst, eqb, cond, length-drop, arith}
use Rattle.std.specs.List.{prefix_len}
use Rattle.std.proofs.lemmas.Bool.{eqb-true, eq-eqb, cond_both}
use Rattle.std.proofs.lemmas.Bool.Decides.{nat_tests}
use Rattle.std.proofs.lemmas.List.{drop-drop}
use Rattle.std.specs.Prelude.{nat_lt, nat_le, encode_utf8}
use Rattle.tcl_words.specs.Backslash.{digit, digits, digit_step, below, hex_digit, blanks, backslash, hex_escape, octal_escape, one_more}
use Rattle.tcl_words.specs.Commands.{comment_len, comment_step}
use Rattle.tcl_words.proofs.Readings.{reading_step, reading_end}
use Rattle.tcl_words.proofs.ListGraph.{course_induction}
use Rattle.tcl_grammar.specs.CommandRules.{Span, Digits, Escape, NoHex, Comment, is_indent}

-- A reading gives what it is to give with the count of the bytes up to r.
pub record Took {A : Type 0} (ok : ℕ → A) (got : A) (s r : List ℕ) : Type 0 where
  pub n : ℕ
  pub is : got ≡ ok n
  pub rest : r ≡ drop n s
  pub within : n ≤ length s

pub drop_cons : (b n : ℕ) (s : List ℕ) → drop (1 + n) (b ∷ s) ≡ drop n s
drop_cons b n s = let m : 1 + n ≡ suc n = omega arith in ap (λ (i : ℕ). drop i (b ∷ s)) m

pub take_cons : (b n : ℕ) (s : List ℕ) → take (1 + n) (b ∷ s) ≡ b ∷ take n s
take_cons b n s = let m : 1 + n ≡ suc n = omega arith in ap (λ (i : ℕ). take i (b ∷ s)) m

pub other_byte : (a b : ℕ) → eqb a b ≡ false → a ≢ b
other_byte a b h = λ e. let yes : eqb a b ≡ true = eq-eqb a b e in absurd (cc)

pub test_other : (a b : ℕ) → a ≢ b → eqb a b ≡ false
test_other a b h = by (eqb a b) refl
  where
    by : (t : Bool) → eqb a b ≡ t → t ≡ false
    by true e = absurd (h (eqb-true a b e))
    by false e = refl

-- one reading behind another
pub both_rest : (s m r : List ℕ) (j k : ℕ) → m ≡ drop j s → r ≡ drop k m → r ≡ drop (j + k) s
both_rest s m r j k e f = f ∙ ap (drop k) e ∙ drop-drop k j s

pub both_within : (s m : List ℕ) (j k : ℕ) → m ≡ drop j s → j ≤ length s → k ≤ length m → j + k ≤ length s
both_within s m j k e h i = omega (arith, ap length e, length-drop j s)

-- ---- Spans

module _ (test : ℕ → Bool) where
  abbrev SpanAt : List ℕ → ℕ → Type 0
  SpanAt s n = Span test s (take n s) (drop n s)

  span_more : (b n : ℕ) (s : List ℕ) → test b ≡ true → SpanAt s n → SpanAt (b ∷ s) (1 + n)
  span_more b n s e h =
      subst (λ t. Span test (b ∷ s) t (drop (1 + n) (b ∷ s))) (sym (take_cons b n s))
      (subst (λ r. Span test (b ∷ s) (b ∷ take n s) r) (sym (drop_cons b n s)) (Span.more b s (take n s) (drop n s) e h))

  pub span_of : (s : List ℕ) → Span test s (take (prefix_len test s) s) (drop (prefix_len test s) s)
  span_of [] = Span.over
  span_of (b ∷ s) = cond_both (test b) _ _ (SpanAt (b ∷ s)) (λ e. span_more b (prefix_len test s) s e (span_of s)) (λ e. Span.stop b s e)

  pub span_text : (s t r : List ℕ) → Span test s t r → t ≡ take (prefix_len test s) s
  span_text s t r Span.over = refl
  span_text s t r (Span.stop b s' e) = rw e refl
  span_text s t r (Span.more b s' t' r' e h) = rw e (ap (λ x. b ∷ x) (span_text s' t' r h) ∙ sym (take_cons b (prefix_len test s') s'))

  pub span_took : (s t r : List ℕ) → Span test s t r → Took (λ n. n) (prefix_len test s) s r
  span_took s t r Span.over = record { n = 0; is = refl; rest = refl; within = omega arith }
  span_took s t r (Span.stop b s' e) = record { n = 0; is = rw e refl; rest = refl; within = omega arith }
  span_took s t r (Span.more b s' t' r' e h) =
      let ih = span_took s' t' r h in
      record { n = 1 + ih.n; is = rw (e, ih.is) refl; rest = ih.rest ∙ sym (drop_cons b ih.n s'); within = omega (arith, ih.within) }

pub blanks_of : (s : List ℕ) → Span is_indent s (take (blanks s) s) (drop (blanks s) s)
unfolding blanks
blanks_of s = span_of is_indent s

pub blanks_took : (s t r : List ℕ) → Span is_indent s t r → Took (λ n. n) (blanks s) s r
unfolding blanks
blanks_took s t r h = span_took is_indent s t r h

-- ---- Numbers

is_at_most : (n m : ℕ) → nat_le n m ≡ true → n ≤ m
is_at_most n m h = grind (arith, nat_tests)

is_above : (n m : ℕ) → nat_le n m ≡ false → m < n
is_above n m h = grind (arith, nat_tests)

at_most : (n m : ℕ) → n ≤ m → nat_le n m ≡ true
at_most n m h = grind (arith, nat_tests)

not_at_most : (n m : ℕ) → m < n → nat_le n m ≡ false
not_at_most n m h = grind (arith, nat_tests)

module _ (base top : ℕ) where
  pub digits_of : (most v : ℕ) (s : List ℕ) → Digits base top most v s (digits base top most v s).0 (drop (digits base top most v s).1 s)
  unfolding digits
  digits_of zero v s = Digits.full v s
  digits_of (suc most) v [] = Digits.over most v
  digits_of (suc most) v (b ∷ s) = by (λ w. digits_of most w s) (digit base b) refl
    where
      by : ((w : ℕ) → Digits base top most w s (digits base top most w s).0 (drop (digits base top most w s).1 s)) → (o : Option ℕ) → digit base b ≡ o
          → Digits base top (suc most) v (b ∷ s) (digit_step (λ w. digits base top most w s) base top v o).0 (drop (digit_step (λ w. digits base top most w s) base top v o).1 (b ∷ s))
      by more None e = Digits.stop most v b s e
      by more (Some d) e =
          cond_both (nat_le (base * v + d) top) _ _ (λ (p : ℕ × ℕ). Digits base top (suc most) v (b ∷ s) p.0 (drop p.1 (b ∷ s)))
          (λ t. Digits.more most v b d _ s _ e (is_at_most (base * v + d) top t) (more (base * v + d)))
          (λ f. Digits.above most v b d s e (is_above (base * v + d) top f))

  pub digits_took : (most v : ℕ) (s : List ℕ) (w : ℕ) (r : List ℕ) → Digits base top most v s w r → Took (λ n. (w, n)) (digits base top most v s) s r
  unfolding digits
  digits_took most v s w r (Digits.full v' s') = record { n = 0; is = refl; rest = refl; within = omega arith }
  digits_took most v s w r (Digits.over most' v') = record { n = 0; is = refl; rest = refl; within = omega arith }
  digits_took most v s w r (Digits.stop most' v' b s' e) = record { n = 0; is = rw e refl; rest = refl; within = omega arith }
  digits_took most v s w r (Digits.above most' v' b d s' e h) = let no = not_at_most (base * v + d) top h in record { n = 0; is = rw (e, no) refl; rest = refl; within = omega arith }
  digits_took most v s w r (Digits.more most' v' b d w' s' r' e h on) =
      let ih = digits_took most' (base * v + d) s' w r on in
      let yes = at_most (base * v + d) top h in
      record { n = suc ih.n; is = rw (e, yes, ih.is) refl; rest = ih.rest; within = omega (arith, ih.within) }

-- ---- Backslashes

-- a digit in base 16
hex_small : (b d : ℕ) → digit 16 b ≡ Some d → d < 16
unfolding digit
hex_small b d e = by (hex_digit b) e
  where
    by : (o : Option ℕ) → below 16 o ≡ Some d → d < 16
    by None h = absurd (cc)
    by (Some x) h = last (nat_lt x 16) refl h
      where
        last : (t : Bool) → nat_lt x 16 ≡ t → cond {A = Option ℕ} t (Some x) None ≡ Some d → d < 16
        last true t k = let same : x ≡ d = cc in grind (arith, nat_tests)
        last false t k = absurd (cc)

abbrev EscapeAt : List ℕ → List ℕ × ℕ → Type 0
EscapeAt s p = Escape s p.0 (drop p.1 s)

-- hexadecimal digits, of which the first is read alone
module _ (top most : ℕ) (room : 15 ≤ top) where
  hex_step : (c : ℕ) (s : List ℕ) → digits 16 top (suc most) 0 (c ∷ s) ≡ digit_step (λ v. digits 16 top most v s) 16 top 0 (digit 16 c)
  unfolding digits
  hex_step c s = refl

  hex_more : (x d : ℕ) (s : List ℕ) → x ≡ d → d ≤ top → cond (nat_le x top) (one_more (digits 16 top most x s)) (0, 0) ≡ one_more (digits 16 top most d s)
  hex_more x d s e h = let yes : nat_le d top ≡ true = at_most d top h in rw (e, yes) refl

  hex_first : (c d : ℕ) (s : List ℕ) → digit 16 c ≡ Some d → digits 16 top (suc most) 0 (c ∷ s) ≡ one_more (digits 16 top most d s)
  hex_first c d s e =
      let small : d < 16 = hex_small c d e in
      hex_step c s ∙ ap (digit_step (λ v. digits 16 top most v s) 16 top 0) e ∙ hex_more (16 * 0 + d) d s (omega arith) (omega (arith, room))

  no_hex_is : (s : List ℕ) → NoHex s → digits 16 top (suc most) 0 s ≡ (0, 0)
  unfolding digits
  no_hex_is [] h = refl
  no_hex_is (b ∷ s) h = rw h refl

  -- a letter before them
  module _ (letter : ℕ) (text : ℕ → List ℕ) where
    hex_of : (s : List ℕ) → (NoHex s → Escape (letter ∷ s) (letter ∷ []) s) → ((c d n : ℕ) (t r : List ℕ) → digit 16 c ≡ Some d → Digits 16 top most d t n r → Escape (letter ∷ c ∷ t) (text n) r)
        → EscapeAt (letter ∷ s) (hex_escape letter text (digits 16 top (suc most) 0 s))
    hex_of [] none some = subst (λ p. EscapeAt (letter ∷ []) (hex_escape letter text p)) (sym (no_hex_is [] tt)) (none tt)
    hex_of (c ∷ s) none some = by (digit 16 c) refl
      where
        by : (o : Option ℕ) → digit 16 c ≡ o → EscapeAt (letter ∷ c ∷ s) (hex_escape letter text (digits 16 top (suc most) 0 (c ∷ s)))
        by None e = subst (λ p. EscapeAt (letter ∷ c ∷ s) (hex_escape letter text p)) (sym (no_hex_is (c ∷ s) e)) (none e)
        by (Some d) e = subst (λ p. EscapeAt (letter ∷ c ∷ s) (hex_escape letter text p)) (sym (hex_first c d s e)) (some c d _ s _ e (digits_of 16 top most d s))

    hex_took : (c d n : ℕ) (s r : List ℕ) → digit 16 c ≡ Some d → Digits 16 top most d s n r → Took (λ k. (text n, k)) (hex_escape letter text (digits 16 top (suc most) 0 (c ∷ s))) (letter ∷ c ∷ s) r
    hex_took c d n s r e h =
        let k = digits_took 16 top most d s n r h in
        record { n = suc (suc k.n); is = ap (hex_escape letter text) (hex_first c d s e ∙ ap one_more k.is); rest = k.rest; within = omega (arith, k.within) }

    no_hex_took : (s : List ℕ) → NoHex s → Took (λ k. (letter ∷ [], k)) (hex_escape letter text (digits 16 top (suc most) 0 s)) (letter ∷ s) s
    no_hex_took s h = record { n = 1; is = ap (hex_escape letter text) (no_hex_is s h); rest = refl; within = omega arith }

abbrev one_byte : ℕ → List ℕ
one_byte n = n ∷ []

pub escape_of : (s : List ℕ) → Escape s (backslash s).0 (drop (backslash s).1 s)
unfolding backslash
escape_of [] = Escape.over
escape_of (c ∷ s) =
    cond_both (eqb c 10) _ _ (EscapeAt (c ∷ s)) (λ t. subst (λ (x : ℕ). Escape (x ∷ s) (32 ∷ []) (drop (blanks s) s)) (sym (eqb-true c 10 t)) (Escape.line s _ _ (blanks_of s)))
    (λ no_line. cond_both (eqb c 120) _ _ (EscapeAt (c ∷ s)) (λ t. subst (λ (x : ℕ). EscapeAt (x ∷ s) (hex_escape 120 one_byte (digits 16 255 2 0 s))) (sym (eqb-true c 120 t)) (hex_of 255 1 (omega arith) 120 one_byte s (Escape.no_hex s) Escape.hex))
    (λ no_x. cond_both (eqb c 117) _ _ (EscapeAt (c ∷ s)) (λ t. subst (λ (x : ℕ). EscapeAt (x ∷ s) (hex_escape 117 encode_utf8 (digits 16 65535 4 0 s))) (sym (eqb-true c 117 t)) (hex_of 65535 3 (omega arith) 117 encode_utf8 s (Escape.no_unicode s) Escape.unicode))
    (λ no_u. by no_line no_x no_u (digit 8 c) refl)))
  where
    by : eqb c 10 ≡ false → eqb c 120 ≡ false → eqb c 117 ≡ false → (o : Option ℕ) → digit 8 c ≡ o → EscapeAt (c ∷ s) (octal_escape c s o)
    by no_line no_x no_u None e = Escape.other c s (other_byte c 10 no_line) (other_byte c 120 no_x) (other_byte c 117 no_u) e
    by no_line no_x no_u (Some d) e = Escape.octal c d _ s _ e (digits_of 8 255 2 d s)

-- an octal digit is no byte that is none
octal_other : (c d b : ℕ) → digit 8 c ≡ Some d → digit 8 b ≡ None → eqb c b ≡ false
octal_other c d b e none = test_other c b (λ same. let no : digit 8 c ≡ None = ap (digit 8) same ∙ none in let clash : ◌≡◌ {A = Option ℕ} (Some d) None = sym e ∙ no in absurd (cc))

no_octal : (digit 8 10 ≡ None) × (digit 8 120 ≡ None) × (digit 8 117 ≡ None)
unfolding digit
no_octal = (refl, refl, refl)

pub escape_took : (s t r : List ℕ) → Escape s t r → Took (λ n. (t, n)) (backslash s) s r
unfolding backslash
escape_took s t r (Escape.line s' u r' h) =
    let k = blanks_took s' u r h in
    record { n = suc k.n; is = rw k.is refl; rest = k.rest; within = omega (arith, k.within) }
escape_took s t r (Escape.octal c d n s' r' e h) =
    let k = digits_took 8 255 2 d s' n r h in
    let no_line = octal_other c d 10 e no_octal.0 in
    let no_x = octal_other c d 120 e no_octal.1 in
    let no_u = octal_other c d 117 e no_octal.2 in
    record { n = suc k.n; is = rw (no_line, no_x, no_u, e, k.is) refl; rest = k.rest; within = omega (arith, k.within) }
escape_took s t r (Escape.hex c d n s' r' e h) = hex_took 255 1 (omega arith) 120 one_byte c d n s' r e h
escape_took s t r (Escape.unicode c d n s' r' e h) = hex_took 65535 3 (omega arith) 117 encode_utf8 c d n s' r e h
escape_took s t r (Escape.no_hex s' h) = no_hex_took 255 1 (omega arith) 120 one_byte s' h
escape_took s t r (Escape.no_unicode s' h) = no_hex_took 65535 3 (omega arith) 117 encode_utf8 s' h
escape_took s t r (Escape.other c s' no_line no_x no_u e) =
    let line = test_other c 10 no_line in
    let x = test_other c 120 no_x in
    let u = test_other c 117 no_u in
    record { n = 1; is = rw (line, x, u, e) refl; rest = refl; within = omega arith }
escape_took s t r Escape.over = record { n = 0; is = refl; rest = refl; within = omega arith }

-- ---- Comments

abbrev CommentAt : List ℕ → ℕ → Type 0
CommentAt s n = Comment s (drop n s)

comment_none : comment_len [] ≡ 0
unfolding comment_len
comment_none = reading_end 0 comment_step

comment_turn : (b : ℕ) (s : List ℕ) → ((k : ℕ) → CommentAt (drop k s) (comment_len (drop k s))) → CommentAt (b ∷ s) (comment_step (λ k. comment_len (drop k s)) b s)
comment_turn b [] ih =
    cond_both (eqb b 10) _ _ (CommentAt (b ∷ [])) (λ t. subst (λ (x : ℕ). Comment (x ∷ []) []) (sym (eqb-true b 10 t)) (Comment.line []))
    (λ no_line. by (eqb b 92) refl no_line)
  where
    by : (t : Bool) → eqb b 92 ≡ t → eqb b 10 ≡ false → CommentAt (b ∷ []) (cond (t && false) (2 + comment_len []) (1 + comment_len []))
    by true t no_line =
        subst (λ (k : ℕ). Comment (b ∷ []) (drop k (b ∷ []))) (sym (ap (λ (k : ℕ). 1 + k) comment_none))
        (subst (λ (x : ℕ). Comment (x ∷ []) []) (sym (eqb-true b 92 t)) Comment.last)
    by false t no_line =
        subst (λ (k : ℕ). Comment (b ∷ []) (drop k (b ∷ []))) (sym (ap (λ (k : ℕ). 1 + k) comment_none))
        (Comment.plain b [] [] (other_byte b 10 no_line) (other_byte b 92 t) Comment.over)
comment_turn b (c ∷ s) ih =
    cond_both (eqb b 10) _ _ (CommentAt (b ∷ c ∷ s)) (λ t. subst (λ (x : ℕ). Comment (x ∷ c ∷ s) (c ∷ s)) (sym (eqb-true b 10 t)) (Comment.line (c ∷ s)))
    (λ no_line. by (eqb b 92) refl no_line)
  where
    by : (t : Bool) → eqb b 92 ≡ t → eqb b 10 ≡ false → CommentAt (b ∷ c ∷ s) (cond (t && true) (2 + comment_len s) (1 + comment_len (c ∷ s)))
    by true t no_line =
        let m : 2 + comment_len s ≡ suc (suc (comment_len s)) = omega arith in
        subst (λ (x : ℕ). Comment (x ∷ c ∷ s) (drop (2 + comment_len s) (x ∷ c ∷ s))) (sym (eqb-true b 92 t))
        (subst (λ (k : ℕ). Comment (92 ∷ c ∷ s) (drop k (92 ∷ c ∷ s))) (sym m) (Comment.pair c s _ (ih 1)))
    by false t no_line =
        let m : 1 + comment_len (c ∷ s) ≡ suc (comment_len (c ∷ s)) = omega arith in
        subst (λ (k : ℕ). Comment (b ∷ c ∷ s) (drop k (b ∷ c ∷ s))) (sym m) (Comment.plain b (c ∷ s) _ (other_byte b 10 no_line) (other_byte b 92 t) (ih 0))

pub comment_of : (s : List ℕ) → Comment s (drop (comment_len s) s)
unfolding comment_len
comment_of s = course_induction 0 comment_step CommentAt Comment.over comment_turn s 0

comment_next : (b : ℕ) (s : List ℕ) → comment_len (b ∷ s) ≡ comment_step (λ k. comment_len (drop k s)) b s
unfolding comment_len
comment_next b s = reading_step 0 comment_step b s

comment_slash : comment_len (92 ∷ []) ≡ 1
comment_slash = comment_next 92 [] ∙ ap (λ (k : ℕ). 1 + k) comment_none

pub comment_took : (s r : List ℕ) → Comment s r → Took (λ n. n) (comment_len s) s r
comment_took s r Comment.over = record { n = 0; is = comment_none; rest = refl; within = omega arith }
comment_took s r (Comment.line s') = record { n = 1; is = comment_next 10 s'; rest = refl; within = omega arith }
comment_took s r Comment.last = record { n = 1; is = comment_slash; rest = refl; within = omega arith }
comment_took s r (Comment.pair b s' r' h) =
    let ih = comment_took s' r h in
    record {
      n = 2 + ih.n;
      is = comment_next 92 (b ∷ s') ∙ ap (λ (k : ℕ). 2 + k) ih.is;
      rest = let m : 2 + ih.n ≡ suc (suc ih.n) = omega arith in ih.rest ∙ ap (λ (k : ℕ). drop k (92 ∷ b ∷ s')) (sym m);
      within = omega (arith, ih.within);
    }
comment_took s r (Comment.plain b s' r' no_line no_slash h) =
    let ih = comment_took s' r h in
    let line = test_other b 10 no_line in
    let slash = test_other b 92 no_slash in
    record {
      n = 1 + ih.n;
      is = comment_next b s' ∙ rw (line, slash) (ap (λ (k : ℕ). 1 + k) ih.is);
      rest = ih.rest ∙ sym (drop_cons b ih.n s');
      within = omega (arith, ih.within);
    }
