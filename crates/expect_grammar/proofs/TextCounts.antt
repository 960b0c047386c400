-- `regex` reads the counts of the grammar, and what they repeat.
use Rattle.std.proofs.Common.{◌≡◌, ℕ, suc, ◌+◌, ◌-◌, ◌*◌, ◌^◌, ◌<◌, ◌≤◌, nat_lt, Bool, true, false, List, [], ◌∷◌, length, get_or, Option, Some, None, refl, sym, subst, ap, ◌∙◌, le_refl, cond, drop, eqb, ne_eqb, arith}
use Rattle.std.specs.Char.{is_digit, is_whitespace, digit_value}
use Rattle.std.proofs.lemmas.Bool.{agree_below_at, lt-ltb, le-leb, or_parts}
use Rattle.std.proofs.lemmas.Bool.Decides.{nat_tests}
use Rattle.regex_syntax.proofs.BranchLemmas.{repeated_by, more_repetitions, repetitions_end, repetitions_go}
use Rattle.regex_syntax.proofs.ReadingLemmas.{take_up_to_stops, take_up_to_goes}
use Rattle.regex_syntax.specs.Brackets.{Nested}
use Rattle.regex_syntax.specs.Grammar.{upper_bound, counted_bounds, bounds, repetitions}
use Rattle.regex_syntax.specs.Reading.{Text, first, is_at, is_empty, skip, take_run, value, decimal, ◌>>=◌}
use Rattle.regex_hir.specs.Re.{Re}
use Rattle.exp_match.specs.Grammar.{Number, Times, Repeat, one_digit, two_digits, three_digits, star, plus, optional, exactly, at_least, between, greedy, lazy}
use Rattle.exp_match.specs.Scan.{is_digit as is_decimal}
use Rattle.exp_match.specs.Translation.{text_from}
use Rattle.exp_match.specs.Written.{config_of}
use Rattle.exp_match.specs.declared.translation.Context.TheVariants as context
use Rattle.expect_grammar.proofs.TextClasses.{given, not_empty}

number_takes : (m : ℕ) (s t : List ℕ) → Number m s t → length t < length s
number_takes m s t (one_digit a s' small) = omega arith
number_takes m s t (two_digits a b s' some small next) = omega arith
number_takes m s t (three_digits a b c s' some small next after le) = omega arith

times_take : (s t : List ℕ) → Times s t → length t < length s
times_take s t (star s') = omega arith
times_take s t (plus s') = omega arith
times_take s t (optional s') = omega arith
times_take s t (exactly m s' t' n) = omega (arith, number_takes m s' (125 ∷ t) n)
times_take s t (at_least m s' t' n) = omega (arith, number_takes m s' (44 ∷ 125 ∷ t) n)
times_take s t (between m n s' t' u low high le) = omega (arith, number_takes m s' (44 ∷ t') low, number_takes n t' (125 ∷ t) high)

pub repeat_takes : (s t : List ℕ) → Repeat s t → length t < length s
repeat_takes s t (greedy s' t' x) = times_take s t x
repeat_takes s t (lazy s' t' x) = omega (arith, times_take s (63 ∷ t) x)

-- the text of a count is its own
abbrev in_count : Text → Text
in_count = text_from context.Count

no_close : (a : ℕ) → a < 10 → eqb (48 + a) 125 ≡ false
no_close a h = ne_eqb (48 + a) 125 (omega arith)

digit_text : (a : ℕ) (s : List ℕ) → a < 10 → in_count ((48 + a) ∷ s) ≡ (48 + a) ∷ in_count s
digit_text a s h = rw (no_close a h) refl

number_text : (m : ℕ) (s t : List ℕ) → Number m s t → Number m (in_count s) (in_count t)
number_text m s t (one_digit a s' small) = subst (λ (x : Text). Number a x (in_count t)) (sym (digit_text a t small)) (one_digit a (in_count t) small)
number_text m s t (two_digits a b s' some small next) =
    subst (λ (x : Text). Number (10 * a + b) x (in_count t))
    (sym (digit_text a ((48 + b) ∷ t) small ∙ ap (λ (x : Text). (48 + a) ∷ x) (digit_text b t next))) (two_digits a b (in_count t) some small next)
number_text m s t (three_digits a b c s' some small next after le) =
    subst (λ (x : Text). Number (100 * a + 10 * b + c) x (in_count t))
    (sym (digit_text a ((48 + b) ∷ (48 + c) ∷ t) small ∙ ap (λ (x : Text). (48 + a) ∷ x) (digit_text b ((48 + c) ∷ t) next ∙ ap (λ (x : Text). (48 + b) ∷ x) (digit_text c t after))))
    (three_digits a b c (in_count t) some small next after le)

digit_holds : (a : ℕ) → a < 10 → is_decimal (48 + a) ≡ true
digit_holds a h = grind (arith, nat_tests)

number_begins : (m : ℕ) (s t : List ℕ) → Number m s t → is_decimal (get_or s 0 0) ≡ true
number_begins m s t (one_digit a s' small) = digit_holds a small
number_begins m s t (two_digits a b s' some small next) = digit_holds a small
number_begins m s t (three_digits a b c s' some small next after le) = digit_holds a small

count_text : (s : List ℕ) → is_decimal (get_or s 0 0) ≡ true → given (123 ∷ s) ≡ 123 ∷ in_count s
count_text s is = rw is refl

times_text : (s t : List ℕ) → Times s t → Times (given s) (given t)
times_text s t (star s') = star (given t)
times_text s t (plus s') = plus (given t)
times_text s t (optional s') = optional (given t)
times_text s t (exactly m s' t' n) =
    subst (λ (x : Text). Times x (given t)) (sym (count_text s' (number_begins m s' (125 ∷ t) n))) (exactly m (in_count s') (given t) (number_text m s' (125 ∷ t) n))
times_text s t (at_least m s' t' n) =
    subst (λ (x : Text). Times x (given t)) (sym (count_text s' (number_begins m s' (44 ∷ 125 ∷ t) n))) (at_least m (in_count s') (given t) (number_text m s' (44 ∷ 125 ∷ t) n))
times_text s t (between m n s' t' u low high le) =
    subst (λ (x : Text). Times x (given t)) (sym (count_text s' (number_begins m s' (44 ∷ t') low)))
    (between m n (in_count s') (in_count t') (given t) (number_text m s' (44 ∷ t') low) (number_text n t' (125 ∷ t) high) le)

-- and so is that of a repetition
pub repeat_text : (s t : List ℕ) → Repeat s t → Repeat (given s) (given t)
repeat_text s t (greedy s' t' x) = greedy (given s) (given t) (times_text s t x)
repeat_text s t (lazy s' t' x) = lazy (given s) (given t) (times_text s (63 ∷ t) x)

digit : (a : ℕ) → a < 10 → is_digit (48 + a) 10 ≡ true
digit a h = agree_below_at (λ a. is_digit (48 + a) 10) (λ _. true) 10 a refl h

no_space : (a : ℕ) → a < 10 → is_whitespace (48 + a) ≡ false
no_space a h = agree_below_at (λ a. is_whitespace (48 + a)) (λ _. false) 10 a refl h

digit_is : (a : ℕ) → a < 10 → digit_value (48 + a) ≡ a
digit_is a h = grind (arith, nat_tests)

small_count : (m : ℕ) → m ≤ 255 → nat_lt m (2 ^ 32) ≡ true
small_count m h = lt-ltb m (2 ^ 32) (omega arith)

abbrev digits_of : Text → Text × Text
digits_of s = take_run false (λ c. is_digit c 10) s

no_blank : (c : ℕ) (s : Text) → is_whitespace c ≡ false → take_run false is_whitespace (c ∷ s) ≡ ([], c ∷ s)
unfolding take_run first
no_blank c s h = take_up_to_stops false (length (c ∷ s)) is_whitespace (c ∷ s) h

no_digits : (c : ℕ) (s : Text) → is_digit c 10 ≡ false → digits_of (c ∷ s) ≡ ([], c ∷ s)
unfolding take_run first
no_digits c s h = take_up_to_stops false (length (c ∷ s)) (λ c. is_digit c 10) (c ∷ s) h

more_digits : (c : ℕ) (s digits rest : Text) → is_digit c 10 ≡ true → digits_of s ≡ (digits, rest) → digits_of (c ∷ s) ≡ (c ∷ digits, rest)
unfolding take_run first skip
more_digits c s digits rest h e =
    take_up_to_goes false (suc (length s)) (length s) (λ c. is_digit c 10) (c ∷ s) c refl refl h ∙ ap (λ (p : Text × Text). (c ∷ p.0, p.1)) e

-- digits up to a character that is no digit and no space
number_of : (m c d : ℕ) (s digits t : Text) → is_whitespace d ≡ false → digits_of (d ∷ s) ≡ (digits, c ∷ t) → is_empty digits ≡ false → value 10 digits ≡ m → m ≤ 255
    → is_whitespace c ≡ false → decimal false (d ∷ s) ≡ Some (m, c ∷ t)
unfolding decimal
number_of m c d s digits t first_dense run some value_is small dense =
    rw (no_blank d s first_dense, run, some, value_is, small_count m small, no_blank c t dense) refl

number_is : (m c : ℕ) (s t : Text) → Number m s (c ∷ t) → is_digit c 10 ≡ false → is_whitespace c ≡ false → decimal false s ≡ Some (m, c ∷ t)
number_is m c s t (one_digit a s' small) ends dense =
    number_of m c (48 + a) (c ∷ t) ((48 + a) ∷ []) t (no_space a small) (more_digits (48 + a) (c ∷ t) [] (c ∷ t) (digit a small) (no_digits c t ends)) (not_empty (48 + a) [])
    (rw (digit_is a small) (omega arith)) (omega arith) dense
number_is m c s t (two_digits a b s' some small next) ends dense =
    let tail = more_digits (48 + b) (c ∷ t) [] (c ∷ t) (digit b next) (no_digits c t ends) in
    number_of m c (48 + a) ((48 + b) ∷ c ∷ t) ((48 + a) ∷ (48 + b) ∷ []) t (no_space a small)
    (more_digits (48 + a) ((48 + b) ∷ c ∷ t) ((48 + b) ∷ []) (c ∷ t) (digit a small) tail) (not_empty (48 + a) ((48 + b) ∷ []))
    (rw (digit_is a small, digit_is b next) (omega arith)) (omega arith) dense
number_is m c s t (three_digits a b d s' some small next after le) ends dense =
    let tail = more_digits (48 + d) (c ∷ t) [] (c ∷ t) (digit d after) (no_digits c t ends) in
    let tails = more_digits (48 + b) ((48 + d) ∷ c ∷ t) ((48 + d) ∷ []) (c ∷ t) (digit b next) tail in
    number_of m c (48 + a) ((48 + b) ∷ (48 + d) ∷ c ∷ t) ((48 + a) ∷ (48 + b) ∷ (48 + d) ∷ []) t (no_space a small)
    (more_digits (48 + a) ((48 + b) ∷ (48 + d) ∷ c ∷ t) ((48 + b) ∷ (48 + d) ∷ []) (c ∷ t) (digit a small) tails) (not_empty (48 + a) ((48 + b) ∷ (48 + d) ∷ []))
    (rw (digit_is a small, digit_is b next, digit_is d after) (omega arith)) le dense

no_brace : (a : ℕ) → a < 10 → eqb (48 + a) 125 ≡ false
no_brace a h = ne_eqb (48 + a) 125 (omega arith)

number_head : (m : ℕ) (s t : List ℕ) → Number m s t → is_at "}" s ≡ false
unfolding first
number_head m s t (one_digit a s' small) = no_brace a small
number_head m s t (two_digits a b s' some small next) = no_brace a small
number_head m s t (three_digits a b c s' some small next after le) = no_brace a small

no_lazy : (t : Text) → is_at "?*+{" t ≡ false → is_at "?" t ≡ false
unfolding first
no_lazy [] h = refl
no_lazy (c ∷ t) h = (or_parts (eqb c 63) _ h).0

module _ (nocase lines : Bool) where
  -- the operator at the front sets some bounds
  record AreBounds (t u : Text) : Type 0 where
    least : ℕ
    most : Option ℕ
    are : bounds (config_of nocase lines) t ≡ Some (least, most, u)

  bounds_are : (t u : Text) → Times t u → AreBounds t u
  unfolding bounds first counted_bounds upper_bound skip
  bounds_are t u (star s') = record { least = 0; most = None; are = refl }
  bounds_are t u (plus s') = record { least = 1; most = None; are = refl }
  bounds_are t u (optional s') = record { least = 0; most = Some 1; are = refl }
  bounds_are t u (exactly m s' t' n) =
      record { least = m; most = Some m; are = rw (number_is m 125 s' u n refl refl, le-leb m m (le_refl m)) refl }
  bounds_are t u (at_least m s' t' n) = record { least = m; most = None; are = rw (number_is m 44 s' (125 ∷ u) n refl refl) refl }
  bounds_are t u (between m n s' t' u' low high le) =
      record { least = m; most = Some n; are = rw (number_is m 44 s' t' low refl refl, number_head n t' (125 ∷ u) high, number_is n 125 t' u high refl refl, le-leb m n le) refl }

  times_head : (t u : Text) → Times t u → is_at "?*+{" t ≡ true
  unfolding first
  times_head t u (star s') = refl
  times_head t u (plus s') = refl
  times_head t u (optional s') = refl
  times_head t u (exactly m s' t' n) = refl
  times_head t u (at_least m s' t' n) = refl
  times_head t u (between m n s' t' u' low high le) = refl

  -- what no operator follows isn't repeated
  pub once : (sub : Nested Re) (t : Text) → is_at "?*+{" t ≡ false → repetitions (config_of nocase lines) (length t + 1) sub t ≡ Some (sub, t)
  unfolding skip
  once sub t h = repetitions_end (config_of nocase lines) (length t + 1) (length t) sub t t (omega arith) refl h

  pub record IsRepeated (sub : Nested Re) (t u : Text) : Type 0 where
    pub part : Nested Re
    pub is : repetitions (config_of nocase lines) (length t + 1) sub t ≡ Some (part, u)
    pub depth : part.depth ≤ sub.depth + 1

  -- one operator repeats by itself, with or without a `?` behind it
  times_repeat : (sub : Nested Re) (t u w : Text) → Times t u → (is_lazy : Bool) → is_at "?" u ≡ is_lazy → cond is_lazy (drop 1 u) u ≡ w → is_at "?*+{" w ≡ false → IsRepeated sub t w
  unfolding skip
  times_repeat sub t u w r is_lazy mark left h =
      let b = bounds_are t u r in
      let some : length t ≡ suc (length t - 1) = omega (arith, times_take t u r) in
      let part = repeated_by (config_of nocase lines) sub (b.least, b.most, u) in
      record {
        part = part;
        is = repetitions_go (config_of nocase lines) (length t + 1) (length t) sub t t (omega arith) refl (times_head t u r)
            ∙ ap (λ o. o >>= more_repetitions (config_of nocase lines) (length t) sub) b.are
            ∙ ap (λ (l : Bool). repetitions (config_of nocase lines) (length t) part (cond l (drop 1 u) u)) mark
            ∙ ap (λ (x : Text). repetitions (config_of nocase lines) (length t) part x) left
            ∙ repetitions_end (config_of nocase lines) (length t) (length t - 1) part w w some refl h;
        depth = omega arith;
      }

  pub repeated : (sub : Nested Re) (t u : Text) → Repeat t u → is_at "?*+{" u ≡ false → IsRepeated sub t u
  unfolding first
  repeated sub t u (greedy t' u' r) h = times_repeat sub t u u r false (no_lazy u h) refl h
  repeated sub t u (lazy t' u' r) h = times_repeat sub t (63 ∷ u) u r true refl refl h
