-- White space, ends of commands and comments: what the rules derive is passed over, and what is passed over is derived.
use Rattle.std.proofs.Common.{◌≡◌, ℕ, ◌+◌, Bool, true, false, ◌&&◌, ◌||◌, List, [], ◌∷◌, drop, Option, Some, None, Result, Ok, Err, refl, sym, ap, ◌∙◌, subst, eqb, arith}
use Rattle.std.proofs.lemmas.Bool.{eqb-true, cond_both}
use Rattle.tcl_words.specs.declared.faults.WordFault.{WordFault}
use Rattle.tcl_words.specs.Lists.{begins_with, plus}
use Rattle.tcl_words.specs.Backslash.{blanks}
use Rattle.tcl_words.specs.Commands.{Inside, is_blank, ends_command, is_gap, is_continued, gap_at, comment_len, start, start_step, start_at, nested_script, script_step, more_bytes}
use Rattle.tcl_words.specs.declared.faults.WordFault.TheVariants.{MissingBracket}
use Rattle.tcl_words.proofs.Readings.{reading_step, reading_end}
use Rattle.tcl_words.proofs.ListGraph.{course_induction}
use Rattle.tcl_words.proofs.Closings.{plus-plus, plus-zero}
use Rattle.tcl_words.proofs.Runs.{more-more, more-none}
use Rattle.tcl_grammar.specs.CommandRules.{White, Before}
use Rattle.tcl_grammar.proofs.Spans.{Took, drop_cons, other_byte, test_other, both_rest, both_within, blanks_of, blanks_took, comment_of, comment_took}

-- a byte for which a test holds is none for which it doesn't
pub apart : (test : ℕ → Bool) (b c : ℕ) → test b ≡ true → test c ≡ false → eqb b c ≡ false
apart test b c h dark = by (eqb b c) refl
  where
    by : (t : Bool) → eqb b c ≡ t → t ≡ false
    by true e = let yes : test c ≡ true = sym (ap test (eqb-true b c e)) ∙ h in absurd (cc)
    by false e = refl

pub neither : (a b : Bool) → a || b ≡ false → (a ≡ false) × (b ≡ false)
neither true b e = absurd (cc)
neither false b e = (refl, e)

pub begins : (c : ℕ) (s : List ℕ) → begins_with c s ≡ true → s ≡ c ∷ drop 1 s
begins c [] h = absurd (cc)
begins c (b ∷ s) h = ap (λ (x : ℕ). x ∷ s) (eqb-true b c h)

pub both_true : (a b : Bool) → a && b ≡ true → (a ≡ true) × (b ≡ true)
both_true true b e = (refl, e)
both_true false b e = absurd (cc)

-- ---- A gap

-- A text begins with white space that is gone over.
abbrev pub GapAt : Bool → List ℕ → List ℕ → Type 0
GapAt first [] r = ⊥
GapAt first (b ∷ s) r = Took (λ n. Some (n, first)) (gap_at b s first) s r × (ends_command b ≡ false) × (eqb b 93 ≡ false)

pub white_gap : (first : Bool) (s r : List ℕ) → White s r → GapAt first s r
white_gap first s r (White.blank b s' h) =
    let newline = apart is_blank b 10 h refl in
    let semicolon = apart is_blank b 59 h refl in
    let dark : ends_command b ≡ false = rw (newline, semicolon) refl in
    (record { n = 0; is = rw (dark, h) refl; rest = refl; within = omega arith }, dark, apart is_blank b 93 h refl)
white_gap first s r (White.line s' t r' span) =
    let k = blanks_took s' t r span in
    (record { n = 1 + k.n; is = ap (λ (n : ℕ). Some (1 + n, first)) k.is; rest = k.rest ∙ sym (drop_cons 10 k.n s'); within = omega (arith, k.within) }, refl, refl)

line_white : (b : ℕ) (s : List ℕ) → is_continued b s ≡ true → White (b ∷ s) (drop (1 + blanks (drop 1 s)) s)
line_white b s h =
    let p = both_true (eqb b 92) (begins_with 10 s) h in
    let s' : List ℕ = drop 1 s in
    let whole : s ≡ 10 ∷ s' = begins 10 s p.1 in
    let white : White (92 ∷ 10 ∷ s') (drop (blanks s') s') = White.line s' _ _ (blanks_of s') in
    let behind : drop (blanks s') s' ≡ drop (1 + blanks s') s = sym (drop_cons 10 (blanks s') s') ∙ ap (drop (1 + blanks s')) (sym whole) in
    subst (λ (x : ℕ). White (x ∷ s) (drop (1 + blanks s') s)) (sym (eqb-true b 92 p.0))
    (subst (λ x. White (92 ∷ x) (drop (1 + blanks s') s)) (sym whole) (subst (White (92 ∷ 10 ∷ s')) behind white))

-- what may stand at a byte
pub gap_cases : (b : ℕ) (s : List ℕ) (first : Bool) (P : Option (ℕ × Bool) → Type 0)
    → (ends_command b ≡ true → P (Some (0, true)))
    → ((n : ℕ) → White (b ∷ s) (drop n s) → P (Some (n, first)))
    → (eqb b 35 && first ≡ true → P (Some (comment_len s, true)))
    → (is_gap b s ≡ false → eqb b 35 && first ≡ false → P None)
    → P (gap_at b s first)
gap_cases b s first P end white comment none =
    cond_both (ends_command b) _ _ P end
    (λ no_end. cond_both (is_blank b) _ _ P (λ t. white 0 (White.blank b s t))
    (λ no_blank. cond_both (is_continued b s) _ _ P (λ t. white (1 + blanks (drop 1 s)) (line_white b s t))
    (λ no_line. cond_both (eqb b 35 && first) _ _ P comment
    (λ no_comment. none (rw (no_blank, no_end, no_line) refl) no_comment))))

-- no gap stands there
pub no_gap : (b : ℕ) (s : List ℕ) (first : Bool) → is_gap b s ≡ false → eqb b 35 && first ≡ false → gap_at b s first ≡ None
no_gap b s first dark plain =
    let p = neither (is_blank b || ends_command b) (is_continued b s) dark in
    let q = neither (is_blank b) (ends_command b) p.0 in
    rw (q.1, q.0, p.1, plain) refl

-- ---- What stands before a command

-- A reading that goes over gaps goes over what stands before a command.
module _ {A : Type 0} (f : List ℕ → A) (add : ℕ → A → A) (none : (x : A) → add 0 x ≡ x) (join : (i j : ℕ) (x : A) → add i (add j x) ≡ add (i + j) x)
    (step : (b n : ℕ) (s : List ℕ) → eqb b 93 ≡ false → gap_at b s true ≡ Some (n, true) → f (b ∷ s) ≡ add (1 + n) (f (drop n s))) where
  abbrev Passes : List ℕ → List ℕ → Type 0
  Passes s r = Took (λ n. add n (f r)) (f s) s r

  goes_over : (b : ℕ) (s m r : List ℕ) → eqb b 93 ≡ false → Took (λ n. Some (n, true)) (gap_at b s true) s m → Passes m r → Passes (b ∷ s) r
  goes_over b s m r other gap on =
      let place : 1 + gap.n + on.n ≡ 1 + (gap.n + on.n) = omega arith in
      record {
        n = 1 + gap.n + on.n;
        is = step b gap.n s other gap.is ∙ ap (λ x. add (1 + gap.n) (f x)) (sym gap.rest) ∙ ap (add (1 + gap.n)) on.is ∙ join (1 + gap.n) on.n (f r);
        rest = both_rest s m r gap.n on.n gap.rest on.rest ∙ sym (drop_cons b (gap.n + on.n) s) ∙ ap (λ (k : ℕ). drop k (b ∷ s)) (sym place);
        within = omega (arith, both_within s m gap.n on.n gap.rest gap.within on.within);
      }

  goes_white : (s m r : List ℕ) → GapAt true s m → Passes m r → Passes s r
  goes_white [] m r gap on = absurd gap
  goes_white (b ∷ s) m r gap on = goes_over b s m r gap.2 gap.0 on

  pub before_passes : (s r : List ℕ) → Before s r → Passes s r
  before_passes s r Before.over = record { n = 0; is = sym (none (f [])); rest = refl; within = omega arith }
  before_passes s r (Before.white s' m r' w h) = goes_white s m r (white_gap true s m w) (before_passes m r h)
  before_passes s r (Before.end b s' r' e h) = goes_over b s' s' r (apart ends_command b 93 e refl) (record { n = 0; is = rw e refl; rest = refl; within = omega arith }) (before_passes s' r h)
  before_passes s r (Before.comment s' m r' c h) =
      let k = comment_took s' m c in
      goes_over 35 s' m r refl (record { n = k.n; is = ap (λ (n : ℕ). Some (n, true)) k.is; rest = k.rest; within = k.within }) (before_passes m r h)
  before_passes s r (Before.word b s' dark no_hash) = record { n = 0; is = sym (none (f (b ∷ s'))); rest = refl; within = omega arith }

-- no gap stands behind it
abbrev pub Stands : List ℕ → Type 0
Stands [] = Unit {0}
Stands (b ∷ s) = gap_at b s true ≡ None

pub before_stands : (s r : List ℕ) → Before s r → Stands r
before_stands s r Before.over = tt
before_stands s r (Before.white s' m r' w h) = before_stands m r h
before_stands s r (Before.end b s' r' e h) = before_stands s' r h
before_stands s r (Before.comment s' m r' c h) = before_stands m r h
before_stands s r (Before.word b s' dark no_hash) = let e = test_other b 35 no_hash in no_gap b s' true dark (rw e refl)

-- before each place stands something
pub record IsBefore (s : List ℕ) : Type 0 where
  pub rest : List ℕ
  pub derived : Before s rest

pub first_true : (a : Bool) → a && true ≡ false → a ≡ false
first_true true e = absurd (cc)
first_true false e = refl

before_turn : (b : ℕ) (s : List ℕ) → ((k : ℕ) → IsBefore (drop k s)) → IsBefore (b ∷ s)
before_turn b s ih =
    gap_cases b s true (λ o. IsBefore (b ∷ s))
    (λ e. record { rest = (ih 0).rest; derived = Before.end b s _ e (ih 0).derived })
    (λ n w. record { rest = (ih n).rest; derived = Before.white (b ∷ s) _ _ w (ih n).derived })
    (λ t. subst (λ (x : ℕ). IsBefore (x ∷ s)) (sym (eqb-true b 35 (both_true (eqb b 35) true t).0))
    (record { rest = (ih (comment_len s)).rest; derived = Before.comment s _ _ (comment_of s) (ih (comment_len s)).derived }))
    (λ dark plain. record { rest = b ∷ s; derived = Before.word b s dark (other_byte b 35 (first_true (eqb b 35) plain)) })

pub before_of : (s : List ℕ) → IsBefore s
before_of s = course_induction None start_step (λ s _. IsBefore s) (record { rest = []; derived = Before.over }) before_turn s 0

-- ---- The two readings that go over gaps

start_next : (b : ℕ) (s : List ℕ) → start (b ∷ s) ≡ start_at (λ k. start (drop k s)) (gap_at b s true)
unfolding start
start_next b s = reading_step None start_step b s

pub start_nothing : start [] ≡ None
unfolding start
start_nothing = reading_end None start_step

pub start_here : (b : ℕ) (s : List ℕ) → gap_at b s true ≡ None → start (b ∷ s) ≡ Some 0
start_here b s e = start_next b s ∙ ap (start_at (λ k. start (drop k s))) e

start_step_is : (b n : ℕ) (s : List ℕ) → eqb b 93 ≡ false → gap_at b s true ≡ Some (n, true) → start (b ∷ s) ≡ plus (1 + n) (start (drop n s))
start_step_is b n s other e = start_next b s ∙ ap (start_at (λ k. start (drop k s))) e

pub start_passes : (s r : List ℕ) → Before s r → Took (λ n. plus n (start r)) (start s) s r
start_passes = before_passes start plus plus-zero plus-plus start_step_is

module _ (inside : Inside) where
  pub script_next : (b : ℕ) (s : List ℕ) (first : Bool) → nested_script inside (b ∷ s) first ≡ script_step inside (λ k f. nested_script inside (drop k s) f) b s first
  unfolding nested_script
  script_next b s first = ap (λ (f : Bool → Result ℕ WordFault). f first) (reading_step (λ first. Err MissingBracket) (script_step inside) b s)

  pub script_close : (s : List ℕ) (first : Bool) → nested_script inside (93 ∷ s) first ≡ Ok 1
  script_close s first = script_next 93 s first

  pub script_gap : (b n : ℕ) (s : List ℕ) (first begins : Bool) → eqb b 93 ≡ false → gap_at b s first ≡ Some (n, begins)
      → nested_script inside (b ∷ s) first ≡ more_bytes (1 + n) (nested_script inside (drop n s) begins)
  script_gap b n s first begins other e = script_next b s first ∙ rw (other, e) refl

  pub script_passes : (s r : List ℕ) → Before s r → Took (λ n. more_bytes n (nested_script inside r true)) (nested_script inside s true) s r
  script_passes = before_passes (λ s. nested_script inside s true) more_bytes more-none more-more (λ b n s other e. script_gap b n s true true other e)
