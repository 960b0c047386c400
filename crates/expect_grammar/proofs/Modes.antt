-- The rules of the words of `stty_init` say what the function of `tty` says.
use Rattle.std.proofs.Common.{◌≡◌, ◌≢◌, ℕ, ◌+◌, Bool, true, false, not, ◌||◌, List, [], ◌∷◌, length, Option, Some, None, Result, Ok, Err, refl, sym, ap, ◌∙◌, subst, eqb, codes, ⊎_elim, arith, ℤ}
use Rattle.std.proofs.lemmas.Bool.{cond_both, or_cases, eqb-true}
use Rattle.std.specs.Str.{bytes_eq}
use Rattle.tcl_expr.specs.Number.{number_of}
use Rattle.tty.specs.Modes.{switched, set_by, names_size, read_words, read, then_words, bad}
use Rattle.tty.specs.declared.modes.BadMode.{BadMode}
use Rattle.tty.specs.declared.modes.Modes.{Modes}
use Rattle.expect_grammar.specs.ModeRules.{Switches, Sets, IsSize, Leave, BadWord, SetModes, FirstBad, index, all_on}
use Rattle.expect_grammar.proofs.Words.{found, either, never}

-- ---- One word

switched_is : (name : List ℕ) (on : Bool) (m n : Modes) → Switches name on m n → switched name on m ≡ Some n
switched_is name on m n (Switches.icanon b k) = refl
switched_is name on m n (Switches.echo b k) = refl
switched_is name on m n (Switches.icrnl b k) = refl
switched_is name on m n (Switches.opost b k) = refl
switched_is name on m n (Switches.onlcr b k) = refl
switched_is name on m n (Switches.raw b k) = refl

-- a name alone isn't one of the other words
sets_name : (name : List ℕ) (m n : Modes) → Switches name true m n → set_by name m ≡ Some n
sets_name name m n (Switches.icanon b k) = refl
sets_name name m n (Switches.echo b k) = refl
sets_name name m n (Switches.icrnl b k) = refl
sets_name name m n (Switches.opost b k) = refl
sets_name name m n (Switches.onlcr b k) = refl
sets_name name m n (Switches.raw b k) = refl

set_is : (word : List ℕ) (m n : Modes) → Sets word m n → set_by word m ≡ Some n
set_is word m n (Sets.on name k l h) = sets_name word m n h
set_is word m n (Sets.off name k l h) = switched_is name false m n h
set_is word m n (Sets.cooked k) = refl
set_is word m n (Sets.sane k) = refl

size_is : (word : List ℕ) → IsSize word → names_size word ≡ true
size_is word IsSize.rows = refl
size_is word IsSize.cols = refl
size_is word IsSize.columns = refl

no_size : (word : List ℕ) (m n : Modes) → Sets word m n → names_size word ≡ false
no_size word m n (Sets.on name k l (Switches.icanon b j)) = refl
no_size word m n (Sets.on name k l (Switches.echo b j)) = refl
no_size word m n (Sets.on name k l (Switches.icrnl b j)) = refl
no_size word m n (Sets.on name k l (Switches.opost b j)) = refl
no_size word m n (Sets.on name k l (Switches.onlcr b j)) = refl
no_size word m n (Sets.on name k l (Switches.raw b j)) = refl
no_size word m n (Sets.off name k l h) = refl
no_size word m n (Sets.cooked k) = refl
no_size word m n (Sets.sane k) = refl

is_size : (word : List ℕ) → names_size word ≡ true → IsSize word
is_size word e =
    ⊎_elim (λ z. either word (codes "rows") (codes "cols") (λ w. IsSize w) IsSize.rows IsSize.cols z) (found word (codes "columns") (λ w. IsSize w) IsSize.columns)
    (or_cases (bytes_eq word (codes "rows") || bytes_eq word (codes "cols")) (bytes_eq word (codes "columns")) e)

-- what the function sets, the rules do
abbrev Switched : List ℕ → Bool → Modes → Option Modes → Type 0
Switched name on m None = Unit {0}
Switched name on m (Some n) = Switches name on m n

is_switched : (name : List ℕ) (on : Bool) (m : Modes) → Switched name on m (switched name on m)
is_switched name on m =
    cond_both (bytes_eq name (codes "icanon")) _ _ (Switched name on m) (found name (codes "icanon") (λ w. Switches w on m (record m { icanon = on })) (Switches.icanon on m))
    (λ a. cond_both (bytes_eq name (codes "echo")) _ _ (Switched name on m) (found name (codes "echo") (λ w. Switches w on m (record m { echo = on })) (Switches.echo on m))
    (λ b. cond_both (bytes_eq name (codes "icrnl")) _ _ (Switched name on m) (found name (codes "icrnl") (λ w. Switches w on m (record m { icrnl = on })) (Switches.icrnl on m))
    (λ c. cond_both (bytes_eq name (codes "opost")) _ _ (Switched name on m) (found name (codes "opost") (λ w. Switches w on m (record m { opost = on })) (Switches.opost on m))
    (λ d. cond_both (bytes_eq name (codes "onlcr")) _ _ (Switched name on m) (found name (codes "onlcr") (λ w. Switches w on m (record m { onlcr = on })) (Switches.onlcr on m))
    (λ e. cond_both (bytes_eq name (codes "raw")) _ _ (Switched name on m)
    (found name (codes "raw") (λ w. Switches w on m (record m { icanon = not on; icrnl = not on; opost = not on })) (Switches.raw on m)) (λ f. tt))))))

abbrev SetBy : List ℕ → Modes → Option Modes → Type 0
SetBy word m None = Unit {0}
SetBy word m (Some n) = Sets word m n

of_on : (name : List ℕ) (m : Modes) (o : Option Modes) → Switched name true m o → SetBy name m o
of_on name m None h = tt
of_on name m (Some n) h = Sets.on name m n h

of_off : (name : List ℕ) (m : Modes) (o : Option Modes) → Switched name false m o → SetBy (45 ∷ name) m o
of_off name m None h = tt
of_off name m (Some n) h = Sets.off name m n h

is_set : (word : List ℕ) (m : Modes) → SetBy word m (set_by word m)
is_set [] m = tt
is_set (b ∷ s) m =
    cond_both (eqb b 45) _ _ (SetBy (b ∷ s) m)
    (λ e. subst (λ (c : ℕ). SetBy (c ∷ s) m (switched s false m)) (sym (eqb-true b 45 e)) (of_off s m (switched s false m) (is_switched s false m)))
    (λ d. cond_both (bytes_eq (b ∷ s) (codes "cooked")) _ _ (SetBy (b ∷ s) m)
    (found (b ∷ s) (codes "cooked") (λ w. Sets w m (record m { icanon = true; icrnl = true; opost = true })) (Sets.cooked m))
    (λ c. cond_both (bytes_eq (b ∷ s) (codes "sane")) _ _ (SetBy (b ∷ s) m) (found (b ∷ s) (codes "sane") (λ w. Sets w m all_on) (Sets.sane m))
    (λ n. of_on (b ∷ s) m (switched (b ∷ s) true m) (is_switched (b ∷ s) true m))))

-- whether a word sets modes doesn't depend on the modes
record SwitchesSome (name : List ℕ) (on : Bool) (m : Modes) : Type 0 where
  modes : Modes
  is : Switches name on m modes

record SetsSome (word : List ℕ) (m : Modes) : Type 0 where
  modes : Modes
  is : Sets word m modes

switches_all : (name : List ℕ) (on : Bool) (m n k : Modes) → Switches name on n k → SwitchesSome name on m
switches_all name on m n k (Switches.icanon b j) = record { modes = _; is = Switches.icanon on m }
switches_all name on m n k (Switches.echo b j) = record { modes = _; is = Switches.echo on m }
switches_all name on m n k (Switches.icrnl b j) = record { modes = _; is = Switches.icrnl on m }
switches_all name on m n k (Switches.opost b j) = record { modes = _; is = Switches.opost on m }
switches_all name on m n k (Switches.onlcr b j) = record { modes = _; is = Switches.onlcr on m }
switches_all name on m n k (Switches.raw b j) = record { modes = _; is = Switches.raw on m }

sets_all : (word : List ℕ) (m n k : Modes) → Sets word n k → SetsSome word m
sets_all word m n k (Sets.on name i j h) = let s = switches_all name true m n k h in record { modes = s.modes; is = Sets.on name m s.modes s.is }
sets_all word m n k (Sets.off name i j h) = let s = switches_all name false m n k h in record { modes = s.modes; is = Sets.off name m s.modes s.is }
sets_all word m n k (Sets.cooked j) = record { modes = _; is = Sets.cooked m }
sets_all word m n k (Sets.sane j) = record { modes = _; is = Sets.sane m }

by_other : (word : List ℕ) (m n k : Modes) → Sets word n k → set_by word m ≢ None
by_other word m n k s e = let t = sets_all word m n k s in let is = sym (set_is word m t.modes t.is) ∙ e in cc

-- ---- All words

stands_alone : (word : List ℕ) (rest : List (List ℕ)) (at : ℕ) (m : Modes) → names_size word ≡ false
    → read_words None at (word ∷ rest) m ≡ then_words at (set_by word m) (read_words None (at + 1) rest)
stands_alone word rest at m e = rw e refl

of_size : (word : List ℕ) (rest : List (List ℕ)) (at : ℕ) (m : Modes) → IsSize word → read_words None at (word ∷ rest) m ≡ read_words (Some at) (at + 1) rest m
of_size word rest at m s = rw (size_is word s) refl

numbered : (number : List ℕ) (rest : List (List ℕ)) (at size : ℕ) (m : Modes) (v : ℤ) → number_of number ≡ Some v
    → read_words (Some size) at (number ∷ rest) m ≡ read_words None (at + 1) rest m
numbered number rest at size m v e = rw e refl

left : (words : List (List ℕ)) (m o : Modes) → Leave words m o → (at : ℕ) → read_words None at words m ≡ Ok o
left words m o (Leave.end k) at = refl
left words m o (Leave.mode word rest k n j s h) at =
    stands_alone word rest at m (no_size word m n s) ∙ ap (λ x. then_words at x (read_words None (at + 1) rest)) (set_is word m n s) ∙ left rest n o h (at + 1)
left words m o (Leave.size word number rest v k j s e h) at =
    of_size word (number ∷ rest) at m s ∙ numbered number rest (at + 1) at m v e ∙ left rest m o h (at + 1 + 1)

not_size : (word : List ℕ) → ¬ IsSize word → names_size word ≡ false
not_size word other = by (names_size word) refl
  where
    by : (b : Bool) → names_size word ≡ b → b ≡ false
    by true e = absurd (other (is_size word e))
    by false e = refl

module _ (all : List (List ℕ)) where
  abbrev At : ℕ → List (List ℕ) → Type 0
  At at words = at + length words ≡ length all

  bad_at : (at : ℕ) (words : List (List ℕ)) → At at words → bad at ≡ bad (index all words)
  bad_at at words e = let i : at ≡ index all words = omega (arith, e) in ap (λ (k : ℕ). bad k) i

  next : (at : ℕ) (word : List ℕ) (rest : List (List ℕ)) → At at (word ∷ rest) → At (at + 1) rest
  next at word rest e = omega (arith, e)

  -- what the words behind a bad one are isn't asked
  sets_none : (word : List ℕ) (at : ℕ) (m : Modes) (more : Modes → Result Modes BadMode) → ((k n : Modes) → ¬ Sets word k n) → then_words at (set_by word m) more ≡ bad at
  sets_none word at m more none = by (set_by word m) (is_set word m)
    where
      by : (o : Option Modes) → SetBy word m o → then_words at o more ≡ bad at
      by None h = refl
      by (Some n) h = absurd (none m n h)

  sets_some : (word : List ℕ) (m : Modes) (o : Option Modes) → set_by word m ≡ o → (k n : Modes) → Sets word k n → (at i : ℕ) (more : Modes → Result Modes BadMode)
      → ((j : Modes) → more j ≡ bad i) → then_words at o more ≡ bad i
  sets_some word m None e k n s at i more h = absurd (by_other word m k n s e)
  sets_some word m (Some j) e k n s at i more h = h j

  faulted : (words : List (List ℕ)) (i : ℕ) → BadWord all words i → (at : ℕ) (m : Modes) → At at words → read_words None at words m ≡ bad i
  faulted words i (BadWord.unknown word rest size none) at m e =
      stands_alone word rest at m (not_size word size) ∙ sets_none word at m (read_words None (at + 1) rest) none ∙ bad_at at words e
  faulted words i (BadWord.last word s) at m e = of_size word [] at m s ∙ bad_at at words e
  faulted words i (BadWord.no_number word other rest s none) at m e = of_size word (other ∷ rest) at m s ∙ rw none refl ∙ bad_at at words e
  faulted words i (BadWord.mode word rest k n j s h) at m e =
      stands_alone word rest at m (no_size word k n s)
      ∙ sets_some word m (set_by word m) refl k n s at i (read_words None (at + 1) rest) (λ o. faulted rest i h (at + 1) o (next at word rest e))
  faulted words i (BadWord.size word number rest v j s n h) at m e =
      of_size word (number ∷ rest) at m s ∙ numbered number rest (at + 1) at m v n
      ∙ faulted rest i h (at + 1 + 1) m (next (at + 1) number rest (next at word (number ∷ rest) e))

pub modes_is : (words : List (List ℕ)) (m : Modes) → SetModes words m → read words ≡ Ok m
modes_is words m h = left words all_on m h 0

pub bad_word_is : (words : List (List ℕ)) (i : ℕ) → FirstBad words i → read words ≡ bad i
bad_word_is words i h = faulted words words i h 0 all_on (omega arith)

-- ---- The rules leave modes, or find a bad word

data Outcome (all : List (List ℕ)) (m : Modes) (words : List (List ℕ)) : Type 0 where
  good : (o : Modes) → Leave words m o → Outcome all m words
  wrong : (at : ℕ) → BadWord all words at → Outcome all m words

module _ (all : List (List ℕ)) where
  abbrev Outcomes : List (List ℕ) → Type 0
  Outcomes words = (m : Modes) → Outcome all m words

  -- of words, and of those behind the first
  abbrev Both : List (List ℕ) → Type 0
  Both [] = Outcomes []
  Both (word ∷ rest) = Outcomes (word ∷ rest) × Outcomes rest

  this : (words : List (List ℕ)) → Both words → Outcomes words
  this [] e = e
  this (word ∷ rest) e = e.0

  sized : (word : List ℕ) (rest : List (List ℕ)) → IsSize word → Both rest → Outcomes (word ∷ rest)
  sized word [] s e m = Outcome.wrong _ (BadWord.last word s)
  sized word (number ∷ rest) s e m = by (number_of number) refl
    where
      behind : (v : ℤ) → number_of number ≡ Some v → Outcome all m rest → Outcome all m (word ∷ number ∷ rest)
      behind v is (Outcome.good o h) = Outcome.good o (Leave.size word number rest v m o s is h)
      behind v is (Outcome.wrong at h) = Outcome.wrong at (BadWord.size word number rest v at s is h)

      by : (n : Option ℤ) → number_of number ≡ n → Outcome all m (word ∷ number ∷ rest)
      by None is = Outcome.wrong _ (BadWord.no_number word number rest s is)
      by (Some v) is = behind v is (e.1 m)

  alone : (word : List ℕ) (rest : List (List ℕ)) → ¬ IsSize word → Both rest → Outcomes (word ∷ rest)
  alone word rest size e m = by (set_by word m) refl (is_set word m)
    where
      behind : (n : Modes) → Sets word m n → Outcome all n rest → Outcome all m (word ∷ rest)
      behind n s (Outcome.good o h) = Outcome.good o (Leave.mode word rest m n o s h)
      behind n s (Outcome.wrong at h) = Outcome.wrong at (BadWord.mode word rest m n at s h)

      by : (o : Option Modes) → set_by word m ≡ o → SetBy word m o → Outcome all m (word ∷ rest)
      by None is s = Outcome.wrong _ (BadWord.unknown word rest size (λ k n t. by_other word m k n t is))
      by (Some n) is s = behind n s (this rest e n)

  first : (word : List ℕ) (rest : List (List ℕ)) (b : Bool) → names_size word ≡ b → Both rest → Outcomes (word ∷ rest)
  first word rest true is e = sized word rest (is_size word is) e
  first word rest false is e = alone word rest (λ s. never (sym (size_is word s) ∙ is)) e

  both : (words : List (List ℕ)) → Both words
  both [] = λ m. Outcome.good m (Leave.end m)
  both (word ∷ rest) = let e = both rest in (first word rest (names_size word) refl e, this rest e)

outcome : (words : List (List ℕ)) → Outcome words all_on words
outcome words = this words words (both words words) all_on

-- ---- What is read

same_modes : (m n : Modes) → ◌≡◌ {A = Result Modes BadMode} (Ok m) (Ok n) → m ≡ n
same_modes m n e = cc

same_bad : (d e : BadMode) → ◌≡◌ {A = Result Modes BadMode} (Err d) (Err e) → d ≡ e
same_bad d e is = cc

same_at : (i j : ℕ) → bad i ≡ bad j → i ≡ j
same_at i j is = ap (λ (e : BadMode). e.at) (same_bad (record { at = i }) (record { at = j }) is)

pub never_both : (words : List (List ℕ)) (m : Modes) (at : ℕ) → SetModes words m → ¬ FirstBad words at
never_both words m at h b = let is = sym (modes_is words m h) ∙ bad_word_is words at b in cc

pub one_mode : (words : List (List ℕ)) (m n : Modes) → SetModes words m → SetModes words n → m ≡ n
one_mode words m n g h = same_modes m n (sym (modes_is words m g) ∙ modes_is words n h)

pub one_bad : (words : List (List ℕ)) (i j : ℕ) → FirstBad words i → FirstBad words j → i ≡ j
one_bad words i j g h = same_at i j (sym (bad_word_is words i g) ∙ bad_word_is words j h)

pub is_modes : (words : List (List ℕ)) (m : Modes) → read words ≡ Ok m → SetModes words m
is_modes words m is = by (outcome words)
  where
    by : Outcome words all_on words → SetModes words m
    by (Outcome.good o h) = subst (λ x. SetModes words x) (same_modes o m (sym (modes_is words o h) ∙ is)) h
    by (Outcome.wrong at h) = absurd (let no = sym (bad_word_is words at h) ∙ is in cc)

pub is_bad_word : (words : List (List ℕ)) (e : BadMode) → read words ≡ Err e → FirstBad words e.at
is_bad_word words e is = by (outcome words)
  where
    by : Outcome words all_on words → FirstBad words e.at
    by (Outcome.good o h) = absurd (let no = sym (modes_is words o h) ∙ is in cc)
    by (Outcome.wrong at h) = subst (λ (i : ℕ). FirstBad words i) (same_at at e.at (sym (bad_word_is words at h) ∙ is)) h
