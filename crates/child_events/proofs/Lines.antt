-- The lines of a log.
use Rattle.std.proofs.Common.{◌≡◌, ℕ, ◌+◌, ◌<◌, List, [], ◌∷◌, ◌++◌, length, Bool, true, false, Option, Some, None, Result, Ok, Err, refl, sym, ap, ◌∙◌, append_assoc, arith}
use Rattle.std.specs.Prelude.{⊤, ◌==◌, ◌||◌, codes, if◌then◌else◌}
use Rattle.std.specs.Str.{bytes_eq}
use Rattle.std.proofs.lemmas.Bool.Decides.{nat_tests}
use Rattle.child_events.specs.declared.child_numbers.ChildNumbers.{ChildNumbers}
use Rattle.child_events.specs.declared.event.Cause.{Cause}
use Rattle.child_events.specs.declared.event.Answer.TheVariants as answer
use Rattle.child_events.specs.declared.event.What.{What}
use Rattle.child_events.specs.declared.event.What.TheVariants as what
use Rattle.child_events.specs.declared.event.HallEvent.{HallEvent}
use Rattle.child_events.specs.declared.faults.LogFault.{LogFault}
use Rattle.child_events.specs.declared.faults.LogFault.TheVariants as fault
use Rattle.child_events.specs.declared.version.Version.{Version}
use Rattle.child_events.specs.Reading.{in_front, parts, line_event, numbers_in, ended, last_part, none_where, with_line, lines_events, ◌>>=◌, fields_event, any_empty, failed_event, stamp_of, stamped, or_fault, what_failed, cause_of, piece_of, number_within, Reads}
use Rattle.child_events.specs.Judging.{front_of}

pub front_none : (rest : Result (List HallEvent) LogFault) → front_of [] rest ≡ rest
front_none (Ok es) = refl
front_none (Err f) = refl

pub front_more : (front : List HallEvent) (e : HallEvent) (rest : Result (List HallEvent) LogFault) → front_of front (rest >>= λ es. Ok (e ∷ es)) ≡ front_of (front ++ e ∷ []) rest
front_more front e (Ok es) = ap Ok (sym (append_assoc front (e ∷ []) es))
front_more front e (Err f) = refl

-- there is always a first part
pub parts_some : (sep : ℕ) (bs : List ℕ) → 0 < length (parts sep bs)
parts_some sep [] = omega arith
parts_some sep (b ∷ bs) = by_test (b == sep)
  where
    front_some : (vs : List (List ℕ)) → 0 < length (in_front b vs)
    front_some [] = omega arith
    front_some (v ∷ vs) = omega arith

    by_test : (t : Bool) → 0 < length (if t then [] ∷ parts sep bs else in_front b (parts sep bs))
    by_test true = omega arith
    by_test false = front_some (parts sep bs)

-- a part with others behind it is a line
pub lines_more : (v : Version) (n : ℕ) (w : List ℕ) (vs : List (List ℕ)) → 0 < length vs → lines_events v n (w ∷ vs) ≡ with_line v n w (line_event (numbers_in v) n w) vs (lines_events v (n + 1) vs)
lines_more v n w [] some = absurd (omega arith)
lines_more v n w (x ∷ vs) some = refl

module _ (v : Version) (front : List HallEvent) (n : ℕ) (rest line behind : List ℕ) (all : Result (List HallEvent) LogFault)
    (split : parts 10 rest ≡ line ∷ parts 10 behind) (same : front_of front (lines_events v n (parts 10 rest)) ≡ all) where
  -- the first line of those that are left, by what it is read as
  at_line : (r : Result HallEvent LogFault) → line_event (numbers_in v) n line ≡ r → all ≡ front_of front (with_line v n line r (parts 10 behind) (lines_events v (n + 1) (parts 10 behind)))
  at_line r is =
      sym same
      ∙ ap (front_of front) (
      ap (lines_events v n) split ∙ lines_more v n line (parts 10 behind) (parts_some 10 behind)
      ∙ ap (λ (x : Result HallEvent LogFault). with_line v n line x (parts 10 behind) (lines_events v (n + 1) (parts 10 behind))) is
      )

  -- one line on
  pub line_read : (e : HallEvent) → line_event (numbers_in v) n line ≡ Ok e → front_of (front ++ e ∷ []) (lines_events v (n + 1) (parts 10 behind)) ≡ all
  line_read e read = sym (front_more front e (lines_events v (n + 1) (parts 10 behind))) ∙ sym (at_line (Ok e) read)

  -- the first line that is no event: the total, or a bad one
  pub line_ended : (f : LogFault) (r : Result ⊤ LogFault) → line_event (numbers_in v) n line ≡ Err f → ended v n line f (parts 10 behind) ≡ r → all ≡ front_of front (none_where r)
  line_ended f r read ends = at_line (Err f) read ∙ ap (λ (q : Result ⊤ LogFault). front_of front (none_where q)) ends

-- what stands behind the last newline
pub end_read : (v : Version) (front : List HallEvent) (n : ℕ) (rest : List ℕ) (all : Result (List HallEvent) LogFault) (r : Result ⊤ LogFault) → parts 10 rest ≡ rest ∷ [] → front_of front (lines_events v n (parts 10 rest)) ≡ all → last_part v n rest ≡ r → all ≡ front_of front (none_where r)
end_read v front n rest all r split same ends =
    sym same ∙ ap (λ (vs : List (List ℕ)). front_of front (lines_events v n vs)) split ∙ ap (λ (r : Result ⊤ LogFault). front_of front (none_where r)) ends

pub either_way : (t : Bool) (r : Result HallEvent LogFault) → (if t then r else r) ≡ r
either_way true r = refl
either_way false r = refl

-- a sixth field
pub crowded : (nums : ChildNumbers) (n : ℕ) (line k s c m x r₁ r₂ r₃ r₄ r₅ : List ℕ) →
    parts 32 line ≡ k ∷ parts 32 r₁ → parts 32 r₁ ≡ s ∷ parts 32 r₂ → parts 32 r₂ ≡ c ∷ parts 32 r₃ → parts 32 r₃ ≡ m ∷ parts 32 r₄ → parts 32 r₄ ≡ x ∷ parts 32 r₅ →
    fields_event nums n (parts 32 line) ≡ Err (fault.Shape n)
crowded nums n line k s c m x r₁ r₂ r₃ r₄ r₅ e₁ e₂ e₃ e₄ e₅ =
    ap (fields_event nums n) (
    e₁
    ∙ ap (λ (vs : List (List ℕ)). k ∷ vs) (
    e₂ ∙ ap (λ (vs : List (List ℕ)). s ∷ vs) (e₃ ∙ ap (λ (vs : List (List ℕ)). c ∷ vs) (e₄ ∙ ap (λ (vs : List (List ℕ)). m ∷ vs) e₅))
    )
    )
    ∙ more (parts 32 r₅) (parts_some 32 r₅)
  where
    more : (vs : List (List ℕ)) → 0 < length vs → fields_event nums n (k ∷ s ∷ c ∷ m ∷ x ∷ vs) ≡ Err (fault.Shape n)
    more [] some = absurd (omega arith)
    more (v ∷ vs) some = either_way (any_empty (k ∷ s ∷ c ∷ m ∷ x ∷ v ∷ vs)) (Err (fault.Shape n))

-- a reading that no want of memory can end
pub reads_exact : {A : Type 0} (r m : Result A LogFault) → r ≡ m → Reads r m
reads_exact (Ok x) m same = sym same
reads_exact (Err f) m same = λ other. sym same

-- a first word that is empty says nothing
no_kind : (o : Option Cause) → what_failed [] o ≡ None
no_kind None = refl
no_kind (Some c) = refl

pub some_kind : (b : ℕ) (k : List ℕ) → (length (b ∷ k) == 0) ≡ false
some_kind b k = grind (arith, nat_tests)

-- of five fields, neither a piece nor a status
pub fields_failed : (nums : ChildNumbers) (n : ℕ) (k s c m x : List ℕ) → any_empty (s ∷ c ∷ m ∷ []) ≡ false → (length x == 0) ≡ false → bytes_eq k (codes "out") ≡ false → bytes_eq k (codes "exit") ≡ false →
    fields_event nums n (k ∷ s ∷ c ∷ m ∷ x ∷ []) ≡ failed_event n k x (stamp_of nums n s c m)
fields_failed nums n [] s c m x full held out exit = sym (ap (λ (o : Option What). or_fault (fault.Shape n) o >>= λ w. stamped (stamp_of nums n s c m) (Ok w)) (no_kind (cause_of x)))
fields_failed nums n (b ∷ k) s c m x full held out exit =
    by_tests (length (b ∷ k) == 0) (length s == 0) (length c == 0) (length m == 0) (length x == 0) (bytes_eq (b ∷ k) (codes "out")) (bytes_eq (b ∷ k) (codes "exit")) (some_kind b k) full held out exit
  where
    by_tests : (z p q r t o e : Bool) → z ≡ false → (p || (q || (r || false))) ≡ false → t ≡ false → o ≡ false → e ≡ false →
        (if z || (p || (q || (r || (t || false)))) then Err (fault.Shape n)
        else if o then stamped (stamp_of nums n s c m) (piece_of n x >>= λ piece. Ok (what.Out piece))
        else if e then stamped (stamp_of nums n s c m) (number_within n x 0 255 (fault.Number n) >>= λ status. Ok (what.Answer (answer.Exit status)))
        else failed_event n (b ∷ k) x (stamp_of nums n s c m))
        ≡ failed_event n (b ∷ k) x (stamp_of nums n s c m)
    by_tests true p q r t o e y f h i j = absurd (cc)
    by_tests false true q r t o e y f h i j = absurd (cc)
    by_tests false false true r t o e y f h i j = absurd (cc)
    by_tests false false false true t o e y f h i j = absurd (cc)
    by_tests false false false false true o e y f h i j = absurd (cc)
    by_tests false false false false false true e y f h i j = absurd (cc)
    by_tests false false false false false false true y f h i j = absurd (cc)
    by_tests false false false false false false false y f h i j = refl
