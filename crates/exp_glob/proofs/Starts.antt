-- Where a run can't begin: its literal isn't there.
use Rattle.std.proofs.Common.{◌≡◌, ◌⊎◌, inl, inr, ⊎_elim, leb, le-leb, ℕ, zero, suc, ◌+◌, ◌-◌, ◌<◌, ◌≤◌, drop, take, get_or, get_or-drop, get_or-take, length-drop, length-take, Bool, true, false, ltb, eqb-true, ltb-true, List, [], ◌∷◌, length, Option, Some, None, refl, sym, ap, subst, ◌∙◌, arith}
use Rattle.std.specs.Prelude.{MatchOption, ◌||◌, ◌==◌, slice_index}
use Rattle.std.specs.Char.{is_ascii_alphabetic, to_ascii_lowercase}
use Rattle.std.specs.Int.{is_in_range}
use Rattle.std.proofs.Math.Seq.{drop-nil}
use Rattle.std.proofs.lemmas.Bool.{and_parts, and_from, or_right, cases_lt}
use Rattle.std.proofs.lemmas.Str.Ascii.{lowercase_is}
use Rattle.memchr.specs.Find.{OccursAt}
use Rattle.exp_glob.specs.declared.element.Element.{Element}
use Rattle.exp_glob.specs.declared.element.Element.TheVariants.{Star, One, End}
use Rattle.exp_glob.specs.declared.element.Single.{Single}
use Rattle.exp_glob.specs.declared.element.Single.TheVariants.{Any, Byte, Class}
use Rattle.exp_glob.specs.declared.literal.Literal.{Literal}
use Rattle.exp_glob.specs.Spans.{takes, Spans}
use Rattle.exp_glob.specs.Stars.{behind_star}
use Rattle.exp_glob.specs.Runs.{takes_at, run_end}
use Rattle.exp_glob.specs.Literals.{only_byte, byte_at, IsLiteral, AreLiterals}
use Rattle.exp_glob.proofs.Greedy.{only_if, run_first, Behind}

is_letter : (b : ℕ) → ((65 ≤ b) × (b ≤ 90)) ⊎ ((97 ≤ b) × (b ≤ 122)) → is_ascii_alphabetic b ≡ true
is_letter b (inl upper) = ap (λ t. t || is_in_range 97 122 b) (and_from (leb 65 b) (leb b 90) (le-leb 65 b upper.0) (le-leb b 90 upper.1))
is_letter b (inr lower) = or_right (is_in_range 65 90 b) (is_in_range 97 122 b) (and_from (leb 97 b) (leb b 122) (le-leb 97 b lower.0) (le-leb b 122 lower.1))

none_other : (b : ℕ) → is_ascii_alphabetic b ≡ false → ((65 ≤ b) × (b ≤ 90)) ⊎ ((97 ≤ b) × (b ≤ 122)) → ⊥
none_other b other letter = let is = is_letter b letter in absurd (cc)

-- where a byte is no letter, a byte that is the same without case is that byte
no_letter : (b c : ℕ) → is_ascii_alphabetic b ≡ false → (to_ascii_lowercase c == to_ascii_lowercase b) ≡ true → c ≡ b
no_letter b c other same =
    let stays : to_ascii_lowercase b ≡ b =
    ⊎_elim (λ (below : b < 65). (lowercase_is b).1 below)
    (λ (from : 65 ≤ b). ⊎_elim (λ (upper : b < 91). absurd (none_other b other (inl (from, omega arith)))) (λ (above : 91 ≤ b). (lowercase_is b).2 (omega arith)) (cases_lt b 91)) (cases_lt b 65) in
    let folded : to_ascii_lowercase c ≡ b = eqb-true (to_ascii_lowercase c) (to_ascii_lowercase b) same ∙ stays in
    ⊎_elim (λ (below : c < 65). sym ((lowercase_is c).1 below) ∙ folded)
    (λ (from : 65 ≤ c).
    ⊎_elim (λ (upper : c < 91).
    let raised : b ≡ c + 32 = sym folded ∙ (lowercase_is c).0 (from, omega arith) in
    absurd (none_other b other (inr (omega arith, omega arith))))
    (λ (above : 91 ≤ c). sym ((lowercase_is c).2 (omega arith)) ∙ folded) (cases_lt c 91)) (cases_lt c 65)

-- what takes one byte alone takes that byte
taken : (nocase : Bool) (single : Single) (b c : ℕ) → only_byte nocase single ≡ Some b → takes nocase single c ≡ true → c ≡ b
taken nocase Any b c is t = absurd (cc)
taken nocase (Class members) b c is t = absurd (cc)
taken false (Byte x) b c is t = let same : x ≡ b = cc in eqb-true c x t ∙ same
taken true (Byte x) b c is t = by (is_ascii_alphabetic x) refl
  where
    by : (u : Bool) → is_ascii_alphabetic x ≡ u → c ≡ b
    by true letter = absurd (cc)
    by false other = let same : x ≡ b = cc in no_letter x c other t ∙ same

module _ (nocase : Bool) (s : List ℕ) where
  -- each match of a run has its bytes
  at_byte : (es : List Element) (j k m b p : ℕ) → byte_at nocase es j ≡ Some b → run_end nocase es s k ≡ Some m → p ≡ k + j
      → (p < length s) × (slice_index s p ≡ b)
  at_byte [] j k m b p is e at = absurd (cc)
  at_byte (Star ∷ es) j k m b p is e at = absurd (cc)
  at_byte (End ∷ es) j k m b p is e at = absurd (cc)
  at_byte (One single ∷ es) zero k m b p is e at =
      let q = only_if (takes_at nocase single s k) (run_end nocase es s (k + 1)) m e in
      let t = and_parts (ltb k (length s)) (takes nocase single (get_or s k 0)) q.0 in
      let lt : k < length s = ltb-true k (length s) t.0 in
      let here : p ≡ k = omega arith in
      (omega arith, ap (λ i. slice_index s i) here ∙ taken nocase single b (get_or s k 0) is t.1)
  at_byte (One single ∷ es) (suc j) k m b p is e at =
      let q = only_if (takes_at nocase single s k) (run_end nocase es s (k + 1)) m e in
      at_byte es j (k + 1) m b p is q.1 (omega arith)

  module _ (es : List Element) (offset : ℕ) (bytes : List ℕ) (literal : IsLiteral nocase es offset bytes) (some : 0 < length bytes) where
    pub stands : (k m : ℕ) → run_end nocase es s k ≡ Some m → OccursAt s bytes (k + offset)
    stands k m e =
        let last = at_byte es (offset + (length bytes - 1)) k m (slice_index bytes (length bytes - 1)) (k + offset + (length bytes - 1)) (literal (length bytes - 1) (omega arith)) e (omega arith) in
        let within : k + offset + (length bytes - 1) < length s = last.0 in
        record {
          fits = omega arith;
          reads = λ j lt. (at_byte es (offset + j) k m (slice_index bytes j) (k + offset + j) (literal j lt) e (omega arith)).1;
        }

    -- so where the literal isn't, the run doesn't match
    pub no_start : (k : ℕ) → ¬ OccursAt s bytes (k + offset) → run_end nocase es s k ≡ None
    no_start k missing = by (run_end nocase es s k) refl
      where
        by : (o : Option ℕ) → run_end nocase es s k ≡ o → o ≡ None
        by None is = refl
        by (Some m) is = absurd (missing (stands k m is))

-- bytes stand in the part of a text behind a place
pub occurs_behind : (s bytes hay : List ℕ) (from at k : ℕ) → hay ≡ drop from s → at ≡ from + k → OccursAt s bytes at → OccursAt hay bytes k
occurs_behind s bytes hay from at k is place o =
    let fits : at + length bytes ≤ length s = o.fits in
    let rest : length hay ≡ length s - from = ap length is ∙ length-drop from s in
    record {
      fits = omega arith;
      reads = λ j lt.
          ap (λ l. slice_index l (k + j)) is ∙ (get_or-drop from s (k + j) 0 ∙ (ap (λ i. slice_index s i) (omega arith) ∙ o.reads j lt));
    }

-- and in the part before one
pub occurs_before : (s bytes hay : List ℕ) (end k : ℕ) → hay ≡ take end s → k + length bytes ≤ end → OccursAt s bytes k → OccursAt hay bytes k
occurs_before s bytes hay end k is within o =
    let fits : k + length bytes ≤ length s = o.fits in
    let front : length hay ≡ length (take end s) = ap length is in
    record {
      fits = omega (arith, length-take end s);
      reads = λ j lt. ap (λ l. slice_index l (k + j)) is ∙ (get_or-take end s (k + j) 0 (omega arith) ∙ o.reads j lt);
    }

-- a match has the literal of each run
pub has_literal : (nocase : Bool) (s : List ℕ) (es : List Element) (ls rest : List Literal) (l : Literal) (i a b : ℕ) → AreLiterals nocase es ls
    → drop i ls ≡ l ∷ rest → 0 < length l.bytes.items → Spans nocase es s a b → (k : ℕ) × OccursAt s l.bytes.items k
has_literal nocase s es [] rest l zero a b are is some h = absurd (cc)
has_literal nocase s es [] rest l (suc i) a b are is some h = absurd (cc)
has_literal nocase s es (l' ∷ ls) rest l zero a b are is some h =
    let same : l' ≡ l = cc in
    let p = run_first nocase s es a b h in
    (a + l.offset, stands nocase s es l.offset l.bytes.items (subst (λ (x : Literal). IsLiteral nocase es x.offset x.bytes.items) same are.0) some a p.0 p.1)
has_literal nocase s es (l' ∷ ls) rest l (suc i) a b are is some h =
    let p = run_first nocase s es a b h in
    by (behind_star es) p.0 p.2 are.1 (λ more m later t. has_literal nocase s more ls rest l i m b later is some t)
  where
    by : (o : Option (List Element)) (m : ℕ) → Behind nocase s o m b → MatchOption o (ls ≡ []) (λ more. AreLiterals nocase more ls)
        → ((more : List Element) (m : ℕ) → AreLiterals nocase more ls → Spans nocase more s m b → (k : ℕ) × OccursAt s l.bytes.items k)
        → (k : ℕ) × OccursAt s l.bytes.items k
    by None m behind none later = let left : drop i ls ≡ [] = ap (drop i) none ∙ drop-nil i in absurd (cc)
    by (Some more) m behind are later = later more behind.0 are behind.3
