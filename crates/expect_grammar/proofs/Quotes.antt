-- What `regex` reads behind a backslash, and which characters aren't others.
use Rattle.std.proofs.Common.{◌≡◌, ℕ, ◌+◌, ◌*◌, ◌<◌, ◌≤◌, nat_lt, Bool, true, false, cond, ◌||◌, List, [], ◌∷◌, ◌++◌, length, Some, None, IsSomeAnd, option_map, eqb, refl, sym, subst, ap, ◌∙◌, ⊎_elim, ne_eqb, arith}
use Rattle.std.proofs.lemmas.Bool.{both_ways, cases_lt, le-leb, or_cases, or_parts, eqb-true}
use Rattle.std.proofs.lemmas.Bool.Decides.{nat_tests}
use Rattle.std.specs.Char.{digit_value}
use Rattle.std.specs.Int.{is_in_range}
use Rattle.regex_hir.specs.Text.{is_scalar}
use Rattle.regex_syntax.specs.Escapes.{Piece, character, class, assertion, escape, hex, one_letter}
use Rattle.regex_syntax.specs.Reading.{Text, first, char_of, take_up_to, skip}
use Rattle.regex_syntax.specs.Sets.{negate_if}
use Rattle.exp_match.specs.Grammar.{Escape, digits, quote, byte, unicode}
use Rattle.exp_match.specs.Scan.{quoted, control, is_quotable, is_hex, is_surrogate, is_set}
use Rattle.exp_match.specs.Translation.{escape_text, text_from}
use Rattle.exp_match.specs.Written.{config_of}
use Rattle.exp_match.specs.declared.translation.Context.{Context}
use Rattle.exp_match.specs.declared.translation.Context.TheVariants as context

-- a character that isn't of a kind is none that is
pub differs : (test : ℕ → Bool) (c d : ℕ) → test c ≡ false → test d ≡ true → eqb c d ≡ false
differs test c d isnt is = ne_eqb c d (λ e. both_ways _ isnt (ap test e ∙ is))

-- and the other way round
pub other_than : (test : ℕ → Bool) (c d : ℕ) → test c ≡ true → test d ≡ false → eqb c d ≡ false
other_than test c d is isnt = ne_eqb c d (λ e. both_ways _ isnt (ap test (sym e) ∙ is))

-- one of these characters, of which the first is tried last
abbrev pub is_one_of : List ℕ → ℕ → Bool
is_one_of [] c = false
is_one_of (d ∷ []) c = eqb c d
is_one_of (d ∷ e ∷ ds) c = is_one_of (e ∷ ds) c || eqb c d

abbrev pub HoldsOf : (ℕ → Type 0) → List ℕ → Type 0
HoldsOf P [] = Unit {0}
HoldsOf P (d ∷ ds) = P d × HoldsOf P ds

pub of_one : (P : ℕ → Type 0) (ds : List ℕ) → HoldsOf P ds → (c : ℕ) → is_one_of ds c ≡ true → P c
of_one P [] all c is = absurd (cc)
of_one P (d ∷ []) all c is = subst P (sym (eqb-true c d is)) all.0
of_one P (d ∷ e ∷ ds) all c is =
    ⊎_elim (λ (l : is_one_of (e ∷ ds) c ≡ true). of_one P (e ∷ ds) all.1 c l) (λ (r : eqb c d ≡ true). subst P (sym (eqb-true c d r)) all.0)
    (or_cases (is_one_of (e ∷ ds) c) (eqb c d) is)

-- a piece that stands for a set
abbrev pub IsClass : Piece → Type 0
IsClass (character c is_byte) = ⊥
IsClass (class set) = Unit {0}
IsClass (assertion look) = ⊥

-- the characters whose escapes are written by their numbers: `e` `<` `>`
abbrev by_number : ℕ → Bool
by_number c = (eqb c 101 || eqb c 60) || eqb c 62

-- v t r n f > < e a
abbrev lettered : List ℕ
lettered = 118 ∷ 116 ∷ 114 ∷ 110 ∷ 102 ∷ 62 ∷ 60 ∷ 101 ∷ 97 ∷ []

module _ (nocase lines : Bool) (s : List ℕ) where
  -- behind a backslash the text of c is read as the character that it stands for
  abbrev AsQuoted : ℕ → Type 0
  AsQuoted c = escape (config_of nocase lines) (escape_text c ++ s) ≡ option_map (λ v. (character v (by_number c), s)) (quoted c)

  each_lettered : HoldsOf AsQuoted lettered
  unfolding escape one_letter hex take_up_to char_of skip first
  each_lettered = (refl, (refl, (refl, (refl, (refl, (refl, (refl, (refl, (refl, tt)))))))))

  plain_quoted : (c : ℕ) → is_quotable c ≡ true → eqb c 101 ≡ false → eqb c 60 ≡ false → eqb c 62 ≡ false → AsQuoted c
  unfolding escape one_letter first
  plain_quoted c is no_e less greater =
      let other = λ (d : ℕ) (isnt : is_quotable d ≡ false). other_than is_quotable c d is isnt in
      rw (
        no_e,
        less,
        greater,
        other 120 refl,
        other 117 refl,
        other 85 refl,
        other 112 refl,
        other 80 refl,
        other 98 refl,
        other 100 refl,
        other 68 refl,
        other 115 refl,
        other 83 refl,
        other 119 refl,
        other 87 refl,
        other 65 refl,
        other 122 refl,
        other 66 refl,
        less,
        greater,
        other 97 refl,
        other 102 refl,
        other 116 refl,
        other 110 refl,
        other 114 refl,
        other 118 refl,
        is,
      ) refl

  -- each quoted character that isn't among those
  unlettered : (c v : ℕ) → is_one_of lettered c ≡ false → quoted c ≡ Some v → AsQuoted c
  unlettered c v isnt q =
      let a = or_parts _ (eqb c 118) isnt in
      let b = or_parts _ (eqb c 116) a.0 in
      let d = or_parts _ (eqb c 114) b.0 in
      let e = or_parts _ (eqb c 110) d.0 in
      let f = or_parts _ (eqb c 102) e.0 in
      let g = or_parts _ (eqb c 62) f.0 in
      let h = or_parts _ (eqb c 60) g.0 in
      let i = or_parts (eqb c 97) (eqb c 101) h.0 in
      let none : control c ≡ None = rw (i.0, i.1, f.1, e.1, d.1, b.1, a.1) refl in
      by (is_quotable c) refl none i.1 h.1 g.1
    where
      by : (t : Bool) → is_quotable c ≡ t → control c ≡ None → eqb c 101 ≡ false → eqb c 60 ≡ false → eqb c 62 ≡ false → AsQuoted c
      by true is none no_e less greater = plain_quoted c is no_e less greater
      by false is none no_e less greater =
          let bad : None ≡ Some v = sym (ap (λ (t : Bool). cond t (Some c) (control c)) is ∙ none) ∙ q in
          absurd (cc)

  as_quoted : (c v : ℕ) → quoted c ≡ Some v → AsQuoted c
  as_quoted c v q = by (is_one_of lettered c) refl
    where
      by : (t : Bool) → is_one_of lettered c ≡ t → AsQuoted c
      by true is = of_one AsQuoted lettered each_lettered c is
      by false isnt = unlettered c v isnt q

  pub quoted_is : (c v : ℕ) → quoted c ≡ Some v → escape (config_of nocase lines) (escape_text c ++ s) ≡ Some (character v (by_number c), s)
  quoted_is c v q = as_quoted c v q ∙ ap (option_map (λ v. (character v (by_number c), s))) q

  abbrev AsSet : ℕ → Type 0
  AsSet c = IsSomeAnd (escape (config_of nocase lines) (c ∷ s)) (λ r. IsClass r.0 × (r.1 ≡ s))

  each_set : HoldsOf AsSet (87 ∷ 83 ∷ 68 ∷ 119 ∷ 115 ∷ 100 ∷ [])
  unfolding escape one_letter first negate_if
  each_set = ((tt, refl), ((tt, refl), ((tt, refl), ((tt, refl), ((tt, refl), ((tt, refl), tt))))))

  -- a set is read as a class
  pub set_is : (c : ℕ) → is_set c ≡ true → AsSet c
  set_is c is = of_one AsSet (87 ∷ 83 ∷ 68 ∷ 119 ∷ 115 ∷ 100 ∷ []) each_set c is

-- a set's letter is its own text
pub set_text : (c : ℕ) → is_set c ≡ true → escape_text c ≡ c ∷ []
set_text c is = of_one (λ (d : ℕ). escape_text d ≡ d ∷ []) (87 ∷ 83 ∷ 68 ∷ 119 ∷ 115 ∷ 100 ∷ []) (refl, (refl, (refl, (refl, (refl, (refl, tt)))))) c is

-- Escapes with numbers.

below : (n : ℕ) → nat_lt n 16 ≡ true → n < 16
below n h = grind (arith, nat_tests)

small : (d : ℕ) → is_hex d ≡ true → digit_value d < 16
small d is = below (digit_value d) is

pair_value : (a b : ℕ) → (0 * 16 + a) * 16 + b ≡ 16 * a + b
pair_value a b = omega arith

four_value : (a b c d : ℕ) → (((0 * 16 + a) * 16 + b) * 16 + c) * 16 + d ≡ 256 * (16 * a + b) + (16 * c + d)
four_value a b c d = omega arith

right_true : (t : Bool) → t || true ≡ true
right_true true = refl
right_true false = refl

low_scalar : (n : ℕ) → n < 0xD800 → is_scalar n ≡ true
low_scalar n h = rw (le-leb 0 n (omega arith), le-leb n 0xD7FF (omega arith)) refl

high_scalar : (n : ℕ) → 0xE000 ≤ n → n < 65536 → is_scalar n ≡ true
high_scalar n h k = ap (λ (t : Bool). is_in_range 0 0xD7FF n || t) (rw (le-leb 0xE000 n h, le-leb n 0x10FFFF (omega arith)) refl) ∙ right_true (is_in_range 0 0xD7FF n)

surrogate : (n : ℕ) → 0xD800 ≤ n → n < 0xE000 → is_surrogate n ≡ true
surrogate n h k = rw (le-leb 0xD800 n h, le-leb n 0xDFFF (omega arith)) refl

scalar_of : (n : ℕ) → n < 65536 → is_surrogate n ≡ false → is_scalar n ≡ true
scalar_of n h isnt =
    ⊎_elim (λ (lt : n < 0xD800). low_scalar n lt)
    (λ (ge : 0xD800 ≤ n). ⊎_elim (λ (lt : n < 0xE000). absurd (both_ways _ isnt (surrogate n ge lt))) (λ (le : 0xE000 ≤ n). high_scalar n le h) (cases_lt n 0xE000))
    (cases_lt n 0xD800)

module _ (nocase lines : Bool) (s : List ℕ) where
  two_digits : (h i : ℕ) → is_hex h ≡ true → is_hex i ≡ true → escape (config_of nocase lines) (120 ∷ h ∷ i ∷ s) ≡ Some (character (16 * digit_value h + digit_value i) true, s)
  unfolding escape hex take_up_to char_of skip first
  two_digits h i p q =
      let no_brace : eqb h 123 ≡ false = other_than is_hex h 123 p refl in
      let scalar : is_scalar (16 * digit_value h + digit_value i) ≡ true = low_scalar (16 * digit_value h + digit_value i) (omega (arith, small h p, small i q)) in
      rw (no_brace, p, q, pair_value (digit_value h) (digit_value i), scalar) refl

  four_digits : (h i j k : ℕ) → is_hex h ≡ true → is_hex i ≡ true → is_hex j ≡ true → is_hex k ≡ true
      → is_surrogate (256 * (16 * digit_value h + digit_value i) + (16 * digit_value j + digit_value k)) ≡ false
      → escape (config_of nocase lines) (117 ∷ h ∷ i ∷ j ∷ k ∷ s) ≡ Some (character (256 * (16 * digit_value h + digit_value i) + (16 * digit_value j + digit_value k)) false, s)
  unfolding escape hex take_up_to char_of skip first
  four_digits h i j k p q r t isnt =
      let no_brace : eqb h 123 ≡ false = other_than is_hex h 123 p refl in
      let scalar : is_scalar (256 * (16 * digit_value h + digit_value i) + (16 * digit_value j + digit_value k)) ≡ true =
      scalar_of (256 * (16 * digit_value h + digit_value i) + (16 * digit_value j + digit_value k)) (omega (arith, small h p, small i q, small j r, small k t)) isnt in
      rw (no_brace, p, q, r, t, four_value (digit_value h) (digit_value i) (digit_value j) (digit_value k), scalar) refl

-- A place in which a digit is its own text, and the place behind a backslash in it.
pub record AreEscapes (outer inner : Context) : Type 0 where
  pub escape : (c : ℕ) (s : List ℕ) → text_from inner (c ∷ s) ≡ escape_text c ++ text_from outer s
  pub hex : (c : ℕ) (s : List ℕ) → is_hex c ≡ true → text_from outer (c ∷ s) ≡ c ∷ text_from outer s

pub outside_escapes : AreEscapes context.Outside context.Escape
outside_escapes = record {
  escape = λ c s. refl;
  hex = λ c s is.
      let other = λ (d : ℕ) (isnt : is_hex d ≡ false). other_than is_hex c d is isnt in
      rw (other 92 refl, other 91 refl, other 123 refl, other 125 refl, other 93 refl) refl;
}

pub class_escapes : AreEscapes context.Class context.ClassEscape
class_escapes = record {
  escape = λ c s. refl;
  hex = λ c s is.
      let other = λ (d : ℕ) (isnt : is_hex d ≡ false). other_than is_hex c d is isnt in
      rw (other 92 refl, other 91 refl, other 93 refl, other 94 refl, other 38 refl, other 126 refl) refl;
}

-- an escape is read as the character that it stands for
pub record IsEscaped (nocase lines : Bool) (v : ℕ) (s t : Text) : Type 0 where
  pub as_byte : Bool
  pub is : escape (config_of nocase lines) s ≡ Some (character v as_byte, t)
  pub takes : length t < length s

escape_grows : (c : ℕ) (t : Text) → length t < length (escape_text c ++ t)
escape_grows c t = by (eqb c 101) (eqb c 60) (eqb c 62)
  where
    by : (e less greater : Bool) → length t < length (cond e (120 ∷ 49 ∷ 66 ∷ []) (cond less (120 ∷ 51 ∷ 67 ∷ []) (cond greater (120 ∷ 51 ∷ 69 ∷ []) (c ∷ []))) ++ t)
    by true less greater = omega arith
    by false true greater = omega arith
    by false false true = omega arith
    by false false false = omega arith

module _ (nocase lines : Bool) (outer inner : Context) (are : AreEscapes outer inner) where
  pair_text : (h i : ℕ) (s : List ℕ) → is_hex h ≡ true → is_hex i ≡ true → text_from outer (h ∷ i ∷ s) ≡ h ∷ i ∷ text_from outer s
  pair_text h i s p q = are.hex h (i ∷ s) p ∙ ap (λ (x : List ℕ). h ∷ x) (are.hex i s q)

  pub escape_is : (v : ℕ) (s t : List ℕ) → Escape v s t → IsEscaped nocase lines v (text_from inner s) (text_from outer t)
  escape_is v s t (quote c v' s' q) = record {
    as_byte = by_number c;
    is = ap (escape (config_of nocase lines)) (are.escape c s') ∙ quoted_is nocase lines (text_from outer s') c v q;
    takes = subst (λ (x : Text). length (text_from outer s') < length x) (sym (are.escape c s')) (escape_grows c (text_from outer s'));
  }
  escape_is v s t (byte v' s' t' (digits h i s'' p q)) =
      let x : text_from inner (120 ∷ h ∷ i ∷ t) ≡ 120 ∷ h ∷ i ∷ text_from outer t =
      are.escape 120 (h ∷ i ∷ t) ∙ ap (λ (x : List ℕ). 120 ∷ x) (pair_text h i t p q) in
      record {
        as_byte = true;
        is = ap (escape (config_of nocase lines)) x ∙ two_digits nocase lines (text_from outer t) h i p q;
        takes = subst (λ (x : Text). length (text_from outer t) < length x) (sym x) (omega arith);
      }
  escape_is v s t (unicode a b s' u t' (digits h i s'' p q) (digits j k t'' r w) isnt) =
      let x : text_from inner (117 ∷ h ∷ i ∷ j ∷ k ∷ t) ≡ 117 ∷ h ∷ i ∷ j ∷ k ∷ text_from outer t =
      are.escape 117 (h ∷ i ∷ j ∷ k ∷ t) ∙ ap (λ (x : List ℕ). 117 ∷ x) (pair_text h i (j ∷ k ∷ t) p q ∙ ap (λ (x : List ℕ). h ∷ i ∷ x) (pair_text j k t r w)) in
      record {
        as_byte = false;
        is = ap (escape (config_of nocase lines)) x ∙ four_digits nocase lines (text_from outer t) h i j k p q r w isnt;
        takes = subst (λ (x : Text). length (text_from outer t) < length x) (sym x) (omega arith);
      }
