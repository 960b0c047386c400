-- `regex` reads the atoms of the grammar that are no groups.
use Rattle.std.proofs.Common.{◌≡◌, ℕ, ◌<◌, ◌≤◌, Bool, true, false, ◌||◌, List, [], ◌∷◌, ◌++◌, length, get_or, Option, Some, None, IsSomeAnd, eqb, refl, sym, subst, arith}
use Rattle.regex_hir.specs.Re.{Re}
use Rattle.regex_syntax.specs.Brackets.{Nested, flat}
use Rattle.regex_syntax.specs.Escapes.{Piece, character, class, assertion, escape, one_letter}
use Rattle.regex_syntax.specs.Grammar.{atom, char_meaning, piece_meaning}
use Rattle.regex_syntax.specs.Reading.{Text, first, is_at, is_empty}
use Rattle.regex_syntax.specs.Sets.{one_of, verbatim, dot}
use Rattle.exp_match.specs.Grammar.{Escape, Class}
use Rattle.exp_match.specs.Scan.{is_special, is_set, is_digit}
use Rattle.exp_match.specs.Translation.{text_from}
use Rattle.exp_match.specs.Written.{config_of}
use Rattle.exp_match.specs.declared.translation.Context.TheVariants as context
use Rattle.expect_grammar.proofs.Quotes.{IsClass, IsEscaped, HoldsOf, differs, is_one_of, of_one, set_is, set_text, escape_is, outside_escapes}
use Rattle.expect_grammar.proofs.TextClasses.{IsClassText, given, not_empty, class_texts, class_reads, class_without_reads}

-- how a piece begins
pub record Begins (s : Text) : Type 0 where
  pub some : is_empty s ≡ false
  pub no_end : is_at "|)" s ≡ false
  pub no_operator : is_at "?*+{" s ≡ false

pub literal_begins : (c : ℕ) (s : Text) → is_special c ≡ false → Begins (c ∷ s)
unfolding first
literal_begins c s isnt =
    let other = λ (d : ℕ) (is : is_special d ≡ true). differs is_special c d isnt is in
    record {
      some = not_empty c s;
      no_end = rw (other 124 refl, other 41 refl) refl;
      no_operator = rw (other 63 refl, other 42 refl, other 43 refl, other 123 refl) refl;
    }

-- the characters with which a piece begins that is no literal
pub special_begins : (c : ℕ) (s : Text) → is_at "|)" (c ∷ s) ≡ false → is_at "?*+{" (c ∷ s) ≡ false → Begins (c ∷ s)
special_begins c s p q = record { some = not_empty c s; no_end = p; no_operator = q }

module _ (nocase lines : Bool) where
  pub record IsAtom (s t : Text) : Type 0 where
    pub part : Nested Re
    pub is : atom (config_of nocase lines) s ≡ Some (part, t)
    pub depth : part.depth ≤ 2
    pub no_group : is_at "(" s ≡ false
    pub begins : Begins s
    pub takes : length t < length s

  pub any_is : (s : List ℕ) → IsAtom (given (46 ∷ s)) (given s)
  unfolding atom char_meaning dot first
  any_is s = record { part = flat _; is = refl; depth = omega arith; no_group = refl; begins = special_begins 46 (given s) refl refl; takes = omega arith }

  pub start_is : (s : List ℕ) → IsAtom (given (94 ∷ s)) (given s)
  unfolding atom char_meaning first
  start_is s = record { part = flat _; is = refl; depth = omega arith; no_group = refl; begins = special_begins 94 (given s) refl refl; takes = omega arith }

  pub end_is : (s : List ℕ) → IsAtom (given (36 ∷ s)) (given s)
  unfolding atom char_meaning first
  end_is s = record { part = flat _; is = refl; depth = omega arith; no_group = refl; begins = special_begins 36 (given s) refl refl; takes = omega arith }

  -- each character has a meaning
  record IsMeant (c : ℕ) (as_byte : Bool) : Type 0 where
    value : Re
    is : verbatim (config_of nocase lines) c as_byte ≡ Some value

  opened_class : (s t : Text) → IsClassText nocase lines s t → IsAtom (91 ∷ s) t
  unfolding atom first
  opened_class s t c =
      let b = class_reads nocase lines s t c in
      record {
        part = record { value = one_of (config_of nocase lines) b.part.value; depth = b.part.depth };
        is = rw b.is refl;
        depth = b.depth;
        no_group = refl;
        begins = special_begins 91 s refl refl;
        takes = omega (arith, c.takes);
      }

  negated_class : (s t : Text) → IsClassText nocase lines s t → IsAtom (91 ∷ 94 ∷ s) t
  unfolding atom first
  negated_class s t c =
      let b = class_without_reads nocase lines s t c in
      record {
        part = record { value = one_of (config_of nocase lines) b.part.value; depth = b.part.depth };
        is = rw b.is refl;
        depth = b.depth;
        no_group = refl;
        begins = special_begins 91 (94 ∷ s) refl refl;
        takes = omega (arith, c.takes);
      }

  pub class_is : (s t : List ℕ) → eqb (get_or s 0 0) 94 ≡ false → Class s t → IsAtom (given (91 ∷ s)) (given t)
  class_is s t no_caret c = opened_class (text_from context.Opening s) (given t) ((class_texts nocase lines s t c).opening no_caret)

  pub class_without_is : (s t : List ℕ) → Class s t → IsAtom (given (91 ∷ 94 ∷ s)) (given t)
  class_without_is s t c = negated_class (text_from context.First s) (given t) (class_texts nocase lines s t c).first

  set_from : (c : ℕ) (s : Text) (o : Option (Piece × Text)) → escape (config_of nocase lines) (c ∷ s) ≡ o → IsSomeAnd o (λ r. IsClass r.0 × (r.1 ≡ s)) → IsAtom (92 ∷ c ∷ s) s
  unfolding atom first piece_meaning
  set_from c s None is h = absurd h
  set_from c s (Some (character d is_byte, rest)) is h = absurd h.0
  set_from c s (Some (assertion look, rest)) is h = absurd h.0
  set_from c s (Some (class set, rest)) is h = record {
    part = flat (one_of (config_of nocase lines) set);
    is = rw (is, h.1) refl;
    depth = omega arith;
    no_group = refl;
    begins = special_begins 92 (c ∷ s) refl refl;
    takes = omega arith;
  }

  pub set_reads : (c : ℕ) (s : List ℕ) → is_set c ≡ true → IsAtom (given (92 ∷ c ∷ s)) (given s)
  set_reads c s is =
      subst (λ (x : Text). IsAtom (92 ∷ (x ++ given s)) (given s)) (sym (set_text c is)) (set_from c (given s) (escape (config_of nocase lines) (c ∷ given s)) refl (set_is nocase lines (given s) c is))

meant : (nocase lines : Bool) (c : ℕ) (as_byte : Bool) → IsMeant nocase lines c as_byte
unfolding verbatim
meant true lines c true = record { value = _; is = refl }
meant true lines c false = record { value = _; is = refl }
meant false lines c true = record { value = _; is = refl }
meant false lines c false = record { value = _; is = refl }

module _ (nocase lines : Bool) where
  escaped_atom : (v : ℕ) (s t : Text) → IsEscaped nocase lines v s t → IsAtom nocase lines (92 ∷ s) t
  unfolding atom first piece_meaning
  escaped_atom v s t e =
      let m = meant nocase lines v e.as_byte in
      record {
        part = flat m.value;
        is = rw (e.is, m.is) refl;
        depth = omega arith;
        no_group = refl;
        begins = special_begins 92 s refl refl;
        takes = omega (arith, e.takes);
      }

  pub escape_reads : (v : ℕ) (s t : List ℕ) → Escape v s t → IsAtom nocase lines (given (92 ∷ s)) (given t)
  escape_reads v s t e = escaped_atom v (text_from context.Escape s) (given t) (escape_is nocase lines context.Outside context.Escape outside_escapes v s t e)

  -- { } ] get a backslash
  abbrev AsEscaped : Text → ℕ → Type 0
  AsEscaped t c = escape (config_of nocase lines) (c ∷ t) ≡ Some (character c false, t)

  each_escaped : (t : Text) → HoldsOf (AsEscaped t) (123 ∷ 93 ∷ 125 ∷ [])
  unfolding escape one_letter first
  each_escaped t = (refl, (refl, (refl, tt)))

  slashed_atom : (c : ℕ) (t : Text) → is_one_of (123 ∷ 93 ∷ 125 ∷ []) c ≡ true → IsAtom nocase lines (92 ∷ c ∷ t) t
  slashed_atom c t is =
      escaped_atom c (c ∷ t) t (record { as_byte = false; is = of_one (AsEscaped t) (123 ∷ 93 ∷ 125 ∷ []) (each_escaped t) c is; takes = omega arith })

  plain_atom : (c : ℕ) (s : Text) → is_special c ≡ false → IsAtom nocase lines (c ∷ s) s
  unfolding atom first char_meaning
  plain_atom c s isnt =
      let m = meant nocase lines c false in
      let other = λ (d : ℕ) (is : is_special d ≡ true). differs is_special c d isnt is in
      record {
        part = flat m.value;
        is = rw (
          other 63 refl,
          other 42 refl,
          other 43 refl,
          other 123 refl,
          other 91 refl,
          other 92 refl,
          other 46 refl,
          other 94 refl,
          other 36 refl,
          m.is,
        ) refl;
        depth = omega arith;
        no_group = other 40 refl;
        begins = literal_begins c s isnt;
        takes = omega arith;
      }

  slashed_text : (c : ℕ) (s : List ℕ) → is_special c ≡ false → eqb c 125 || eqb c 93 ≡ true → given (c ∷ s) ≡ 92 ∷ c ∷ given s
  slashed_text c s isnt is =
      let other = λ (d : ℕ) (yes_it : is_special d ≡ true). differs is_special c d isnt yes_it in
      rw (is, other 92 refl, other 91 refl, other 123 refl) refl

  plain_text : (c : ℕ) (s : List ℕ) → is_special c ≡ false → eqb c 125 || eqb c 93 ≡ false → given (c ∷ s) ≡ c ∷ given s
  plain_text c s isnt none =
      let other = λ (d : ℕ) (yes_it : is_special d ≡ true). differs is_special c d isnt yes_it in
      rw (none, other 92 refl, other 91 refl, other 123 refl) refl

  pub literal_reads : (c : ℕ) (s : List ℕ) → is_special c ≡ false → IsAtom nocase lines (given (c ∷ s)) (given s)
  literal_reads c s isnt = by (eqb c 125 || eqb c 93) refl
    where
      by : (t : Bool) → eqb c 125 || eqb c 93 ≡ t → IsAtom nocase lines (given (c ∷ s)) (given s)
      by true is = subst (λ (x : Text). IsAtom nocase lines x (given s)) (sym (slashed_text c s isnt is)) (slashed_atom c (given s) (rw is refl))
      by false none = subst (λ (x : Text). IsAtom nocase lines x (given s)) (sym (plain_text c s isnt none)) (plain_atom c (given s) isnt)

  brace_text : (s : List ℕ) → is_digit (get_or s 0 0) ≡ false → given (123 ∷ s) ≡ 92 ∷ 123 ∷ given s
  brace_text s isnt = rw isnt refl

  pub brace_reads : (s : List ℕ) → is_digit (get_or s 0 0) ≡ false → IsAtom nocase lines (given (123 ∷ s)) (given s)
  brace_reads s isnt = subst (λ (x : Text). IsAtom nocase lines x (given s)) (sym (brace_text s isnt)) (slashed_atom 123 (given s) refl)
