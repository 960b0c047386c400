-- `regex` reads the classes of the grammar.
use Rattle.std.proofs.Common.{◌≡◌, ℕ, zero, suc, ◌+◌, ◌*◌, ◌<◌, ◌≤◌, Bool, true, false, cond, not, ◌&&◌, ◌||◌, List, [], ◌∷◌, ◌++◌, map, length, get_or, Some, None, IsSomeAnd, Option, eqb, refl, sym, ap, ◌∙◌, ne_eqb, nat_lt, subst, arith}
use Rattle.std.proofs.lemmas.Bool.{le-leb, or_parts, eqb-false}
use Rattle.std.specs.Int.{is_in_range}
use Rattle.regex_syntax.proofs.BracketLemmas.{deepest-append}
use Rattle.regex_syntax.proofs.ReadingLemmas.{take_up_to_stops}
use Rattle.regex_syntax.specs.Brackets.{Nested, flat, deepest, union, unite, operator, posix, member, single, range, after_hyphen, set_item, bracket_start, item_or, set_items, operations, bracket}
use Rattle.regex_syntax.specs.Escapes.{Piece, character, class, assertion, escape, one_letter}
use Rattle.regex_syntax.specs.Reading.{Text, first, is_at, is_empty, skip, split_once, take_run, take_up_to, ◌∈◌}
use Rattle.regex_syntax.specs.Sets.{Set, ascii_class, is_member, case_fold, negate, negate_if}
use Rattle.exp_match.specs.Grammar.{Item, Name, Member, Members, Class, plain, alnum, alpha, cntrl, lower, print, space, upper, xdigit, one, over, dash, more, bracket_first, dash_first, member_first}
use Rattle.exp_match.specs.Grammar as grammar
use Rattle.exp_match.specs.Scan.{is_class_char, is_mark, is_set}
use Rattle.exp_match.specs.Translation.{text_from}
use Rattle.exp_match.specs.Written.{config_of}
use Rattle.exp_match.specs.declared.translation.Context.TheVariants as context
use Rattle.expect_grammar.proofs.Quotes.{IsClass, IsEscaped, HoldsOf, is_one_of, of_one, set_is, set_text, escape_is, class_escapes}

not_so : (t : Bool) → not t ≡ true → t ≡ false
not_so false e = refl
not_so true e = absurd (cc)

-- what has a character isn't empty
pub not_empty : (c : ℕ) (s : Text) → is_empty (c ∷ s) ≡ false
not_empty c s = ne_eqb (suc (length s)) 0 (omega arith)

-- the text that `regex` gets for the rest of a pattern
abbrev pub given : Text → Text
given = text_from context.Outside

-- the text of a class behind its `[` or `[^` and its first member
abbrev pub in_class : Text → Text
in_class = text_from context.Class

-- how a member of a class begins
record Head (s : Text) : Type 0 where
  some : is_empty s ≡ false
  no_end : is_at "]" s ≡ false
  no_caret : is_at "^" s ≡ false
  no_dash : is_at "-" s ≡ false
  no_mark : is_at "]-" s ≡ false
  no_operator : operator s ≡ None

quoted_head : (s : Text) → Head (92 ∷ s)
unfolding first operator
quoted_head s = record { some = not_empty 92 s; no_end = refl; no_caret = refl; no_dash = refl; no_mark = refl; no_operator = refl }

bracket_head : (s : Text) → Head (91 ∷ s)
unfolding first operator
bracket_head s = record { some = not_empty 91 s; no_end = refl; no_caret = refl; no_dash = refl; no_mark = refl; no_operator = refl }

module _ (nocase lines : Bool) where
  -- an item is read as the character that it stands for
  record IsItem (v : ℕ) (s t : Text) : Type 0 where
    as_byte : Bool
    is : member (config_of nocase lines) s ≡ Some (character v as_byte, t)
    head : Head s
    no_class : is_at "[" s ≡ false
    no_posix : posix s ≡ None
    takes : length t < length s

  escaped_item : (v : ℕ) (s t : Text) → IsEscaped nocase lines v s t → IsItem v (92 ∷ s) t
  unfolding member posix first
  escaped_item v s t e =
      record { as_byte = e.as_byte; is = e.is; head = quoted_head s; no_class = refl; no_posix = refl; takes = omega (arith, e.takes) }

  -- ^ & ~ [ get a backslash
  abbrev AsEscaped : Text → ℕ → Type 0
  AsEscaped t c = escape (config_of nocase lines) (c ∷ t) ≡ Some (character c false, t)

  each_escaped : (t : Text) → HoldsOf (AsEscaped t) (91 ∷ 126 ∷ 38 ∷ 94 ∷ [])
  unfolding escape one_letter first
  each_escaped t = (refl, (refl, (refl, (refl, tt))))

  slashed_item : (c : ℕ) (t : Text) → is_one_of (91 ∷ 126 ∷ 38 ∷ 94 ∷ []) c ≡ true → IsItem c (92 ∷ c ∷ t) t
  slashed_item c t is =
      escaped_item c (c ∷ t) t (record { as_byte = false; is = of_one (AsEscaped t) (91 ∷ 126 ∷ 38 ∷ 94 ∷ []) (each_escaped t) c is; takes = omega arith })

  plain_item : (c : ℕ) (t : Text) → eqb c 92 ≡ false → eqb c 93 ≡ false → eqb c 45 ≡ false → is_one_of (91 ∷ 126 ∷ 38 ∷ 94 ∷ []) c ≡ false → IsItem c (c ∷ t) t
  unfolding member operator posix first
  plain_item c t slash end hyphen isnt =
      let a = or_parts _ (eqb c 91) isnt in
      let b = or_parts _ (eqb c 126) a.0 in
      let d = or_parts (eqb c 94) (eqb c 38) b.0 in
      let swapped = λ (n : ℕ) (e : eqb c n ≡ false). ne_eqb n c (λ k. eqb-false c n e (sym k)) in
      record {
        as_byte = false;
        is = rw slash refl;
        head = record {
          some = not_empty c t;
          no_end = end;
          no_caret = d.0;
          no_dash = hyphen;
          no_mark = rw (end, hyphen) refl;
          no_operator = rw (swapped 38 d.1, swapped 45 hyphen, swapped 126 b.1) refl;
        };
        no_class = a.1;
        no_posix = rw (swapped 91 a.1) refl;
        takes = omega arith;
      }

  -- where a `[` isn't before a mark, it isn't before a colon
  bracket_alone : (bracket colon dot equals : Bool) → bracket && ((colon || dot) || equals) ≡ false → bracket && not colon ≡ bracket
  bracket_alone false colon dot equals e = refl
  bracket_alone true false dot equals e = refl
  bracket_alone true true dot equals e = absurd (cc)

  no_name : (bracket colon dot equals : Bool) → bracket && ((colon || dot) || equals) ≡ false → bracket && colon ≡ false
  no_name false colon dot equals e = refl
  no_name true false dot equals e = refl
  no_name true true dot equals e = absurd (cc)

  -- the order in which the translation asks
  or_order : (caret and tilde bracket : Bool) {t : Bool} → ((caret || and) || tilde) || bracket ≡ t → caret || ((and || tilde) || bracket) ≡ t
  or_order true and tilde bracket e = e
  or_order false and tilde bracket e = e

  class_text : (c : ℕ) (s : Text) → eqb c 92 ≡ false → eqb c 93 ≡ false → eqb c 91 && eqb (get_or s 0 0) 58 ≡ false
      → in_class (c ∷ s) ≡ cond (eqb c 94 || ((eqb c 38 || eqb c 126) || (eqb c 91 && not (eqb (get_or s 0 0) 58)))) (92 ∷ c ∷ []) (c ∷ []) ++ in_class s
  class_text c s slash end none = rw (end, slash, none) refl

  slashed_text : (c : ℕ) (s : Text) → eqb c 92 ≡ false → eqb c 93 ≡ false → eqb c 91 && not (eqb (get_or s 0 0) 58) ≡ eqb c 91 → eqb c 91 && eqb (get_or s 0 0) 58 ≡ false
      → eqb c 94 || ((eqb c 38 || eqb c 126) || eqb c 91) ≡ true → in_class (c ∷ s) ≡ 92 ∷ c ∷ in_class s
  slashed_text c s slash end alone none is = class_text c s slash end none ∙ rw (alone, is) refl

  plain_text : (c : ℕ) (s : Text) → eqb c 92 ≡ false → eqb c 93 ≡ false → eqb c 91 && not (eqb (get_or s 0 0) 58) ≡ eqb c 91 → eqb c 91 && eqb (get_or s 0 0) 58 ≡ false
      → eqb c 94 || ((eqb c 38 || eqb c 126) || eqb c 91) ≡ false → in_class (c ∷ s) ≡ c ∷ in_class s
  plain_text c s slash end alone none isnt = class_text c s slash end none ∙ rw (alone, isnt) refl

  item_is : (v : ℕ) (s t : List ℕ) → Item v s t → IsItem v (in_class s) (in_class t)
  item_is v s t (grammar.escape v' s' t' e) = escaped_item v (text_from context.ClassEscape s') (in_class t) (escape_is nocase lines context.Class context.ClassEscape class_escapes v s' t e)
  item_is v s t (plain c s' p) =
      let a = or_parts ((eqb c 92 || eqb c 93) || eqb c 45) (eqb c 91 && is_mark (get_or s' 0 0)) (not_so _ p) in
      let b = or_parts (eqb c 92 || eqb c 93) (eqb c 45) a.0 in
      let d = or_parts (eqb c 92) (eqb c 93) b.0 in
      let alone = bracket_alone (eqb c 91) (eqb (get_or s' 0 0) 58) (eqb (get_or s' 0 0) 46) (eqb (get_or s' 0 0) 61) a.1 in
      let none = no_name (eqb c 91) (eqb (get_or s' 0 0) 58) (eqb (get_or s' 0 0) 46) (eqb (get_or s' 0 0) 61) a.1 in
      by c s' d.0 d.1 b.1 alone none (is_one_of (91 ∷ 126 ∷ 38 ∷ 94 ∷ []) c) refl
    where
      by : (c : ℕ) (s : Text) → eqb c 92 ≡ false → eqb c 93 ≡ false → eqb c 45 ≡ false → eqb c 91 && not (eqb (get_or s 0 0) 58) ≡ eqb c 91 → eqb c 91 && eqb (get_or s 0 0) 58 ≡ false
          → (t : Bool) → is_one_of (91 ∷ 126 ∷ 38 ∷ 94 ∷ []) c ≡ t → IsItem c (in_class (c ∷ s)) (in_class s)
      by c s slash end hyphen alone none true is =
          let x : in_class (c ∷ s) ≡ 92 ∷ c ∷ in_class s =
          slashed_text c s slash end alone none (or_order (eqb c 94) (eqb c 38) (eqb c 126) (eqb c 91) is) in
          subst (λ (x : Text). IsItem c x (in_class s)) (sym x) (slashed_item c (in_class s) is)
      by c s slash end hyphen alone none false is =
          let x : in_class (c ∷ s) ≡ c ∷ in_class s =
          plain_text c s slash end alone none (or_order (eqb c 94) (eqb c 38) (eqb c 126) (eqb c 91) is) in
          subst (λ (x : Text). IsItem c x (in_class s)) (sym x) (plain_item c (in_class s) slash end hyphen is)

  -- what may stand behind a member: something, which makes no range of it
  record Behind (u : Text) : Type 0 where
    some : is_empty u ≡ false
    no_range : (is_at "-" u && not (is_at "]-" (after_hyphen (config_of nocase lines) u))) ≡ false

  head_behind : (s : Text) → Head s → Behind s
  head_behind s h = record { some = h.some; no_range = rw h.no_dash refl }

  end_behind : (t : Text) → Behind (93 ∷ t)
  unfolding first
  end_behind t = record { some = not_empty 93 t; no_range = refl }

  dash_behind : (t : Text) → Behind (45 ∷ 93 ∷ t)
  unfolding first after_hyphen
  dash_behind t = record { some = not_empty 45 (93 ∷ t); no_range = refl }

  -- a member is read as a set
  record IsSet (s t : Text) : Type 0 where
    value : Set
    is : set_item (config_of nocase lines) s ≡ Some (value, t)

  item_alone : (v : ℕ) (as_byte : Bool) (s t : List ℕ) → member (config_of nocase lines) s ≡ Some (character v as_byte, t) → Behind t → IsSet s t
  unfolding set_item single is_member skip
  item_alone v as_byte s t read b = record { value = λ d. eqb d v; is = rw (read, b.some, b.no_range) refl }

  class_alone : (s t : List ℕ) (set : Set) → member (config_of nocase lines) s ≡ Some (class set, t) → Behind t → IsSet s t
  unfolding set_item single skip
  class_alone s t set read b = record { value = set; is = rw (read, b.some, b.no_range) refl }

  set_alone : (c : ℕ) (s t : List ℕ) (o : Option (Piece × Text)) → escape (config_of nocase lines) (c ∷ s) ≡ o → IsSomeAnd o (λ r. IsClass r.0 × (r.1 ≡ s)) → Behind s → IsSet (92 ∷ c ∷ s) s
  unfolding member first
  set_alone c s t None is h b = absurd h
  set_alone c s t (Some (character d is_byte, rest)) is h b = absurd h.0
  set_alone c s t (Some (assertion look, rest)) is h b = absurd h.0
  set_alone c s t (Some (class set, rest)) is h b = class_alone (92 ∷ c ∷ s) s set (is ∙ ap (λ (x : Text). Some (class set, x)) h.1) b

  range_is : (v w : ℕ) (v_as_byte w_as_byte : Bool) (s t u : List ℕ) → member (config_of nocase lines) s ≡ Some (character v v_as_byte, 45 ∷ t)
      → member (config_of nocase lines) t ≡ Some (character w w_as_byte, u) → Head t → v ≤ w → IsSet s u
  unfolding set_item range is_member skip first after_hyphen
  range_is v w v_as_byte w_as_byte s t u low high h le = record { value = is_in_range v w; is = rw (low, not_empty 45 t, h.no_mark, high, le-leb v w le) refl }

  -- the name of a class is read as a set
  record IsNamed (s t : Text) : Type 0 where
    value : Set
    is : posix (91 ∷ 58 ∷ s) ≡ Some (value, false, t)
    takes : length t < length s

  -- the texts of names are their own
  name_is : (s t : List ℕ) → Name s t → IsNamed (text_from context.Name s) (in_class t)
  unfolding posix split_once ascii_class first
  name_is s t (alnum t') = record { value = _; is = refl; takes = omega arith }
  name_is s t (alpha t') = record { value = _; is = refl; takes = omega arith }
  name_is s t (cntrl t') = record { value = _; is = refl; takes = omega arith }
  name_is s t (grammar.digit t') = record { value = _; is = refl; takes = omega arith }
  name_is s t (lower t') = record { value = _; is = refl; takes = omega arith }
  name_is s t (print t') = record { value = _; is = refl; takes = omega arith }
  name_is s t (space t') = record { value = _; is = refl; takes = omega arith }
  name_is s t (upper t') = record { value = _; is = refl; takes = omega arith }
  name_is s t (xdigit t') = record { value = _; is = refl; takes = omega arith }

  -- the members from s on are read as sets, up to what is left
  record AreSets (n : ℕ) (s rest : Text) : Type 0 where
    parts : List (Nested Set)
    is : set_items (config_of nocase lines) n s ≡ Some (parts, rest)
    flat : deepest parts ≤ 0

  abbrev AreRead : Text → Text → Type 0
  AreRead s rest = (n : ℕ) → length s ≤ n → AreSets n s rest

  end_read : (t : Text) → AreRead (93 ∷ t) (93 ∷ t)
  unfolding set_items skip first
  end_read t zero le = absurd (omega arith)
  end_read t (suc n) le = record { parts = []; is = refl; flat = omega arith }

  -- a part of a class is read, with those behind it
  record IsMember (s u : Text) : Type 0 where
    head : Head s
    takes : length u < length s
    with_rest : (n : ℕ) (rest : Text) → AreSets n u rest → AreSets (suc n) s rest

  -- a set, and those behind it
  set_then : (n : ℕ) (s u rest : Text) → is_at "]" s ≡ false → operator s ≡ None → posix s ≡ None → is_at "[" s ≡ false → IsSet s u → AreSets n u rest → AreSets (suc n) s rest
  unfolding set_items skip item_or
  set_then n s u rest not_end no_operator no_posix no_class it others = record {
    parts = flat it.value ∷ others.parts;
    is = rw (not_end, no_operator, no_posix, no_class, it.is, others.is) refl;
    flat = omega (arith, others.flat);
  }

  item_member : (v : ℕ) (s u w : Text) → IsItem v s w → IsSet s u → length u < length s → IsMember s u
  item_member v s u w i it shorter =
      record { head = i.head; takes = shorter; with_rest = λ n rest others. set_then n s u rest i.head.no_end i.head.no_operator i.no_posix i.no_class it others }

  set_member : (c : ℕ) (s : Text) → is_set c ≡ true → Behind s → IsMember (92 ∷ c ∷ s) s
  unfolding posix first
  set_member c s is b =
      let h = quoted_head (c ∷ s) in
      record {
        head = h;
        takes = omega arith;
        with_rest = λ n rest others. set_then n (92 ∷ c ∷ s) s rest h.no_end h.no_operator refl refl (set_alone c s s (escape (config_of nocase lines) (c ∷ s)) refl (set_is nocase lines s c is) b) others;
      }

  named_rest : (s t : Text) (it : IsNamed s t) (n : ℕ) (rest : Text) → AreSets n t rest → AreSets (suc n) (91 ∷ 58 ∷ s) rest
  unfolding set_items skip item_or negate_if first operator
  named_rest s t it n rest others = record {
    parts = flat (case_fold (config_of nocase lines) it.value) ∷ others.parts;
    is = rw (it.is, others.is) refl;
    flat = omega (arith, others.flat);
  }

  member_is : (s t : List ℕ) → Member s t → Behind (in_class t) → IsMember (in_class s) (in_class t)
  member_is s t (one v s' t' i) b =
      let it = item_is v s t i in item_member v (in_class s) (in_class t) (in_class t) it (item_alone v it.as_byte (in_class s) (in_class t) it.is b) it.takes
  member_is s t (grammar.range v w s' t' u i j le) b =
      let low = item_is v s (45 ∷ t') i in
      let high = item_is w t' t j in
      item_member v (in_class s) (in_class t) (45 ∷ in_class t') low
      (range_is v w low.as_byte high.as_byte (in_class s) (in_class t') (in_class t) low.is high.is high.head le) (omega (arith, low.takes, high.takes))
  member_is s t (grammar.set c s' is) b =
      subst (λ (x : Text). IsMember (92 ∷ (x ++ in_class t)) (in_class t)) (sym (set_text c is)) (set_member c (in_class t) is b)
  member_is s t (grammar.named s' t' n) b =
      let it = name_is s' t n in
      record { head = bracket_head (58 ∷ text_from context.Name s'); takes = omega (arith, it.takes); with_rest = λ n rest others. named_rest (text_from context.Name s') (in_class t) it n rest others }

  dash_read : (t : Text) → AreRead (45 ∷ 93 ∷ t) (93 ∷ t)
  unfolding first operator posix member
  dash_read t zero le = absurd (omega arith)
  dash_read t (suc n) le =
      set_then n (45 ∷ 93 ∷ t) (93 ∷ t) (93 ∷ t) refl refl refl refl (item_alone 45 false (45 ∷ 93 ∷ t) (93 ∷ t) refl (end_behind t)) (end_read t n (omega arith))

  member_then : (s u rest : Text) → IsMember s u → AreRead u rest → AreRead s rest
  member_then s u rest m others zero le = absurd (omega (arith, m.takes))
  member_then s u rest m others (suc n) le = m.with_rest n rest (others n (omega (arith, m.takes)))

  -- the members and the end of a class
  record AreMembers (s t : Text) : Type 0 where
    behind : Behind s
    are : AreRead s (93 ∷ t)
    takes : length t < length s

  members_are : (s t : List ℕ) → Members s t → AreMembers (in_class s) (given t)
  members_are s t (over s') = record { behind = end_behind (given t); are = end_read (given t); takes = omega arith }
  members_are s t (dash s') = record { behind = dash_behind (given t); are = dash_read (given t); takes = omega arith }
  members_are s t (more s' u t' m ms) =
      let others = members_are u t ms in
      let it = member_is s u m others.behind in
      record { behind = head_behind (in_class s) it.head; are = member_then (in_class s) (in_class u) (93 ∷ given t) it others.are; takes = omega (arith, it.takes, others.takes) }

  -- the class that opens at t is read as a set, and s is left behind it
  pub record IsBracket (n : ℕ) (t rest : Text) : Type 0 where
    pub part : Nested Set
    pub is : bracket (config_of nocase lines) n t ≡ Some (part, rest)
    pub depth : part.depth ≤ 2

  leading_flat : (leading : Text) → deepest {A = Set} (map (λ c. flat (λ d. eqb d c)) leading) ≡ 0
  leading_flat [] = refl
  leading_flat (c ∷ leading) = omega (arith, leading_flat leading)

  level : (t : Bool) → cond t 1 0 ≤ 1
  level true = omega arith
  level false = omega arith

  bracket_is : (n : ℕ) (c : ℕ) (s : Text) (negated : Bool) (leading after rest : Text) → bracket_start (config_of nocase lines) s ≡ (negated, leading, after)
      → 0 < n → AreSets n after (93 ∷ rest) → IsBracket (suc n) (c ∷ s) rest
  unfolding bracket skip unite operations negate_if first
  bracket_is zero c s negated leading after rest start some inside = absurd (omega arith)
  bracket_is (suc n) c s negated leading after rest start some inside =
      let firsts : List (Nested Set) = map (λ c. flat (λ d. eqb d c)) leading in
      let all : Nested Set = union (firsts ++ inside.parts) in
      let folded : Set = case_fold (config_of nocase lines) all.value in
      record {
        part = record { value = cond negated (negate (config_of nocase lines) folded) folded; depth = all.depth + 1 };
        is = rw (start, inside.is) refl;
        depth = omega (arith, deepest-append firsts inside.parts, leading_flat leading, level (nat_lt 1 (length (firsts ++ inside.parts))));
      }

  plain_start : (s : Text) → Head s → bracket_start (config_of nocase lines) s ≡ (false, [], s)
  unfolding bracket_start take_run
  plain_start s h = rw (h.no_caret, take_up_to_stops false (length s) (λ c. c ∈ "-") s h.no_dash, h.no_end) refl

  caret_start : (s : Text) → Head s → bracket_start (config_of nocase lines) (94 ∷ s) ≡ (true, [], s)
  unfolding bracket_start take_run skip first
  caret_start s h = rw (take_up_to_stops false (length s) (λ c. c ∈ "-") s h.no_dash, h.no_end) refl

  dash_start : (s : Text) → is_at "-" s ≡ false → bracket_start (config_of nocase lines) (45 ∷ s) ≡ (false, 45 ∷ [], s)
  unfolding bracket_start take_run take_up_to skip first
  dash_start s h = rw (take_up_to_stops false (length s) (λ c. c ∈ "-") s h) refl

  caret_dash_start : (s : Text) → is_at "-" s ≡ false → bracket_start (config_of nocase lines) (94 ∷ 45 ∷ s) ≡ (true, 45 ∷ [], s)
  unfolding bracket_start take_run take_up_to skip first
  caret_dash_start s h = rw (take_up_to_stops false (length s) (λ c. c ∈ "-") s h) refl

  dashes_start : (t : Text) → bracket_start (config_of nocase lines) (45 ∷ 45 ∷ 93 ∷ t) ≡ (false, 45 ∷ 45 ∷ [], 93 ∷ t)
  unfolding bracket_start take_run take_up_to skip first
  dashes_start t = refl

  caret_dashes_start : (t : Text) → bracket_start (config_of nocase lines) (94 ∷ 45 ∷ 45 ∷ 93 ∷ t) ≡ (true, 45 ∷ 45 ∷ [], 93 ∷ t)
  unfolding bracket_start take_run take_up_to skip first
  caret_dashes_start t = refl

  -- a class without its `[` and `^` is read
  pub record IsClassText (s t : Text) : Type 0 where
    leading : Text
    after : Text
    plain_is : bracket_start (config_of nocase lines) s ≡ (false, leading, after)
    caret_is : bracket_start (config_of nocase lines) (94 ∷ s) ≡ (true, leading, after)
    are : AreRead after (93 ∷ t)
    within : length after ≤ length s
    pub takes : length t < length s

  members_first : (s t : Text) → Head s → AreRead s (93 ∷ t) → length t < length s → IsClassText s t
  members_first s t h are takes =
      record { leading = []; after = s; plain_is = plain_start s h; caret_is = caret_start s h; are = are; within = omega arith; takes = takes }

  -- a `]` that is the first member gets a backslash
  slash_end : (s : Text) → Behind s → IsMember (92 ∷ 93 ∷ s) s
  unfolding escape one_letter first
  slash_end s b =
      let it = escaped_item 93 (93 ∷ s) s (record { as_byte = false; is = refl; takes = omega arith }) in
      item_member 93 (92 ∷ 93 ∷ s) s s it (item_alone 93 it.as_byte (92 ∷ 93 ∷ s) s it.is b) it.takes

  bracket_class : (s t : Text) → AreMembers s t → IsClassText (92 ∷ 93 ∷ s) t
  bracket_class s t ms =
      let it = slash_end s ms.behind in
      members_first (92 ∷ 93 ∷ s) t it.head (member_then (92 ∷ 93 ∷ s) s (93 ∷ t) it ms.are) (omega (arith, ms.takes))

  dash_class : (s t : List ℕ) → Members s t → IsClassText (45 ∷ in_class s) (given t)
  unfolding first
  dash_class s t (over s') =
      let ms = members_are s t (over s') in
      record { leading = 45 ∷ []; after = in_class s; plain_is = dash_start (in_class s) refl; caret_is = caret_dash_start (in_class s) refl; are = ms.are; within = omega arith; takes = omega (arith, ms.takes) }
  dash_class s t (dash s') =
      let rest = given t in
      record { leading = 45 ∷ 45 ∷ []; after = 93 ∷ rest; plain_is = dashes_start rest; caret_is = caret_dashes_start rest; are = end_read rest; within = omega arith; takes = omega arith }
  dash_class s t (more s' u t' m ms) =
      let all = members_are s t (more s u t m ms) in
      let it = member_is s u m (members_are u t ms).behind in
      record { leading = 45 ∷ []; after = in_class s; plain_is = dash_start (in_class s) it.head.no_dash; caret_is = caret_dash_start (in_class s) it.head.no_dash; are = all.are; within = omega arith; takes = omega (arith, all.takes) }

  no_end : (c : ℕ) (s : List ℕ) → is_class_char c s ≡ true → eqb c 93 ≡ false
  no_end c s p =
      let a = or_parts ((eqb c 92 || eqb c 93) || eqb c 45) (eqb c 91 && is_mark (get_or s 0 0)) (not_so _ p) in
      let b = or_parts (eqb c 92 || eqb c 93) (eqb c 45) a.0 in
      (or_parts (eqb c 92) (eqb c 93) b.0).1

  -- no member begins with `]`
  member_no_end : (s t : List ℕ) → Member s t → eqb (get_or s 0 0) 93 ≡ false
  member_no_end s t (one v s' t' (grammar.escape v' s'' t'' e)) = refl
  member_no_end s t (one v s' t' (plain c s'' p)) = no_end c s'' p
  member_no_end s t (grammar.range v w s' t' u (grammar.escape v' s'' t'' e) j le) = refl
  member_no_end s t (grammar.range v w s' t' u (plain c s'' p) j le) = no_end c s'' p
  member_no_end s t (grammar.set c s' is) = refl
  member_no_end s t (grammar.named s' t' n) = refl

  -- behind the opening the text goes on as in the class
  opening_text : (s : List ℕ) → eqb (get_or s 0 0) 93 ≡ false → eqb (get_or s 0 0) 94 ≡ false → text_from context.Opening s ≡ in_class s
  opening_text [] end caret = refl
  opening_text (c ∷ s) end caret = rw (end, caret) refl

  first_text : (s : List ℕ) → eqb (get_or s 0 0) 93 ≡ false → text_from context.First s ≡ in_class s
  first_text [] end = refl
  first_text (c ∷ s) end = rw end refl

  -- A class directly behind `[`, and behind `[^`.
  pub record AreTexts (s t : List ℕ) : Type 0 where
    pub opening : eqb (get_or s 0 0) 94 ≡ false → IsClassText (text_from context.Opening s) (given t)
    pub first : IsClassText (text_from context.First s) (given t)

  pub class_texts : (s t : List ℕ) → Class s t → AreTexts s t
  class_texts s t (bracket_first s' t' ms) = let c = bracket_class (in_class s') (given t) (members_are s' t ms) in record { opening = λ _. c; first = c }
  class_texts s t (dash_first s' t' ms) = let c = dash_class s' t ms in record { opening = λ _. c; first = c }
  class_texts s t (member_first s' u t' m ms) =
      let all = members_are s t (more s u t m ms) in
      let it = member_is s u m (members_are u t ms).behind in
      let c = members_first (in_class s) (given t) it.head all.are all.takes in
      let n = member_no_end s u m in
      record {
        opening = λ no_caret. subst (λ (x : Text). IsClassText x (given t)) (sym (opening_text s n no_caret)) c;
        first = subst (λ (x : Text). IsClassText x (given t)) (sym (first_text s n)) c;
      }

  class_is : (n : ℕ) (s t : Text) → length s < n → IsClassText s t → IsBracket (suc n) (91 ∷ s) t
  class_is n s t le c = bracket_is n 91 s false c.leading c.after t c.plain_is (omega arith) (c.are n (omega (arith, c.within)))

  class_without_is : (n : ℕ) (s t : Text) → length s < n → IsClassText s t → IsBracket (suc n) (91 ∷ 94 ∷ s) t
  class_without_is n s t le c = bracket_is n 91 (94 ∷ s) true c.leading c.after t c.caret_is (omega arith) (c.are n (omega (arith, c.within)))

  enough : (n : ℕ) (s rest : Text) → IsBracket (suc n) s rest → (m : ℕ) → suc n ≡ m → IsBracket m s rest
  enough n s rest b m e = subst (λ (k : ℕ). IsBracket k s rest) e b

  -- the class that an opening bracket begins, with the number of calls that an atom allows
  pub class_reads : (s t : Text) → IsClassText s t → IsBracket (2 * length (91 ∷ s) + 1) (91 ∷ s) t
  class_reads s t c = enough (2 * length (91 ∷ s)) (91 ∷ s) t (class_is (2 * length (91 ∷ s)) s t (omega arith) c) (2 * length (91 ∷ s) + 1) (omega arith)

  pub class_without_reads : (s t : Text) → IsClassText s t → IsBracket (2 * length (91 ∷ 94 ∷ s) + 1) (91 ∷ 94 ∷ s) t
  class_without_reads s t c =
      enough (2 * length (91 ∷ 94 ∷ s)) (91 ∷ 94 ∷ s) t (class_without_is (2 * length (91 ∷ 94 ∷ s)) s t (omega arith) c) (2 * length (91 ∷ 94 ∷ s) + 1) (omega arith)
