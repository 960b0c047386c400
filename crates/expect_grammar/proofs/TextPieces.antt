-- `regex` reads groups, pieces, sequences and alternatives of the grammar, and how deep each nests.
use Rattle.std.proofs.Common.{◌≡◌, ℕ, zero, suc, ◌+◌, ◌*◌, ◌^◌, ◌<◌, ◌≤◌, nat_lt, Bool, true, false, cond, List, [], ◌∷◌, ◌++◌, length, Option, Some, None, eqb, ne_eqb, refl, sym, ◌∙◌, arith}
use Rattle.std.proofs.lemmas.Bool.{lt-ltb, or_parts, eqb-false}
use Rattle.std.proofs.lemmas.List.{length_push}
use Rattle.regex_hir.specs.Meaning.{cat_all, alt_all}
use Rattle.regex_hir.specs.Re.{Re as Meant}
use Rattle.regex_hir.specs.Re as Meaning
use Rattle.regex_syntax.specs.Brackets.{Nested, deepest, join}
use Rattle.regex_syntax.specs.Grammar.{Names, Place, opening, capture, set_flags, with_repetitions, item, items, branches, join_parts}
use Rattle.regex_syntax.specs.Reading.{Text, first, is_at, begins, skip}
use Rattle.exp_match.specs.Grammar.{Re, Seq, Piece, Atom, Repeat, alone, either, empty, next, start, end, once, repeated, any, group, plain_group, class, class_without, character, set, literal, brace}
use Rattle.exp_match.specs.Written.{config_of}
use Rattle.expect_grammar.proofs.TextAtoms.{Begins, special_begins, IsAtom, any_is, start_is, end_is, class_is, class_without_is, set_reads, escape_reads, literal_reads, brace_reads}
use Rattle.expect_grammar.proofs.TextClasses.{given, not_empty}
use Rattle.expect_grammar.proofs.TextCounts.{repeat_takes, repeat_text}
use Rattle.expect_grammar.proofs.TextCounts as counts

-- what may stand behind a sequence
data Ends : Text → Type 0 where
  over : Ends []
  bar : (t : Text) → Ends (124 ∷ t)
  close : (t : Text) → Ends (41 ∷ t)

-- and behind alternatives
pub data Closes : Text → Type 0 where
  over : Closes []
  close : (t : Text) → Closes (41 ∷ t)

ends : (t : Text) → Closes t → Ends t
ends t Closes.over = Ends.over
ends t (Closes.close t') = Ends.close t'

no_bar : (t : Text) → Closes t → is_at "|" t ≡ false
unfolding first
no_bar t Closes.over = refl
no_bar t (Closes.close t') = refl

ends_operator : (t : Text) → Ends t → is_at "?*+{" t ≡ false
unfolding first
ends_operator t Ends.over = refl
ends_operator t (Ends.bar t') = refl
ends_operator t (Ends.close t') = refl

-- how each begins

atom_begins : (d : ℕ) (s t : List ℕ) → Atom d s t → Begins (given s)
unfolding first
atom_begins d s t (any d' s') = (any_is false false s').begins
atom_begins d s t (group d' s' t' r) = special_begins 40 (given s') refl refl
atom_begins d s t (plain_group d' s' t' r) = special_begins 40 (63 ∷ 58 ∷ given s') refl refl
atom_begins d s t (class d' s' t' q c) = (class_is false false s' t q c).begins
atom_begins d s t (class_without d' s' t' c) = (class_without_is false false s' t c).begins
atom_begins d s t (character d' v s' t' e) = (escape_reads false false v s' t e).begins
atom_begins d s t (set d' c s' is) = (set_reads false false c s' is).begins
atom_begins d s t (literal d' c s' isnt) = (literal_reads false false c s' isnt).begins
atom_begins d s t (brace d' s' isnt) = (brace_reads false false s' isnt).begins

piece_begins : (d : ℕ) (s t : List ℕ) → Piece d s t → Begins (given s)
piece_begins d s t (start d' s') = (start_is false false s').begins
piece_begins d s t (end d' s') = (end_is false false s').begins
piece_begins d s t (once d' s' t' a) = atom_begins d s t a
piece_begins d s t (repeated d' s' u t' a r) = atom_begins d s u a

-- no sequence begins with an operator
no_operator : (d : ℕ) (s t : List ℕ) → Seq d s t → Ends (given t) → is_at "?*+{" (given s) ≡ false
no_operator d s t (empty d' s') e = ends_operator (given s) e
no_operator d s t (next d' s' u t' p q) e = (piece_begins d s u p).no_operator

alternatives_begin : (d : ℕ) (s t : List ℕ) → Re d s t → Closes (given t) → is_at "?*+{" (given s) ≡ false
alternatives_begin d s t (alone d' s' t' q) c = no_operator d s t q (ends (given t) c)
alternatives_begin d s t (either d' s' u t' q r) c = no_operator d s (124 ∷ u) q (Ends.bar (given u))

-- a group that does is none with a name or flags
no_mark : (s : Text) → is_at "?*+{" s ≡ false → (begins "?P<" s ≡ false) × (begins "?<" s ≡ false) × (is_at "?" s ≡ false)
unfolding first
no_mark [] h = (refl, refl, refl)
no_mark (c ∷ s) h =
    let other : eqb c 63 ≡ false = (or_parts (eqb c 63) _ h).0 in
    let same : eqb 63 c ≡ false = ne_eqb 63 c (λ e. eqb-false c 63 other (sym e)) in
    (rw same refl, rw same refl, other)

-- each but an empty sequence takes some of the text
mutual
  re_takes : (d : ℕ) (s t : List ℕ) → Re d s t → length (given t) ≤ length (given s)
  re_takes d s t (alone d' s' t' q) = seq_takes d s t q
  re_takes d s t (either d' s' u t' q r) = omega (arith, seq_takes d s (124 ∷ u) q, re_takes d u t r)

  seq_takes : (d : ℕ) (s t : List ℕ) → Seq d s t → length (given t) ≤ length (given s)
  seq_takes d s t (empty d' s') = omega arith
  seq_takes d s t (next d' s' u t' p q) = omega (arith, piece_takes d s u p, seq_takes d u t q)

  piece_takes : (d : ℕ) (s t : List ℕ) → Piece d s t → length (given t) < length (given s)
  piece_takes d s t (start d' s') = (start_is false false s').takes
  piece_takes d s t (end d' s') = (end_is false false s').takes
  piece_takes d s t (once d' s' t' a) = atom_takes d s t a
  piece_takes d s t (repeated d' s' u t' a r) = omega (arith, atom_takes d s u a, repeat_takes (given u) (given t) (repeat_text u t r))

  atom_takes : (d : ℕ) (s t : List ℕ) → Atom d s t → length (given t) < length (given s)
  atom_takes d s t (any d' s') = (any_is false false s').takes
  atom_takes d s t (group d' s' t' r) = omega (arith, re_takes d' s' (41 ∷ t) r)
  atom_takes d s t (plain_group d' s' t' r) = omega (arith, re_takes d' s' (41 ∷ t) r)
  atom_takes d s t (class d' s' t' q c) = (class_is false false s' t q c).takes
  atom_takes d s t (class_without d' s' t' c) = (class_without_is false false s' t c).takes
  atom_takes d s t (character d' v s' t' e) = (escape_reads false false v s' t e).takes
  atom_takes d s t (set d' c s' is) = (set_reads false false c s' is).takes
  atom_takes d s t (literal d' c s' isnt) = (literal_reads false false c s' isnt).takes
  atom_takes d s t (brace d' s' isnt) = (brace_reads false false s' isnt).takes

module _ (nocase lines : Bool) where
  abbrev pub at : Names → Text → Place
  at names s = record { config = config_of nocase lines; names = names; text = s }

  abbrev Found : Type 0 → Type 0
  Found A = Option (A × Place)

  -- as few names as that: a pattern has at most 4,096 bytes, and its translated text at most thrice as many characters
  abbrev pub Fits : Names → Text → Type 0
  Fits names s = length names + length s ≤ 12289

  -- parts are found up to t, each at most so deep
  pub record AreParts (found : Found (List (Nested Meant))) (most : ℕ) (t : Text) : Type 0 where
    pub parts : List (Nested Meant)
    pub names : Names
    pub are : found ≡ Some (parts, at names t)
    pub depth : deepest parts ≤ most
    pub fits : Fits names t

  -- one is found
  record IsPart (found : Found (Nested Meant)) (most : ℕ) (t : Text) : Type 0 where
    part : Nested Meant
    names : Names
    is : found ≡ Some (part, at names t)
    depth : part.depth ≤ most
    fits : Fits names t

  -- one is found, which operators at t may repeat
  record IsRepeatable (found : Found (Nested Meant)) (most : ℕ) (t : Text) : Type 0 where
    part : Nested Meant
    names : Names
    is : found ≡ with_repetitions part (at names t)
    depth : part.depth ≤ most
    fits : Fits names t

  level : (t : Bool) → cond t 1 0 ≤ 1
  level true = omega arith
  level false = omega arith

  pub join_depth : (make : List Meant → Meant) (parts : List (Nested Meant)) (most : ℕ) → deepest parts ≤ most → (join make parts).depth ≤ most + 1
  join_depth make parts most le = omega (arith, level (nat_lt 1 (length parts)))

  once_part : (found : Found (Nested Meant)) (most : ℕ) (t : Text) → IsRepeatable found most t → is_at "?*+{" t ≡ false → IsPart found (most + 1) t
  unfolding with_repetitions
  once_part found most t r h = record {
    part = r.part;
    names = r.names;
    is = r.is ∙ rw (counts.once nocase lines r.part t h) refl;
    depth = omega (arith, r.depth);
    fits = r.fits;
  }

  repeated_part : (found : Found (Nested Meant)) (most : ℕ) (t u : Text) → IsRepeatable found most t → Repeat t u → is_at "?*+{" u ≡ false → IsPart found (most + 1) u
  unfolding with_repetitions
  repeated_part found most t u r operator h =
      let p = counts.repeated nocase lines r.part t u operator h in
      record {
        part = p.part;
        names = r.names;
        is = r.is ∙ rw p.is refl;
        depth = omega (arith, r.depth, p.depth);
        fits = omega (arith, r.fits, counts.repeat_takes t u operator);
      }

  -- what is read inside a group with n calls
  abbrev inside : ℕ → Place → Found (Nested Meant)
  inside n p = join_parts alt_all (branches n p)

  atom_item : (n most : ℕ) (names : Names) (s t : Text) → IsAtom nocase lines s t → 2 ≤ most → Fits names s → IsRepeatable (item (inside n) (at names s)) most t
  unfolding item
  atom_item n most names s t a le fits = record {
    part = a.part;
    names = names;
    is = rw (a.no_group, a.is) refl;
    depth = omega (arith, a.depth);
    fits = omega (arith, fits, a.takes);
  }

  few : (names : Names) → length names ≤ 12289 → nat_lt (length names) (2 ^ 32) ≡ true
  few names le = lt-ltb (length names) (2 ^ 32) (omega arith)

  group_item : (n most : ℕ) (names : Names) (s t : Text) → is_at "?*+{" s ≡ false → Fits names (40 ∷ s)
      → AreParts (branches n (at (names ++ None ∷ []) s)) most (41 ∷ t) → IsRepeatable (item (inside n) (at names (40 ∷ s))) (most + 2) t
  unfolding item opening capture skip first join_parts
  group_item n most names s t h fits p =
      let m = no_mark s h in
      let whole = join alt_all p.parts in
      record {
        part = record { value = Meaning.group (length names) whole.value; depth = whole.depth + 1 };
        names = p.names;
        is = rw (m.0, m.1, m.2, few names (omega (arith, fits)), p.are) refl;
        depth = omega (arith, join_depth alt_all p.parts most p.depth);
        fits = omega (arith, p.fits);
      }

  plain_group_item : (n most : ℕ) (names : Names) (s t : Text) → AreParts (branches n (at names s)) most (41 ∷ t)
      → IsRepeatable (item (inside n) (at names (40 ∷ 63 ∷ 58 ∷ s))) (most + 2) t
  unfolding item opening set_flags skip first join_parts
  plain_group_item n most names s t p =
      let whole = join alt_all p.parts in
      record {
        part = record { value = whole.value; depth = whole.depth + 1 };
        names = p.names;
        is = rw p.are refl;
        depth = omega (arith, join_depth alt_all p.parts most p.depth);
        fits = omega (arith, p.fits);
      }

  no_items : (n most : ℕ) (names : Names) (s : Text) → Ends s → Fits names s → AreParts (items (suc n) (at names s)) most s
  unfolding items skip first
  no_items n most names s Ends.over fits = record { parts = []; names = names; are = refl; depth = omega arith; fits = fits }
  no_items n most names s (Ends.bar t) fits = record { parts = []; names = names; are = rw (not_empty 124 t) refl; depth = omega arith; fits = fits }
  no_items n most names s (Ends.close t) fits = record { parts = []; names = names; are = rw (not_empty 41 t) refl; depth = omega arith; fits = fits }

  more_items : (n most : ℕ) (names : Names) (s t u : Text) → Begins s → (p : IsPart (item (inside n) (at names s)) most t) → AreParts (items n (at p.names t)) most u
      → AreParts (items (suc n) (at names s)) most u
  unfolding items skip
  more_items n most names s t u b p q = record {
    parts = p.part ∷ q.parts;
    names = q.names;
    are = rw (b.some, b.no_end, p.is, q.are) refl;
    depth = omega (arith, p.depth, q.depth);
    fits = q.fits;
  }

  last_branch : (n most : ℕ) (names : Names) (s t : Text) → AreParts (items n (at names s)) most t → is_at "|" t ≡ false
      → AreParts (branches (suc n) (at names s)) (most + 1) t
  unfolding branches join_parts
  last_branch n most names s t p h = record {
    parts = join cat_all p.parts ∷ [];
    names = p.names;
    are = rw (p.are, h) refl;
    depth = omega (arith, join_depth cat_all p.parts most p.depth);
    fits = p.fits;
  }

  more_branches : (n most : ℕ) (names : Names) (s t u : Text) → (p : AreParts (items n (at names s)) most (124 ∷ t))
      → AreParts (branches n (at p.names t)) (most + 1) u → AreParts (branches (suc n) (at names s)) (most + 1) u
  unfolding branches join_parts first
  more_branches n most names s t u p q = record {
    parts = join cat_all p.parts ∷ q.parts;
    names = q.names;
    are = rw (p.are, q.are) refl;
    depth = omega (arith, join_depth cat_all p.parts most p.depth, q.depth);
    fits = q.fits;
  }

  -- An atom with groups d deep in it nests at most so deep. A repetition makes a level more, and so do a sequence, alternatives and a group.
  abbrev pub atom_depth : ℕ → ℕ
  atom_depth d = 4 * d + 2

  deeper : (found : Found (Nested Meant)) (most other : ℕ) (t : Text) → IsRepeatable found most t → most ≤ other → IsRepeatable found other t
  deeper found most other t r le = record { part = r.part; names = r.names; is = r.is; depth = omega (arith, r.depth); fits = r.fits }

  one_name_more : (names : Names) (s : Text) → Fits names (40 ∷ s) → Fits (names ++ None ∷ []) s
  one_name_more names s fits = omega (arith, fits, length_push names None)

  -- With enough calls each is read. An operator behind a piece would be read as the piece's own.
  mutual
    pub re_reads : (d : ℕ) (s t : List ℕ) → Re d s t → Closes (given t) → (n : ℕ) → 2 * length (given s) + 2 ≤ n → (names : Names) → Fits names (given s)
        → AreParts (branches n (at names (given s))) (atom_depth d + 1 + 1) (given t)
    re_reads d s t r c zero le names fits = absurd (omega arith)
    re_reads d s t (alone d' s' t' q) c (suc n) le names fits =
        last_branch n (atom_depth d + 1) names (given s) (given t) (seq_reads d s t q (ends (given t) c) n (omega arith) names fits) (no_bar (given t) c)
    re_reads d s t (either d' s' u t' q r) c (suc n) le names fits =
        let first_one = seq_reads d s (124 ∷ u) q (Ends.bar (given u)) n (omega arith) names fits in
        more_branches n (atom_depth d + 1) names (given s) (given u) (given t) first_one
        (re_reads d u t r c n (omega (arith, seq_takes d s (124 ∷ u) q)) first_one.names (omega (arith, first_one.fits)))

    seq_reads : (d : ℕ) (s t : List ℕ) → Seq d s t → Ends (given t) → (n : ℕ) → 2 * length (given s) + 1 ≤ n → (names : Names) → Fits names (given s)
        → AreParts (items n (at names (given s))) (atom_depth d + 1) (given t)
    seq_reads d s t q e zero le names fits = absurd (omega arith)
    seq_reads d s t (empty d' s') e (suc n) le names fits = no_items n (atom_depth d + 1) names (given s) e fits
    seq_reads d s t (next d' s' u t' p q) e (suc n) le names fits =
        let first_one = piece_reads d s u p (no_operator d u t q e) n (omega arith) names fits in
        more_items n (atom_depth d + 1) names (given s) (given u) (given t) (piece_begins d s u p) first_one
        (seq_reads d u t q e n (omega (arith, piece_takes d s u p)) first_one.names first_one.fits)

    piece_reads : (d : ℕ) (s t : List ℕ) → Piece d s t → is_at "?*+{" (given t) ≡ false → (n : ℕ) → 2 * length (given s) ≤ n → (names : Names) → Fits names (given s)
        → IsPart (item (inside n) (at names (given s))) (atom_depth d + 1) (given t)
    piece_reads d s t (start d' s') h n le names fits =
        once_part (item (inside n) (at names (given s))) (atom_depth d) (given t) (atom_item n (atom_depth d) names (given s) (given t) (start_is nocase lines t) (omega arith) fits) h
    piece_reads d s t (end d' s') h n le names fits =
        once_part (item (inside n) (at names (given s))) (atom_depth d) (given t) (atom_item n (atom_depth d) names (given s) (given t) (end_is nocase lines t) (omega arith) fits) h
    piece_reads d s t (once d' s' t' a) h n le names fits = once_part (item (inside n) (at names (given s))) (atom_depth d) (given t) (atom_reads d s t a n le names fits) h
    piece_reads d s t (repeated d' s' u t' a r) h n le names fits =
        repeated_part (item (inside n) (at names (given s))) (atom_depth d) (given u) (given t) (atom_reads d s u a n le names fits) (repeat_text u t r) h

    atom_reads : (d : ℕ) (s t : List ℕ) → Atom d s t → (n : ℕ) → 2 * length (given s) ≤ n → (names : Names) → Fits names (given s)
        → IsRepeatable (item (inside n) (at names (given s))) (atom_depth d) (given t)
    atom_reads d s t (group d' s' t' r) n le names fits =
        deeper (item (inside n) (at names (given s))) (atom_depth d' + 1 + 1 + 2) (atom_depth d) (given t)
        (group_item n (atom_depth d' + 1 + 1) names (given s') (given t) (alternatives_begin d' s' (41 ∷ t) r (Closes.close (given t))) fits
        (re_reads d' s' (41 ∷ t) r (Closes.close (given t)) n (omega arith) (names ++ None ∷ []) (one_name_more names (given s') fits)))
        (omega arith)
    atom_reads d s t (plain_group d' s' t' r) n le names fits =
        deeper (item (inside n) (at names (given s))) (atom_depth d' + 1 + 1 + 2) (atom_depth d) (given t)
        (plain_group_item n (atom_depth d' + 1 + 1) names (given s') (given t) (re_reads d' s' (41 ∷ t) r (Closes.close (given t)) n (omega arith) names (omega (arith, fits))))
        (omega arith)
    atom_reads d s t (any d' s') n le names fits = atom_item n (atom_depth d) names (given s) (given t) (any_is nocase lines t) (omega arith) fits
    atom_reads d s t (class d' s' t' q c) n le names fits = atom_item n (atom_depth d) names (given s) (given t) (class_is nocase lines s' t q c) (omega arith) fits
    atom_reads d s t (class_without d' s' t' c) n le names fits = atom_item n (atom_depth d) names (given s) (given t) (class_without_is nocase lines s' t c) (omega arith) fits
    atom_reads d s t (character d' v s' t' e) n le names fits = atom_item n (atom_depth d) names (given s) (given t) (escape_reads nocase lines v s' t e) (omega arith) fits
    atom_reads d s t (set d' c s' is) n le names fits = atom_item n (atom_depth d) names (given s) (given t) (set_reads nocase lines c s' is) (omega arith) fits
    atom_reads d s t (literal d' c s' isnt) n le names fits = atom_item n (atom_depth d) names (given s) (given t) (literal_reads nocase lines c s' isnt) (omega arith) fits
    atom_reads d s t (brace d' s' isnt) n le names fits = atom_item n (atom_depth d) names (given s) (given t) (brace_reads nocase lines s' isnt) (omega arith) fits
