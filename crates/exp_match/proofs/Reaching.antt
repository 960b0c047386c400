-- Where a pattern that has a reach matches, it does so in the front that has so many bytes from there on; and where it matches in the last of the
-- bytes, it does so in all of them. So a match of any pattern whose beginning has one begins in both.
use Rattle.std.proofs.Common.{◌≡◌, inl, inr, ℕ, ◌+◌, ◌-◌, ◌<◌, ◌≤◌, max, true, List, ◌++◌, All, length, length-drop, take, drop, drop-drop, get_or-drop, get_or-take, Option, Some, None, IfSome, IsSomeAnd, MatchOption, option_map, refl, sym, ap, subst, ◌∙◌, ⊎_elim, arith}
use Rattle.std.specs.Prelude.{not, is_some}
use Rattle.std.specs.List.{slice_get}
use Rattle.std.specs.Char.{encode_utf8}
use Rattle.std.proofs.Math.Seq.{take-append-add}
use Rattle.std.proofs.lemmas.Bool.{cases_lt}
use Rattle.std.proofs.lemmas.List.{drop-take, drop_all, length-take}
use Rattle.std.proofs.lemmas.List.Elements.{All-take, All-drop}
use Rattle.std.proofs.lemmas.Option.{none-some, same_Some, slice_get_within, slice_get_past, slice_get-get_or, get_or_from_slice_get}
use Rattle.std.proofs.lemmas.Str.{len_utf8_bounds, length-encode}
use Rattle.regex_hir.specs.Re.{Re, empty, literal, byte_in, char_in, look, cat, alt, group, plus, accept, attempt}
use Rattle.regex_hir.specs.Find.{Match, find}
use Rattle.regex_hir.specs.Looks.{holds, holds_between}
use Rattle.regex_hir.specs.Matches.{Matches}
use Rattle.regex_hir.specs.declared.look.Look.{Look}
use Rattle.regex_hir.specs.declared.look.Look.TheVariants as looks
use Rattle.regex_hir.proofs.AttemptLemmas.{attempt_none}
use Rattle.regex_hir.proofs.FindLemmas.{first_between_skip, first_between_none, first_between_past, find_complete}
use Rattle.regex_hir.proofs.OptionLemmas.{value_of_IsSome}
use Rattle.regex_hir.proofs.TextLemmas.{has_bytes_at_parts, has_bytes_at_from, char_at_parts, char_at_from}
use Rattle.regex_syntax.specs.Brackets.{Nested}
use Rattle.regex_syntax.specs.Captures.{SameCaptures}
use Rattle.regex_syntax.specs.Grammar.{Names}
use Rattle.regex_syntax.proofs.CapturesLemmas.{find_alike}
use Rattle.exp_match.specs.Reach.{of_both, look_reach, reach, beginning, HasOpening, Opens, IsBounded}
use Rattle.exp_match.specs.Written.{Written, Seen, Shows, FindsAsWritten, FindsFrom, reading, seen_of}
use Rattle.exp_match.proofs.Beginning.{sooner, later}

-- the two numbers behind one of both
pub both_parts : (f : ℕ → ℕ → ℕ) (o p : Option ℕ) (m : ℕ) → of_both f o p ≡ Some m → (a : ℕ) × (b : ℕ) × (o ≡ Some a) × (p ≡ Some b) × (f a b ≡ m)
both_parts f (Some a) (Some b) m e = (a, b, refl, refl, same_Some _ _ e)
both_parts f None p m e = absurd (none-some m e)
both_parts f (Some a) None m e = absurd (none-some m e)

-- no assertion but that of the end has a reach
look_is_end : (l : Look) (m : ℕ) → look_reach l ≡ Some m → l ≡ looks.End
look_is_end looks.Start m e = absurd (none-some m e)
look_is_end looks.End m e = refl
look_is_end looks.StartLf m e = absurd (none-some m e)
look_is_end looks.EndLf m e = absurd (none-some m e)
look_is_end looks.StartCrlf m e = absurd (none-some m e)
look_is_end looks.EndCrlf m e = absurd (none-some m e)
look_is_end looks.WordAscii m e = absurd (none-some m e)
look_is_end looks.WordAsciiNegate m e = absurd (none-some m e)
look_is_end looks.WordUnicode m e = absurd (none-some m e)
look_is_end looks.WordUnicodeNegate m e = absurd (none-some m e)
look_is_end looks.WordStartAscii m e = absurd (none-some m e)
look_is_end looks.WordEndAscii m e = absurd (none-some m e)
look_is_end looks.WordStartUnicode m e = absurd (none-some m e)
look_is_end looks.WordEndUnicode m e = absurd (none-some m e)
look_is_end looks.WordStartHalfAscii m e = absurd (none-some m e)
look_is_end looks.WordEndHalfAscii m e = absurd (none-some m e)
look_is_end looks.WordStartHalfUnicode m e = absurd (none-some m e)
look_is_end looks.WordEndHalfUnicode m e = absurd (none-some m e)

-- the end holds exactly where no byte stands
no_byte : (o : Option ℕ) → not (is_some o) ≡ true → o ≡ None
no_byte None e = refl
no_byte (Some b) e = absurd (cc)

end_parts : (hay : List ℕ) (i : ℕ) → holds looks.End hay i ≡ true → slice_get hay i ≡ None
unfolding holds holds_between
end_parts hay i h = no_byte (slice_get hay i) h

end_from : (hay : List ℕ) (i : ℕ) → slice_get hay i ≡ None → holds looks.End hay i ≡ true
unfolding holds holds_between
end_from hay i none = ap (λ (o : Option ℕ). not (is_some o)) none

past_of_none : (hay : List ℕ) (i : ℕ) → slice_get hay i ≡ None → length hay ≤ i
past_of_none hay i none =
    ⊎_elim
    (λ (lt : i < length hay). absurd (none-some _ (sym none ∙ slice_get-get_or hay i 0 lt)))
    (λ (le : length hay ≤ i). le)
    (cases_lt i (length hay))

-- in the first n bytes
module _ (hay : List ℕ) (n : ℕ) where
  -- what stands at a place stands there in the front that has all of it
  stands_in_front : (i : ℕ) (bs rest : List ℕ) → i + length bs ≤ n → drop i hay ≡ bs ++ rest → drop i (take n hay) ≡ bs ++ take (n - i - length bs) rest
  stands_in_front i bs rest le e =
      let all : n ≡ i + (length bs + (n - i - length bs)) = omega arith in
      ap (λ (k : ℕ). drop i (take k hay)) all ∙ drop-take i (length bs + (n - i - length bs)) hay
      ∙ ap (take (length bs + (n - i - length bs))) e ∙ take-append-add bs rest (n - i - length bs)

  pub in_front : (re : Re) (m i j : ℕ) → reach re ≡ Some m → i + m ≤ n → Matches hay re i j → (j ≤ i + m) × Matches (take n hay) re i j
  in_front empty m i j is le s =
      let none : 0 ≡ m = same_Some 0 m is in
      (omega (arith, s), s)
  in_front (literal bs) m i j is le s =
      let all : length bs ≡ m = same_Some (length bs) m is in (
        omega (arith, s.1),
        (has_bytes_at_from (take n hay) i bs _ (stands_in_front i bs _ (omega arith) (has_bytes_at_parts hay i bs s.0)), s.1),
      )
  in_front (byte_in ranges) m i j is le s =
      let one : 1 ≡ m = same_Some 1 m is in
      let inside = slice_get_within hay i s.0 s.1 in
      let long = length-take n hay in (
        omega (arith, s.3),
        (s.0, slice_get-get_or (take n hay) i 0 (omega arith) ∙ ap Some (get_or-take n hay i 0 (omega arith) ∙ get_or_from_slice_get hay i s.0 0 s.1), s.2, s.3),
      )
  in_front (char_in ranges) m i j is le s =
      let four : 4 ≡ m = same_Some 4 m is in
      let size = len_utf8_bounds s.0 in
      let parts = char_at_parts hay i s.0 s.1 in (
        omega (arith, s.3),
        (s.0, char_at_from (take n hay) i s.0 _ parts.0 (stands_in_front i (encode_utf8 s.0) _ (omega (arith, length-encode s.0)) parts.1), s.2, s.3),
      )
  in_front (look l) m i j is le s =
      let end : l ≡ looks.End = look_is_end l m is in
      let none = past_of_none hay i (end_parts hay i (subst (λ (x : Look). holds x hay i ≡ true) end s.0)) in
      let past : length (take n hay) ≤ i = omega (arith, length-take n hay) in (
        omega (arith, s.1),
        (subst (λ (x : Look). holds x (take n hay) i ≡ true) (sym end) (end_from (take n hay) i (slice_get_past (take n hay) i past)), s.1),
      )
  in_front (cat a b) m i j is le s =
      let parts = both_parts (λ x y. x + y) (reach a) (reach b) m is in
      let sum : parts.0 + parts.1 ≡ m = parts.4 in
      let first = in_front a parts.0 i s.0 parts.2 (omega arith) s.1 in
      let second = in_front b parts.1 s.0 j parts.3 (omega (arith, first.0)) s.2 in
      (omega (arith, first.0, second.0), (s.0, first.1, second.1))
  in_front (alt a b) m i j is le s =
      let parts = both_parts max (reach a) (reach b) m is in
      let most : max parts.0 parts.1 ≡ m = parts.4 in
      elim s [
        | inl left ↦ let first = in_front a parts.0 i j parts.2 (omega arith) left in (omega (arith, first.0), inl first.1)
        | inr right ↦ let second = in_front b parts.1 i j parts.3 (omega arith) right in (omega (arith, second.0), inr second.1)
      ]
  in_front (group k a) m i j is le s = in_front a m i j is le s
  in_front (plus greedy a) m i j is le s = absurd (none-some m is)

-- behind the first d bytes
module _ (hay : List ℕ) (d : ℕ) where
  stands_in_all : (i : ℕ) (bs rest : List ℕ) → drop i (drop d hay) ≡ bs ++ rest → drop (d + i) hay ≡ bs ++ rest
  stands_in_all i bs rest e = sym (drop-drop i d hay) ∙ e

  pub in_all : (re : Re) (m i j : ℕ) → reach re ≡ Some m → Matches (drop d hay) re i j → Matches hay re (d + i) (d + j)
  in_all empty m i j is s = ap (λ (k : ℕ). d + k) s
  in_all (literal bs) m i j is s = (
    has_bytes_at_from hay (d + i) bs _ (stands_in_all i bs _ (has_bytes_at_parts (drop d hay) i bs s.0)),
    omega (arith, s.1),
  )
  in_all (byte_in ranges) m i j is s =
      let inside = slice_get_within (drop d hay) i s.0 s.1 in (
        s.0,
        slice_get-get_or hay (d + i) 0 (omega (arith, length-drop d hay)) ∙ ap Some (sym (get_or-drop d hay i 0) ∙ get_or_from_slice_get (drop d hay) i s.0 0 s.1),
        s.2,
        omega (arith, s.3),
      )
  in_all (char_in ranges) m i j is s =
      let parts = char_at_parts (drop d hay) i s.0 s.1 in
      (s.0, char_at_from hay (d + i) s.0 _ parts.0 (stands_in_all i (encode_utf8 s.0) _ parts.1), s.2, omega (arith, s.3))
  in_all (look l) m i j is s =
      let end : l ≡ looks.End = look_is_end l m is in
      let none = past_of_none (drop d hay) i (end_parts (drop d hay) i (subst (λ (x : Look). holds x (drop d hay) i ≡ true) end s.0)) in
      let past : length hay ≤ d + i = omega (arith, length-drop d hay) in
      (subst (λ (x : Look). holds x hay (d + i) ≡ true) (sym end) (end_from hay (d + i) (slice_get_past hay (d + i) past)), ap (λ (k : ℕ). d + k) s.1)
  in_all (cat a b) m i j is s =
      let parts = both_parts (λ x y. x + y) (reach a) (reach b) m is in
      (d + s.0, in_all a parts.0 i s.0 parts.2 s.1, in_all b parts.1 s.0 j parts.3 s.2)
  in_all (alt a b) m i j is s =
      let parts = both_parts max (reach a) (reach b) m is in
      elim s [
        | inl left ↦ inl (in_all a parts.0 i j parts.2 left)
        | inr right ↦ inr (in_all b parts.1 i j parts.3 right)
      ]
  in_all (group k a) m i j is s = in_all a m i j is s
  in_all (plus greedy a) m i j is s = absurd (none-some m is)

-- where nothing is found, nothing matches
unmatched : (re : Re) (hay : List ℕ) (i j : ℕ) → find re hay 0 ≡ None → i ≤ length hay → ¬ (Matches hay re i j)
unmatched re hay i j none le s =
    let v = value_of_IsSome _ (find_complete re hay 0 i j (omega arith) le s) in
    none-some v.0 (sym none ∙ v.1)

module _ (re : Re) (m : ℕ) (is : reach (beginning re) ≡ Some m) (hay : List ℕ) where
  -- where a match begins one does in the front that has the bytes which decide it
  begins_in_front : (n i j : ℕ) → i + m ≤ n → Matches hay re i j → (k : ℕ) × Matches (take n hay) re i k
  begins_in_front n i j le s =
      let start = sooner hay re i j s in
      later (take n hay) re i start.0 (in_front hay n (beginning re) m i start.0 is le start.1).1

  -- where one begins in the last of the bytes one does in all of them
  begins_in_all : (d i j : ℕ) → Matches (drop d hay) re i j → (k : ℕ) × Matches hay re (d + i) k
  begins_in_all d i j s =
      let start = sooner (drop d hay) re i j s in
      later hay re (d + i) (d + start.0) (in_all hay d (beginning re) m i start.0 is start.1)

  -- Where nothing is found in the first n bytes, a search may begin where they no longer decide it.
  pub found_behind : (n start : ℕ) → ((i : ℕ) → i < start → i + m ≤ n) → find re (take n hay) 0 ≡ None → find re hay 0 ≡ find re hay start
  unfolding find
  found_behind n start before none =
      let long = length-take n hay in
      let no_match : (i : ℕ) → i < start → i ≤ length hay → attempt hay re accept i ≡ None
      = λ i lt le.
      let ends = before i lt in
      attempt_none hay re accept i
      (λ j s. let begun = begins_in_front n i j ends s in absurd (unmatched re (take n hay) i begun.0 none (omega arith) begun.1)) in
      ⊎_elim
      (λ (past : length hay < start). first_between_none (attempt hay re accept) 0 (length hay) (λ i ge le. no_match i (omega arith) le)
      ∙ sym (first_between_past (attempt hay re accept) start (length hay) past))
      (λ (within : start ≤ length hay). first_between_skip (attempt hay re accept) 0 start (length hay) (omega arith) (λ i ge lt. no_match i lt (omega arith)))
      (cases_lt (length hay) start)

  unfound_within : (d : ℕ) → d ≤ length hay → find re hay 0 ≡ None → find re (drop d hay) 0 ≡ None
  unfolding find
  unfound_within d within none =
      let long = length-drop d hay in
      first_between_none (attempt (drop d hay) re accept) 0 (length (drop d hay))
      (λ i ge le. attempt_none (drop d hay) re accept i
      (λ j s. let begun = begins_in_all d i j s in absurd (unmatched re hay (d + i) begun.0 none (omega arith) begun.1)))

  -- What isn't found in all bytes isn't found in the last of them.
  pub unfound_in_rest : (d : ℕ) → find re hay 0 ≡ None → find re (drop d hay) 0 ≡ None
  unfound_in_rest d none =
      ⊎_elim
      (λ (past : length hay < d).
      let same : drop d hay ≡ drop (length hay) hay = drop_all d hay (omega arith) ∙ sym (drop_all (length hay) hay (omega arith)) in
      subst (λ (l : List ℕ). find re l 0 ≡ None) (sym same) (unfound_within (length hay) (omega arith) none))
      (λ (within : d ≤ length hay). unfound_within d within none)
      (cases_lt (length hay) d)

-- each number is a byte
abbrev pub AreBytes : List ℕ → Type 0
AreBytes = All (λ b. b < 256)

-- The same of what the grammar reads.

-- what a caller sees of the first match from a place on
abbrev pub seen_from : Re → List ℕ → ℕ → Option Seen
seen_from re hay start = option_map seen_of (find re hay start)

unseen : (o : Option Match) → option_map seen_of o ≡ None → o ≡ None
unseen None e = refl
unseen (Some x) e = absurd (none-some _ (sym e))

module _ (a b : Re) (alike : SameCaptures a b) (m : ℕ) (is : reach (beginning a) ≡ Some m) (hay : List ℕ) (bytes : AreBytes hay) where
  found_by_either : (l : List ℕ) → AreBytes l → seen_from b l 0 ≡ None → find a l 0 ≡ None
  found_by_either l are none = unseen (find a l 0) (find_alike a b alike l are 0 ∙ none)

  seen_behind : (n start : ℕ) → ((i : ℕ) → i < start → i + m ≤ n) → seen_from b (take n hay) 0 ≡ None → seen_from b hay start ≡ seen_from b hay 0
  seen_behind n start before none =
      let same = found_behind a m is hay n start before (found_by_either (take n hay) (All-take (λ b. b < 256) n hay bytes) none) in
      sym (find_alike a b alike hay bytes start) ∙ ap (option_map seen_of) (sym same) ∙ find_alike a b alike hay bytes 0

  unseen_in_rest : (d : ℕ) → seen_from b hay 0 ≡ None → seen_from b (drop d hay) 0 ≡ None
  unseen_in_rest d none =
      sym (find_alike a b alike (drop d hay) (All-drop (λ b. b < 256) d hay bytes) 0)
      ∙ ap (option_map seen_of) (unfound_in_rest a m is hay d (found_by_either hay bytes none))

module _ (m : ℕ) (hay : List ℕ) (bytes : AreBytes hay) where
  reading_behind : (o : Option (Nested Re × Names)) → IsSomeAnd o (λ p. HasOpening m p.0.value) → (n start : ℕ) → ((i : ℕ) → i < start → i + m ≤ n)
      → IsSomeAnd o (λ p. seen_from p.0.value (take n hay) 0 ≡ None) → (found : Option (List (Option (ℕ × ℕ))))
      → IsSomeAnd o (λ p. Shows (seen_from p.0.value hay start) found) → IsSomeAnd o (λ p. Shows (seen_from p.0.value hay 0) found)
  reading_behind None r n start before none found shows = shows
  reading_behind (Some p) r n start before none found shows =
      subst (λ (s : Option Seen). Shows s found) (seen_behind r.0 p.0.value r.1 m r.2 hay bytes n start before none) shows

  reading_in_rest : (o : Option (Nested Re × Names)) → IsSomeAnd o (λ p. HasOpening m p.0.value) → (d : ℕ)
      → IsSomeAnd o (λ p. seen_from p.0.value hay 0 ≡ None) → IsSomeAnd o (λ p. seen_from p.0.value (drop d hay) 0 ≡ None)
  reading_in_rest None r d none = none
  reading_in_rest (Some p) r d none = unseen_in_rest r.0 p.0.value r.1 m r.2 hay bytes d none

-- Where a pattern finds nothing in the first n bytes, a search from such a place finds what one from the start does.
pub found_from : (w : Written) (m : ℕ) → Opens w m → (bytes : List ℕ) → AreBytes bytes → (n start : ℕ) → ((i : ℕ) → i < start → i + m ≤ n)
    → FindsAsWritten w (take n bytes) None → (found : Option (List (Option (ℕ × ℕ)))) → FindsFrom w bytes start found → FindsAsWritten w bytes found
found_from w m opens bytes are n start before none found shows =
    reading_behind m bytes are (reading w) opens n start before none found shows

-- the same where a search begins by what is known of the pattern's opening
pub found_by_opening : (w : Written) (known : Option ℕ) → IfSome known (Opens w) → (bytes : List ℕ) → AreBytes bytes → (n start : ℕ)
    → MatchOption known (start ≡ 0) (λ m. start ≡ n - (m - 1)) → (0 < n → IsBounded w → FindsAsWritten w (take n bytes) None)
    → (found : Option (List (Option (ℕ × ℕ)))) → FindsFrom w bytes start found → FindsAsWritten w bytes found
found_by_opening w None opens bytes are n start is none found shows = subst (λ (i : ℕ). FindsFrom w bytes i found) is shows
found_by_opening w (Some m) opens bytes are n start is none found shows =
    ⊎_elim
    (λ (some : 0 < n). found_from w m opens bytes are n start (λ i lt. omega (arith, is)) (none some (m, opens)) found shows)
    (λ (le : n ≤ 0).
    let first : start ≡ 0 = omega (arith, is) in
    subst (λ (i : ℕ). FindsFrom w bytes i found) first shows)
    (cases_lt 0 n)

-- what it finds nowhere it doesn't find in the last of the bytes
pub bounded_in_rest : (w : Written) → IsBounded w → (bytes : List ℕ) → AreBytes bytes → (d : ℕ) → FindsAsWritten w bytes None → FindsAsWritten w (drop d bytes) None
bounded_in_rest w bound bytes are d none =
    reading_in_rest bound.0 bytes are (reading w) bound.1 d none
