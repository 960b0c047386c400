-- What the rules derive is read so.
use Rattle.std.proofs.Common.{◌≡◌, ◌≢◌, ℕ, suc, ◌+◌, ◌-◌, ◌<◌, ◌≤◌, Bool, true, false, ◌&&◌, ◌||◌, List, [], ◌∷◌, ◌++◌, length, take, drop, Some, None, Result, Ok, refl, sym, ap, ◌∙◌, subst, eqb, cond, length-drop, length-append, arith}
use Rattle.std.specs.Prelude.{nat_lt}
use Rattle.std.specs.List.{prefix_len}
use Rattle.std.proofs.lemmas.Bool.{eqb-true}
use Rattle.std.proofs.lemmas.Bool.Decides.{nat_tests}
use Rattle.std.proofs.lemmas.List.{drop-drop, take-append-le, take_all}
use Rattle.tcl_words.specs.declared.faults.WordFault.{WordFault}
use Rattle.tcl_words.specs.Lists.{begins_with, closing, plus}
use Rattle.tcl_words.specs.Pieces.{Pieces, no_pieces, piece, literal, variable, member, script, Spelled}
use Rattle.tcl_words.specs.Commands.{Read, behind, Inside, is_name_byte, is_blank, is_gap, is_continued, ends_command, gap_at, Token, text_token, substitution, put_token, token_at, dollar, braced_variable, array_member, script_token, name_len, brace_at, inside_of, reader, nested, nested_script, more_bytes, parts, part_step, at_end, stop_len, join, plain_word, in_quotes, in_braces, closed, is_expansion, spelled, word, joined, count_of, after_word, words, words_step, words_at, after_nested_word, script_at, start}
use Rattle.tcl_words.specs.Commands as commands
use Rattle.tcl_words.proofs.Readings.{reading_step, reading_end}
use Rattle.tcl_words.proofs.Runs.{more-more, more-none, word-takes}
use Rattle.tcl_grammar.specs.CommandRules.{Span, no_close_brace, Escape, Before, Place, top, brackets, quotes, index, ends, left_at, ends_with_text, may_end, single, split, Part, Run, Word, Words, Command, Script}
use Rattle.tcl_grammar.proofs.Stops.{Stop, stop_of, index_is, quoted_is, words_at_is, script_at_is, ends_is, may_end_is, left_is, left_within, TextEnd, text_end}
use Rattle.tcl_grammar.proofs.Spans.{Took, drop_cons, test_other, both_rest, both_within, span_took, span_text, escape_took}
use Rattle.tcl_grammar.proofs.Braces.{Closed, braced_closed, closing_next, closing_plain}
use Rattle.tcl_grammar.proofs.Gaps.{apart, neither, white_gap, GapAt, no_gap, Stands, before_stands, start_passes, start_here, script_close, script_gap, script_next, script_passes}

-- ---- Names

name_took : (s t r : List ℕ) → Span is_name_byte s t r → Took (λ n. n) (name_len s) s r
unfolding name_len
name_took s t r h = span_took is_name_byte s t r h

name_text : (s t r : List ℕ) → Span is_name_byte s t r → t ≡ take (name_len s) s
unfolding name_len
name_text s t r h = span_text is_name_byte s t r h

-- a name of one byte at least
named_no_brace : (b : ℕ) (s t r : List ℕ) → Span is_name_byte s (b ∷ t) r → (begins_with 123 s ≡ false) × (eqb (name_len s) 0 ≡ false)
unfolding name_len
named_no_brace b s t r (Span.more c s' t' r' e h) = (apart is_name_byte c 123 e refl, rw e (test_other (1 + prefix_len is_name_byte s') 0 (λ z. absurd (omega arith))))

no_brace : (s t r : List ℕ) → Span is_name_byte s t r → begins_with 123 r ≡ false → begins_with 123 s ≡ false
no_brace s t r Span.over e = refl
no_brace s t r (Span.stop c s' dark) e = e
no_brace s t r (Span.more c s' t' r' named h) e = apart is_name_byte c 123 named refl

-- the byte behind a place
pub behind_it : (b k : ℕ) (s r : List ℕ) → b ∷ r ≡ drop k s → r ≡ drop (1 + k) s
behind_it b k s r e =
    let m : k + 1 ≡ 1 + k = omega arith in
    ap (drop 1) e ∙ drop-drop 1 k s ∙ ap (λ (i : ℕ). drop i s) m

behind_within : (b k : ℕ) (s r : List ℕ) → b ∷ r ≡ drop k s → 1 + k ≤ length s
behind_within b k s r e = omega (arith, ap length e, length-drop k s)

brace_found : (s t r : List ℕ) → Span no_close_brace s t (125 ∷ r) → Took (λ n. Some n) (brace_at s) s (125 ∷ r)
unfolding brace_at
brace_found s t r h =
    let k = span_took no_close_brace s t (125 ∷ r) h in
    let some : k.n < length s = (let le = behind_within 125 k.n s r k.rest in omega arith) in
    let yes : nat_lt k.n (length s) ≡ true = grind (arith, nat_tests) in
    record { n = k.n; is = rw (k.is, yes) refl; rest = k.rest; within = k.within }

-- ---- Parts

abbrev pub TookPart : ℕ → List ℕ → Token → List ℕ → Type 0
TookPart d [] t r = ⊥
TookPart d (b ∷ s) t r = Took (λ n. Ok (t, n)) (token_at (inside_of d) b s) s r

abbrev pub TookRun : ℕ → Place → List ℕ → Pieces → List ℕ → Type 0
TookRun d place s ps r = Took (λ n. Ok (ps, n)) (parts (inside_of d) (stop_of place) s) s r

abbrev pub TookScript : ℕ → List ℕ → List ℕ → Type 0
TookScript d s r = Took (λ n. Ok n) (nested_script (inside_of d) s true) s r

plain_took : (d b : ℕ) (s : List ℕ) → b ≢ 92 → b ≢ 36 → b ≢ 91 → TookPart d (b ∷ s) (text_token (b ∷ [])) s
unfolding token_at
plain_took d b s no_slash no_dollar no_bracket =
    let slash = test_other b 92 no_slash in
    let sign = test_other b 36 no_dollar in
    let bracket = test_other b 91 no_bracket in
    record { n = 0; is = rw (slash, bracket, sign) refl; rest = refl; within = omega arith }

slash_took : (d : ℕ) (s t r : List ℕ) → Escape s t r → TookPart d (92 ∷ s) (text_token t) r
unfolding token_at
slash_took d s t r h =
    let k = escape_took s t r h in
    record { n = k.n; is = ap (λ (p : List ℕ × ℕ). Ok (text_token p.0, p.1)) k.is; rest = k.rest; within = k.within }

-- behind a `$` with no `{` behind it
pub dollar_is : (inside : Inside) (s : List ℕ) → begins_with 123 s ≡ false
    → token_at inside 36 s ≡ cond (begins_with 40 (drop (name_len s) s)) (array_member (name_len s) s (inside.index (drop (1 + name_len s) s)))
    (cond (eqb (name_len s) 0) (Ok (text_token (36 ∷ []), 0)) (Ok (substitution (variable (take (name_len s) s)), name_len s)))
unfolding token_at
dollar_is inside s e = rw e refl

pub braces_open : (inside : Inside) (s : List ℕ) → begins_with 123 s ≡ true → token_at inside 36 s ≡ braced_variable s (brace_at (drop 1 s))
unfolding token_at
braces_open inside s e = rw e refl

name_part : (d b : ℕ) (s n r : List ℕ) → Span is_name_byte s (b ∷ n) r → begins_with 40 r ≡ false → TookPart d (36 ∷ s) (substitution (variable (b ∷ n))) r
name_part d b s n r h no_index =
    let k = name_took s (b ∷ n) r h in
    let named = named_no_brace b s n r h in
    let index : begins_with 40 (drop (name_len s) s) ≡ false = ap (λ (i : ℕ). begins_with 40 (drop i s)) k.is ∙ ap (begins_with 40) (sym k.rest) ∙ no_index in
    let name : take (name_len s) s ≡ b ∷ n = sym (name_text s (b ∷ n) r h) in
    record {
      n = k.n;
      is = dollar_is (inside_of d) s named.0 ∙ rw (index, named.1) (ap (λ x. Ok (substitution (variable x), name_len s)) name ∙ ap (λ (i : ℕ). Ok (substitution (variable (b ∷ n)), i)) k.is);
      rest = k.rest;
      within = k.within;
    }

braced_part : (d : ℕ) (s n r : List ℕ) → Span no_close_brace s n (125 ∷ r) → TookPart d (36 ∷ 123 ∷ s) (substitution (variable n)) r
unfolding token_at
braced_part d s n r h =
    let k = brace_found s n r h in
    let same = span_took no_close_brace s n (125 ∷ r) h in
    let count : same.n ≡ k.n = omega (arith, ap length k.rest, ap length same.rest, length-drop k.n s, length-drop same.n s, k.within, same.within) in
    let name : take k.n s ≡ n = sym (span_text no_close_brace s n (125 ∷ r) h ∙ ap (λ (i : ℕ). take i s) (same.is ∙ count)) in
    let m : 2 + k.n ≡ 1 + (1 + k.n) = omega arith in
    record {
      n = 2 + k.n;
      is = ap (braced_variable (123 ∷ s)) k.is ∙ ap (λ x. Ok (substitution (variable x), 2 + k.n)) name;
      rest = behind_it 125 k.n s r k.rest ∙ sym (drop_cons 123 (1 + k.n) s) ∙ ap (λ (i : ℕ). drop i (123 ∷ s)) (sym m);
      within = omega (arith, behind_within 125 k.n s r k.rest);
    }

element_part : (d : ℕ) (s n m r : List ℕ) (ps : Pieces) → Span is_name_byte s n (40 ∷ m) → TookRun d index m ps r → TookPart (suc d) (36 ∷ s) (substitution (member n ps)) r
element_part d s n m r ps h i =
    let k = name_took s n (40 ∷ m) h in
    let dark = no_brace s n (40 ∷ m) h refl in
    let open_it : begins_with 40 (drop (name_len s) s) ≡ true = ap (λ (j : ℕ). begins_with 40 (drop j s)) k.is ∙ ap (begins_with 40) (sym k.rest) in
    let name : take (name_len s) s ≡ n = sym (name_text s n (40 ∷ m) h) in
    let start : drop (1 + name_len s) s ≡ m = ap (λ (j : ℕ). drop (1 + j) s) k.is ∙ sym (behind_it 40 k.n s m k.rest) in
    let inner : (inside_of (suc d)).index (drop (1 + name_len s) s) ≡ Ok (ps, i.n) = ap (λ (f : List ℕ → Read Pieces). f (drop (1 + name_len s) s)) (index_is d) ∙ ap (parts (inside_of d) (stop_of index)) start ∙ i.is in
    record {
      n = 1 + k.n + i.n;
      is = dollar_is (inside_of (suc d)) s dark ∙ rw open_it (ap (array_member (name_len s) s) inner ∙ ap (λ x. Ok (substitution (member x ps), 1 + name_len s + i.n)) name
          ∙ ap (λ (j : ℕ). Ok (substitution (member n ps), 1 + j + i.n)) k.is);
      rest = both_rest s m r (1 + k.n) i.n (behind_it 40 k.n s m k.rest) i.rest;
      within = both_within s m (1 + k.n) i.n (behind_it 40 k.n s m k.rest) (behind_within 40 k.n s m k.rest) i.within;
    }

lone_part : (d : ℕ) (s : List ℕ) → Span is_name_byte s [] s → begins_with 40 s ≡ false → begins_with 123 s ≡ false → TookPart d (36 ∷ s) (text_token (36 ∷ [])) s
lone_part d s h no_index dark =
    let k = name_took s [] s h in
    let none : k.n ≡ 0 = omega (arith, k.within, ap length k.rest, length-drop k.n s) in
    let len : name_len s ≡ 0 = k.is ∙ none in
    record { n = 0; is = dollar_is (inside_of d) s dark ∙ rw (len, no_index) refl; rest = refl; within = omega arith }

pub bracket_is : (d : ℕ) (s : List ℕ) → token_at (inside_of (suc d)) 91 s ≡ script_token s (nested_script (inside_of d) s true)
unfolding token_at reader nested
bracket_is d s = refl

bracketed_part : (d : ℕ) (text r : List ℕ) → TookScript d (text ++ 93 ∷ r) r → TookPart (suc d) (91 ∷ (text ++ 93 ∷ r)) (substitution (script text)) r
bracketed_part d text r k =
    let s : List ℕ = text ++ 93 ∷ r in
    let len : k.n ≡ length text + 1 = omega (arith, k.within, ap length k.rest, length-drop k.n s, length-append text (93 ∷ r)) in
    let front : k.n - 1 ≡ length text = omega arith in
    let inner : take (k.n - 1) s ≡ text = ap (λ (i : ℕ). take i s) front ∙ take-append-le (length text) text (93 ∷ r) (omega arith) ∙ take_all (length text) text (omega arith) in
    record { n = k.n; is = bracket_is d s ∙ ap (script_token s) k.is ∙ ap (λ x. Ok (substitution (script x), k.n)) inner; rest = k.rest; within = k.within }

-- ---- Runs of parts

parts_next : (inside : Inside) (stop : Stop) (b : ℕ) (s : List ℕ) → parts inside stop (b ∷ s) ≡ part_step inside stop (λ k. parts inside stop (drop k s)) b s
unfolding parts
parts_next inside stop b s = reading_step (at_end stop) (part_step inside stop) b s

parts_nothing : (inside : Inside) (stop : Stop) → parts inside stop [] ≡ at_end stop
unfolding parts
parts_nothing inside stop = reading_end (at_end stop) (part_step inside stop)

over_run : (d : ℕ) (place : Place) → ends_with_text place ≡ true → TookRun d place [] no_pieces []
over_run d place e = record { n = 0; is = parts_nothing (inside_of d) (stop_of place) ∙ subst (TextEnd place) e (text_end place); rest = refl; within = omega arith }

end_run : (d b : ℕ) (place : Place) (s : List ℕ) → ends place b s ≡ true → TookRun d place (b ∷ s) no_pieces (left_at place b s)
end_run d b place s e =
    let yes = ends_is place b s ∙ e in
    record { n = stop_len (stop_of place); is = parts_next (inside_of d) (stop_of place) b s ∙ rw yes refl; rest = sym (left_is place b s); within = left_within place b s }

part_run : (d b : ℕ) (place : Place) (s m r : List ℕ) (t : Token) (ps : Pieces) → ends place b s ≡ false → TookPart d (b ∷ s) t m → TookRun d place m ps r → TookRun d place (b ∷ s) (put_token t ps) r
part_run d b place s m r t ps e part on =
    let dark = ends_is place b s ∙ e in
    let more : List ℕ → Read Pieces = parts (inside_of d) (stop_of place) in
    let place_of : 1 + part.n + on.n ≡ 1 + (part.n + on.n) = omega arith in
    record {
      n = 1 + part.n + on.n;
      is = parts_next (inside_of d) (stop_of place) b s ∙ rw dark (ap (join (λ k. more (drop k s))) part.is ∙ ap (λ x. behind (1 + part.n) (put_token t) (more x)) (sym part.rest) ∙ ap (behind (1 + part.n) (put_token t)) on.is);
      rest = both_rest s m r part.n on.n part.rest on.rest ∙ sym (drop_cons b (part.n + on.n) s) ∙ ap (λ (i : ℕ). drop i (b ∷ s)) (sym place_of);
      within = omega (arith, both_within s m part.n on.n part.rest part.within on.within);
    }

-- ---- Words

-- A word was read, in a command.
pub record TookWord (d : ℕ) (place : Place) (s : List ℕ) (w : Spelled) (r : List ℕ) : Type 0 where
  pub n : ℕ
  pub is : word (inside_of d) (stop_of place) s ≡ Ok (w, n)
  pub plain : w.expand ≡ false → plain_word (inside_of d) (stop_of place) s ≡ Ok (w.pieces, n)
  pub rest : r ≡ drop n s
  pub within : n ≤ length s
  pub some : 0 < n
  pub dark : may_end place s ≡ false

-- a quote or an opening brace ends no word
begins_dark : (place : Place) (s : List ℕ) → ends_with_text place ≡ true → (ends place 34 s ≡ false) × (ends place 123 s ≡ false)
begins_dark top s e = (refl, refl)
begins_dark brackets s e = (refl, refl)
begins_dark quotes s e = absurd (cc)
begins_dark index s e = absurd (cc)

-- a word without `{*}`
word_is : (inside : Inside) (stop : Stop) (s : List ℕ) (ps : Pieces) (n : ℕ) → is_expansion stop s ≡ false → plain_word inside stop s ≡ Ok (ps, n) → word inside stop s ≡ Ok (single ps, n)
unfolding word
word_is inside stop s ps n e is = rw e (ap (spelled false) is)

pub plain_is : (inside : Inside) (stop : Stop) (b : ℕ) (s : List ℕ) → eqb b 34 ≡ false → eqb b 123 ≡ false → plain_word inside stop (b ∷ s) ≡ parts inside stop (b ∷ s)
unfolding plain_word
plain_is inside stop b s e f = rw (e, f) refl

pub braces_is : (inside : Inside) (stop : Stop) (s : List ℕ) → plain_word inside stop (123 ∷ s) ≡ in_braces stop s (closing s 0)
unfolding plain_word
braces_is inside stop s = refl

no_expansion : (stop : Stop) (b : ℕ) (s : List ℕ) → eqb b 123 ≡ false → is_expansion stop (b ∷ s) ≡ false
no_expansion stop b s e = rw e refl

-- a word that begins with this byte
simple_word : (d b n : ℕ) (place : Place) (s r : List ℕ) (ps : Pieces) → ends place b s ≡ false → is_expansion (stop_of place) (b ∷ s) ≡ false
    → plain_word (inside_of d) (stop_of place) (b ∷ s) ≡ Ok (ps, n) → r ≡ drop n (b ∷ s) → n ≤ length (b ∷ s) → TookWord d place (b ∷ s) (single ps) r
simple_word d b n place s r ps dark single_word is rest within =
    let whole : word (inside_of d) (stop_of place) (b ∷ s) ≡ Ok (single ps, n) = word_is (inside_of d) (stop_of place) (b ∷ s) ps n single_word is in
    record {
      n = n;
      is = whole;
      plain = λ _. is;
      rest = rest;
      within = within;
      some = word-takes (inside_of d) (stop_of place) b s (ends_is place b s ∙ dark) n (ap count_of whole);
      dark = dark;
    }

bare_word : (d b : ℕ) (place : Place) (s r : List ℕ) (ps : Pieces) → b ≢ 34 → b ≢ 123 → ends place b s ≡ false → TookRun d place (b ∷ s) ps r → TookWord d place (b ∷ s) (single ps) r
bare_word d b place s r ps no_quote no_brace dark run =
    let quote = test_other b 34 no_quote in
    let brace = test_other b 123 no_brace in
    simple_word d b run.n place s r ps dark (no_expansion (stop_of place) b s brace) (plain_is (inside_of d) (stop_of place) b s quote brace ∙ run.is) run.rest run.within

quoted_word : (d : ℕ) (place : Place) (s r : List ℕ) (ps : Pieces) → ends_with_text place ≡ true → TookRun d quotes s ps r → may_end place r ≡ true → TookWord d place (34 ∷ s) (single ps) r
quoted_word d place s r ps worded run follows =
    let stop : Stop = stop_of place in
    let end : commands.may_end stop (drop run.n s) ≡ true = ap (commands.may_end stop) (sym run.rest) ∙ may_end_is place r ∙ follows in
    simple_word d 34 (1 + run.n) place s r ps (begins_dark place s worded).0 (no_expansion stop 34 s refl)
    (quoted_is (inside_of d) stop s ∙ ap (in_quotes stop s) run.is ∙ rw end refl) (run.rest ∙ sym (drop_cons 34 run.n s)) (omega (arith, run.within))

-- `{*}` with the word's end behind it is a word in braces
star_closes : (s : List ℕ) → closing (42 ∷ 125 ∷ s) 0 ≡ Some 1
star_closes s = closing_plain 42 (125 ∷ s) 0 refl refl refl ∙ ap (plus 1) (closing_next 125 s 0)

braces_alone : (stop : Stop) (k : ℕ) (s : List ℕ) → closing s 0 ≡ Some k → commands.may_end stop (drop (1 + k) s) ≡ true → is_expansion stop (123 ∷ s) ≡ false
braces_alone stop k [] is follows = refl
braces_alone stop k (a ∷ []) is follows = by (eqb a 42) refl
  where
    by : (t : Bool) → eqb a 42 ≡ t → is_expansion stop (123 ∷ a ∷ []) ≡ false
    by true e = rw e refl
    by false e = rw e refl
braces_alone stop k (a ∷ b ∷ s) is follows = by (eqb a 42) (eqb b 125) refl refl
  where
    by : (t u : Bool) → eqb a 42 ≡ t → eqb b 125 ≡ u → is_expansion stop (123 ∷ a ∷ b ∷ s) ≡ false
    by false u e f = rw e refl
    by true false e f = rw (e, f) refl
    by true true e f =
        let shape : a ∷ b ∷ s ≡ 42 ∷ 125 ∷ s = ap (λ (x : ℕ). x ∷ b ∷ s) (eqb-true a 42 e) ∙ ap (λ (x : ℕ). 42 ∷ x ∷ s) (eqb-true b 125 f) in
        let one : closing (a ∷ b ∷ s) 0 ≡ Some 1 = ap (λ x. closing x 0) shape ∙ star_closes s in
        let count : k ≡ 1 = cc in
        let end : commands.may_end stop s ≡ true = ap (λ (i : ℕ). commands.may_end stop (drop (1 + i) (a ∷ b ∷ s))) (sym count) ∙ follows in
        rw (e, f, end) refl

braced_word : (d : ℕ) (place : Place) (s t r : List ℕ) → ends_with_text place ≡ true → Closed 0 s t r → may_end place r ≡ true → TookWord d place (123 ∷ s) (single (piece (literal t) no_pieces)) r
braced_word d place s t r worded c follows =
    let stop : Stop = stop_of place in
    let end : commands.may_end stop (drop (1 + c.k) s) ≡ true = ap (commands.may_end stop) (sym c.rest) ∙ may_end_is place r ∙ follows in
    simple_word d 123 (1 + (1 + c.k)) place s r (piece (literal t) no_pieces) (begins_dark place s worded).1 (braces_alone stop c.k s c.is end)
    (braces_is (inside_of d) stop s ∙ ap (in_braces stop s) c.is ∙ rw end (ap (λ x. Ok (piece (literal x) no_pieces, 1 + (1 + c.k))) c.text))
    (c.rest ∙ sym (drop_cons 123 (1 + c.k) s)) (omega (arith, c.within))

expansion_is : (inside : Inside) (stop : Stop) (s : List ℕ) (ps : Pieces) (n : ℕ) → commands.may_end stop s ≡ false → plain_word inside stop s ≡ Ok (ps, n) → word inside stop (123 ∷ 42 ∷ 125 ∷ s) ≡ Ok (split ps, 3 + n)
unfolding word
expansion_is inside stop s ps n dark is = rw dark (ap (λ x. spelled true (behind 3 (λ ps. ps) x)) is)

expanded_word : (d : ℕ) (place : Place) (s r : List ℕ) (ps : Pieces) → ends_with_text place ≡ true → TookWord d place s (single ps) r → TookWord d place (123 ∷ 42 ∷ 125 ∷ s) (split ps) r
expanded_word d place s r ps worded w =
    let three : 3 + w.n ≡ suc (suc (suc w.n)) = omega arith in
    record {
      n = 3 + w.n;
      is = expansion_is (inside_of d) (stop_of place) s ps w.n (may_end_is place s ∙ w.dark) (w.plain refl);
      plain = λ e. absurd (cc);
      rest = w.rest ∙ ap (λ (i : ℕ). drop i (123 ∷ 42 ∷ 125 ∷ s)) (sym three);
      within = omega (arith, w.within);
      some = omega arith;
      dark = (begins_dark place (42 ∷ 125 ∷ s) worded).1;
    }

-- ---- Words of a command

-- in brackets: what is left is read on as a script
abbrev pub TookOn : ℕ → Bool → List ℕ → List ℕ → Type 0
TookOn d first s r = Took (λ n. more_bytes n (nested_script (inside_of d) r true)) (nested_script (inside_of d) s first) s r

abbrev pub TookWords : ℕ → Place → List ℕ → List Spelled → List ℕ → Type 0
TookWords d top s ws r = Took (λ n. Ok (ws, n)) (words (inside_of d) s) s r
TookWords d brackets s ws r = TookOn d false s r
TookWords d quotes s ws r = Unit {0}
TookWords d index s ws r = Unit {0}

pub words_next : (inside : Inside) (b : ℕ) (s : List ℕ) → words inside (b ∷ s) ≡ words_step inside (λ k. words inside (drop k s)) b s
unfolding words
words_next inside b s = reading_step (Ok ([], 0)) (words_step inside) b s

-- where no command ends
pub words_on : (inside : Inside) (b : ℕ) (s : List ℕ) → ends_command b ≡ false → words inside (b ∷ s) ≡ words_at inside (λ k. words inside (drop k s)) (b ∷ s) (gap_at b s false)
words_on inside b s e = words_next inside b s ∙ ap (λ (t : Bool). cond t (Ok ([], 1)) (words_at inside (λ k. words inside (drop k s)) (b ∷ s) (gap_at b s false))) e

words_nothing : (inside : Inside) → words inside [] ≡ Ok ([], 0)
unfolding words
words_nothing inside = reading_end (Ok ([], 0)) (words_step inside)

newline_words : (d b : ℕ) (place : Place) (s : List ℕ) → ends_command b ≡ true → TookWords d place (b ∷ s) [] s
newline_words d b top s e = record { n = 1; is = words_next (inside_of d) b s ∙ rw e refl; rest = refl; within = omega arith }
newline_words d b brackets s e =
    let gap : gap_at b s false ≡ Some (0, true) = rw e refl in
    record { n = 1; is = script_gap (inside_of d) b 0 s false true (apart ends_command b 93 e refl) gap; rest = refl; within = omega arith }
newline_words d b quotes s e = tt
newline_words d b index s e = tt

bracket_words : (d : ℕ) (s : List ℕ) → TookWords d brackets (93 ∷ s) [] (93 ∷ s)
bracket_words d s = record {
  n = 0;
  is = script_close (inside_of d) s false ∙ sym (script_close (inside_of d) s true) ∙ sym (more-none (nested_script (inside_of d) (93 ∷ s) true));
  rest = refl;
  within = omega arith;
}

-- the place behind a gap and what was read there
gap_rest : (b j k : ℕ) (s m r : List ℕ) → m ≡ drop j s → r ≡ drop k m → r ≡ drop (1 + j + k) (b ∷ s)
gap_rest b j k s m r e f =
    let place : 1 + j + k ≡ 1 + (j + k) = omega arith in
    both_rest s m r j k e f ∙ sym (drop_cons b (j + k) s) ∙ ap (λ (i : ℕ). drop i (b ∷ s)) (sym place)

white_words : (d : ℕ) (place : Place) (s m r : List ℕ) (ws : List Spelled) → GapAt false s m → TookWords d place m ws r → TookWords d place s ws r
white_words d place [] m r ws gap on = absurd gap
white_words d top (b ∷ s) m r ws gap on =
    let k = gap.0 in
    let off = gap.1 in
    let more : List ℕ → Read (List Spelled) = words (inside_of d) in
    record {
      n = 1 + k.n + on.n;
      is = words_on (inside_of d) b s off ∙ ap (words_at (inside_of d) (λ i. more (drop i s)) (b ∷ s)) k.is ∙ ap (λ x. behind (1 + k.n) (λ ws. ws) (more x)) (sym k.rest) ∙ ap (behind (1 + k.n) (λ ws. ws)) on.is;
      rest = gap_rest b k.n on.n s m r k.rest on.rest;
      within = omega (arith, both_within s m k.n on.n k.rest k.within on.within);
    }
white_words d brackets (b ∷ s) m r ws gap on =
    let k = gap.0 in
    let more : List ℕ → Result ℕ WordFault = λ x. nested_script (inside_of d) x false in
    record {
      n = 1 + k.n + on.n;
      is = script_gap (inside_of d) b k.n s false false gap.2 k.is ∙ ap (λ x. more_bytes (1 + k.n) (more x)) (sym k.rest) ∙ ap (more_bytes (1 + k.n)) on.is ∙ more-more (1 + k.n) on.n _;
      rest = gap_rest b k.n on.n s m r k.rest on.rest;
      within = omega (arith, both_within s m k.n on.n k.rest k.within on.within);
    }
white_words d quotes (b ∷ s) m r ws gap on = tt
white_words d index (b ∷ s) m r ws gap on = tt

-- a byte that begins a word in brackets is no `]`
begins_word : (b : ℕ) (s : List ℕ) → ends brackets b s ≡ false → eqb b 93 ≡ false
begins_word b s dark = (neither (is_gap b s) (eqb b 93) dark).1

begins_in_gap : (b : ℕ) (s : List ℕ) → ends brackets b s ≡ false → is_gap b s ≡ false
begins_in_gap b s dark = (neither (is_gap b s) (eqb b 93) dark).0

pub no_comment : (b : ℕ) → eqb b 35 && false ≡ false
no_comment b = by (eqb b 35)
  where
    by : (t : Bool) → t && false ≡ false
    by true = refl
    by false = refl

pub no_end : (b : ℕ) (s : List ℕ) → is_gap b s ≡ false → ends_command b ≡ false
no_end b s dark =
    let p = neither (is_blank b || ends_command b) (is_continued b s) dark in
    (neither (is_blank b) (ends_command b) p.0).1

-- behind the byte of a place
pub drop_less : (b n : ℕ) (s r : List ℕ) → 0 < n → r ≡ drop n (b ∷ s) → drop (n - 1) s ≡ r
drop_less b n s r some e =
    let m : n ≡ 1 + (n - 1) = omega arith in
    sym (drop_cons b (n - 1) s) ∙ ap (λ (i : ℕ). drop i (b ∷ s)) (sym m) ∙ sym e

top_word : (d b : ℕ) (s m r : List ℕ) (w : Spelled) (ws : List Spelled) → TookWord d top (b ∷ s) w m → TookWords d top m ws r → TookWords d top (b ∷ s) (w ∷ ws) r
top_word d b s m r w ws k on =
    let more : List ℕ → Read (List Spelled) = words (inside_of d) in
    let off = no_end b s k.dark in
    let gap = no_gap b s false k.dark (no_comment b) in
    let next = drop_less b k.n s m k.some k.rest in
    record {
      n = k.n + on.n;
      is = words_on (inside_of d) b s off ∙ ap (words_at (inside_of d) (λ i. more (drop i s)) (b ∷ s)) gap ∙ words_at_is (inside_of d) (λ i. more (drop i s)) (b ∷ s)
          ∙ ap (after_word (λ i. more (drop i s))) k.is ∙ ap (λ x. behind k.n (λ ws. w ∷ ws) (more x)) next ∙ ap (behind k.n (λ ws. w ∷ ws)) on.is;
      rest = both_rest (b ∷ s) m r k.n on.n k.rest on.rest;
      within = both_within (b ∷ s) m k.n on.n k.rest k.within on.within;
    }

nested_word : (d b : ℕ) (s m r : List ℕ) (first : Bool) (w : Spelled) → gap_at b s first ≡ None → TookWord d brackets (b ∷ s) w m → TookOn d false m r → TookOn d first (b ∷ s) r
nested_word d b s m r first w gap k on =
    let more : List ℕ → Result ℕ WordFault = λ x. nested_script (inside_of d) x false in
    let other = begins_word b s k.dark in
    let next = drop_less b k.n s m k.some k.rest in
    record {
      n = k.n + on.n;
      is = script_next (inside_of d) b s first ∙ rw other (ap (script_at (inside_of d) (λ i f. nested_script (inside_of d) (drop i s) f) (b ∷ s)) gap
          ∙ script_at_is (inside_of d) (λ i f. nested_script (inside_of d) (drop i s) f) (b ∷ s)
          ∙ ap (λ x. after_nested_word (λ i f. nested_script (inside_of d) (drop i s) f) (count_of x)) k.is ∙ ap (λ x. more_bytes k.n (more x)) next ∙ ap (more_bytes k.n) on.is ∙ more-more k.n on.n _);
      rest = both_rest (b ∷ s) m r k.n on.n k.rest on.rest;
      within = both_within (b ∷ s) m k.n on.n k.rest k.within on.within;
    }

word_words : (d : ℕ) (place : Place) (s m r : List ℕ) (w : Spelled) (ws : List Spelled) → (ends_with_text place ≡ true → TookWord d place s w m) → TookWords d place m ws r → TookWords d place s (w ∷ ws) r
word_words d top [] m r w ws k on = absurd (let dark = (k refl).dark in cc)
word_words d top (b ∷ s) m r w ws k on = top_word d b s m r w ws (k refl) on
word_words d brackets [] m r w ws k on = absurd (let dark = (k refl).dark in cc)
word_words d brackets (b ∷ s) m r w ws k on = nested_word d b s m r false w (no_gap b s false (begins_in_gap b s (k refl).dark) (no_comment b)) (k refl) on
word_words d quotes s m r w ws k on = tt
word_words d index s m r w ws k on = tt

-- ---- Commands

-- A command was read at the top: j bytes stand before it, and it takes k.
pub record TookCommand (d : ℕ) (s : List ℕ) (ws : List Spelled) (r : List ℕ) : Type 0 where
  pub j : ℕ
  pub k : ℕ
  pub begins : start s ≡ Some j
  pub is : words (inside_of d) (drop j s) ≡ Ok (ws, k)
  pub rest : r ≡ drop (j + k) s
  pub within : j + k ≤ length s

abbrev pub TookAny : ℕ → Place → List ℕ → List Spelled → List ℕ → Type 0
TookAny d top s ws r = TookCommand d s ws r
TookAny d brackets s ws r = TookOn d true s r
TookAny d quotes s ws r = Unit {0}
TookAny d index s ws r = Unit {0}

first_command : (d : ℕ) (s m n r : List ℕ) (w : Spelled) (ws : List Spelled) → Took (λ n. plus n (start m)) (start s) s m → Stands m → TookWord d top m w n → TookWords d top n ws r → TookCommand d s (w ∷ ws) r
first_command d s [] n r w ws before stands k on = absurd (let dark = k.dark in cc)
first_command d s (b ∷ m) n r w ws before stands k on =
    let all = top_word d b m n r w ws k on in
    let zero_more : before.n + 0 ≡ before.n = omega arith in
    record {
      j = before.n;
      k = all.n;
      begins = before.is ∙ ap (plus before.n) (start_here b m stands) ∙ ap Some zero_more;
      is = ap (words (inside_of d)) (sym before.rest) ∙ all.is;
      rest = both_rest s (b ∷ m) r before.n all.n before.rest all.rest;
      within = both_within s (b ∷ m) before.n all.n before.rest before.within all.within;
    }

on_behind : (d j : ℕ) (s m r : List ℕ) → nested_script (inside_of d) s true ≡ more_bytes j (nested_script (inside_of d) m true) → m ≡ drop j s → j ≤ length s → TookOn d true m r → TookOn d true s r
on_behind d j s m r is rest within on = record {
  n = j + on.n;
  is = is ∙ ap (more_bytes j) on.is ∙ more-more j on.n _;
  rest = both_rest s m r j on.n rest on.rest;
  within = both_within s m j on.n rest within on.within;
}

nested_command : (d : ℕ) (s m n r : List ℕ) (w : Spelled) → Took (λ n. more_bytes n (nested_script (inside_of d) m true)) (nested_script (inside_of d) s true) s m → Stands m → TookWord d brackets m w n → TookOn d false n r → TookOn d true s r
nested_command d s [] n r w before stands k on = absurd (let dark = k.dark in cc)
nested_command d s (b ∷ m) n r w before stands k on = on_behind d before.n s (b ∷ m) r before.is before.rest before.within (nested_word d b m n r true w stands k on)

any_command : (d : ℕ) (place : Place) (s m n r : List ℕ) (w : Spelled) (ws : List Spelled) → Before s m → (ends_with_text place ≡ true → TookWord d place m w n) → TookWords d place n ws r → TookAny d place s (w ∷ ws) r
any_command d top s m n r w ws before k on = first_command d s m n r w ws (start_passes s m before) (before_stands s m before) (k refl) on
any_command d brackets s m n r w ws before k on = nested_command d s m n r w (script_passes (inside_of d) s m before) (before_stands s m before) (k refl) on
any_command d quotes s m n r w ws before k on = tt
any_command d index s m n r w ws before k on = tt

close_script : (d : ℕ) (s r : List ℕ) → Before s (93 ∷ r) → TookScript d s r
close_script d s r before =
    let k = script_passes (inside_of d) s (93 ∷ r) before in
    let m : k.n + 1 ≡ 1 + k.n = omega arith in
    record {
      n = 1 + k.n;
      is = k.is ∙ ap (more_bytes k.n) (script_close (inside_of d) r true) ∙ ap Ok m;
      rest = behind_it 93 k.n s r k.rest;
      within = behind_within 93 k.n s r k.rest;
    }

command_script : (d : ℕ) (s m r : List ℕ) → TookOn d true s m → TookScript d m r → TookScript d s r
command_script d s m r k on = record {
  n = k.n + on.n;
  is = k.is ∙ ap (more_bytes k.n) on.is;
  rest = both_rest s m r k.n on.n k.rest on.rest;
  within = both_within s m k.n on.n k.rest k.within on.within;
}

-- ---- Each derivation

mutual
  pub part_read : (d : ℕ) (s : List ℕ) (t : Token) (r : List ℕ) → Part d s t r → TookPart d s t r
  part_read d s t r (Part.plain d' b s' no_slash no_dollar no_bracket) = plain_took d b s' no_slash no_dollar no_bracket
  part_read d s t r (Part.slash d' s' u r' h) = slash_took d s' u r h
  part_read d s t r (Part.name d' b s' n r' h e) = name_part d b s' n r h e
  part_read d s t r (Part.braced_name d' s' n r' h) = braced_part d s' n r h
  part_read d s t r (Part.element d' s' n m r' ps h i) = element_part d' s' n m r ps h (run_read d' index m ps r i)
  part_read d s t r (Part.lone d' s' h e f) = lone_part d s' h e f
  part_read d s t r (Part.bracketed d' text r' h) = bracketed_part d' text r (script_read d' (text ++ 93 ∷ r) r h)

  pub run_read : (d : ℕ) (place : Place) (s : List ℕ) (ps : Pieces) (r : List ℕ) → Run d place s ps r → TookRun d place s ps r
  run_read d place s ps r (Run.over d' place' e) = over_run d place e
  run_read d place s ps r (Run.end d' b place' s' e) = end_run d b place s' e
  run_read d place s ps r (Run.part d' b place' s' m r' t ps' e p q) = part_run d b place s' m r t ps' e (part_read d (b ∷ s') t m p) (run_read d place m ps' r q)

  pub word_read : (d : ℕ) (place : Place) (s : List ℕ) (w : Spelled) (r : List ℕ) → Word d place s w r → ends_with_text place ≡ true → TookWord d place s w r
  word_read d place s w r (Word.bare d' b place' s' r' ps no_quote no_brace e h) worded = bare_word d b place s' r ps no_quote no_brace e (run_read d place (b ∷ s') ps r h)
  word_read d place s w r (Word.quoted d' place' s' r' ps h e) worded = quoted_word d place s' r ps worded (run_read d quotes s' ps r h) e
  word_read d place s w r (Word.braced d' place' s' t r' h e) worded = braced_word d place s' t r worded (braced_closed 0 s' t r h) e
  word_read d place s w r (Word.expanded d' place' s' r' ps h) worded = expanded_word d place s' r ps worded (word_read d place s' (single ps) r h worded)

  pub words_read : (d : ℕ) (place : Place) (s : List ℕ) (ws : List Spelled) (r : List ℕ) → Words d place s ws r → TookWords d place s ws r
  words_read d place s ws r (Words.at_end d') = record { n = 0; is = words_nothing (inside_of d); rest = refl; within = omega arith }
  words_read d place s ws r (Words.at_newline d' b place' s' e) = newline_words d b place s' e
  words_read d place s ws r (Words.at_bracket d' s') = bracket_words d s'
  words_read d place s ws r (Words.white d' place' s' m r' ws' h q) = white_words d place s m r ws (white_gap false s m h) (words_read d place m ws r q)
  words_read d place s ws r (Words.word d' place' s' m r' w ws' p q) = word_words d place s m r w ws' (word_read d place s w m p) (words_read d place m ws' r q)

  pub command_read : (d : ℕ) (place : Place) (s : List ℕ) (ws : List Spelled) (r : List ℕ) → Command d place s ws r → TookAny d place s ws r
  command_read d place s ws r (Command.some_words d' place' s' m n r' w ws' h p q) = any_command d place s m n r w ws' h (word_read d place m w n p) (words_read d place n ws' r q)

  pub script_read : (d : ℕ) (s r : List ℕ) → Script d s r → TookScript d s r
  script_read d s r (Script.close d' s' r' h) = close_script d s r h
  script_read d s r (Script.command d' s' m r' ws p q) = command_script d s m r (command_read d brackets s ws m p) (script_read d m r q)
