-- What is read is derived by the rules.
use Rattle.std.proofs.Common.{◌≡◌, ℕ, zero, suc, ◌+◌, ◌-◌, ◌<◌, ◌≤◌, Bool, true, false, not, ◌&&◌, List, [], ◌∷◌, ◌++◌, length, take, drop, Option, Some, None, Result, Ok, Err, refl, sym, ap, ◌∙◌, subst, eqb, cond, length-drop, length-take-le, take-append-drop, append_assoc, arith}
use Rattle.std.specs.Prelude.{nat_lt}
use Rattle.std.specs.List.{prefix_len}
use Rattle.std.proofs.lemmas.Bool.{eqb-true, eq-eqb, cond_both}
use Rattle.std.proofs.lemmas.Bool.Decides.{nat_tests}
use Rattle.std.proofs.lemmas.List.{drop-drop}
use Rattle.std.proofs.lemmas.List.Sums.{prefix_len-le-length}
use Rattle.tcl_words.specs.declared.faults.WordFault.{WordFault}
use Rattle.tcl_words.specs.declared.faults.WordFault.TheVariants.{MissingBracket, ExtraAfterQuote, ExtraAfterBrace, TooDeep}
use Rattle.tcl_words.specs.Lists.{begins_with, closing}
use Rattle.tcl_words.specs.Pieces.{Pieces, no_pieces, piece, literal, variable, member, script, Spelled}
use Rattle.tcl_words.specs.Commands.{Read, behind, Inside, is_name_byte, is_blank, is_gap, ends_command, gap_at, comment_len, Token, text_token, substitution, put_token, token_at, dollar, braced_variable, array_member, script_token, name_len, brace_at, inside_of, reader, nested, nested_script, script_step, more_bytes, parts, part_step, at_end, stops, join, plain_word, in_quotes, in_braces, closed, is_expansion, spelled, word, joined, count_of, after_word, words, words_step, words_at, after_nested_word, script_at}
use Rattle.tcl_words.specs.Commands as commands
use Rattle.tcl_words.proofs.Runs.{gap-dark}
use Rattle.tcl_words.proofs.ListGraph.{course_induction}
use Rattle.tcl_grammar.specs.CommandRules.{Span, no_close_brace, Before, Place, top, brackets, quotes, index, ends, ends_with_text, may_end, single, split, Part, Run, Word, Words, Command, Script}
use Rattle.tcl_grammar.proofs.Stops.{Stop, stop_of, index_is, quoted_is, words_at_is, script_at_is, ends_is, may_end_is, TextEnd, text_end}
use Rattle.tcl_grammar.proofs.Spans.{other_byte, span_of, escape_of, comment_of}
use Rattle.tcl_grammar.proofs.Braces.{braced_found, braced_closed}
use Rattle.tcl_grammar.proofs.Gaps.{begins, both_true, first_true, no_gap, gap_cases, start_passes}
use Rattle.tcl_grammar.proofs.Followed.{behind_it, bracket_is, dollar_is, braces_open, part_read, run_read, word_read, command_read, plain_is, braces_is, drop_less, no_end, no_comment, words_on}

pub record IsPart (d b : ℕ) (s : List ℕ) : Type 0 where
  token : Token
  rest : List ℕ
  derived : Part d (b ∷ s) token rest

pub record IsRun (d : ℕ) (place : Place) (s : List ℕ) : Type 0 where
  pieces : Pieces
  rest : List ℕ
  derived : Run d place s pieces rest

-- a word without `{*}`
record IsSingle (d : ℕ) (place : Place) (s : List ℕ) : Type 0 where
  pieces : Pieces
  rest : List ℕ
  derived : Word d place s (single pieces) rest

record IsWord (d : ℕ) (place : Place) (s : List ℕ) : Type 0 where
  value : Spelled
  rest : List ℕ
  derived : Word d place s value rest

pub record IsWords (d : ℕ) (s : List ℕ) : Type 0 where
  pub value : List Spelled
  pub rest : List ℕ
  pub derived : Words d top s value rest

pub record IsScript (d : ℕ) (s : List ℕ) : Type 0 where
  rest : List ℕ
  derived : Script d s rest

-- in brackets: the words that a command still has, and the script behind it
record IsAfter (d : ℕ) (s : List ℕ) : Type 0 where
  value : List Spelled
  rest : List ℕ
  derived : Words d brackets s value rest
  later : IsScript d rest

-- what is read with d nestings allowed
pub record IsInside (d : ℕ) : Type 0 where
  scripts : (s : List ℕ) (k : ℕ) → nested_script (inside_of d) s true ≡ Ok k → IsScript d s
  runs : (place : Place) (s : List ℕ) (p : Pieces × ℕ) → parts (inside_of d) (stop_of place) s ≡ Ok p → IsRun d place s

abbrev Inner : ℕ → Type 0
Inner zero = Unit {0}
Inner (suc d) = IsInside d

-- ---- Parts

name_of : (s : List ℕ) → Span is_name_byte s (take (name_len s) s) (drop (name_len s) s)
unfolding name_len
name_of s = span_of is_name_byte s

name_within : (s : List ℕ) → name_len s ≤ length s
unfolding name_len
name_within s = prefix_len-le-length is_name_byte s

abbrev Stops : (ℕ → Bool) → List ℕ → Type 0
Stops test [] = Unit {0}
Stops test (b ∷ s) = test b ≡ false

span_stops : (test : ℕ → Bool) (s t r : List ℕ) → Span test s t r → Stops test r
span_stops test s t r Span.over = tt
span_stops test s t r (Span.stop b s' e) = e
span_stops test s t r (Span.more b s' t' r' e h) = span_stops test s' t' r h

record IsName (s : List ℕ) : Type 0 where
  name : List ℕ
  rest : List ℕ
  derived : Span no_close_brace s name (125 ∷ rest)

not_false : (t : Bool) → not t ≡ false → t ≡ true
not_false true e = refl
not_false false e = absurd (cc)

brace_name : (s : List ℕ) (k : ℕ) → brace_at s ≡ Some k → IsName s
unfolding brace_at
brace_name s k is = by (drop n s) (span_of no_close_brace s) refl
  where
    n : ℕ
    n = prefix_len no_close_brace s

    within : (t : Bool) → nat_lt n (length s) ≡ t → cond {A = Option ℕ} t (Some n) None ≡ Some k → n < length s
    within true e q = grind (arith, nat_tests)
    within false e q = absurd (cc)

    by : (r : List ℕ) → Span no_close_brace s (take n s) r → drop n s ≡ r → IsName s
    by [] h e = let less = within (nat_lt n (length s)) refl is in absurd (omega (arith, ap length e, length-drop n s))
    by (b ∷ r) h e =
        let brace : b ≡ 125 = eqb-true b 125 (not_false (eqb b 125) (span_stops no_close_brace s (take n s) (b ∷ r) h)) in
        record { name = take n s; rest = r; derived = subst (λ (x : ℕ). Span no_close_brace s (take n s) (x ∷ r)) brace h }

-- a script's text is what stands before its `]`
script_ends : (d : ℕ) (s r : List ℕ) → Script d s r → (text : List ℕ) × (s ≡ text ++ 93 ∷ r)
script_ends d s r (Script.close d' s' r' h) =
    let k = start_passes s (93 ∷ r) h in
    (take k.n s, sym (take-append-drop k.n s) ∙ ap (λ x. take k.n s ++ x) (sym k.rest))
script_ends d s r (Script.command d' s' m r' ws p q) =
    let k = command_read d brackets s ws m p in
    let later = script_ends d m r q in
    let parts_of : s ≡ take k.n s ++ m = sym (take-append-drop k.n s) ∙ ap (λ x. take k.n s ++ x) (sym k.rest) in
    let regroup : take k.n s ++ (later.0 ++ 93 ∷ r) ≡ (take k.n s ++ later.0) ++ 93 ∷ r = simp append_assoc in
    (take k.n s ++ later.0, parts_of ∙ ap (λ x. take k.n s ++ x) later.1 ∙ regroup)

abbrev Gives : ℕ → ℕ → List ℕ → Read Token → Type 0
Gives d b s read = (p : Token × ℕ) → read ≡ Ok p → IsPart d b s

script_found : (s : List ℕ) (p : Token × ℕ) (r : Result ℕ WordFault) → script_token s r ≡ Ok p → (k : ℕ) × (r ≡ Ok k)
script_found s p (Err e) is = absurd (cc)
script_found s p (Ok k) is = (k, refl)

no_bracket : (s : List ℕ) → token_at (inside_of 0) 91 s ≡ Err TooDeep
unfolding token_at reader nested
no_bracket s = refl

bracket_gives : (d : ℕ) → Inner d → (s : List ℕ) → Gives d 91 s (token_at (inside_of d) 91 s)
bracket_gives zero inner s p is = let no = no_bracket s in absurd (cc)
bracket_gives (suc d) inner s p is =
    let f = script_found s p (nested_script (inside_of d) s true) (sym (bracket_is d s) ∙ is) in
    let i = inner.scripts s f.0 f.1 in
    let t = script_ends d s i.rest i.derived in
    record {
      token = substitution (script t.0);
      rest = i.rest;
      derived = subst (λ x. Part (suc d) (91 ∷ x) (substitution (script t.0)) i.rest) (sym t.1) (Part.bracketed d t.0 i.rest (subst (λ x. Script d x i.rest) t.1 i.derived));
    }

variable_found : (s : List ℕ) (p : Token × ℕ) (o : Option ℕ) → braced_variable s o ≡ Ok p → (k : ℕ) × (o ≡ Some k)
variable_found s p None is = absurd (cc)
variable_found s p (Some k) is = (k, refl)

braced_gives : (d : ℕ) (s : List ℕ) → begins_with 123 s ≡ true → Gives d 36 s (braced_variable s (brace_at (drop 1 s)))
braced_gives d s open_it p is =
    let f = variable_found s p (brace_at (drop 1 s)) is in
    let i = brace_name (drop 1 s) f.0 f.1 in
    record {
      token = substitution (variable i.name);
      rest = i.rest;
      derived = subst (λ x. Part d (36 ∷ x) (substitution (variable i.name)) i.rest) (sym (begins 123 s open_it)) (Part.braced_name d (drop 1 s) i.name i.rest i.derived);
    }

index_found : (n : ℕ) (s : List ℕ) (p : Token × ℕ) (r : Read Pieces) → array_member n s r ≡ Ok p → (q : Pieces × ℕ) × (r ≡ Ok q)
index_found n s p (Err e) is = absurd (cc)
index_found n s p (Ok q) is = (q, refl)

no_index : (s : List ℕ) → (inside_of 0).index s ≡ Err TooDeep
unfolding reader nested
no_index s = refl

element_gives : (d : ℕ) → Inner d → (s : List ℕ) → begins_with 40 (drop (name_len s) s) ≡ true → Gives d 36 s (array_member (name_len s) s ((inside_of d).index (drop (1 + name_len s) s)))
element_gives zero inner s open_it p is =
    let f = index_found (name_len s) s p ((inside_of 0).index (drop (1 + name_len s) s)) is in
    let no = no_index (drop (1 + name_len s) s) in
    absurd (let e : ◌≡◌ {A = Read Pieces} (Err TooDeep) (Ok f.0) = sym no ∙ f.1 in cc)
element_gives (suc d) inner s open_it p is =
    let n : ℕ = name_len s in
    let m : List ℕ = drop (1 + n) s in
    let f = index_found n s p ((inside_of (suc d)).index m) is in
    let i = inner.runs index m f.0 (ap (λ (g : List ℕ → Read Pieces). g m) (sym (index_is d)) ∙ f.1) in
    let shape : drop n s ≡ 40 ∷ drop 1 (drop n s) = begins 40 (drop n s) open_it in
    let next : drop 1 (drop n s) ≡ m = behind_it 40 n s (drop 1 (drop n s)) (sym shape) in
    record {
      token = substitution (member (take n s) i.pieces);
      rest = i.rest;
      derived = Part.element d s (take n s) m i.rest i.pieces (subst (Span is_name_byte s (take n s)) (shape ∙ ap (λ x. 40 ∷ x) next) (name_of s)) i.derived;
    }

lone_gives : (d : ℕ) (s : List ℕ) → begins_with 123 s ≡ false → begins_with 40 (drop (name_len s) s) ≡ false → name_len s ≡ 0 → IsPart d 36 s
lone_gives d s no_brace no_paren none =
    let span : Span is_name_byte s [] s = subst (λ (n : ℕ). Span is_name_byte s (take n s) (drop n s)) none (name_of s) in
    let paren : begins_with 40 s ≡ false = ap (λ (n : ℕ). begins_with 40 (drop n s)) (sym none) ∙ no_paren in
    record { token = text_token (36 ∷ []); rest = s; derived = Part.lone d s span paren no_brace }

name_gives : (d : ℕ) (s : List ℕ) → begins_with 40 (drop (name_len s) s) ≡ false → eqb (name_len s) 0 ≡ false → IsPart d 36 s
name_gives d s no_paren some = by (take (name_len s) s) (name_of s) refl
  where
    by : (t : List ℕ) → Span is_name_byte s t (drop (name_len s) s) → take (name_len s) s ≡ t → IsPart d 36 s
    by [] h e =
        let none : name_len s ≡ 0 = sym (length-take-le (name_len s) s (name_within s)) ∙ ap length e in
        absurd (let yes : eqb (name_len s) 0 ≡ true = eq-eqb (name_len s) 0 none in cc)
    by (b ∷ t) h e = record { token = substitution (variable (b ∷ t)); rest = drop (name_len s) s; derived = Part.name d b s t _ h no_paren }

dollar_gives : (d : ℕ) → Inner d → (s : List ℕ) → begins_with 123 s ≡ false → Gives d 36 s (token_at (inside_of d) 36 s)
dollar_gives d inner s no_brace =
    subst (Gives d 36 s) (sym (dollar_is (inside_of d) s no_brace))
    (cond_both (begins_with 40 (drop (name_len s) s)) _ _ (Gives d 36 s) (λ e. element_gives d inner s e)
    (λ no_paren. cond_both (eqb (name_len s) 0) _ _ (Gives d 36 s) (λ e p _. lone_gives d s no_brace no_paren (eqb-true (name_len s) 0 e))
    (λ some p _. name_gives d s no_paren some)))

sign_gives : (d : ℕ) → Inner d → (s : List ℕ) → Gives d 36 s (token_at (inside_of d) 36 s)
sign_gives d inner s = by (begins_with 123 s) refl
  where
    by : (t : Bool) → begins_with 123 s ≡ t → Gives d 36 s (token_at (inside_of d) 36 s)
    by true e = subst (Gives d 36 s) (sym (braces_open (inside_of d) s e)) (braced_gives d s e)
    by false e = dollar_gives d inner s e

slash_gives : (d : ℕ) (s : List ℕ) → IsPart d 92 s
slash_gives d s = record { token = text_token _; rest = _; derived = Part.slash d s _ _ (escape_of s) }

part_of : (d : ℕ) → Inner d → (b : ℕ) (s : List ℕ) → Gives d b s (token_at (inside_of d) b s)
part_of d inner b s = by (eqb b 92) (eqb b 91) (eqb b 36) refl refl refl
  where
    at : (c : ℕ) → eqb b c ≡ true → Gives d c s (token_at (inside_of d) c s) → Gives d b s (token_at (inside_of d) b s)
    at c e h = subst (λ (x : ℕ). Gives d x s (token_at (inside_of d) x s)) (sym (eqb-true b c e)) h

    by : (t u v : Bool) → eqb b 92 ≡ t → eqb b 91 ≡ u → eqb b 36 ≡ v → Gives d b s (token_at (inside_of d) b s)
    by true u v e f g = at 92 e (λ p _. slash_gives d s)
    by false true v e f g = at 91 f (bracket_gives d inner s)
    by false false true e f g = at 36 g (sign_gives d inner s)
    by false false false e f g = λ p _. record { token = text_token (b ∷ []); rest = s; derived = Part.plain d b s (other_byte b 92 e) (other_byte b 36 g) (other_byte b 91 f) }

-- ---- Runs of parts

-- what is left behind a reading, by a count that is the same
left_behind : (n m : ℕ) (s r : List ℕ) → n ≡ m → r ≡ drop n s → drop m s ≡ r
left_behind n m s r e h = ap (λ (k : ℕ). drop k s) (sym e) ∙ sym h

left_behind_byte : (b n m : ℕ) (s r : List ℕ) → n ≡ m → 0 < n → r ≡ drop n (b ∷ s) → drop (m - 1) s ≡ r
left_behind_byte b n m s r e some h = ap (λ (k : ℕ). drop (k - 1) s) (sym e) ∙ drop_less b n s r some h

abbrev FindsRun : ℕ → Place → List ℕ → Read Pieces → Type 0
FindsRun d place s read = (p : Pieces × ℕ) → read ≡ Ok p → IsRun d place s

run_end : (d : ℕ) (place : Place) → FindsRun d place [] (at_end (stop_of place))
run_end d place p is = by (ends_with_text place) refl (text_end place)
  where
    by : (t : Bool) → ends_with_text place ≡ t → TextEnd place t → IsRun d place []
    by true e h = record { pieces = no_pieces; rest = []; derived = Run.over d place e }
    by false e h = absurd (let no : ◌≡◌ {A = Read Pieces} (Err h.0) (Ok p) = sym h.1 ∙ is in cc)

behind_found : {A B : Type 0} (n : ℕ) (f : A → B) (r : Read A) (p : B × ℕ) → behind n f r ≡ Ok p → (q : A × ℕ) × (r ≡ Ok q)
behind_found n f (Err e) p is = absurd (cc)
behind_found n f (Ok q) p is = (q, refl)

same_count : {A : Type 0} (a b : A × ℕ) (r : Read A) → r ≡ Ok a → r ≡ Ok b → a.1 ≡ b.1
same_count {A = A} a b r e f =
    let same : ◌≡◌ {A = Read A} (Ok a) (Ok b) = sym e ∙ f in
    let pair : a ≡ b = cc in
    ap (λ (p : A × ℕ). p.1) pair

run_part : (d : ℕ) → Inner d → (place : Place) (b : ℕ) (s : List ℕ) → ends place b s ≡ false → (on : ℕ → Read Pieces) → ((k : ℕ) → FindsRun d place (drop k s) (on k))
    → (t : Read Token) → token_at (inside_of d) b s ≡ t → FindsRun d place (b ∷ s) (join on t)
run_part d inner place b s dark on ih (Err e) token p is = absurd (cc)
run_part d inner place b s dark on ih (Ok q) token p is =
    let i = part_of d inner b s q token in
    let k = part_read d (b ∷ s) i.token i.rest i.derived in
    let n : k.n ≡ q.1 = same_count (i.token, k.n) q (token_at (inside_of d) b s) k.is token in
    let f = behind_found (1 + q.1) (put_token q.0) (on q.1) p is in
    let more = ih q.1 f.0 f.1 in
    let next : drop q.1 s ≡ i.rest = left_behind k.n q.1 s i.rest n k.rest in
    record {
      pieces = put_token i.token more.pieces;
      rest = more.rest;
      derived = Run.part d b place s i.rest more.rest i.token more.pieces dark i.derived (subst (λ x. Run d place x more.pieces more.rest) next more.derived);
    }

run_turn : (d : ℕ) → Inner d → (place : Place) (b : ℕ) (s : List ℕ) → ((k : ℕ) → FindsRun d place (drop k s) (parts (inside_of d) (stop_of place) (drop k s)))
    → FindsRun d place (b ∷ s) (part_step (inside_of d) (stop_of place) (λ k. parts (inside_of d) (stop_of place) (drop k s)) b s)
run_turn d inner place b s ih =
    cond_both (stops (stop_of place) b s) _ _ (FindsRun d place (b ∷ s))
    (λ e p _. record { pieces = no_pieces; rest = _; derived = Run.end d b place s (sym (ends_is place b s) ∙ e) })
    (λ e. run_part d inner place b s (sym (ends_is place b s) ∙ e) (λ k. parts (inside_of d) (stop_of place) (drop k s)) ih (token_at (inside_of d) b s) refl)

run_of : (d : ℕ) → Inner d → (place : Place) (s : List ℕ) → FindsRun d place s (parts (inside_of d) (stop_of place) s)
unfolding parts
run_of d inner place s = course_induction (at_end (stop_of place)) (part_step (inside_of d) (stop_of place)) (FindsRun d place) (run_end d place) (run_turn d inner place) s 0

-- ---- Words

abbrev FindsSingle : ℕ → Place → List ℕ → Read Pieces → Type 0
FindsSingle d place s read = (p : Pieces × ℕ) → read ≡ Ok p → IsSingle d place s

closed_found : (stop : Stop) (s : List ℕ) (fault : WordFault) (ps : Pieces) (n : ℕ) (p : Pieces × ℕ) → closed stop s fault ps n ≡ Ok p → commands.may_end stop (drop n s) ≡ true
closed_found stop s fault ps n p is = by (commands.may_end stop (drop n s)) is
  where
    by : (t : Bool) → cond {A = Read Pieces} t (Ok (ps, 1 + n)) (Err fault) ≡ Ok p → t ≡ true
    by true q = refl
    by false q = absurd (cc)

quoted_found : (d : ℕ) → Inner d → (place : Place) (s : List ℕ) (r : Read Pieces) → parts (inside_of d) (stop_of quotes) s ≡ r → FindsSingle d place (34 ∷ s) (in_quotes (stop_of place) s r)
quoted_found d inner place s (Err e) inside p is = absurd (cc)
quoted_found d inner place s (Ok q) inside p is =
    let i = run_of d inner quotes s q inside in
    let k = run_read d quotes s i.pieces i.rest i.derived in
    let n : k.n ≡ q.1 = same_count (i.pieces, k.n) q (parts (inside_of d) (stop_of quotes) s) k.is inside in
    let left : drop q.1 s ≡ i.rest = left_behind k.n q.1 s i.rest n k.rest in
    let end : may_end place i.rest ≡ true = ap (may_end place) (sym left) ∙ sym (may_end_is place (drop q.1 s)) ∙ closed_found (stop_of place) s ExtraAfterQuote q.0 q.1 p is in
    record { pieces = i.pieces; rest = i.rest; derived = Word.quoted d place s i.rest i.pieces i.derived end }

braced_word : (d : ℕ) (place : Place) (s : List ℕ) (o : Option ℕ) → closing s 0 ≡ o → FindsSingle d place (123 ∷ s) (in_braces (stop_of place) s o)
braced_word d place s None inside p is = absurd (cc)
braced_word d place s (Some j) inside p is =
    let i = braced_found s 0 j inside in
    let k = braced_closed 0 s i.text i.rest i.derived in
    let both : ◌≡◌ {A = Option ℕ} (Some k.k) (Some j) = sym k.is ∙ inside in
    let same : k.k ≡ j = cc in
    let left : drop (1 + j) s ≡ i.rest = ap (λ (x : ℕ). drop (1 + x) s) (sym same) ∙ sym k.rest in
    let end : may_end place i.rest ≡ true =
    ap (may_end place) (sym left) ∙ sym (may_end_is place (drop (1 + j) s)) ∙ closed_found (stop_of place) s ExtraAfterBrace (piece (literal (joined (take j s))) no_pieces) (1 + j) p is in
    record { pieces = piece (literal i.text) no_pieces; rest = i.rest; derived = Word.braced d place s i.text i.rest i.derived end }

single_of : (d : ℕ) → Inner d → (place : Place) (b : ℕ) (s : List ℕ) → ends place b s ≡ false → FindsSingle d place (b ∷ s) (plain_word (inside_of d) (stop_of place) (b ∷ s))
single_of d inner place b s dark = by (eqb b 34) (eqb b 123) refl refl
  where
    stop : Stop
    stop = stop_of place

    by : (t u : Bool) → eqb b 34 ≡ t → eqb b 123 ≡ u → FindsSingle d place (b ∷ s) (plain_word (inside_of d) stop (b ∷ s))
    by true u e f =
        subst (λ (c : ℕ). FindsSingle d place (c ∷ s) (plain_word (inside_of d) stop (c ∷ s))) (sym (eqb-true b 34 e))
        (subst (FindsSingle d place (34 ∷ s)) (sym (quoted_is (inside_of d) stop s)) (quoted_found d inner place s (parts (inside_of d) (stop_of quotes) s) refl))
    by false true e f =
        subst (λ (c : ℕ). FindsSingle d place (c ∷ s) (plain_word (inside_of d) stop (c ∷ s))) (sym (eqb-true b 123 f))
        (subst (FindsSingle d place (123 ∷ s)) (sym (braces_is (inside_of d) stop s)) (braced_word d place s (closing s 0) refl))
    by false false e f = λ p is.
        let i = run_of d inner place (b ∷ s) p (sym (plain_is (inside_of d) stop b s e f) ∙ is) in
        record { pieces = i.pieces; rest = i.rest; derived = Word.bare d b place s i.rest i.pieces (other_byte b 34 e) (other_byte b 123 f) dark i.derived }

spelled_found : (expand : Bool) (r : Read Pieces) (p : Spelled × ℕ) → spelled expand r ≡ Ok p → (q : Pieces × ℕ) × (r ≡ Ok q)
spelled_found expand (Err e) p is = absurd (cc)
spelled_found expand (Ok q) p is = (q, refl)

abbrev FindsWord : ℕ → Place → List ℕ → Read Spelled → Type 0
FindsWord d place s read = (p : Spelled × ℕ) → read ≡ Ok p → IsWord d place s

-- `{*}` and the word behind it
expansion_found : (d : ℕ) → Inner d → (place : Place) (s : List ℕ) → commands.may_end (stop_of place) s ≡ false → (q : Pieces × ℕ) → plain_word (inside_of d) (stop_of place) s ≡ Ok q → IsWord d place (123 ∷ 42 ∷ 125 ∷ s)
expansion_found d inner place [] dark q is = absurd (cc)
expansion_found d inner place (b ∷ s) dark q is =
    let i = single_of d inner place b s (sym (ends_is place b s) ∙ dark) q is in
    record { value = split i.pieces; rest = i.rest; derived = Word.expanded d place (b ∷ s) i.rest i.pieces i.derived }

record Expands (stop : Stop) (s : List ℕ) : Type 0 where
  rest : List ℕ
  shape : s ≡ 123 ∷ 42 ∷ 125 ∷ rest
  dark : commands.may_end stop rest ≡ false

-- the tests of `{*}` one by one
four_true : (a b c d : Bool) → a && b && c && d ≡ true → (a ≡ true) × (b ≡ true) × (c ≡ true) × (d ≡ true)
four_true true true true true e = (refl, refl, refl, refl)
four_true true true true false e = absurd (cc)
four_true true true false d e = absurd (cc)
four_true true false c d e = absurd (cc)
four_true false b c d e = absurd (cc)

not_true : (t : Bool) → not t ≡ true → t ≡ false
not_true false e = refl
not_true true e = absurd (cc)

expands : (stop : Stop) (s : List ℕ) → is_expansion stop s ≡ true → Expands stop s
expands stop s e =
    let p = four_true (begins_with 123 s) (begins_with 42 (drop 1 s)) (begins_with 125 (drop 2 s)) (not (commands.may_end stop (drop 3 s))) e in
    let one : s ≡ 123 ∷ drop 1 s = begins 123 s p.0 in
    let two : drop 1 s ≡ 42 ∷ drop 2 s = begins 42 (drop 1 s) p.1 ∙ ap (λ x. 42 ∷ x) (drop-drop 1 1 s) in
    let three : drop 2 s ≡ 125 ∷ drop 3 s = begins 125 (drop 2 s) p.2 ∙ ap (λ x. 125 ∷ x) (drop-drop 1 2 s) in
    record { rest = drop 3 s; shape = one ∙ ap (λ x. 123 ∷ x) (two ∙ ap (λ x. 42 ∷ x) three); dark = not_true (commands.may_end stop (drop 3 s)) p.3 }

word_of : (d : ℕ) → Inner d → (place : Place) (b : ℕ) (s : List ℕ) → ends place b s ≡ false → FindsWord d place (b ∷ s) (word (inside_of d) (stop_of place) (b ∷ s))
unfolding word
word_of d inner place b s dark =
    cond_both (is_expansion (stop_of place) (b ∷ s)) _ _ (FindsWord d place (b ∷ s))
    (λ e p is.
    let x = expands (stop_of place) (b ∷ s) e in
    let f = spelled_found true (behind 3 (λ ps. ps) (plain_word (inside_of d) (stop_of place) (drop 3 (b ∷ s)))) p is in
    let g = behind_found 3 (λ ps. ps) (plain_word (inside_of d) (stop_of place) (drop 3 (b ∷ s))) f.0 f.1 in
    let left : drop 3 (b ∷ s) ≡ x.rest = ap (drop 3) x.shape in
    subst (IsWord d place) (sym x.shape) (expansion_found d inner place x.rest x.dark g.0 (ap (plain_word (inside_of d) (stop_of place)) (sym left) ∙ g.1)))
    (λ e p is.
    let f = spelled_found false (plain_word (inside_of d) (stop_of place) (b ∷ s)) p is in
    let i = single_of d inner place b s dark f.0 f.1 in
    record { value = single i.pieces; rest = i.rest; derived = i.derived })

-- ---- Words of a command

abbrev FindsWords : ℕ → List ℕ → Read (List Spelled) → Type 0
FindsWords d s read = (p : List Spelled × ℕ) → read ≡ Ok p → IsWords d s

-- a word, and words behind it
pub record IsFirst (d : ℕ) (s : List ℕ) : Type 0 where
  pub value : Spelled
  pub next : List ℕ
  pub derived : Word d top s value next
  pub later : IsWords d next

first_found : (on : ℕ → Read (List Spelled)) (r : Read Spelled) (p : List Spelled × ℕ) → after_word on r ≡ Ok p → (w : Spelled × ℕ) × (q : List Spelled × ℕ) × (r ≡ Ok w) × (on (w.1 - 1) ≡ Ok q)
first_found on (Err e) p is = absurd (cc)
first_found on (Ok w) p is = let f = behind_found w.1 (λ ws. w.0 ∷ ws) (on (w.1 - 1)) p is in (w, f.0, refl, f.1)

first_word : (d : ℕ) → Inner d → (b : ℕ) (s : List ℕ) → is_gap b s ≡ false → (on : ℕ → Read (List Spelled)) → ((k : ℕ) → FindsWords d (drop k s) (on k))
    → (p : List Spelled × ℕ) → words_at (inside_of d) on (b ∷ s) None ≡ Ok p → IsFirst d (b ∷ s)
first_word d inner b s dark on ih p is =
    let read : Read Spelled = word (inside_of d) (stop_of top) (b ∷ s) in
    let f = first_found on read p (sym (words_at_is (inside_of d) on (b ∷ s)) ∙ is) in
    let i = word_of d inner top b s dark f.0 f.2 in
    let k = word_read d top (b ∷ s) i.value i.rest i.derived refl in
    let n : k.n ≡ f.0.1 = same_count (i.value, k.n) f.0 read k.is f.2 in
    let left : drop (f.0.1 - 1) s ≡ i.rest = left_behind_byte b k.n f.0.1 s i.rest n k.some k.rest in
    record { value = i.value; next = i.rest; derived = i.derived; later = subst (IsWords d) left (ih (f.0.1 - 1) f.1 f.3) }

words_turn : (d : ℕ) → Inner d → (b : ℕ) (s : List ℕ) → ((k : ℕ) → FindsWords d (drop k s) (words (inside_of d) (drop k s)))
    → FindsWords d (b ∷ s) (words_step (inside_of d) (λ k. words (inside_of d) (drop k s)) b s)
words_turn d inner b s ih =
    cond_both (ends_command b) _ _ (FindsWords d (b ∷ s)) (λ e p _. record { value = []; rest = s; derived = Words.at_newline d b top s e })
    (λ no. gap_cases b s false (λ o. FindsWords d (b ∷ s) (words_at (inside_of d) (λ k. words (inside_of d) (drop k s)) (b ∷ s) o))
    (λ e p _. absurd (cc))
    (λ n white p is.
    let f = behind_found (1 + n) (λ ws. ws) (words (inside_of d) (drop n s)) p is in
    let i = ih n f.0 f.1 in
    record { value = i.value; rest = i.rest; derived = Words.white d top (b ∷ s) (drop n s) i.rest i.value white i.derived })
    (λ e p _. let never = no_comment b in absurd (cc))
    (λ dark _ p is.
    let i = first_word d inner b s dark (λ k. words (inside_of d) (drop k s)) ih p is in
    let l = i.later in
    record { value = i.value ∷ l.value; rest = l.rest; derived = Words.word d top (b ∷ s) i.next l.rest i.value l.value i.derived l.derived }))

words_of : (d : ℕ) → Inner d → (s : List ℕ) → FindsWords d s (words (inside_of d) s)
unfolding words
words_of d inner s = course_induction (Ok ([], 0)) (words_step (inside_of d)) (FindsWords d) (λ p _. record { value = []; rest = []; derived = Words.at_end d }) (words_turn d inner) s 0

-- ---- Scripts in brackets

more_found : (n k : ℕ) (r : Result ℕ WordFault) → more_bytes n r ≡ Ok k → (j : ℕ) × (r ≡ Ok j)
more_found n k (Err e) is = absurd (cc)
more_found n k (Ok j) is = (j, refl)

-- more stands before the first command
put_before : (d : ℕ) (s m : List ℕ) → ((r : List ℕ) → Before m r → Before s r) → (i : IsScript d m) → IsScript d s
put_before d s m f i = record { rest = i.rest; derived = by i.rest i.derived }
  where
    first : (ws : List Spelled) (r : List ℕ) → Command d brackets m ws r → Command d brackets s ws r
    first ws r (Command.some_words d' place' s' m' n r' w ws' h p q) = Command.some_words d brackets s m' n r w ws' (f m' h) p q

    by : (r : List ℕ) → Script d m r → Script d s r
    by r (Script.close d' s' r' h) = Script.close d s r (f (93 ∷ r) h)
    by r (Script.command d' s' m' r' ws p q) = Script.command d s m' r ws (first ws m' p) q

-- a word in brackets, and what a command still has behind it
record IsNested (d : ℕ) (s : List ℕ) : Type 0 where
  value : Spelled
  next : List ℕ
  derived : Word d brackets s value next
  later : IsAfter d next

record FindsScript (d : ℕ) (s : List ℕ) (f : Bool → Result ℕ WordFault) : Type 0 where
  begins_command : (k : ℕ) → f true ≡ Ok k → IsScript d s
  goes_on : (k : ℕ) → f false ≡ Ok k → IsAfter d s

nested_found : (on : ℕ → Bool → Result ℕ WordFault) (r : Read Spelled) (k : ℕ) → after_nested_word on (count_of r) ≡ Ok k → (w : Spelled × ℕ) × (j : ℕ) × (r ≡ Ok w) × (on (w.1 - 1) false ≡ Ok j)
nested_found on (Err e) k is = absurd (cc)
nested_found on (Ok w) k is = let f = more_found w.1 k (on (w.1 - 1) false) is in (w, f.0, refl, f.1)

nested_word : (d : ℕ) → Inner d → (b : ℕ) (s : List ℕ) → eqb b 93 ≡ false → is_gap b s ≡ false → (on : ℕ → Bool → Result ℕ WordFault) → ((k : ℕ) → FindsScript d (drop k s) (on k))
    → (k : ℕ) → script_at (inside_of d) on (b ∷ s) None ≡ Ok k → IsNested d (b ∷ s)
nested_word d inner b s other dark on ih k is =
    let read : Read Spelled = word (inside_of d) (stop_of brackets) (b ∷ s) in
    let f = nested_found on read k (sym (script_at_is (inside_of d) on (b ∷ s)) ∙ is) in
    let within : ends brackets b s ≡ false = rw (dark, other) refl in
    let i = word_of d inner brackets b s within f.0 f.2 in
    let w = word_read d brackets (b ∷ s) i.value i.rest i.derived refl in
    let n : w.n ≡ f.0.1 = same_count (i.value, w.n) f.0 read w.is f.2 in
    let left : drop (f.0.1 - 1) s ≡ i.rest = left_behind_byte b w.n f.0.1 s i.rest n w.some w.rest in
    record { value = i.value; next = i.rest; derived = i.derived; later = subst (IsAfter d) left ((ih (f.0.1 - 1)).goes_on f.1 f.3) }

module _ (d : ℕ) (inner : Inner d) (b : ℕ) (s : List ℕ) (on : ℕ → Bool → Result ℕ WordFault) (ih : (k : ℕ) → FindsScript d (drop k s) (on k)) (other : eqb b 93 ≡ false) where
  command_turn : (k : ℕ) → script_at (inside_of d) on (b ∷ s) (gap_at b s true) ≡ Ok k → IsScript d (b ∷ s)
  command_turn =
      gap_cases b s true (λ o. (k : ℕ) → script_at (inside_of d) on (b ∷ s) o ≡ Ok k → IsScript d (b ∷ s))
      (λ e k is. let f = more_found (1 + 0) k (on 0 true) is in put_before d (b ∷ s) s (λ r h. Before.end b s r e h) ((ih 0).begins_command f.0 f.1))
      (λ n white k is. let f = more_found (1 + n) k (on n true) is in put_before d (b ∷ s) (drop n s) (λ r h. Before.white (b ∷ s) (drop n s) r white h) ((ih n).begins_command f.0 f.1))
      (λ e k is.
      let n : ℕ = comment_len s in
      let f = more_found (1 + n) k (on n true) is in
      let hash : b ≡ 35 = eqb-true b 35 (both_true (eqb b 35) true e).0 in
      subst (λ (x : ℕ). IsScript d (x ∷ s)) (sym hash) (put_before d (35 ∷ s) (drop n s) (λ r h. Before.comment s (drop n s) r (comment_of s) h) ((ih n).begins_command f.0 f.1)))
      (λ dark plain k is.
      let i = nested_word d inner b s other dark on ih k is in
      let l = i.later in
      let here : Before (b ∷ s) (b ∷ s) = Before.word b s dark (other_byte b 35 (first_true (eqb b 35) plain)) in
      let first : Command d brackets (b ∷ s) (i.value ∷ l.value) l.rest = Command.some_words d brackets (b ∷ s) (b ∷ s) i.next l.rest i.value l.value here i.derived l.derived in
      let more = l.later in
      record { rest = more.rest; derived = Script.command d (b ∷ s) l.rest more.rest (i.value ∷ l.value) first more.derived })

  words_on_turn : (k : ℕ) → script_at (inside_of d) on (b ∷ s) (gap_at b s false) ≡ Ok k → IsAfter d (b ∷ s)
  words_on_turn =
      gap_cases b s false (λ o. (k : ℕ) → script_at (inside_of d) on (b ∷ s) o ≡ Ok k → IsAfter d (b ∷ s))
      (λ e k is. let f = more_found (1 + 0) k (on 0 true) is in record { value = []; rest = s; derived = Words.at_newline d b brackets s e; later = (ih 0).begins_command f.0 f.1 })
      (λ n white k is.
      let f = more_found (1 + n) k (on n false) is in
      let i = (ih n).goes_on f.0 f.1 in
      record { value = i.value; rest = i.rest; derived = Words.white d brackets (b ∷ s) (drop n s) i.rest i.value white i.derived; later = i.later })
      (λ e k _. let never = no_comment b in absurd (cc))
      (λ dark _ k is.
      let i = nested_word d inner b s other dark on ih k is in
      let l = i.later in
      record { value = i.value ∷ l.value; rest = l.rest; derived = Words.word d brackets (b ∷ s) i.next l.rest i.value l.value i.derived l.derived; later = l.later })

closes_here : (d : ℕ) (s : List ℕ) → IsScript d (93 ∷ s)
closes_here d s = record { rest = s; derived = Script.close d (93 ∷ s) s (Before.word 93 s refl (other_byte 93 35 refl)) }

script_turn : (d : ℕ) → Inner d → (b : ℕ) (s : List ℕ) → (on : ℕ → Bool → Result ℕ WordFault) → ((k : ℕ) → FindsScript d (drop k s) (on k)) → FindsScript d (b ∷ s) (script_step (inside_of d) on b s)
script_turn d inner b s on ih = record {
  begins_command = λ k.
      cond_both (eqb b 93) _ _ (λ (r : Result ℕ WordFault). r ≡ Ok k → IsScript d (b ∷ s)) (λ e _. subst (λ (x : ℕ). IsScript d (x ∷ s)) (sym (eqb-true b 93 e)) (closes_here d s))
      (λ other. command_turn d inner b s on ih other k);
  goes_on = λ k.
      cond_both (eqb b 93) _ _ (λ (r : Result ℕ WordFault). r ≡ Ok k → IsAfter d (b ∷ s))
      (λ e _. subst (λ (x : ℕ). IsAfter d (x ∷ s)) (sym (eqb-true b 93 e)) (record { value = []; rest = 93 ∷ s; derived = Words.at_bracket d s; later = closes_here d s }))
      (λ other. words_on_turn d inner b s on ih other k);
}

script_of : (d : ℕ) → Inner d → (s : List ℕ) → FindsScript d s (nested_script (inside_of d) s)
unfolding nested_script
script_of d inner s =
    course_induction (λ first. Err MissingBracket) (script_step (inside_of d)) (FindsScript d) (record { begins_command = λ k is. absurd (cc); goes_on = λ k is. absurd (cc) })
    (λ b s ih. script_turn d inner b s _ ih) s 0

-- ---- At each depth

inner_of : (d : ℕ) → Inner d
inner_of zero = tt
inner_of (suc d) = let inner = inner_of d in record { scripts = λ s k is. (script_of d inner s).begins_command k is; runs = run_of d inner }

-- a command whose words were read, where one begins
pub first_words : (d b : ℕ) (s : List ℕ) (p : List Spelled × ℕ) → gap_at b s true ≡ None → words (inside_of d) (b ∷ s) ≡ Ok p → IsFirst d (b ∷ s)
first_words d b s p none is =
    let dark = gap-dark b s true none in
    let gap : gap_at b s false ≡ None = no_gap b s false dark (no_comment b) in
    let on : ℕ → Read (List Spelled) = λ k. words (inside_of d) (drop k s) in
    first_word d (inner_of d) b s dark on (λ k. words_of d (inner_of d) (drop k s)) p
    (sym (words_on (inside_of d) b s (no_end b s dark) ∙ ap (words_at (inside_of d) on (b ∷ s)) gap) ∙ is)
