-- The parts of a word, as a loop collects them.
use Rattle.std.proofs.Common.{◌≡◌, ℕ, ◌+◌, ◌-◌, ◌<◌, ◌≤◌, Bool, true, false, ◌&&◌, List, [], ◌∷◌, ◌++◌, map, take, drop, length, get_or, Option, Some, None, Result, Ok, Err, eqb, refl, sym, ap, ◌∙◌, append_assoc, arith}
use Rattle.std.proofs.lemmas.List.{append-nil, map_push}
use Rattle.std.proofs.lemmas.Bool.Decides.{nat_tests}
use Rattle.tcl_words.specs.declared.faults.WordFault.{WordFault}
use Rattle.tcl_words.specs.declared.faults.WordFault.TheVariants as faults
use Rattle.tcl_words.specs.declared.shapes.Part.{Part}
use Rattle.tcl_words.specs.declared.stop.Stop.{Stop}
use Rattle.tcl_words.specs.Backslash.{backslash}
use Rattle.tcl_words.specs.Pieces.{Piece, literal, variable, member, script, Pieces, no_pieces, piece, pieces_of, append, literal_of, part_view, parts_view}
use Rattle.tcl_words.specs.Lists.{begins_with}
use Rattle.tcl_words.specs.Commands.{Read, Fails, behind, put_text, Inside, Token, text_token, substitution, token_at, script_token, braced_variable, array_member, brace_at, name_len, parts, stops, stop_len, unclosed, ended, at_end}
use Rattle.tcl_words.proofs.Elements.{of_choice}
use Rattle.tcl_words.proofs.Runs.{parts_here, parts_over}

-- parts and bytes that were read before, and what is still read
abbrev pub with_read : Pieces → List ℕ → ℕ → Read Pieces → Read Pieces
with_read front text n (Ok p) = Ok (append front (put_text text p.0), n + p.1)
with_read front text n (Err e) = Err e

abbrev pub is_literal : Piece → Bool
is_literal (literal text) = true
is_literal (variable name) = false
is_literal (member name index) = false
is_literal (script text) = false

append-append : (x y z : Pieces) → append (append x y) z ≡ append x (append y z)
append-append no_pieces y z = refl
append-append (piece p x) y z = ap (piece p) (append-append x y z)

append-none : (x : Pieces) → append x no_pieces ≡ x
append-none no_pieces = refl
append-none (piece p x) = ap (piece p) (append-none x)

put_text-nil : (ps : Pieces) → put_text [] ps ≡ ps
put_text-nil no_pieces = refl
put_text-nil (piece (literal text) ps) = refl
put_text-nil (piece (variable name) ps) = refl
put_text-nil (piece (member name index) ps) = refl
put_text-nil (piece (script code) ps) = refl

pub put_text-none : (text : List ℕ) → put_text text no_pieces ≡ literal_of text
put_text-none text = append-none (literal_of text)

put_text-whole : (text : List ℕ) (p : Piece) (ps : Pieces) → is_literal p ≡ false → put_text text (piece p ps) ≡ append (literal_of text) (piece p ps)
put_text-whole text (literal more) ps h = absurd (cc)
put_text-whole text (variable name) ps h = refl
put_text-whole text (member name index) ps h = refl
put_text-whole text (script code) ps h = refl

-- bytes before bytes and parts
put_text-literal_of : (text more : List ℕ) (ps : Pieces) → ((all : List ℕ) → put_text all ps ≡ append (literal_of all) ps) → put_text (text ++ more) ps ≡ put_text text (append (literal_of more) ps)
put_text-literal_of text [] ps plain = ap (λ (t : List ℕ). put_text t ps) (append-nil text)
put_text-literal_of [] (b ∷ more) ps plain = plain (b ∷ more)
put_text-literal_of (c ∷ text) (b ∷ more) ps plain = plain ((c ∷ text) ++ b ∷ more)

put_text-more : (text more : List ℕ) (ps : Pieces) → put_text (text ++ more) ps ≡ put_text text (put_text more ps)
put_text-more text more no_pieces = put_text-literal_of text more no_pieces (λ all. refl)
put_text-more text more (piece (literal last) ps) = ap (λ (t : List ℕ). piece (literal t) ps) (append_assoc text more last)
put_text-more text more (piece (variable name) ps) = put_text-literal_of text more (piece (variable name) ps) (λ all. refl)
put_text-more text more (piece (member name index) ps) = put_text-literal_of text more (piece (member name index) ps) (λ all. refl)
put_text-more text more (piece (script code) ps) = put_text-literal_of text more (piece (script code) ps) (λ all. refl)

pieces_of-push : (ps : List Piece) (p : Piece) → pieces_of (ps ++ p ∷ []) ≡ append (pieces_of ps) (piece p no_pieces)
pieces_of-push [] p = refl
pieces_of-push (q ∷ ps) p = ap (piece q) (pieces_of-push ps p)

pub parts_view-push : (ps : List Part) (p : Part) → parts_view (ps ++ p ∷ []) ≡ append (parts_view ps) (piece (part_view p) no_pieces)
parts_view-push ps p = ap pieces_of (map_push part_view ps p) ∙ pieces_of-push (map part_view ps) (part_view p)

pub literal_flushed : (ps : List Part) (p : Part) (text : List ℕ) → (eqb (length text) 0 ≡ false) → part_view p ≡ literal text → parts_view (ps ++ p ∷ []) ≡ append (parts_view ps) (literal_of text)
literal_flushed ps p [] some is = absurd (grind (arith, nat_tests))
literal_flushed ps p (b ∷ text) some is = parts_view-push ps p ∙ ap (λ q. append (parts_view ps) (piece q no_pieces)) is

pub none_flushed : (front : Pieces) (text : List ℕ) → (eqb (length text) 0 ≡ true) → append front (literal_of text) ≡ front
none_flushed front [] none = append-none front
none_flushed front (b ∷ text) none = absurd (grind (arith, nat_tests))

-- bytes were read
turn_text : (front : Pieces) (text more : List ℕ) (i k : ℕ) (r : Read Pieces) → with_read front text i (behind (1 + k) (put_text more) r) ≡ with_read front (text ++ more) (i + (1 + k)) r
turn_text front text more i k (Err e) = refl
turn_text front text more i k (Ok p) =
    let m : i + (1 + k + p.1) ≡ i + (1 + k) + p.1 = omega arith in
    λ j. Ok (append front (sym (put_text-more text more p.0) j), m j)

-- a substitution was read
turn_whole : (front : Pieces) (text : List ℕ) (i k : ℕ) (p : Piece) (r : Read Pieces) → is_literal p ≡ false
    → with_read front text i (behind (1 + k) (piece p) r) ≡ with_read (append (append front (literal_of text)) (piece p no_pieces)) [] (i + (1 + k)) r
turn_whole front text i k p (Err e) h = refl
turn_whole front text i k p (Ok q) h =
    let m : i + (1 + k + q.1) ≡ i + (1 + k) + q.1 = omega arith in
    let regroup : append front (put_text text (piece p q.0)) ≡ append (append (append front (literal_of text)) (piece p no_pieces)) (put_text [] q.0) =
    ap (append front) (put_text-whole text p q.0 h)
    ∙ sym (ap (append (append (append front (literal_of text)) (piece p no_pieces))) (put_text-nil q.0)
    ∙ append-append (append front (literal_of text)) (piece p no_pieces) q.0 ∙ append-append front (literal_of text) (piece p q.0)) in
    λ j. Ok (regroup j, m j)

-- a substitution is no literal
abbrev NoLiteral : Read Token → Type 0
NoLiteral r = (p : Piece) (n : ℕ) → r ≡ Ok (substitution p, n) → is_literal p ≡ false

abbrev got : Read Token → Token
got (Ok p) = p.0
got (Err e) = text_token []

only_text : (v : List ℕ) (k : ℕ) → NoLiteral (Ok (text_token v, k))
only_text v k p n is = let e : text_token v ≡ substitution p = ap got is in absurd (cc)

not_fault : (e : WordFault) → NoLiteral (Err e)
not_fault e p n is = absurd (cc)

other_piece : (q : Piece) (k : ℕ) → is_literal q ≡ false → NoLiteral (Ok (substitution q, k))
other_piece q k h p n is = let e : substitution q ≡ substitution p = ap got is in let same : q ≡ p = cc in ap is_literal (sym same) ∙ h

bracket-no_literal : (s : List ℕ) (r : Result ℕ WordFault) → NoLiteral (script_token s r)
bracket-no_literal s (Ok k) = other_piece (script (take (k - 1) s)) k refl
bracket-no_literal s (Err e) = not_fault e

braced-no_literal : (s : List ℕ) (r : Option ℕ) → NoLiteral (braced_variable s r)
braced-no_literal s None = not_fault faults.MissingBrace
braced-no_literal s (Some n) = other_piece (variable (take n (drop 1 s))) (2 + n) refl

member-no_literal : (n : ℕ) (s : List ℕ) (r : Read Pieces) → NoLiteral (array_member n s r)
member-no_literal n s (Err e) = not_fault e
member-no_literal n s (Ok p) = other_piece (member (take n s) p.0) (1 + n + p.1) refl

token-no_literal : (inside : Inside) (b : ℕ) (s : List ℕ) → NoLiteral (token_at inside b s)
unfolding token_at
token-no_literal inside b s =
    let n = name_len s in
    of_choice NoLiteral (eqb b 92) _ _ (only_text (backslash s).0 (backslash s).1)
    (of_choice NoLiteral (eqb b 91 && inside.scripts) _ _ (bracket-no_literal s (inside.bracket s))
    (of_choice NoLiteral (eqb b 36) _ _
    (of_choice NoLiteral (begins_with 123 s) _ _ (braced-no_literal s (brace_at (drop 1 s)))
    (of_choice NoLiteral (begins_with 40 (drop n s)) _ _ (member-no_literal n s (inside.index (drop (1 + n) s)))
    (of_choice NoLiteral (eqb n 0) _ _ (only_text (36 ∷ []) 0) (other_piece (variable (take n s)) n refl))))
    (only_text (b ∷ []) 0)))

pub fails_alike : {Z W : Type 0} (e : WordFault) (r : Result Z WordFault) (total : Result W WordFault) → Fails e r → (r ≡ Err e → total ≡ Err e) → Fails e total
fails_alike faults.Memory r total is follows = tt
fails_alike e r total is follows = follows is

pub fails_is : {Z : Type 0} (e : WordFault) (r : Result Z WordFault) → r ≡ Err e → Fails e r
fails_is faults.Memory r is = tt
fails_is e r is = is

pub with_read-none : (r : Read Pieces) → with_read no_pieces [] 0 r ≡ r
with_read-none (Ok p) = let m : 0 + p.1 ≡ p.1 = omega arith in λ j. Ok (put_text-nil p.0 j, m j)
with_read-none (Err e) = refl

module _ (inside : Inside) (stop : Stop) (s : List ℕ) (front : Pieces) (text : List ℕ) (i : ℕ) (total : Read Pieces) (so_far : with_read front text i (parts inside stop (drop i s)) ≡ total) where
  pub read_text : (v : List ℕ) (n : ℕ) → i < length s → stops stop (get_or s i 0) (drop (i + 1) s) ≡ false → token_at inside (get_or s i 0) (drop (i + 1) s) ≡ Ok (text_token v, n)
      → with_read front (text ++ v) (i + (1 + n)) (parts inside stop (drop (i + (1 + n)) s)) ≡ total
  read_text v n h t is =
      let here : parts inside stop (drop i s) ≡ behind (1 + n) (put_text v) (parts inside stop (drop (i + 1 + n) s)) = parts_here inside stop s i h ∙ rw (t, is) refl in
      let m : i + 1 + n ≡ i + (1 + n) = omega arith in
      sym (ap (with_read front text i) here ∙ turn_text front text v i n _ ∙ ap (λ (k : ℕ). with_read front (text ++ v) (i + (1 + n)) (parts inside stop (drop k s))) m) ∙ so_far

  pub read_whole : (p : Piece) (n : ℕ) → i < length s → stops stop (get_or s i 0) (drop (i + 1) s) ≡ false → token_at inside (get_or s i 0) (drop (i + 1) s) ≡ Ok (substitution p, n)
      → with_read (append (append front (literal_of text)) (piece p no_pieces)) [] (i + (1 + n)) (parts inside stop (drop (i + (1 + n)) s)) ≡ total
  read_whole p n h t is =
      let here : parts inside stop (drop i s) ≡ behind (1 + n) (piece p) (parts inside stop (drop (i + 1 + n) s)) = parts_here inside stop s i h ∙ rw (t, is) refl in
      let m : i + 1 + n ≡ i + (1 + n) = omega arith in
      sym (ap (with_read front text i) here ∙ turn_whole front text i n p _ (token-no_literal inside _ _ p n is)
      ∙ ap (λ (k : ℕ). with_read (append (append front (literal_of text)) (piece p no_pieces)) [] (i + (1 + n)) (parts inside stop (drop k s))) m) ∙ so_far

  pub read_fails : (e : WordFault) → i < length s → stops stop (get_or s i 0) (drop (i + 1) s) ≡ false → Fails e (token_at inside (get_or s i 0) (drop (i + 1) s)) → Fails e total
  read_fails e h t is = fails_alike e (token_at inside (get_or s i 0) (drop (i + 1) s)) total is
      (λ bad. let here : parts inside stop (drop i s) ≡ Err e = parts_here inside stop s i h ∙ rw (t, bad) refl in sym so_far ∙ ap (with_read front text i) here)

  pub read_last : i < length s → stops stop (get_or s i 0) (drop (i + 1) s) ≡ true → total ≡ Ok (append front (literal_of text), i + stop_len stop)
  read_last h t =
      let here : parts inside stop (drop i s) ≡ Ok (no_pieces, stop_len stop) = parts_here inside stop s i h ∙ rw t refl in
      sym so_far ∙ ap (with_read front text i) here ∙ ap (λ ps. Ok (append front ps, i + stop_len stop)) (put_text-none text)

  read_over : length s ≤ i → total ≡ with_read front text i (at_end stop)
  read_over h = sym so_far ∙ ap (with_read front text i) (parts_over inside stop s i h)

  pub read_unclosed : (e : WordFault) → length s ≤ i → unclosed stop ≡ Some e → Fails e total
  read_unclosed e h u = fails_is e total (read_over h ∙ ap (λ o. with_read front text i (ended o)) u)

  pub read_all : length s ≤ i → unclosed stop ≡ None → total ≡ Ok (append front (literal_of text), i)
  read_all h u =
      let m : i + 0 ≡ i = omega arith in
      read_over h ∙ ap (λ o. with_read front text i (ended o)) u ∙ (λ j. Ok (append front (put_text-none text j), m j))
