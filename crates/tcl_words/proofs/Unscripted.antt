-- A text in which brackets are bytes has no script.
use Rattle.std.proofs.Common.{◌≡◌, ℕ, zero, suc, ◌+◌, Bool, true, false, ◌&&◌, ◌||◌, List, [], ◌∷◌, drop, Option, Some, None, Ok, Err, cond, eqb, refl, sym, ap, ◌∙◌, subst}
use Rattle.tcl_words.specs.declared.faults.WordFault.{WordFault}
use Rattle.tcl_words.specs.declared.stop.Stop.{Stop}
use Rattle.tcl_words.specs.declared.stop.Stop.TheVariants.{Paren, End}
use Rattle.tcl_words.specs.Lists.{begins_with}
use Rattle.tcl_words.specs.Pieces.{Pieces, literal, variable, member, script, no_pieces, piece, append, literal_of}
use Rattle.tcl_words.specs.Commands.{Read, ◌>>=◌, behind, Inside, Token, text_token, substitution, put_text, put_token, token_at, dollar, braced_variable, array_member, script_token, name_len, brace_at, parts, part_step, join, stops, at_end, unclosed, ended, reader, nested, deepest, text_parts}
use Rattle.tcl_words.specs.Scripts.{is_scripted, has_script}
use Rattle.tcl_words.proofs.Elements.{of_choice}
use Rattle.tcl_words.proofs.ListGraph.{course_induction}

abbrev Free : Read Pieces → Type 0
Free (Ok p) = has_script p.0 ≡ false
Free (Err e) = Unit {0}

abbrev IsFree : Token → Type 0
IsFree (text_token v) = Unit {0}
IsFree (substitution p) = is_scripted p ≡ false

abbrev FreeToken : Read Token → Type 0
FreeToken (Ok p) = IsFree p.0
FreeToken (Err e) = Unit {0}

append-free : (text : List ℕ) (ps : Pieces) → has_script ps ≡ false → has_script (append (literal_of text) ps) ≡ false
append-free [] ps h = h
append-free (b ∷ text) ps h = h

put_text-free : (text : List ℕ) (ps : Pieces) → has_script ps ≡ false → has_script (put_text text ps) ≡ false
put_text-free text no_pieces h = append-free text no_pieces h
put_text-free text (piece (literal more) ps) h = h
put_text-free text (piece (variable name) ps) h = append-free text (piece (variable name) ps) h
put_text-free text (piece (member name index) ps) h = append-free text (piece (member name index) ps) h
put_text-free text (piece (script code) ps) h = append-free text (piece (script code) ps) h

put_token-free : (t : Token) (ps : Pieces) → IsFree t → has_script ps ≡ false → has_script (put_token t ps) ≡ false
put_token-free (text_token v) ps f h = put_text-free v ps h
put_token-free (substitution p) ps f h = ap (λ (b : Bool). b || has_script ps) f ∙ h

behind-free : (n : ℕ) (t : Token) → IsFree t → (r : Read Pieces) → Free r → Free (behind n (put_token t) r)
behind-free n t f (Ok q) h = put_token-free t q.0 f h
behind-free n t f (Err e) h = tt

join-free : (on : ℕ → Read Pieces) → ((k : ℕ) → Free (on k)) → (r : Read Token) → FreeToken r → Free (join on r)
join-free on free (Ok p) f = behind-free (1 + p.1) p.0 f (on p.1) (free p.1)
join-free on free (Err e) f = tt

ended-free : (o : Option WordFault) → Free (ended o)
ended-free None = refl
ended-free (Some f) = tt

braced-free : (s : List ℕ) (o : Option ℕ) → FreeToken (braced_variable s o)
braced-free s None = tt
braced-free s (Some n) = refl

member-free : (n : ℕ) (s : List ℕ) (r : Read Pieces) → Free r → FreeToken (array_member n s r)
member-free n s (Ok p) h = h
member-free n s (Err e) h = tt

module _ (inside : Inside) (off : inside.scripts ≡ false) (index : (s : List ℕ) → Free (inside.index s)) where
  never : (t : Bool) → t && inside.scripts ≡ false
  never true = off
  never false = refl

  dollar-free : (n : ℕ) (s : List ℕ) → FreeToken (dollar inside n s)
  dollar-free n s =
      of_choice FreeToken (begins_with 123 s) _ _ (braced-free s (brace_at (drop 1 s)))
      (of_choice FreeToken (begins_with 40 (drop n s)) _ _ (member-free n s (inside.index (drop (1 + n) s)) (index (drop (1 + n) s)))
      (of_choice FreeToken (eqb n 0) _ _ tt refl))

  token-free : (b : ℕ) (s : List ℕ) → FreeToken (token_at inside b s)
  unfolding token_at
  token-free b s =
      of_choice FreeToken (eqb b 92) _ _ tt
      (subst (λ (t : Bool). FreeToken (cond t (script_token s (inside.bracket s)) (cond (eqb b 36) (dollar inside (name_len s) s) (Ok (text_token (b ∷ []), 0))))) (sym (never (eqb b 91)))
      (of_choice FreeToken (eqb b 36) _ _ (dollar-free (name_len s) s) tt))

  parts-free : (stop : Stop) (s : List ℕ) → Free (parts inside stop s)
  unfolding parts
  parts-free stop s =
      course_induction (at_end stop) (part_step inside stop) (λ (t : List ℕ) (r : Read Pieces). Free r) (ended-free (unclosed stop))
      (λ b t ih. of_choice Free (stops stop b t) _ _ refl (join-free _ ih (token_at inside b t) (token-free b t))) s 0

index-free : (d : ℕ) (s : List ℕ) → Free ((reader false d).index s)
unfolding reader nested
index-free zero s = tt
index-free (suc d) s = parts-free (reader false d) refl (index-free d) Paren s

found : (r : Read Pieces) (ps : Pieces) → Free r → (r >>= λ p. Ok p.0) ≡ Ok ps → has_script ps ≡ false
found (Ok p) ps h is = let same : p.0 ≡ ps = cc in ap has_script (sym same) ∙ h
found (Err e) ps h is = absurd (cc)

pub text_free : (text : List ℕ) (ps : Pieces) → text_parts text ≡ Ok ps → has_script ps ≡ false
unfolding text_parts reader
text_free text ps is = found (parts (reader false deepest) End text) ps (parts-free (reader false deepest) refl (index-free deepest) End text) is
