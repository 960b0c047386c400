-- One step of a reading at the front of a text, with the readings of the later places.
use Rattle.std.proofs.Common.{◌≡◌, ◌≢◌, ℕ, ◌-◌, ◌<◌, ◌≤◌, Bool, true, false, List, [], ◌∷◌, ◌++◌, length, drop, get_or, Option, Some, None, Result, Ok, Err, if◌then◌else◌, ap, sym, ◌∙◌, refl, append_assoc, arith, option_map}
use Rattle.tcl_words.specs.declared.faults.WordFault.{WordFault}
use Rattle.tcl_words.specs.declared.faults.WordFault.TheVariants as fault
use Rattle.tcl_words.specs.declared.shapes.Command.{Command as Cmd}
use Rattle.tcl_words.specs.declared.shapes.Part.{Part}
use Rattle.tcl_words.specs.declared.shapes.Word.{Word}
use Rattle.tcl_words.specs.Commands.{is_gap, next_command, Fails}
use Rattle.tcl_words.specs.Pieces.{Spelled, parts_view, word_view, command_view}
use Rattle.tcl_words.proofs.Readings.{reading_step, reading_end}
use Rattle.script_check.specs.declared.span.Span.{Span}
use Rattle.script_check.specs.declared.readings.Reading.{Reading}
use Rattle.script_check.specs.Placed.{owned, bare_step, behind_bare, plain_pieces, plain_value}
use Rattle.script_check.specs.Brackets.{and_behind, bracket_at, bracket_step, brackets, operand_at, operand_step, operands}
use Rattle.script_check.specs.Readings.{command_in, and_more, readings_step, readings}

-- a fault that says something of the text
pub fails_are : {X : Type 0} (f : WordFault) (read : Result X WordFault) → f ≢ fault.Memory → Fails f read → read ≡ Err f
fails_are fault.MissingBrace read h e = e
fails_are fault.MissingBracket read h e = e
fails_are fault.MissingQuote read h e = e
fails_are fault.ExtraAfterQuote read h e = e
fails_are fault.ExtraAfterBrace read h e = e
fails_are fault.TooDeep read h e = e
fails_are fault.MissingParen read h e = e
fails_are fault.Memory read h e = absurd (h refl)

-- a bare word goes on
pub bare_goes : (s : List ℕ) → 1 ≤ length s → is_gap (get_or s 0 0) (drop 1 s) ≡ false → behind_bare s ≡ behind_bare (drop (owned (get_or s 0 0) s) (drop 1 s))
unfolding behind_bare
bare_goes [] h g = absurd (omega arith)
bare_goes (b ∷ s) h g = reading_step [] bare_step b s ∙ ap (λ (x : Bool). if x then b ∷ s else behind_bare (drop (owned b (b ∷ s)) s)) g

-- or ends
pub bare_ends : (s : List ℕ) → 1 ≤ length s → is_gap (get_or s 0 0) (drop 1 s) ≡ true → behind_bare s ≡ s
unfolding behind_bare
bare_ends [] h g = absurd (omega arith)
bare_ends (b ∷ s) h g = reading_step [] bare_step b s ∙ ap (λ (x : Bool). if x then b ∷ s else behind_bare (drop (owned b (b ∷ s)) s)) g

pub bare_over : (s : List ℕ) → length s < 1 → behind_bare s ≡ s
unfolding behind_bare
bare_over [] h = reading_end [] bare_step
bare_over (b ∷ s) h = absurd (omega arith)

pub brackets_go : (end : ℕ) (s : List ℕ) → 1 ≤ length s → brackets end s ≡ and_behind (λ k. brackets end (drop k (drop 1 s))) (bracket_at end (get_or s 0 0) s)
unfolding brackets
brackets_go end [] h = absurd (omega arith)
brackets_go end (b ∷ s) h = reading_step [] (bracket_step end) b s

-- one turn of a loop that puts what is found behind others
turn : (find : List ℕ → List Span) (s rest : List ℕ) (before after : List Span) (n : ℕ) (found : List Span × ℕ) → find s ≡ and_behind (λ k. find (drop k rest)) found
    → after ≡ before ++ found.0 → n ≡ found.1 → after ++ find (drop n rest) ≡ before ++ find s
turn find s rest before after n found h e m =
    ap (λ (xs : List Span). xs ++ find (drop n rest)) e
    ∙ append_assoc before found.0 _
    ∙ ap (λ (xs : List Span). before ++ xs) (ap (λ (k : ℕ). found.0 ++ find (drop k rest)) m ∙ sym h)

pub brackets_turn : (end : ℕ) (s : List ℕ) (before after : List Span) (n : ℕ) → 1 ≤ length s
    → after ≡ before ++ (bracket_at end (get_or s 0 0) s).0 → n ≡ (bracket_at end (get_or s 0 0) s).1 → after ++ brackets end (drop n (drop 1 s)) ≡ before ++ brackets end s
brackets_turn end s before after n h e m = turn (brackets end) s (drop 1 s) before after n _ (brackets_go end s h) e m

pub brackets_over : (end : ℕ) (s : List ℕ) → length s < 1 → brackets end s ≡ []
unfolding brackets
brackets_over end [] h = reading_end [] (bracket_step end)
brackets_over end (b ∷ s) h = absurd (omega arith)

pub operands_go : (end : ℕ) (s : List ℕ) → 1 ≤ length s → operands end s ≡ and_behind (λ k. operands end (drop k (drop 1 s))) (operand_at end (get_or s 0 0) s)
unfolding operands
operands_go end [] h = absurd (omega arith)
operands_go end (b ∷ s) h = reading_step [] (operand_step end) b s

pub operands_turn : (end : ℕ) (s : List ℕ) (before after : List Span) (n : ℕ) → 1 ≤ length s
    → after ≡ before ++ (operand_at end (get_or s 0 0) s).0 → n ≡ (operand_at end (get_or s 0 0) s).1 → after ++ operands end (drop n (drop 1 s)) ≡ before ++ operands end s
operands_turn end s before after n h e m = turn (operands end) s (drop 1 s) before after n _ (operands_go end s h) e m

pub operands_over : (end : ℕ) (s : List ℕ) → length s < 1 → operands end s ≡ []
unfolding operands
operands_over end [] h = reading_end [] (operand_step end)
operands_over end (b ∷ s) h = absurd (omega arith)

pub readings_go : (end : ℕ) (s : List ℕ) → 1 ≤ length s → (r : Result (Option (List Spelled × ℕ)) WordFault) → next_command s 0 ≡ r → readings end s ≡ and_more end s (λ k. readings end (drop k (drop 1 s))) r
unfolding readings
readings_go end [] h r e = absurd (omega arith)
readings_go end (b ∷ s) h r e = reading_step [] (readings_step end) b s ∙ ap (and_more end (b ∷ s) (λ k. readings end (drop k s))) e

pub readings_turn : (end : ℕ) (s : List ℕ) (before : List Reading) (words : List Spelled) (n : ℕ) → 1 ≤ length s → next_command s 0 ≡ Ok (Some (words, n))
    → (before ++ command_in end s words ∷ []) ++ readings end (drop (n - 1) (drop 1 s)) ≡ before ++ readings end s
readings_turn end s before words n h e =
    append_assoc before (command_in end s words ∷ []) _
    ∙ ap (λ (xs : List Reading). before ++ xs) (sym (readings_go end s h _ e))

pub readings_over : (end : ℕ) (s : List ℕ) → length s < 1 → readings end s ≡ []
unfolding readings
readings_over end [] h = reading_end [] (readings_step end)
readings_over end (b ∷ s) h = absurd (omega arith)

-- a word of several parts isn't written plainly
several : (ps : List Part) → 2 ≤ length ps → plain_pieces (parts_view ps) ≡ None
several [] h = absurd (omega arith)
several (p ∷ []) h = absurd (omega arith)
several (p ∷ q ∷ ps) h = refl

either : (b : Bool) (o : Option (List ℕ)) → o ≡ None → (if b then None else o) ≡ None
either true o e = refl
either false o e = e

pub several_parts : (w : Word) → 2 ≤ length w.parts.items → plain_value (word_view w) ≡ None
several_parts w h = either w.expand _ (several w.parts.items h)

-- a command that was read, as its words
abbrev pub viewed : Option (Cmd × ℕ) → Result (Option (List Spelled × ℕ)) WordFault
viewed o = Ok (option_map (λ (x : Cmd × ℕ). (command_view x.0, x.1)) o)
