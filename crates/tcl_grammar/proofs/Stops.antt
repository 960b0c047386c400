-- What ends parts, as the function names it. Its type has no name here, so each is told by where the function has it.
use Rattle.std.proofs.Common.{◌≡◌, ℕ, suc, Bool, true, false, List, [], ◌∷◌, length, drop, None, Result, Ok, Err, ◌≤◌, refl, arith}
use Rattle.tcl_words.specs.declared.faults.WordFault.{WordFault}
use Rattle.tcl_words.specs.declared.faults.WordFault.TheVariants.{MissingQuote, MissingParen}
use Rattle.tcl_words.specs.Pieces.{no_pieces, Spelled}
use Rattle.tcl_words.specs.Commands.{Read, Inside, stops, stop_len, at_end, parts, plain_word, in_quotes, inside_of, reader, nested, words_at, after_word, word, script_at, after_nested_word, count_of}
use Rattle.tcl_words.specs.Commands as commands
use Rattle.tcl_grammar.specs.CommandRules.{Place, top, brackets, quotes, index, ends, left_at, ends_with_text, may_end}

abbrev pub domain : {A : Type 0} → (A → ℕ → List ℕ → Bool) → Type 0
domain {A = A} f = A

abbrev pub Stop : Type 0
Stop = domain stops

paren_of : (q : Stop) → ((d : ℕ) → (inside_of (suc d)).index ≡ parts (inside_of d) q) → Stop
paren_of q h = q

quote_of : (q : Stop) → ((inside : Inside) (stop : Stop) (s : List ℕ) → plain_word inside stop (34 ∷ s) ≡ in_quotes stop s (parts inside q s)) → Stop
quote_of q h = q

gap_of : (q : Stop) → ((inside : Inside) (on : ℕ → Read (List Spelled)) (s : List ℕ) → words_at inside on s None ≡ after_word on (word inside q s)) → Stop
gap_of q h = q

nested_of : (q : Stop) → ((inside : Inside) (on : ℕ → Bool → Result ℕ WordFault) (s : List ℕ) → script_at inside on s None ≡ after_nested_word on (count_of (word inside q s))) → Stop
nested_of q h = q

pub stop_of : Place → Stop
unfolding reader nested plain_word paren_of quote_of gap_of nested_of
stop_of top = gap_of _ (λ inside on s. refl)
stop_of brackets = nested_of _ (λ inside on s. refl)
stop_of quotes = quote_of _ (λ inside stop s. refl)
stop_of index = paren_of _ (λ d. refl)

pub index_is : (d : ℕ) → (inside_of (suc d)).index ≡ parts (inside_of d) (stop_of index)
unfolding reader nested stop_of paren_of
index_is d = refl

pub quoted_is : (inside : Inside) (stop : Stop) (s : List ℕ) → plain_word inside stop (34 ∷ s) ≡ in_quotes stop s (parts inside (stop_of quotes) s)
unfolding plain_word stop_of quote_of
quoted_is inside stop s = refl

pub words_at_is : (inside : Inside) (on : ℕ → Read (List Spelled)) (s : List ℕ) → words_at inside on s None ≡ after_word on (word inside (stop_of top) s)
unfolding stop_of gap_of
words_at_is inside on s = refl

pub script_at_is : (inside : Inside) (on : ℕ → Bool → Result ℕ WordFault) (s : List ℕ) → script_at inside on s None ≡ after_nested_word on (count_of (word inside (stop_of brackets) s))
unfolding stop_of nested_of
script_at_is inside on s = refl

pub ends_is : (place : Place) (b : ℕ) (s : List ℕ) → stops (stop_of place) b s ≡ ends place b s
unfolding stop_of paren_of quote_of gap_of nested_of
ends_is top b s = refl
ends_is brackets b s = refl
ends_is quotes b s = refl
ends_is index b s = refl

pub may_end_is : (place : Place) (s : List ℕ) → commands.may_end (stop_of place) s ≡ may_end place s
may_end_is place [] = refl
may_end_is place (b ∷ s) = ends_is place b s

pub left_is : (place : Place) (b : ℕ) (s : List ℕ) → drop (stop_len (stop_of place)) (b ∷ s) ≡ left_at place b s
unfolding stop_of paren_of quote_of gap_of nested_of
left_is top b s = refl
left_is brackets b s = refl
left_is quotes b s = refl
left_is index b s = refl

pub left_within : (place : Place) (b : ℕ) (s : List ℕ) → stop_len (stop_of place) ≤ length (b ∷ s)
unfolding stop_of paren_of quote_of gap_of nested_of
left_within top b s = omega arith
left_within brackets b s = omega arith
left_within quotes b s = omega arith
left_within index b s = omega arith

-- what the end of the text gives
abbrev pub TextEnd : Place → Bool → Type 0
TextEnd place true = at_end (stop_of place) ≡ Ok (no_pieces, 0)
TextEnd place false = (fault : WordFault) × (at_end (stop_of place) ≡ Err fault)

pub text_end : (place : Place) → TextEnd place (ends_with_text place)
unfolding stop_of paren_of quote_of gap_of nested_of
text_end top = refl
text_end brackets = refl
text_end quotes = (MissingQuote, refl)
text_end index = (MissingParen, refl)
