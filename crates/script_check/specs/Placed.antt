-- The words of a command, with their positions in the source.
use Rattle.std.specs.Prelude.{ℕ, ◌-◌, ◌==◌, Bool, false, ◌&&◌, ◌||◌, if◌then◌else◌, List, [], ◌∷◌, drop, Option, Some, None, option_map, unwrap_or, Ok, Err, bytes_eq}
use Rattle.tcl_words.specs.Bytes as ascii
use Rattle.tcl_words.specs.Commands.{is_blank, ends_command, is_continued, is_gap}
use Rattle.tcl_words.specs.Course.{reading}
use Rattle.tcl_words.specs.Operands.{Operand, operand}
use Rattle.tcl_words.specs.Pieces.{Piece, literal, Pieces, no_pieces, piece, Spelled}
use Rattle.script_check.specs.declared.placed.Lead.{Lead as Leads}
use Rattle.script_check.specs.declared.placed.Lead.TheVariants as lead
use Rattle.script_check.specs.declared.placed.Placed.{Placed}
use Rattle.script_check.specs.Stretches.{begins_with, from_to}

-- The word is literal and is this one.
abbrev pub is_plainly : List ℕ → Option (List ℕ) → Bool
is_plainly name None = false
is_plainly name (Some w) = bytes_eq w name

-- The state after a byte before a word, or `None` if the word begins with the byte. `first` is true for a command's
-- first word.
abbrev pub next_lead : Bool → Leads → ℕ → List ℕ → Option Leads
next_lead first lead.Continued b bytes = Some lead.White
next_lead first lead.Quoted b bytes = Some lead.Comment
next_lead first lead.Comment b bytes =
    if b == ascii.newline then Some lead.White
    else if b == ascii.backslash then Some lead.Quoted
    else Some lead.Comment
next_lead first lead.White b bytes =
    if is_blank b || ends_command b then Some lead.White
    else if is_continued b bytes then Some lead.Continued
    else if b == ascii.hash && first then Some lead.Comment
    else None

-- The rest after the gap before a word.
abbrev pub behind_gap : Bool → Leads → List ℕ → List ℕ
behind_gap first l [] = []
behind_gap first l (b ∷ bytes) = unwrap_or (option_map (λ next. behind_gap first next bytes) (next_lead first l b bytes)) (b ∷ bytes)

-- The length of the operand at the front of a text: `$..`, `[..]`, `".."` or `{..}`. 1 if there is none.
abbrev pub taken : Operand → ℕ
taken (Ok (Some p)) = p.1
taken (Ok None) = 1
taken (Err f) = 1

-- The number of bytes after the first one of a text that belong to its token.
abbrev pub owned : ℕ → List ℕ → ℕ
owned b text = if b == ascii.backslash then 1 else if b == ascii.dollar || b == ascii.open_bracket then taken (operand text) - 1 else 0

abbrev pub bare_step : (ℕ → List ℕ) → ℕ → List ℕ → List ℕ
bare_step on b bytes = if is_gap b bytes then b ∷ bytes else on (owned b (b ∷ bytes))

-- The rest after a word without quotes or braces.
unfoldable pub behind_bare : List ℕ → List ℕ
behind_bare = reading [] bare_step

abbrev pub behind_plain : List ℕ → List ℕ
behind_plain text = if begins_with ascii.quote text || begins_with ascii.open_brace text then drop (taken (operand text)) text else behind_bare text

-- The length of `{*}` before a word.
abbrev pub mark : Bool → ℕ
mark expand = if expand then 3 else 0

-- The rest after a word.
abbrev pub behind_word : Bool → List ℕ → List ℕ
behind_word expand text = behind_plain (drop (mark expand) text)

-- The text of a part that is a literal.
abbrev pub literal_alone : Piece → Option (List ℕ)
literal_alone (literal text) = Some text
literal_alone other = None

-- A word of one literal, or of no part.
abbrev pub plain_pieces : Pieces → Option (List ℕ)
plain_pieces no_pieces = Some []
plain_pieces (piece p no_pieces) = literal_alone p
plain_pieces (piece p (piece q ps)) = None

-- The text of a word that is literal.
abbrev pub plain_value : Spelled → Option (List ℕ)
plain_value w = if w.expand then None else plain_pieces w.pieces

-- A word at the front of a text.
abbrev pub placed_word : ℕ → Spelled → List ℕ → Placed
placed_word end w text = record { span = from_to end text (behind_word w.expand text); expand = w.expand; value = plain_value w }

-- The words of a command at the front of a text that ends at a given position of the source.
abbrev pub placed : ℕ → List Spelled → List ℕ → List Placed
placed end [] text = []
placed end (w ∷ ws) text =
    let begin = behind_gap false lead.White text in
    placed_word end w begin ∷ placed end ws (behind_word w.expand begin)
