-- Reads the next command of a text: words, comments and substitutions as in Tcl(n). This language adds three rules.
-- Brackets and indexes nest at most 200 deep, names consist of letters, digits and underscores, and an index needs its
-- `)`.
use Rattle.std.specs.Prelude.{◌≡◌, ℕ, zero, suc, ◌+◌, ◌-◌, Bool, true, false, not, ◌&&◌, ◌||◌, nat_le, List, [], ◌∷◌, ◌++◌, take, drop, Option, Some, None, Result, Ok, Err, ◌==◌, if◌then◌else◌}
use Rattle.std.specs.List.{prefix_len, position}
use Rattle.tcl_words.specs.Bytes as ascii
use Rattle.tcl_words.specs.declared.faults.WordFault.{WordFault}
use Rattle.tcl_words.specs.declared.faults.WordFault.TheVariants.{MissingBrace, MissingBracket, MissingQuote, ExtraAfterQuote, ExtraAfterBrace, TooDeep, Memory, MissingParen}
use Rattle.tcl_words.specs.declared.stop.Stop.{Stop}
use Rattle.tcl_words.specs.declared.stop.Stop.TheVariants.{Gap, NestedGap, Quote, Paren, End}
use Rattle.tcl_words.specs.Course.{reading}
use Rattle.tcl_words.specs.Backslash.{backslash, blanks}
use Rattle.tcl_words.specs.Lists.{begins_with, plus, closing, is_empty}
use Rattle.tcl_words.specs.Pieces.{Piece, literal, variable, member, script, Pieces, no_pieces, piece, append, literal_of, Spelled}

-- A value and the number of bytes it took, or the first error.
abbrev pub Read : Type 0 → Type 0
Read A = Result (A × ℕ) WordFault

-- The same, read n bytes later. f changes the value.
abbrev pub behind : {A B : Type 0} → ℕ → (A → B) → Read A → Read B
behind n f (Ok p) = Ok (f p.0, n + p.1)
behind n f (Err e) = Err e

-- The result, seen through a view, is what the definition says: a value or an error. If memory is refused, nothing is
-- claimed.
abbrev pub Fails : {Y : Type 0} → WordFault → Result Y WordFault → Type 0
Fails Memory read = Unit {0}
Fails fault read = read ≡ Err fault

abbrev pub Gives : {X Y : Type 0} → (X → Y) → Result X WordFault → Result Y WordFault → Type 0
Gives view (Ok x) read = read ≡ Ok (view x)
Gives view (Err fault) read = Fails fault read

infixl 10 ◌>>=◌
abbrev pub ◌>>=◌ : {A B : Type 0} → Result A WordFault → (A → Result B WordFault) → Result B WordFault
(Ok x) >>= f = f x
(Err e) >>= f = Err e

-- White space between words.
abbrev pub is_blank : ℕ → Bool
is_blank b = b == ascii.space || b == ascii.tab || b == ascii.vertical_tab || b == ascii.form_feed || b == ascii.carriage_return

-- A newline or `;` ends a command.
abbrev pub ends_command : ℕ → Bool
ends_command b = b == ascii.newline || b == ascii.semicolon

-- A backslash followed by a newline.
abbrev pub is_continued : ℕ → List ℕ → Bool
is_continued b bytes = b == ascii.backslash && begins_with ascii.newline bytes

-- What ends a word without quotes or braces.
abbrev pub is_gap : ℕ → List ℕ → Bool
is_gap b bytes = is_blank b || ends_command b || is_continued b bytes

-- A run of parts ends before this byte.
abbrev pub stops : Stop → ℕ → List ℕ → Bool
stops Gap b bytes = is_gap b bytes
stops NestedGap b bytes = is_gap b bytes || b == ascii.close_bracket
stops Quote b bytes = b == ascii.quote
stops Paren b bytes = b == ascii.close_paren
stops End b bytes = false

-- The number of bytes that close the run.
abbrev pub stop_len : Stop → ℕ
stop_len Gap = 0
stop_len NestedGap = 0
stop_len Quote = 1
stop_len Paren = 1
stop_len End = 0

-- The error if the text ends inside a run that needs a closing byte.
abbrev pub unclosed : Stop → Option WordFault
unclosed Gap = None
unclosed NestedGap = None
unclosed Quote = Some MissingQuote
unclosed Paren = Some MissingParen
unclosed End = None

abbrev pub ended : Option WordFault → Read Pieces
ended None = Ok (no_pieces, 0)
ended (Some fault) = Err fault

-- The text ends inside a run.
abbrev pub at_end : Stop → Read Pieces
at_end stop = ended (unclosed stop)

-- Adds bytes at the front. They join a following literal.
abbrev pub put_text : List ℕ → Pieces → Pieces
put_text text (piece (literal more) ps) = piece (literal (text ++ more)) ps
put_text text ps = append (literal_of text) ps

-- Readers for the inside of brackets and of an index. A bracket is read as its length, including the `]`. It is a script
-- only if `scripts` is true. Otherwise `[` stands for itself.
pub record Inside : Type 0 where
  pub scripts : Bool
  pub bracket : List ℕ → Result ℕ WordFault
  pub index : List ℕ → Read Pieces

-- An ASCII letter, a digit or an underscore.
abbrev pub is_name_byte : ℕ → Bool
is_name_byte b = nat_le ascii.letter_a b && nat_le b ascii.letter_z || nat_le ascii.capital_a b && nat_le b ascii.capital_z || nat_le ascii.digit_0 b && nat_le b ascii.digit_9 || b == ascii.underscore

-- The number of leading bytes of a variable's name.
unfoldable pub name_len : List ℕ → ℕ
name_len bytes = prefix_len is_name_byte bytes

-- The number of bytes before the first `}`.
unfoldable pub brace_at : List ℕ → Option ℕ
brace_at bytes = position (λ b. b == ascii.close_brace) bytes

-- A unit of a word: bytes, which stand for themselves or are an escape's value, or a variable or a script.
pub data Token : Type 0 where
  text_token : List ℕ → Token
  substitution : Piece → Token

-- Adds a token before the later pieces.
abbrev pub put_token : Token → Pieces → Pieces
put_token (text_token bytes) ps = put_text bytes ps
put_token (substitution p) ps = piece p ps

-- `${name}`, given the bytes after `$` and the number of bytes between the braces.
abbrev pub braced_variable : List ℕ → Option ℕ → Read Token
braced_variable bytes None = Err MissingBrace
braced_variable bytes (Some n) = Ok (substitution (variable (take n (drop 1 bytes))), 2 + n)

-- `$name(index)`, given the length of the name, the bytes after `$`, and the index.
abbrev pub array_member : ℕ → List ℕ → Read Pieces → Read Token
array_member n bytes (Err e) = Err e
array_member n bytes (Ok p) = Ok (substitution (member (take n bytes) p.0), 1 + n + p.1)

-- What follows a `$`. Without a name or an index, the `$` stands for itself.
abbrev pub dollar : Inside → ℕ → List ℕ → Read Token
dollar inside n bytes =
    if begins_with ascii.open_brace bytes then braced_variable bytes (brace_at (drop 1 bytes))
    else (if begins_with ascii.open_paren (drop n bytes) then array_member n bytes (inside.index (drop (1 + n) bytes))
    else (if n == 0 then Ok (text_token (ascii.dollar ∷ []), 0)
    else Ok (substitution (variable (take n bytes)), n)))

-- `[script]`.
abbrev pub script_token : List ℕ → Result ℕ WordFault → Read Token
script_token bytes (Err e) = Err e
script_token bytes (Ok k) = Ok (substitution (script (take (k - 1) bytes)), k)

-- The token at a byte, and the number of later bytes that belong to it.
unfoldable pub token_at : Inside → ℕ → List ℕ → Read Token
token_at inside b bytes =
    if b == ascii.backslash then Ok (text_token (backslash bytes).0, (backslash bytes).1)
    else (if b == ascii.open_bracket && inside.scripts then script_token bytes (inside.bracket bytes)
    else (if b == ascii.dollar then dollar inside (name_len bytes) bytes
    else Ok (text_token (b ∷ []), 0)))

-- A token, followed by the later pieces.
abbrev pub join : (ℕ → Read Pieces) → Read Token → Read Pieces
join on (Err e) = Err e
join on (Ok p) = behind (1 + p.1) (put_token p.0) (on p.1)

abbrev pub part_step : Inside → Stop → (ℕ → Read Pieces) → ℕ → List ℕ → Read Pieces
part_step inside stop on b bytes = if stops stop b bytes then Ok (no_pieces, stop_len stop) else join on (token_at inside b bytes)

-- The parts up to the end of the run, with the bytes that close it.
unfoldable pub parts : Inside → Stop → List ℕ → Read Pieces
parts inside stop = reading (at_end stop) (part_step inside stop)

-- The text of a word in braces. A backslash before a newline, together with the blanks after it, becomes a space.
-- Everything else is unchanged.
abbrev pub joined_step : (ℕ → List ℕ) → ℕ → List ℕ → List ℕ
joined_step on b bytes =
    if is_continued b bytes then ascii.space ∷ on (1 + blanks (drop 1 bytes))
    else (if b == ascii.backslash then (ascii.backslash ∷ take 1 bytes) ++ on 1
    else b ∷ on 0)

unfoldable pub joined : List ℕ → List ℕ
joined = reading [] joined_step

-- A word may end here.
abbrev pub may_end : Stop → List ℕ → Bool
may_end stop [] = true
may_end stop (b ∷ bytes) = stops stop b bytes

-- After a closing quote or brace, n bytes after the opening one, white space or the end of the command must follow.
abbrev pub closed : Stop → List ℕ → WordFault → Pieces → ℕ → Read Pieces
closed stop bytes fault ps n = if may_end stop (drop n bytes) then Ok (ps, 1 + n) else Err fault

-- A word in quotes, given the bytes after the opening quote and the parts up to the closing one.
abbrev pub in_quotes : Stop → List ℕ → Read Pieces → Read Pieces
in_quotes stop bytes (Err e) = Err e
in_quotes stop bytes (Ok p) = closed stop bytes ExtraAfterQuote p.0 p.1

-- A word in braces, given the bytes after the opening brace and the number of bytes before the closing one.
abbrev pub in_braces : Stop → List ℕ → Option ℕ → Read Pieces
in_braces stop bytes None = Err MissingBrace
in_braces stop bytes (Some n) = closed stop bytes ExtraAfterBrace (piece (literal (joined (take n bytes))) no_pieces) (1 + n)

-- A word without a leading `{*}`.
unfoldable pub plain_word : Inside → Stop → List ℕ → Read Pieces
plain_word inside stop [] = Ok (no_pieces, 0)
plain_word inside stop (b ∷ bytes) =
    if b == ascii.quote then in_quotes stop bytes (parts inside Quote bytes)
    else (if b == ascii.open_brace then in_braces stop bytes (closing bytes 0)
    else parts inside stop (b ∷ bytes))

-- `{*}` directly before a word.
abbrev pub is_expansion : Stop → List ℕ → Bool
is_expansion stop bytes = begins_with ascii.open_brace bytes && begins_with ascii.star (drop 1 bytes) && begins_with ascii.close_brace (drop 2 bytes) && not (may_end stop (drop 3 bytes))

-- A word with these parts.
abbrev pub spelled : Bool → Read Pieces → Read Spelled
spelled expand (Err e) = Err e
spelled expand (Ok p) = Ok (record { expand = expand; pieces = p.0 }, p.1)

-- The word at the front of a text that doesn't begin with white space.
unfoldable pub word : Inside → Stop → List ℕ → Read Spelled
word inside stop bytes =
    if is_expansion stop bytes then spelled true (behind 3 (λ ps. ps) (plain_word inside stop (drop 3 bytes)))
    else spelled false (plain_word inside stop bytes)

-- A comment, up to the newline that ends it. An escaped newline doesn't end it.
abbrev pub comment_step : (ℕ → ℕ) → ℕ → List ℕ → ℕ
comment_step on b bytes =
    if b == ascii.newline then 1
    else (if b == ascii.backslash && not (is_empty bytes) then 2 + on 1
    else 1 + on 0)

unfoldable pub comment_len : List ℕ → ℕ
comment_len = reading 0 comment_step

-- White space, the end of a command or a comment at a byte. Gives the number of later bytes that belong to it, and
-- whether a command begins after it. `first` is true if a command begins here.
abbrev pub gap_at : ℕ → List ℕ → Bool → Option (ℕ × Bool)
gap_at b bytes first =
    if ends_command b then Some (0, true)
    else (if is_blank b then Some (0, first)
    else (if is_continued b bytes then Some (1 + blanks (drop 1 bytes), first)
    else (if b == ascii.hash && first then Some (comment_len bytes, true)
    else None)))

-- A number of bytes, increased by n.
abbrev pub more_bytes : ℕ → Result ℕ WordFault → Result ℕ WordFault
more_bytes n (Ok k) = Ok (n + k)
more_bytes n (Err e) = Err e

-- The number of bytes that a reading took.
abbrev pub count_of : {A : Type 0} → Read A → Result ℕ WordFault
count_of (Ok p) = Ok p.1
count_of (Err e) = Err e

-- A word with this number of bytes, followed by the rest of the script.
abbrev pub after_nested_word : (ℕ → Bool → Result ℕ WordFault) → Result ℕ WordFault → Result ℕ WordFault
after_nested_word on (Err e) = Err e
after_nested_word on (Ok n) = more_bytes n (on (n - 1) false)

-- A gap or a word, followed by the rest of the script.
abbrev pub script_at : Inside → (ℕ → Bool → Result ℕ WordFault) → List ℕ → Option (ℕ × Bool) → Result ℕ WordFault
script_at inside on bytes (Some g) = more_bytes (1 + g.0) (on g.0 g.1)
script_at inside on bytes None = after_nested_word on (count_of (word inside NestedGap bytes))

-- A script in brackets, up to the `]`. `first` is true if the command has no word so far.
abbrev pub script_step : Inside → (ℕ → Bool → Result ℕ WordFault) → ℕ → List ℕ → Bool → Result ℕ WordFault
script_step inside on b bytes first = if b == ascii.close_bracket then Ok 1 else script_at inside on (b ∷ bytes) (gap_at b bytes first)

-- The number of bytes in a script, with the `]` that ends it.
unfoldable pub nested_script : Inside → List ℕ → Bool → Result ℕ WordFault
nested_script inside = reading (λ first. Err MissingBracket) (script_step inside)

-- The readers for a depth: how many more brackets and indexes may nest.
unfoldable pub nested : Bool → ℕ → Inside
nested scripts zero = record { scripts = scripts; bracket = λ bytes. Err TooDeep; index = λ bytes. Err TooDeep }
nested scripts (suc depth) = record {
  scripts = scripts;
  bracket = λ bytes. nested_script (record (nested scripts depth) { scripts = scripts }) bytes true;
  index = parts (record (nested scripts depth) { scripts = scripts }) Paren;
}

-- `nested`, in a form whose field `scripts` computes at any depth.
unfoldable pub reader : Bool → ℕ → Inside
reader scripts depth = record (nested scripts depth) { scripts = scripts }

-- The readers of a command.
abbrev pub inside_of : ℕ → Inside
inside_of = reader true

-- A word, followed by the later words.
abbrev pub after_word : (ℕ → Read (List Spelled)) → Read Spelled → Read (List Spelled)
after_word on (Err e) = Err e
after_word on (Ok w) = behind w.1 (λ ws. w.0 ∷ ws) (on (w.1 - 1))

-- White space or a word, followed by the later words.
abbrev pub words_at : Inside → (ℕ → Read (List Spelled)) → List ℕ → Option (ℕ × Bool) → Read (List Spelled)
words_at inside on bytes (Some g) = behind (1 + g.0) (λ ws. ws) (on g.0)
words_at inside on bytes None = after_word on (word inside Gap bytes)

-- The words up to the end of the command, and the newline or `;` there.
abbrev pub words_step : Inside → (ℕ → Read (List Spelled)) → ℕ → List ℕ → Read (List Spelled)
words_step inside on b bytes = if ends_command b then Ok ([], 1) else words_at inside on (b ∷ bytes) (gap_at b bytes false)

unfoldable pub words : Inside → List ℕ → Read (List Spelled)
words inside = reading (Ok ([], 0)) (words_step inside)

-- A gap, followed by the rest of the gaps before the next command.
abbrev pub start_at : (ℕ → Option ℕ) → Option (ℕ × Bool) → Option ℕ
start_at on (Some g) = plus (1 + g.0) (on g.0)
start_at on None = Some 0

abbrev pub start_step : (ℕ → Option ℕ) → ℕ → List ℕ → Option ℕ
start_step on b bytes = start_at on (gap_at b bytes true)

-- The number of bytes before the next command: white space, newlines, `;` and comments. `None` if there is no command.
unfoldable pub start : List ℕ → Option ℕ
start = reading None start_step

-- The greatest nesting of brackets and indexes.
abbrev pub deepest : ℕ
deepest = 200

-- The command that begins n bytes after an index.
abbrev pub command_at : ℕ → List ℕ → Option ℕ → Result (Option (List Spelled × ℕ)) WordFault
command_at at text None = Ok None
command_at at text (Some n) = words (inside_of deepest) (drop (at + n) text) >>= λ p. Ok (Some (p.0, at + n + p.1))

-- The words of the next command and the index after it. `None` if there is no command. Otherwise the error.
unfoldable pub next_command : List ℕ → ℕ → Result (Option (List Spelled × ℕ)) WordFault
next_command text at = command_at at text (start (drop at text))

-- The parts of a whole text in which only backslashes and variables are replaced (Tcl(n): subst -nocommands).
unfoldable pub text_parts : List ℕ → Result Pieces WordFault
text_parts text = parts (reader false deepest) End text >>= λ p. Ok p.0
