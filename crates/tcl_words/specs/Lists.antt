-- Lists as text. They are read as in Tcl's list commands (list(n), lindex(n)). The way they are written is a rule of
-- this language.
use Rattle.std.specs.Prelude.{◌≡◌, ℕ, suc, ◌+◌, ◌-◌, Bool, true, false, not, ◌&&◌, ◌||◌, List, [], ◌∷◌, ◌++◌, take, drop, Option, Some, None, option_map, ◌==◌, if◌then◌else◌}
use Rattle.std.specs.List.{list_any}
use Rattle.std.specs.Prelude.{Result, Ok, Err}
use Rattle.tcl_words.specs.Bytes as ascii
use Rattle.tcl_words.specs.declared.faults.ListFault.{ListFault}
use Rattle.tcl_words.specs.declared.faults.ListFault.TheVariants as faults
use Rattle.tcl_words.specs.Course.{reading}
use Rattle.tcl_words.specs.Backslash.{backslash}

-- The result, seen through a view, is what the definition says: a value, or `None` for a bad list. If memory is
-- refused, nothing is claimed.
abbrev pub FailsOption : {Y : Type 0} → ListFault → Option Y → Type 0
FailsOption faults.BadList read = read ≡ None
FailsOption faults.Memory read = Unit {0}

abbrev pub GivesOption : {X Y : Type 0} → (X → Y) → Result X ListFault → Option Y → Type 0
GivesOption view (Ok x) read = read ≡ Some (view x)
GivesOption view (Err e) read = FailsOption e read

-- The text begins with the byte c.
abbrev pub begins_with : ℕ → List ℕ → Bool
begins_with c [] = false
begins_with c (b ∷ bytes) = b == c

-- White space in a list.
abbrev pub is_white : ℕ → Bool
is_white b = b == ascii.space || b == ascii.tab || b == ascii.newline || b == ascii.vertical_tab || b == ascii.form_feed || b == ascii.carriage_return

-- An element in braces or quotes may end before these bytes.
abbrev pub begins_white : List ℕ → Bool
begins_white [] = true
begins_white (b ∷ bytes) = is_white b

-- Adds bytes at the front of a value, and n to the number of bytes read.
abbrev pub with_text : List ℕ → ℕ → Option (List ℕ × ℕ) → Option (List ℕ × ℕ)
with_text front n None = None
with_text front n (Some p) = Some (front ++ p.0, n + p.1)

-- The byte ends an element, in quotes or not.
abbrev pub stops_element : Bool → ℕ → Bool
stops_element true b = b == ascii.quote
stops_element false b = is_white b

-- The text ends inside an element. In quotes this is an error.
abbrev pub element_end : Bool → Option (List ℕ × ℕ)
element_end true = None
element_end false = Some ([], 0)

-- The bytes up to the first unescaped one that ends the element, with escapes replaced, and the number of bytes read.
abbrev pub content_step : Bool → (ℕ → Option (List ℕ × ℕ)) → ℕ → List ℕ → Option (List ℕ × ℕ)
content_step quoted on b bytes =
    if stops_element quoted b then Some ([], 0)
    else (if b == ascii.backslash then with_text (backslash bytes).0 (suc (backslash bytes).1) (on (backslash bytes).1)
    else with_text (b ∷ []) 1 (on 0))

unfoldable pub content : Bool → List ℕ → Option (List ℕ × ℕ)
content quoted = reading (element_end quoted) (content_step quoted)

-- An index, n bytes further on.
abbrev pub plus : ℕ → Option ℕ → Option ℕ
plus n None = None
plus n (Some k) = Some (n + k)

-- The number of bytes before the closing brace, while n more braces are open. An escaped brace isn't counted.
abbrev pub closing_step : (ℕ → ℕ → Option ℕ) → ℕ → List ℕ → ℕ → Option ℕ
closing_step on b bytes n =
    if b == ascii.close_brace then (if n == 0 then Some 0 else plus 1 (on 0 (n - 1)))
    else (if b == ascii.open_brace then plus 1 (on 0 (n + 1))
    else (if b == ascii.backslash then plus 2 (on 1 n)
    else plus 1 (on 0 n)))

unfoldable pub closing : List ℕ → ℕ → Option ℕ
closing = reading (λ n. None) closing_step

-- An element in braces, given the bytes after the opening brace and the number of bytes before the closing one.
abbrev pub in_braces : List ℕ → Option ℕ → Option (List ℕ × ℕ)
in_braces bytes None = None
in_braces bytes (Some n) = if begins_white (drop (n + 1) bytes) then Some (take n bytes, n + 2) else None

-- An element in quotes, given the bytes after the opening quote and the value up to the closing one.
abbrev pub in_quotes : List ℕ → Option (List ℕ × ℕ) → Option (List ℕ × ℕ)
in_quotes bytes None = None
in_quotes bytes (Some p) = if begins_white (drop (p.1 + 1) bytes) then Some (p.0, p.1 + 2) else None

-- The element at the front of a text that doesn't begin with white space, and the number of bytes it takes.
unfoldable pub element : List ℕ → Option (List ℕ × ℕ)
element [] = Some ([], 0)
element (b ∷ bytes) =
    if b == ascii.open_brace then in_braces bytes (closing bytes 0)
    else (if b == ascii.quote then in_quotes bytes (content true bytes)
    else content false (b ∷ bytes))

-- An element, followed by the later elements.
abbrev pub elements_behind : (ℕ → Option (List (List ℕ))) → Option (List ℕ × ℕ) → Option (List (List ℕ))
elements_behind on None = None
elements_behind on (Some e) = option_map (λ es. e.0 ∷ es) (on (e.1 - 1))

abbrev pub elements_step : (ℕ → Option (List (List ℕ))) → ℕ → List ℕ → Option (List (List ℕ))
elements_step on b bytes = if is_white b then on 0 else elements_behind on (element (b ∷ bytes))

-- Appends an element to others. Keeps the number of bytes it takes.
abbrev pub put_behind : List (List ℕ) → Option (List ℕ × ℕ) → Option (List (List ℕ) × ℕ)
put_behind es e = option_map (λ p. (es ++ p.0 ∷ [], p.1)) e

-- The elements of a text, or `None` if the text is no list.
unfoldable pub elements : List ℕ → Option (List (List ℕ))
elements = reading (Some []) elements_step

-- The text stands for the list.
abbrev pub ReadsAs : List ℕ → List (List ℕ) → Type 0
ReadsAs text l = elements text ≡ Some l

-- Writing.

-- A byte that may not occur unquoted in a written element.
abbrev pub is_special : ℕ → Bool
is_special b = is_white b || b == ascii.quote || b == ascii.open_brace || b == ascii.close_brace || b == ascii.open_bracket || b == ascii.close_bracket || b == ascii.dollar || b == ascii.semicolon || b == ascii.backslash

abbrev pub is_empty : List ℕ → Bool
is_empty [] = true
is_empty (b ∷ bytes) = false

-- The element can't be written as it is.
abbrev pub needs_quoting : Bool → List ℕ → Bool
needs_quoting first e = is_empty e || list_any is_special e || (first && begins_with ascii.hash e)

-- The braces are balanced, given that n are open.
unfoldable pub balances : ℕ → List ℕ → Bool
balances n [] = n == 0
balances n (b ∷ bytes) =
    if b == ascii.close_brace then (if n == 0 then false else balances (n - 1) bytes)
    else (if b == ascii.open_brace then balances (n + 1) bytes else balances n bytes)

-- The element can be written in braces.
abbrev pub fits_braces : List ℕ → Bool
fits_braces e = not (list_any (λ b. b == ascii.backslash) e) && balances 0 e

-- The letter that follows the backslash of an escaped byte.
abbrev pub letter : ℕ → ℕ
letter b =
    if b == ascii.tab then ascii.letter_t
    else (if b == ascii.newline then ascii.letter_n
    else (if b == ascii.vertical_tab then ascii.letter_v
    else (if b == ascii.form_feed then ascii.letter_f
    else (if b == ascii.carriage_return then ascii.letter_r else b))))

-- The element with each special byte escaped.
abbrev pub escape : List ℕ → List ℕ
escape [] = []
escape (b ∷ bytes) = if is_special b then ascii.backslash ∷ letter b ∷ escape bytes else b ∷ escape bytes

-- The same, and a `#` at the start of the first element is escaped too.
abbrev pub escape_first : Bool → List ℕ → List ℕ
escape_first first e = if first && begins_with ascii.hash e then ascii.backslash ∷ escape e else escape e

-- An element as it is, in braces, or with escapes.
abbrev pub written_element : Bool → List ℕ → List ℕ
written_element first e =
    if not (needs_quoting first e) then e
    else (if fits_braces e then (ascii.open_brace ∷ e) ++ ascii.close_brace ∷ []
    else escape_first first e)

-- The elements after the first one, each with a space before it.
abbrev pub written_rest : List (List ℕ) → List ℕ
written_rest [] = []
written_rest (e ∷ es) = (ascii.space ∷ written_element false e) ++ written_rest es

-- The written form of a list. There is one for each list.
abbrev pub written : List (List ℕ) → List ℕ
written [] = []
written (e ∷ es) = written_element true e ++ written_rest es
