-- Any bytes as text that has no effect on a terminal, and from which they can be read again.
use Rattle.std.specs.Prelude.{ℕ, ◌-◌, List, [], ◌∷◌, ◌++◌, codes, Bool, false, not, ◌&&◌, ◌||◌, ◌==◌, nat_le, Option, Some, None, if◌then◌else◌}
use Rattle.std.specs.Char.{is_control}
use Rattle.tcl_words.specs.Bytes as ascii
use Rattle.hex.specs.Hex.{encode_lower}
use Rattle.bstr.specs.Utf8.{decoded}
use Rattle.report_texts.specs.declared.escape.Escaping.{Escaping}
use Rattle.report_texts.specs.declared.escape.Escaping.TheVariants.{Lines, Quotes}

abbrev pub is_within : ℕ → ℕ → ℕ → Bool
is_within low high c = nat_le low c && nat_le c high

-- A character that ends a line or a paragraph, or changes the direction of the text after it.
abbrev pub turns : ℕ → Bool
turns c = (c == 0x061C) || is_within 0x200E 0x200F c || is_within 0x2028 0x202E c || is_within 0x2066 0x2069 c

-- A character that is shown as itself. It is none of those, and no control character: below a space, or from DEL to
-- U+009F.
abbrev pub is_seen : Option ℕ → Bool
is_seen None = false
is_seen (Some c) = not (is_control c || turns c)

-- The number of first bytes that form such a character.
unfoldable pub seen_len : List ℕ → ℕ
seen_len bytes = if is_seen (decoded bytes).char then (decoded bytes).size else 0

abbrev pub begins_line : List ℕ → Bool
begins_line [] = false
begins_line (b ∷ bs) = b == ascii.newline

-- A control character that is kept before these bytes. Outside quotes these are a tab, a newline, and a carriage return
-- before a newline.
abbrev pub stays : Escaping → ℕ → List ℕ → Bool
stays Lines b next = (b == ascii.tab) || (b == ascii.newline) || ((b == ascii.carriage_return) && begins_line next)
stays Quotes b next = false

-- A byte that would be read as something else: a backslash, and between quotes a quote.
abbrev pub is_mark : Escaping → ℕ → Bool
is_mark Lines b = b == ascii.backslash
is_mark Quotes b = (b == ascii.backslash) || (b == ascii.quote)

-- The number of first bytes that are kept. If it is 0, the first byte is escaped.
unfoldable pub kept_len : Escaping → List ℕ → ℕ
kept_len place [] = 0
kept_len place (b ∷ bs) = if stays place b bs then 1 else if is_mark place b then 0 else seen_len (b ∷ bs)

-- An escaped byte.
unfoldable pub escape : ℕ → List ℕ
escape b =
    if b == ascii.quote then ascii.backslash ∷ ascii.quote ∷ []
    else if b == ascii.backslash then ascii.backslash ∷ ascii.backslash ∷ []
    else if b == ascii.tab then codes "\\t"
    else if b == ascii.newline then codes "\\n"
    else if b == ascii.carriage_return then codes "\\r"
    else codes "\\x" ++ encode_lower (b ∷ [])

-- The same if n bytes are still to be kept, as the rest of a character.
abbrev pub still_kept : Escaping → ℕ → List ℕ → ℕ
still_kept place n bytes = if n == 0 then kept_len place bytes else n

abbrev pub byte_text : ℕ → ℕ → List ℕ
byte_text kept b = if kept == 0 then escape b else b ∷ []

-- Bytes as text. The first n are kept.
abbrev pub text_behind : Escaping → ℕ → List ℕ → List ℕ
text_behind place n [] = []
text_behind place n (b ∷ bs) =
    let kept = still_kept place n (b ∷ bs) in
    byte_text kept b ++ text_behind place (kept - 1) bs

-- Bytes as text.
abbrev pub escaped : Escaping → List ℕ → List ℕ
escaped place bytes = text_behind place 0 bytes

-- Bytes between quotes.
unfoldable pub quoted : List ℕ → List ℕ
quoted bytes = ascii.quote ∷ [] ++ escaped Quotes bytes ++ ascii.quote ∷ []
