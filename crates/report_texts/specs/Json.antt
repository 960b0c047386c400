-- Reports as JSON objects (RFC 8259).
use Rattle.std.specs.Prelude.{ℕ, List, [], ◌∷◌, ◌++◌, sum, codes, Bool, nat_lt, ◌==◌, if◌then◌else◌}
use Rattle.std.specs.Str.{is_utf8}
use Rattle.tcl_words.specs.Bytes as ascii
use Rattle.hex.specs.Hex.{encode_lower}
use Rattle.tcl_host.specs.declared.ending.Ending.{Ending}
use Rattle.session.specs.declared.report.Report.{Report}
use Rattle.expect_core.specs.declared.request.Request.{Request}
use Rattle.report_texts.specs.declared.texts.Shown.{Shown}
use Rattle.report_texts.specs.Report.{labelled, ending_text, ask_words}

-- A byte of a string. A quote, a backslash and bytes below a space are escaped, no others.
abbrev pub string_byte : ℕ → List ℕ
string_byte b =
    if b == ascii.quote then ascii.backslash ∷ ascii.quote ∷ []
    else if b == ascii.backslash then ascii.backslash ∷ ascii.backslash ∷ []
    else if b == ascii.newline then ascii.backslash ∷ ascii.letter_n ∷ []
    else if b == ascii.carriage_return then ascii.backslash ∷ ascii.letter_r ∷ []
    else if nat_lt b ascii.space then codes "\\u00" ++ encode_lower (b ∷ [])
    else b ∷ []

abbrev pub string_bytes : List ℕ → List ℕ
string_bytes [] = []
string_bytes (b ∷ bs) = string_byte b ++ string_bytes bs

abbrev pub string_text : List ℕ → List ℕ
string_text text = ascii.quote ∷ string_bytes text ++ ascii.quote ∷ []

-- Bytes as a string if they are UTF-8, otherwise `null`.
abbrev pub text_or_null : List ℕ → List ℕ
text_or_null bytes = if is_utf8 bytes then string_text bytes else codes "null"

-- Two members: bytes as a string, and in lower-case hexadecimal.
unfoldable pub member_both : List ℕ → List ℕ → List ℕ
member_both name bytes =
    ascii.quote ∷ name ++ codes "\":" ++ text_or_null bytes ++ codes ",\"" ++ name ++ codes "_hex\":\"" ++ encode_lower bytes ++ ascii.quote ∷ []

-- The first members of script n's object.
unfoldable pub object_head : List ℕ → ℕ → Ending → List ℕ
object_head file n e =
    labelled (codes "{\"script\":") n ++ codes ",\"file\":" ++ text_or_null file ++ codes ",\"ending\":\"" ++ ending_text e ++ codes "\","

unfoldable pub object_counts : Report → List ℕ
object_counts r = labelled (codes ",\"steps\":") r.steps ++ labelled (codes ",\"sent\":") (sum r.sent) ++ ascii.comma ∷ []

-- The requests, each with a comma before it.
abbrev pub later_asks : List Request → List ℕ
later_asks [] = []
later_asks (r ∷ rs) = (ascii.comma ∷ string_text (ask_words r)) ++ later_asks rs

-- The requests, separated by commas.
abbrev pub asks_items : List Request → List ℕ
asks_items [] = []
asks_items (r ∷ rs) = string_text (ask_words r) ++ later_asks rs

abbrev pub asks_member : Bool → List Request → List ℕ
asks_member shown requests = if shown then codes ",\"requests\":[" ++ asks_items requests ++ ascii.close_bracket ∷ [] else []

-- The object of a variable.
unfoldable pub var_object : List ℕ × List ℕ → List ℕ
var_object (name, value) = ascii.open_brace ∷ member_both (codes "name") name ++ ascii.comma ∷ member_both (codes "value") value ++ ascii.close_brace ∷ []

abbrev pub later_vars : List (List ℕ × List ℕ) → List ℕ
later_vars [] = []
later_vars (v ∷ vs) = (ascii.comma ∷ var_object v) ++ later_vars vs

abbrev pub vars_items : List (List ℕ × List ℕ) → List ℕ
vars_items [] = []
vars_items (v ∷ vs) = var_object v ++ later_vars vs

abbrev pub vars_member : Bool → List (List ℕ × List ℕ) → List ℕ
vars_member shown vars = if shown then codes ",\"vars\":[" ++ vars_items vars ++ ascii.close_bracket ∷ [] else []

unfoldable pub object_texts : Report → List ℕ
object_texts r = member_both (codes "fault") r.fault ++ object_counts r ++ member_both (codes "transcript") r.transcript

unfoldable pub object_shown : Shown → Report → List ℕ
object_shown shown r = asks_member shown.requests r.requests ++ vars_member shown.vars r.vars

-- The object of script n's report.
unfoldable pub report_object : Shown → List ℕ → ℕ → Report → List ℕ
report_object shown file n r = object_head file n r.ending ++ object_texts r ++ object_shown shown r ++ ascii.close_brace ∷ []

-- An item of an array: each object is on its own line, with a comma at the end of the line before.
abbrev pub item_front : ℕ → List ℕ
item_front n = if n == 1 then ascii.newline ∷ [] else ascii.comma ∷ ascii.newline ∷ []

abbrev pub array_item : Shown → List ℕ → ℕ → Report → List ℕ
array_item shown file n r = item_front n ++ report_object shown file n r

-- A line of its own (JSON Lines).
abbrev pub object_line : Shown → List ℕ → ℕ → Report → List ℕ
object_line shown file n r = report_object shown file n r ++ ascii.newline ∷ []
