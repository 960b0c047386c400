-- The patterns and keywords of an `expect`, as they are written in its list.
use Rattle.std.specs.Prelude.{ℕ, List, [], ◌∷◌, ◌++◌, codes, bytes_eq, Bool, false, not, ◌||◌, ◌==◌, if◌then◌else◌}
use Rattle.tcl_words.specs.Bytes as ascii
use Rattle.exp_glob.specs.declared.element.Element.{Element}
use Rattle.exp_glob.specs.declared.element.Element.TheVariants.{Star, One, End}
use Rattle.exp_glob.specs.declared.element.Single.{Single}
use Rattle.exp_glob.specs.declared.element.Single.TheVariants.{Any, Byte, Class}
use Rattle.exp_match.specs.declared.entry.Keyword.{Keyword}
use Rattle.exp_match.specs.declared.entry.Keyword.TheVariants as key
use Rattle.exp_match.specs.declared.entry.Want.{Want}
use Rattle.exp_match.specs.declared.entry.Want.TheVariants as want
use Rattle.report_texts.specs.Escape.{quoted}
use Rattle.secret_words.specs.declared.secrets.Secret.{Secret}
use Rattle.secret_words.specs.Masking.{masked}
use Rattle.course_texts.specs.Shown.{shown_bytes}

-- Whether a byte needs a backslash before it in a glob pattern to stand for itself.
abbrev pub is_mark : ℕ → Bool
is_mark b = (b == ascii.star) || (b == ascii.question) || (b == ascii.open_bracket) || (b == ascii.backslash) || (b == ascii.caret) || (b == ascii.dollar)

abbrev pub byte_text : ℕ → List ℕ
byte_text b = if is_mark b then ascii.backslash ∷ b ∷ [] else b ∷ []

abbrev pub single_text : Single → List ℕ
single_text Any = codes "?"
single_text (Byte b) = byte_text b
single_text (Class members) = codes "[" ++ members ++ codes "]"

abbrev pub element_text : Element → List ℕ
element_text Star = codes "*"
element_text (One s) = single_text s
element_text End = codes "$"

abbrev pub elements_text : List Element → List ℕ
elements_text [] = []
elements_text (e ∷ es) = element_text e ++ elements_text es

-- A text of the glob pattern with these elements, which may be bound to the start.
abbrev pub anchor : Bool → List ℕ
anchor anchored = if anchored then codes "^" else []

abbrev pub glob_text : Bool → List Element → List ℕ
glob_text anchored es = anchor anchored ++ elements_text es

-- The text of an element without escapes.
abbrev pub bare_text : Element → List ℕ
bare_text (One (Byte b)) = b ∷ []
bare_text (One Any) = element_text (One Any)
bare_text (One (Class members)) = element_text (One (Class members))
bare_text Star = element_text Star
bare_text End = element_text End

abbrev pub bare_elements : List Element → List ℕ
bare_elements [] = []
bare_elements (e ∷ es) = bare_text e ++ bare_elements es

-- The text of a glob pattern without escapes, as in a pattern that was made from a secret.
abbrev pub bare_glob : Bool → List Element → List ℕ
bare_glob anchored es = anchor anchored ++ bare_elements es

-- A secret occurs in the bytes.
abbrev pub hides : List Secret → List ℕ → Bool
hides [] bytes = false
hides (s ∷ ss) bytes = not (bytes_eq (masked (s ∷ ss) bytes) bytes)

-- A secret occurs in a pattern.
abbrev pub is_hidden : List Secret → Want → Bool
is_hidden ss (want.Exact text nocase) = hides ss text
is_hidden ss (want.Glob glob nocase) = hides ss (bare_glob glob.anchored glob.elements) || hides ss (glob_text glob.anchored glob.elements)
is_hidden ss (want.Regular r) = hides ss r.source
is_hidden ss (want.Keyword k) = false

-- The text of a glob pattern as it is shown. If a secret occurs in it, it isn't escaped.
abbrev pub pattern_text : List Secret → Bool → List Element → List ℕ
pattern_text ss anchored es = if hides ss (bare_glob anchored es) then shown_bytes ss (bare_glob anchored es) else shown_bytes ss (glob_text anchored es)

abbrev pub keyword_text : Keyword → List ℕ
keyword_text key.Eof = codes "eof"
keyword_text key.Timeout = codes "timeout"
keyword_text key.Default = codes "default"
keyword_text key.FullBuffer = codes "full_buffer"

-- A pattern after its flags.
unfoldable pub flagged : Bool → List ℕ → List ℕ → List ℕ
flagged nocase flag text = (if nocase then codes "-nocase " else []) ++ flag ++ quoted text

-- The pattern or keyword of an entry, as it is written in the list, with names in place of secrets.
abbrev pub want_text : List Secret → Want → List ℕ
want_text ss (want.Exact text nocase) = flagged nocase (codes "-ex ") (shown_bytes ss text)
want_text ss (want.Glob glob nocase) = flagged nocase (codes "-gl ") (pattern_text ss glob.anchored glob.elements)
want_text ss (want.Regular r) = flagged r.nocase (codes "-re ") (shown_bytes ss r.source)
want_text ss (want.Keyword k) = keyword_text k
