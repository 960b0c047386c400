-- Commands and operands, on texts as a reader meets them.
use Rattle.std.proofs.Common.{◌≡◌, ℕ, List, [], ◌∷◌, length, Some, None, Ok, Err, false, true, refl}
use Rattle.std.specs.Prelude.{codes}
use Rattle.std.specs.Char.{encode_utf8}
use Rattle.tcl_words.specs.declared.faults.WordFault.{WordFault}
use Rattle.tcl_words.specs.declared.faults.WordFault.TheVariants.{MissingBrace, MissingBracket, MissingQuote, ExtraAfterQuote, ExtraAfterBrace, MissingParen}
use Rattle.tcl_words.specs.Course.{course}
use Rattle.tcl_words.specs.Backslash.{backslash, digits, digit, blanks}
use Rattle.tcl_words.specs.Pieces.{Piece, literal, variable, member, script, Pieces, no_pieces, piece, pieces_of, Spelled}
use Rattle.tcl_words.specs.Lists.{closing}
use Rattle.tcl_words.specs.Commands.{next_command, start, words, word, plain_word, reader, nested, nested_script, parts, token_at, comment_len, joined, name_len, brace_at}
use Rattle.tcl_words.specs.Operands.{operand}

abbrev one : Piece → Pieces
one p = piece p no_pieces

abbrev said : List ℕ → Pieces
said text = one (literal text)

abbrev plain : Pieces → Spelled
plain ps = record { expand = false; pieces = ps }

abbrev joins : List Piece → Spelled
joins ps = plain (pieces_of ps)

abbrev expanded : Pieces → Spelled
expanded ps = record { expand = true; pieces = ps }

-- the whole text is one command `p`, with these words behind it
abbrev Reads : List ℕ → List Spelled → Type 0
Reads text behind = next_command text 0 ≡ Ok (Some (plain (said (codes "p")) ∷ behind, length text))

abbrev Refuses : List ℕ → WordFault → Type 0
Refuses text fault = next_command text 0 ≡ Err fault

abbrev Begins : List ℕ → Pieces → ℕ → Type 0
Begins text ps n = operand text ≡ Ok (Some (plain ps, n))

ends : (Reads (codes "p a\\\n  b;") (plain (said (codes "a")) ∷ plain (said (codes "b")) ∷ []))
    × (Reads (codes " \n;# a [ {\\\n;\np #b\n") (plain (said (codes "#b")) ∷ []))
    × (next_command (codes "p\n# a\\\\\n;") 2 ≡ Ok None)
unfolding next_command start words word plain_word reader nested nested_script parts token_at comment_len joined closing name_len brace_at course backslash digits digit blanks
ends = (refl, refl, refl)

quoted : (Reads (codes "p \"a [f \"]\"] $b(\")\"") (joins (literal (codes "a ") ∷ script (codes "f \"]\"") ∷ literal (codes " ") ∷ member (codes "b") (said (codes "\"")) ∷ []) ∷ []))
    × (Reads (codes "p \"\" a\"b") (joins [] ∷ joins (literal (codes "a\"b") ∷ []) ∷ []))
unfolding next_command start words word plain_word reader nested nested_script parts token_at comment_len joined closing name_len brace_at course backslash digits digit blanks
quoted = (refl, refl)

braced : (Reads (codes "p {a \\{ {$b}\\\n \tc}") (plain (said (codes "a \\{ {$b} c")) ∷ []))
    × (Reads (codes "p {\\\\{}} {}") (plain (said (codes "\\\\{}")) ∷ plain (said []) ∷ []))
unfolding next_command start words word plain_word reader nested nested_script parts token_at comment_len joined closing name_len brace_at course backslash digits digit blanks
braced = (refl, refl)

expansion : (Reads (codes "p {*}$a {*} {*}{b c}") (expanded (one (variable (codes "a"))) ∷ plain (said (codes "*")) ∷ expanded (said (codes "b c")) ∷ []))
    × (Refuses (codes "p {*}{*}a") ExtraAfterBrace)
unfolding next_command start words word plain_word reader nested nested_script parts token_at comment_len joined closing name_len brace_at course backslash digits digit blanks
expansion = (refl, refl)

variables : (Reads (codes "p $a(b$c d)${e f}$(x)$ $.") (
    joins (member (codes "a") (pieces_of (literal (codes "b") ∷ variable (codes "c") ∷ literal (codes " d") ∷ [])) ∷ variable (codes "e f") ∷ member [] (said (codes "x")) ∷ literal (codes "$") ∷ [])
    ∷ joins (literal (codes "$.") ∷ []) ∷ []))
    × (Reads (codes "p \\x41\\1019\\400\\n\\xg\\q") (joins (literal (codes "AA9 0\nxgq") ∷ []) ∷ []))
unfolding next_command start words word plain_word reader nested nested_script parts token_at comment_len joined closing name_len brace_at course backslash digits digit blanks
variables = (refl, refl)

numbered : (backslash (codes "u41g") ≡ (codes "A", 3)) × (backslash (codes "u00e9") ≡ (195 ∷ 169 ∷ [], 5)) × (backslash (codes "u20ac5") ≡ (226 ∷ 130 ∷ 172 ∷ [], 5))
    × (backslash (codes "ud800") ≡ (237 ∷ 160 ∷ 128 ∷ [], 5)) × (backslash (codes "uq") ≡ (codes "u", 1)) × (backslash (codes "U41") ≡ (codes "U", 1))
unfolding backslash digits digit encode_utf8
numbered = (refl, refl, refl, refl, refl, refl)

brackets : (Reads (codes "p [f {]};# ]\n[g]]]") (joins (script (codes "f {]};# ]\n[g]") ∷ literal (codes "]") ∷ []) ∷ []))
    × (Reads (codes "p []") (joins (script [] ∷ []) ∷ []))
unfolding next_command start words word plain_word reader nested nested_script parts token_at comment_len joined closing name_len brace_at course backslash digits digit blanks
brackets = (refl, refl)

-- of several constructs that are left open the innermost gives the fault
faults : (next_command (codes "puts one\nputs {two") 9 ≡ Err MissingBrace)
    × (Refuses (codes "p \"[f {a") MissingBrace) × (Refuses (codes "p \"[f $a(b]") MissingParen) × (Refuses (codes "p {a}[f") ExtraAfterBrace)
    × (Refuses (codes "p \"a\"b") ExtraAfterQuote) × (Refuses (codes "p [f \"a]") MissingQuote) × (Refuses (codes "p \"[f\"") MissingBracket) × (Refuses (codes "p ${a") MissingBrace)
unfolding next_command start words word plain_word reader nested nested_script parts token_at comment_len joined closing name_len brace_at course backslash digits digit blanks
faults = (refl, refl, refl, refl, refl, refl, refl, refl)

operands : (Begins (codes "$a(b)(c)") (one (member (codes "a") (said (codes "b")))) 5) × (Begins (codes "[f]eq") (one (script (codes "f"))) 3)
    × (Begins (codes "\"$a\"1") (one (variable (codes "a"))) 4) × (Begins (codes "{a\\\n b}1") (said (codes "a b")) 7)
    × (operand (codes "$+1") ≡ Ok None) × (operand (codes "1") ≡ Ok None) × (operand (codes "{a") ≡ Err MissingBrace)
unfolding operand reader nested nested_script plain_word word parts token_at comment_len joined closing name_len brace_at course backslash digits digit blanks
operands = (refl, refl, refl, refl, refl, refl, refl)
