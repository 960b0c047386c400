-- Operands of an expression that are read like words and their parts: `$..`, `[..]`, `".."` and `{..}` of expr(n).
use Rattle.std.specs.Prelude.{ℕ, ◌+◌, false, ◌||◌, List, [], ◌∷◌, take, Option, Some, None, Result, Ok, Err, ◌==◌, if◌then◌else◌}
use Rattle.tcl_words.specs.Bytes as ascii
use Rattle.tcl_words.specs.declared.faults.WordFault.{WordFault}
use Rattle.tcl_words.specs.declared.faults.WordFault.TheVariants.{MissingBrace}
use Rattle.tcl_words.specs.declared.stop.Stop.TheVariants.{Quote}
use Rattle.tcl_words.specs.Lists.{closing}
use Rattle.tcl_words.specs.Pieces.{literal, Pieces, no_pieces, piece, Spelled}
use Rattle.tcl_words.specs.Commands.{Read, Token, text_token, substitution, inside_of, deepest, token_at, parts, joined}

-- An operand and the number of bytes it takes, `None`, or an error.
abbrev pub Operand : Type 0
Operand = Result (Option (Spelled × ℕ)) WordFault

-- An operand with these parts, which takes n bytes.
abbrev pub operand_of : Pieces → ℕ → Operand
operand_of ps n = Ok (Some (record { expand = false; pieces = ps }, n))

-- `$..` or `[..]`. A `$` that stands for itself is no operand.
abbrev pub substituted : Read Token → Operand
substituted (Err e) = Err e
substituted (Ok (text_token bytes, n)) = Ok None
substituted (Ok (substitution p, n)) = operand_of (piece p no_pieces) (1 + n)

-- `".."`, given the parts after the opening quote.
abbrev pub quoted : Read Pieces → Operand
quoted (Err e) = Err e
quoted (Ok p) = operand_of p.0 (1 + p.1)

-- `{..}`, given the bytes after the opening brace and the number of bytes before the closing one.
abbrev pub braced : List ℕ → Option ℕ → Operand
braced bytes None = Err MissingBrace
braced bytes (Some n) = operand_of (piece (literal (joined (take n bytes))) no_pieces) (2 + n)

-- The operand at the front of a text, whatever follows it.
unfoldable pub operand : List ℕ → Operand
operand [] = Ok None
operand (b ∷ bytes) =
    if b == ascii.quote then quoted (parts (inside_of deepest) Quote bytes)
    else (if b == ascii.open_brace then braced bytes (closing bytes 0)
    else (if b == ascii.dollar || b == ascii.open_bracket then substituted (token_at (inside_of deepest) b bytes)
    else Ok None))
