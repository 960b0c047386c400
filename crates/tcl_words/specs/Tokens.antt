-- The tokens of the reader as plain data.
use Rattle.std.specs.Prelude.{[], ◌∷◌}
use Rattle.tcl_words.specs.declared.token.Token.{Token}
use Rattle.tcl_words.specs.declared.token.Token.TheVariants.{Byte, Escape, Substitution}
use Rattle.tcl_words.specs.Pieces.{part_view}
use Rattle.tcl_words.specs.Commands.{Token as Shown, text_token, substitution}

abbrev pub token_view : Token → Shown
token_view (Byte b) = text_token (b ∷ [])
token_view (Escape bytes) = text_token bytes.items
token_view (Substitution part) = substitution (part_view part)
