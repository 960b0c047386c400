-- Requests to a child, in words.
use Rattle.std.specs.Prelude.{List, [], ◌∷◌, ◌++◌, ℕ, codes}
use Rattle.tcl_words.specs.Bytes as ascii
use Rattle.child_events.specs.Log.{hex_text}
use Rattle.expect_core.specs.declared.request.Act.{Act}
use Rattle.expect_core.specs.declared.request.Act.TheVariants as act
use Rattle.report_texts.specs.declared.acts.Spelling.{Spelling}
use Rattle.report_texts.specs.declared.acts.Spelling.TheVariants.{Hex, Quoted}
use Rattle.report_texts.specs.Escape.{quoted}

-- Bytes in lower-case hexadecimal or `-` if empty, or between quotes.
abbrev pub spelled : Spelling → List ℕ → List ℕ
spelled Hex bytes = hex_text bytes
spelled Quoted bytes = quoted bytes

-- The words of a program, each after a space.
abbrev pub words_part : Spelling → List (List ℕ) → List ℕ
words_part how [] = []
words_part how (w ∷ ws) = (ascii.space ∷ [] ++ spelled how w) ++ words_part how ws

-- The program and its arguments, or the bytes.
abbrev pub act_text : Spelling → Act → List ℕ
act_text how (act.Spawn words) = codes "spawn" ++ words_part how words
act_text how (act.Write bytes) = codes "write " ++ spelled how bytes
act_text how act.End = codes "end"
act_text how act.Close = codes "close"
act_text how act.Wait = codes "wait"
