-- Truth values: numbers and six words. Of the numbers, only 0 is false.
use Rattle.std.specs.Prelude.{ℕ, List, Bool, true, false, not, Option, Some, None, ℤ, pos, codes, bytes_eq, if◌then◌else◌}
use Rattle.std.specs.Ordering.{int_eq}
use Rattle.tcl_expr.specs.Number.{number_of}
use Rattle.tcl_expr.specs.declared.bareword.Bareword.{Bareword}
use Rattle.tcl_expr.specs.declared.bareword.Bareword.TheVariants.{True, Yes, On, False, No, Off}

abbrev pub word_text : Bareword → List ℕ
word_text True = codes "true"
word_text Yes = codes "yes"
word_text On = codes "on"
word_text False = codes "false"
word_text No = codes "no"
word_text Off = codes "off"

-- The word that a text is, or `None`.
unfoldable pub word_of : List ℕ → Option Bareword
word_of text =
    if bytes_eq text (word_text True) then Some True
    else (if bytes_eq text (word_text Yes) then Some Yes
    else (if bytes_eq text (word_text On) then Some On
    else (if bytes_eq text (word_text False) then Some False
    else (if bytes_eq text (word_text No) then Some No
    else (if bytes_eq text (word_text Off) then Some Off
    else None)))))

abbrev pub says : Bareword → Bool
says True = true
says Yes = true
says On = true
says False = false
says No = false
says Off = false

abbrev pub word_says : Option Bareword → Option Bool
word_says None = None
word_says (Some w) = Some (says w)

-- The truth value of a text that is this number, or no number.
abbrev pub truth_from : Option ℤ → List ℕ → Option Bool
truth_from (Some z) text = Some (not (int_eq z (pos 0)))
truth_from None text = word_says (word_of text)

-- The truth value of a text, or `None`.
unfoldable pub truth_of : List ℕ → Option Bool
truth_of text = truth_from (number_of text) text
