-- The command return (Tcl(n): return). A code is a name or one digit.
use Rattle.std.specs.Prelude.{ℕ, Bool, ◌||◌, bytes_eq, List, [], ◌∷◌, codes, Option, Some, None, Ok, Err, if◌then◌else◌}
use Rattle.tcl_words.specs.Bytes as ascii
use Rattle.tcl_words.specs.Lists.{begins_with}
use Rattle.tcl_results.specs.declared.code.Carried.{Carried}
use Rattle.tcl_results.specs.declared.code.Carried.TheVariants as carried
use Rattle.tcl_results.specs.Said.{Said}
use Rattle.tcl_results.specs.Texts.{bad_flag, bad_option, wrong_args}

-- The code that a word names.
abbrev pub code_named : List ℕ → Option Carried
code_named word =
    if bytes_eq word (codes "ok") || bytes_eq word (codes "0") then Some carried.Ok
    else if bytes_eq word (codes "error") || bytes_eq word (codes "1") then Some carried.Error
    else if bytes_eq word (codes "return") || bytes_eq word (codes "2") then Some carried.Return
    else if bytes_eq word (codes "break") || bytes_eq word (codes "3") then Some carried.Break
    else if bytes_eq word (codes "continue") || bytes_eq word (codes "4") then Some carried.Continue
    else None

abbrev pub coded : List ℕ → Option Carried → List ℕ → Said (Carried × List ℕ)
coded word None value = Err (bad_option word)
coded word (Some c) value = Ok (c, value)

-- The code that the last `-code` names, and the value.
abbrev pub with_code : Option (List ℕ) → List ℕ → Said (Carried × List ℕ)
with_code None value = Ok (carried.Ok, value)
with_code (Some word) value = coded word (code_named word) value

abbrev pub no_option : List ℕ → List ℕ → List ℕ
no_option command word = if begins_with ascii.minus word then bad_flag word else wrong_args command

-- What follows these options is dropped.
abbrev pub is_dropped : List ℕ → Bool
is_dropped option = bytes_eq option (codes "-errorinfo") || bytes_eq option (codes "-errorcode")

-- Options and their words come in pairs; a last word is the value.
abbrev pub returned : List ℕ → List (List ℕ) → Option (List ℕ) → Said (Carried × List ℕ)
returned command [] code = with_code code []
returned command (value ∷ []) code = with_code code value
returned command (option ∷ word ∷ more) code =
    if bytes_eq option (codes "-code") then returned command more (Some word)
    else if is_dropped option then returned command more code
    else Err (no_option command option)
