-- The results of commands.
use Rattle.std.specs.Prelude.{ℕ, List, length, Option, Some, None, Result, Ok, Err, ℤ, if◌then◌else◌}
use Rattle.tcl_words.specs.Lists.{elements}
use Rattle.tcl_expr.specs.Number.{number_of}
use Rattle.tcl_subst.specs.declared.faults.SubstFault.{SubstFault}
use Rattle.tcl_subst.specs.Faults.{is_too_long}
use Rattle.tcl_subst.specs.Variables.{Variables}
use Rattle.tcl_results.specs.declared.code.Code.{Code}
use Rattle.tcl_results.specs.declared.code.Code.TheVariants as code
use Rattle.tcl_results.specs.Texts.{bad_list, too_long, expected_number}

-- A value, or the text of an error.
abbrev pub Said : Type 0 → Type 0
Said X = Result X (List ℕ)

infixl 10 ◌>>=◌
abbrev pub ◌>>=◌ : {X Y : Type 0} → Said X → (X → Said Y) → Said Y
(Ok x) >>= f = f x
(Err text) >>= f = Err text

-- A code, a value and the variables afterwards.
abbrev pub Outcome : Type 0
Outcome = Code × List ℕ × Variables

-- The text of an error is the value.
abbrev pub told : Said (List ℕ) → Variables → Outcome
told (Ok value) vars = (code.Ok, value, vars)
told (Err text) vars = (code.Error, text, vars)

-- Continues with a result. After an error, the variables are unchanged.
abbrev pub on_said : {X : Type 0} → Said X → Variables → (X → Outcome) → Outcome
on_said (Ok x) vars more = more x
on_said (Err text) vars more = told (Err text) vars

-- Continues with changed variables. If the change failed, it is an error, and the variables are unchanged.
abbrev pub on_changed : Variables → (SubstFault → List ℕ) → Result Variables SubstFault → (Variables → Outcome) → Outcome
on_changed old text (Ok vars) more = more vars
on_changed old text (Err f) more = (code.Error, text f, old)

-- A value that isn't too long.
abbrev pub limited : List ℕ → Said (List ℕ)
limited value = if is_too_long (length value) then Err too_long else Ok value

abbrev pub some_list : Option (List (List ℕ)) → Said (List (List ℕ))
some_list None = Err bad_list
some_list (Some es) = Ok es

-- The elements of the list that a text is.
abbrev pub list_of : List ℕ → Said (List (List ℕ))
list_of text = some_list (elements text)

abbrev pub some_number : List ℕ → Option ℤ → Said ℤ
some_number text None = Err (expected_number text)
some_number text (Some z) = Ok z

-- The number that a text is.
abbrev pub as_number : List ℕ → Said ℤ
as_number text = some_number text (number_of text)
