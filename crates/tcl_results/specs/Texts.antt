-- Texts of errors, in Tcl's own words if Tcl has them. At most 200 bytes of a quoted word are shown.
use Rattle.std.specs.Prelude.{ℕ, Bool, true, false, List, [], ◌∷◌, ◌++◌, take, codes, if◌then◌else◌}
use Rattle.tcl_words.specs.Bytes as ascii
use Rattle.tcl_words.specs.declared.faults.WordFault.{WordFault}
use Rattle.tcl_words.specs.declared.faults.WordFault.TheVariants as word
use Rattle.tcl_expr.specs.declared.faults.ExprFault.{ExprFault}
use Rattle.tcl_expr.specs.declared.faults.ExprFault.TheVariants as expr
use Rattle.tcl_subst.specs.declared.faults.SubstFault.{SubstFault}
use Rattle.tcl_subst.specs.declared.faults.SubstFault.TheVariants.{NoVariable, IsArray, NotArray, TooLong, Memory, Exists, BadList}

-- A text, followed by a word in quotes.
abbrev pub quoted : List ℕ → List ℕ → List ℕ
quoted front word = front ++ ascii.quote ∷ take 200 word ++ ascii.quote ∷ []

-- The command has too few or too many arguments.
abbrev pub wrong_args : List ℕ → List ℕ
wrong_args command = quoted (codes "wrong # args for ") command

abbrev pub bad_option : List ℕ → List ℕ
bad_option option = quoted (codes "bad option ") option

abbrev pub bad_flag : List ℕ → List ℕ
bad_flag flag = quoted (codes "bad flag ") flag

abbrev pub bad_format : List ℕ → List ℕ
bad_format template = quoted (codes "bad format ") template

abbrev pub bad_index : List ℕ → List ℕ
bad_index text = quoted (codes "bad index ") text

abbrev pub expected_number : List ℕ → List ℕ
expected_number text = quoted (codes "expected number but got ") text

abbrev pub bad_regular : List ℕ → List ℕ
bad_regular pattern = quoted (codes "bad regular expression ") pattern

abbrev pub no_package : List ℕ → List ℕ
no_package name = codes "can't find package " ++ take 200 name

-- The version `have` of a package doesn't serve where `need` is asked for.
abbrev pub version_conflict : List ℕ → List ℕ → List ℕ → List ℕ
version_conflict name have need = quoted (codes "version conflict for package ") name ++ (codes ": have " ++ (have ++ (codes ", need " ++ take 200 need)))

abbrev pub bad_list : List ℕ
bad_list = codes "bad list"

abbrev pub too_long : List ℕ
too_long = codes "value too long"

abbrev pub too_deep : List ℕ
too_deep = codes "too many nested evaluations"

-- A variable can't be read or set. `front` says which.
abbrev pub variable_fault : List ℕ → List ℕ → SubstFault → List ℕ
variable_fault front name NoVariable = quoted front name ++ codes ": no such variable"
variable_fault front name IsArray = quoted front name ++ codes ": variable is array"
variable_fault front name NotArray = quoted front name ++ codes ": variable isn't array"
variable_fault front name TooLong = too_long
variable_fault front name BadList = bad_list
variable_fault front name Exists = quoted (codes "variable ") name ++ codes " already exists"
variable_fault front name Memory = []

abbrev pub not_read : List ℕ → SubstFault → List ℕ
not_read name f = variable_fault (codes "can't read ") name f

abbrev pub not_set : List ℕ → SubstFault → List ℕ
not_set name f = variable_fault (codes "can't set ") name f

-- The error says that there is no such variable.
abbrev pub is_missing : SubstFault → Bool
is_missing NoVariable = true
is_missing IsArray = false
is_missing NotArray = false
is_missing TooLong = false
is_missing Memory = false
is_missing Exists = false
is_missing BadList = false

-- A missing variable can't be unset. All other errors have the text of `set`.
abbrev pub not_unset : List ℕ → SubstFault → List ℕ
not_unset name f = if is_missing f then variable_fault (codes "can't unset ") name f else not_set name f

-- Why a command can't be parsed.
abbrev pub word_fault : WordFault → List ℕ
word_fault word.MissingBrace = codes "missing close-brace"
word_fault word.MissingBracket = codes "missing close-bracket"
word_fault word.MissingQuote = codes "missing " ++ ascii.quote ∷ []
word_fault word.ExtraAfterQuote = codes "extra characters after close-quote"
word_fault word.ExtraAfterBrace = codes "extra characters after close-brace"
word_fault word.TooDeep = codes "nesting too deep"
word_fault word.MissingParen = codes "missing )"
word_fault word.Memory = []

-- Why an expression has no value.
abbrev pub expr_fault : List ℕ → ExprFault → List ℕ
expr_fault source expr.Syntax = quoted (codes "syntax error in expression ") source
expr_fault source (expr.NotNumber text) = expected_number text
expr_fault source expr.DivideByZero = codes "divide by zero"
expr_fault source expr.ZeroToNegative = codes "exponentiation of zero by negative power"
expr_fault source expr.NegativeShift = codes "negative shift argument"
expr_fault source expr.Overflow = codes "integer overflow"
expr_fault source expr.BadList = bad_list
expr_fault source expr.TooDeep = codes "expression too deep"
expr_fault source expr.Memory = []
