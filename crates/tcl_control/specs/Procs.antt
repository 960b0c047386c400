-- Procedures (proc(n)): formal arguments, and how a call binds them.
use Rattle.std.specs.Prelude.{ℕ, Bool, true, false, List, [], ◌∷◌, Option, Some, None, option_map, unwrap_or, is_some, Result, Ok, Err, codes, bytes_eq, if◌then◌else◌}
use Rattle.tcl_words.specs.Lists.{elements, written}
use Rattle.tcl_subst.specs.declared.faults.SubstFault.{SubstFault}
use Rattle.tcl_subst.specs.Variables.{Variables, with_value}
use Rattle.tcl_subst.specs.Writes.{set_to}
use Rattle.tcl_results.specs.Texts.{wrong_args, bad_list, not_set}
use Rattle.tcl_results.specs.Said.{Said, ◌>>=◌, list_of}
use Rattle.tcl_control.specs.declared.formals.Formal.{Formal}

-- A name, or a name and a default.
abbrev pub formal_in : Option (List (List ℕ)) → Option Formal
formal_in None = None
formal_in (Some []) = None
formal_in (Some (name ∷ [])) = Some (record { name = name; default = None })
formal_in (Some (name ∷ default ∷ [])) = Some (record { name = name; default = Some default })
formal_in (Some (name ∷ default ∷ other ∷ more)) = None

abbrev pub before_formals : Option Formal → Option (List Formal) → Option (List Formal)
before_formals None fs = None
before_formals (Some f) fs = option_map (λ l. f ∷ l) fs

abbrev pub formals_in : List (List ℕ) → Option (List Formal)
formals_in [] = Some []
formals_in (e ∷ es) = before_formals (formal_in (elements e)) (formals_in es)

abbrev pub or_bad_list : Option (List Formal) → Said (List Formal)
or_bad_list None = Err bad_list
or_bad_list (Some fs) = Ok fs

-- The formal arguments that a text lists.
abbrev pub formals_of : List ℕ → Said (List Formal)
formals_of text = list_of text >>= λ es. or_bad_list (formals_in es)

-- The last formal argument takes all remaining arguments if its name is `args`.
abbrev pub takes_all : Formal → List Formal → Bool
takes_all f [] = bytes_eq f.name (codes "args")
takes_all f (g ∷ fs) = false

abbrev pub Bound : Type 0
Bound = List (List ℕ × List ℕ)

abbrev pub with_default : List ℕ → Option (List ℕ) → Option Bound → Option Bound
with_default name None more = None
with_default name (Some value) more = option_map (λ l. (name, value) ∷ l) more

-- The names with their values. `None` if there are too few or too many arguments.
abbrev pub bound : List Formal → List (List ℕ) → Option Bound
bound [] [] = Some []
bound [] (a ∷ args) = None
bound (f ∷ fs) [] = if takes_all f fs then Some ((f.name, []) ∷ []) else with_default f.name f.default (bound fs [])
bound (f ∷ fs) (a ∷ args) =
    if takes_all f fs then Some ((f.name, written (a ∷ args)) ∷ []) else option_map (λ l. (f.name, a) ∷ l) (bound fs args)

abbrev pub or_not_set : List ℕ → Result Variables SubstFault → Said Variables
or_not_set name (Ok vars) = Ok vars
or_not_set name (Err f) = Err (not_set name f)

-- Sets a name.
unfoldable pub binding : List ℕ → List ℕ → Variables → Said Variables
binding name value vars = or_not_set name (with_value (set_to value) name vars)

-- Sets each name, in order.
abbrev pub bindings : Bound → Variables → Said Variables
bindings [] vars = Ok vars
bindings (b ∷ bs) vars = binding b.0 b.1 vars >>= bindings bs

abbrev pub with_scope : Variables → Variables
with_scope vars = record { globals = vars.globals; locals = [] ∷ vars.locals }

-- Binds the names, if the number of arguments is right.
abbrev pub bound_in : List ℕ → Option Bound → Variables → Said Variables
bound_in command None vars = Err (wrong_args command)
bound_in command (Some bs) vars = bindings bs vars

-- The variables with a new scope for a call, in which its arguments are bound.
abbrev pub entered : List ℕ → List Formal → List (List ℕ) → Variables → Said Variables
entered command formals args vars = bound_in command (bound formals args) (with_scope vars)

-- There is an argument for a formal argument, or a default.
abbrev pub has_value : Formal → List (List ℕ) → Bool
has_value f [] = is_some f.default
has_value f (a ∷ args) = true

-- The value of a formal argument that takes one argument.
abbrev pub value_for : Formal → List (List ℕ) → List ℕ
value_for f [] = unwrap_or f.default []
value_for f (a ∷ args) = a
