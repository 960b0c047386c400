-- Commands that evaluate no script (each in its own page of Tcl(n)).
use Rattle.std.specs.Prelude.{ℕ, Bool, not, ◌&&◌, bytes_eq, List, [], ◌∷◌, length, drop, codes, Option, Some, None, Result, Ok, Err, ℤ, ◌+ℤ◌, if◌then◌else◌}
use Rattle.std.specs.List.{flat_map}
use Rattle.tcl_words.specs.Bytes as ascii
use Rattle.tcl_words.specs.Lists.{written}
use Rattle.tcl_expr.specs.Number.{number_text}
use Rattle.tcl_expr.specs.Value.{is_within}
use Rattle.tcl_subst.specs.declared.faults.SubstFault.{SubstFault}
use Rattle.tcl_subst.specs.Variables.{Variables, value_of, has, with_value, without_value, linked}
use Rattle.tcl_subst.specs.Writes.{set_to, appended, elements_appended}
use Rattle.tcl_results.specs.declared.code.Code.TheVariants as code
use Rattle.command_table.specs.declared.commands.ValueCommand.{ValueCommand}
use Rattle.command_table.specs.declared.options.InfoOption.{InfoOption}
use Rattle.command_table.specs.declared.options.InfoOption.TheVariants.{Exists}
use Rattle.command_table.specs.Counts.{fits}
use Rattle.command_table.specs.Options.{info_option, info_count}
use Rattle.command_table.specs.Rows.{value_row}
use Rattle.command_table.specs.declared.commands.ValueCommand.TheVariants.{Set, Array, Format, Unset, Incr, Append, Lappend, List as ListOf, Llength, Lindex, Lrange, Break, Continue, Return, Global, Upvar, Subst, Error, String, Info, Split, Join, Concat, Linsert, Lreplace, Lset, Lreverse, Lrepeat, Lassign, Lsearch, Lsort, Scan, Regexp, Regsub, Package, ExpVersion, Ignored}
use Rattle.tcl_results.specs.Texts.{is_missing, wrong_args, bad_option, not_read, not_set, not_unset}
use Rattle.tcl_results.specs.Said.{Said, ◌>>=◌, Outcome, told, on_said, on_changed, limited, as_number}
use Rattle.tcl_results.specs.Given.{arg, if_fits}
use Rattle.tcl_results.specs.Setting.{read, written_to, set_if_said, unset_quietly}
use Rattle.tcl_results.specs.Values.{bit_text}
use Rattle.tcl_strings.specs.Strings.{string}
use Rattle.tcl_commands.specs.Arrays.{array}
use Rattle.tcl_commands.specs.Returns.{returned}
use Rattle.tcl_formats.specs.Formats.{format}
use Rattle.tcl_formats.specs.Scanning.{scan}
use Rattle.tcl_lists.specs.Joining.{concat}
use Rattle.tcl_lists.specs.Splitting.{split, join}
use Rattle.tcl_lists.specs.Searching.{lsearch}
use Rattle.tcl_lists.specs.Sorting.{lsort}
use Rattle.tcl_patterns.specs.Regexps.{regexp}
use Rattle.tcl_patterns.specs.Replacing.{regsub}
use Rattle.tcl_commands.specs.Substituted.{substituted}
use Rattle.tcl_commands.specs.Upvars.{upvar}
use Rattle.tcl_commands.specs.Versions.{package_command, exp_version}
use Rattle.tcl_lists.specs.Editing.{linsert, lreplace, lset, lreverse, lrepeat, lassign}
use Rattle.tcl_lists.specs.Lists.{llength, lindex, lrange}

abbrev pub set : List (List ℕ) → Variables → Outcome
set (name ∷ value ∷ more) vars = on_changed vars (not_set name) (with_value (set_to value) name vars) (λ new. told (Ok value) new)
set args vars = told (read (arg 0 args) vars) vars

-- Unsets variables in order, up to the first that can't be unset.
abbrev pub unset : List (List ℕ) → Variables → Outcome
unset [] vars = told (Ok []) vars
unset (name ∷ names) vars = on_changed vars (not_unset name) (without_value name vars) (unset names)

-- The word is the flag, and not the name of an existing variable.
abbrev pub is_quiet : List ℕ → Variables → Bool
is_quiet word vars = bytes_eq word (codes "-nocomplain") && not (has word vars)

-- unset ?-nocomplain? ?name name name ...?
abbrev pub unset_names : List (List ℕ) → Variables → Outcome
unset_names [] vars = unset [] vars
unset_names (word ∷ names) vars = if is_quiet word vars then unset_quietly names vars else unset (word ∷ names) vars

abbrev pub global : List (List ℕ) → Variables → Outcome
global [] vars = told (Ok []) vars
global (name ∷ names) vars = on_changed vars (not_set name) (linked name vars) (global names)

-- A missing variable counts as 0.
abbrev pub or_zero : List ℕ → Result (List ℕ) SubstFault → Said (List ℕ)
or_zero name (Ok value) = Ok value
or_zero name (Err f) = if is_missing f then Ok (ascii.digit_0 ∷ []) else Err (not_read name f)

abbrev pub sum : ℤ → ℤ → Said (List ℕ)
sum a b = if is_within (a +ℤ b) then Ok (number_text (a +ℤ b)) else Err (codes "integer overflow")

-- The number that a variable is.
abbrev pub old_number : List ℕ → Variables → Said ℤ
old_number name vars = or_zero name (value_of name vars) >>= λ old. as_number old

-- Errors, in order: the value is no number, the increment is no number, the sum doesn't fit in 64 bits.
abbrev pub incremented : List ℕ → List ℕ → Variables → Said (List ℕ)
incremented name by vars = old_number name vars >>= λ a. as_number by >>= λ b. sum a b

-- The increment, by default 1.
abbrev pub increment : List (List ℕ) → List ℕ
increment (name ∷ by ∷ more) = by
increment args = ascii.digit_1 ∷ []

abbrev pub incr : List (List ℕ) → Variables → Outcome
incr args vars = set_if_said (arg 0 args) (incremented (arg 0 args) (increment args) vars) vars

-- Appends all texts in one change.
abbrev pub append : List (List ℕ) → Variables → Outcome
append args vars = written_to (arg 0 args) vars (with_value (appended (flat_map (λ t. t) (drop 1 args))) (arg 0 args) vars)

abbrev pub lappend : List (List ℕ) → Variables → Outcome
lappend args vars = written_to (arg 0 args) vars (with_value (elements_appended (drop 1 args)) (arg 0 args) vars)

abbrev pub info_by : InfoOption → List (List ℕ) → Variables → Said (List ℕ)
info_by Exists args vars = Ok (bit_text (has (arg 0 args) vars))

-- An unknown option is reported before a wrong number of arguments.
abbrev pub info_named : List ℕ → List ℕ → Option InfoOption → List (List ℕ) → Variables → Said (List ℕ)
info_named command word None args vars = Err (bad_option word)
info_named command word (Some option) args vars = if_fits (info_count option) command args (info_by option args vars)

abbrev pub info : List ℕ → List (List ℕ) → Variables → Said (List ℕ)
info command args vars = info_named command (arg 0 args) (info_option (arg 0 args)) (drop 1 args) vars

-- A command with a number of arguments that its row allows.
abbrev pub allowed : ValueCommand → List ℕ → List (List ℕ) → Variables → Outcome
allowed Set command args vars = set args vars
allowed Unset command args vars = unset_names args vars
allowed Incr command args vars = incr args vars
allowed Append command args vars = append args vars
allowed Lappend command args vars = lappend args vars
allowed ListOf command args vars = told (limited (written args)) vars
allowed Llength command args vars = told (llength args) vars
allowed Lindex command args vars = told (lindex args) vars
allowed Lrange command args vars = told (lrange args) vars
allowed Break command args vars = (code.Break, [], vars)
allowed Continue command args vars = (code.Continue, [], vars)
allowed Return command args vars = on_said (returned command args None) vars (λ c. (code.Return c.0, c.1, vars))
allowed Global command args vars = global args vars
allowed Upvar command args vars = upvar args vars
allowed Subst command args vars = told (substituted command args vars) vars
allowed Error command args vars = told (Err (arg 0 args)) vars
allowed String command args vars = told (string command args) vars
allowed Info command args vars = told (info command args vars) vars
allowed Split command args vars = told (split args) vars
allowed Join command args vars = told (join args) vars
allowed Concat command args vars = told (concat args) vars
allowed Linsert command args vars = told (linsert args) vars
allowed Lreplace command args vars = told (lreplace args) vars
allowed Lset command args vars = lset args vars
allowed Lreverse command args vars = told (lreverse args) vars
allowed Lrepeat command args vars = told (lrepeat args) vars
allowed Lassign command args vars = lassign args vars
allowed Lsearch command args vars = told (lsearch command args) vars
allowed Lsort command args vars = told (lsort command args) vars
allowed Array command args vars = array command args vars
allowed Format command args vars = told (format command args) vars
allowed Scan command args vars = scan command args vars
allowed Regexp command args vars = regexp command args vars
allowed Regsub command args vars = regsub command args vars
allowed Package command args vars = told (package_command command args) vars
allowed ExpVersion command args vars = told (exp_version command args) vars
allowed Ignored command args vars = told (Ok []) vars

-- A command, given its word and its arguments.
abbrev pub plain : ValueCommand → List ℕ → List (List ℕ) → Variables → Outcome
plain c command args vars = if fits (value_row c).count (length args) then allowed c command args vars else told (Err (wrong_args command)) vars
