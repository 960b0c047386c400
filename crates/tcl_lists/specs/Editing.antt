-- Commands that edit lists: linsert(n), lreplace(n), lset(n), lreverse(n), lrepeat(n), lassign(n).
use Rattle.std.specs.Prelude.{ℕ, ◌+◌, nat_le, max, List, [], ◌∷◌, length, drop, reverse, codes, Ok, Err, ℤ, pos, negsuc, if◌then◌else◌}
use Rattle.std.specs.List.{splice, repeat, sum_by}
use Rattle.tcl_words.specs.Lists.{written}
use Rattle.tcl_subst.specs.Variables.{Variables}
use Rattle.tcl_results.specs.declared.code.Code.{Code}
use Rattle.tcl_results.specs.declared.code.Code.TheVariants as code
use Rattle.tcl_results.specs.Texts.{quoted, bad_index}
use Rattle.tcl_results.specs.Given.{arg}
use Rattle.tcl_results.specs.Setting.{assigned, read, set_if_said}
use Rattle.tcl_results.specs.Indices.{index_by, index_of, before, up_to}
use Rattle.tcl_results.specs.Said.{Said, ◌>>=◌, Outcome, on_said, limited, list_of, as_number}

-- A list with values inserted before a position.
abbrev pub with_inserted : ℤ → List (List ℕ) → List (List ℕ) → Said (List ℕ)
with_inserted at values es = limited (written (splice es (before at) (before at) values))

-- A list with the elements between two positions, inclusive, replaced by values.
abbrev pub with_replaced : ℤ → ℤ → List (List ℕ) → List (List ℕ) → Said (List ℕ)
with_replaced from to values es = limited (written (splice es (before from) (max (before from) (up_to to)) values))

-- `end` is the position after the last element.
abbrev pub inserted : List ℕ → List ℕ → List (List ℕ) → Said (List ℕ)
inserted l i values = list_of l >>= λ es. index_by (pos (length es)) i >>= λ at. with_inserted at values es

-- linsert list index ?element element ...?
abbrev pub linsert : List (List ℕ) → Said (List ℕ)
linsert args = inserted (arg 0 args) (arg 1 args) (drop 2 args)

abbrev pub replaced : List ℕ → List ℕ → List ℕ → List (List ℕ) → Said (List ℕ)
replaced l i j values =
    list_of l >>= λ es. index_of (length es) i >>= λ from. index_of (length es) j >>= λ to. with_replaced from to values es

-- lreplace list first last ?element element ...?
abbrev pub lreplace : List (List ℕ) → Said (List ℕ)
lreplace args = replaced (arg 0 args) (arg 1 args) (arg 2 args) (drop 3 args)

-- The position if it is 0 to `count`.
abbrev pub place_within : List ℕ → ℕ → ℤ → Said ℤ
place_within i count (pos n) = if nat_le n count then Ok (pos n) else Err (bad_index i)
place_within i count (negsuc n) = Err (bad_index i)

-- A list with one element replaced, or with a value appended.
abbrev pub with_element : List ℕ → List ℕ → List ℕ → Said (List ℕ)
with_element l i value =
    list_of l >>= λ es. index_of (length es) i >>= λ z. place_within i (length es) z >>= λ at. with_replaced at at (value ∷ []) es

-- The list of a variable, with one element replaced, or with a value appended.
abbrev pub variable_with : List ℕ → List ℕ → List ℕ → Variables → Said (List ℕ)
variable_with name i value vars = read name vars >>= λ l. with_element l i value

-- lset varName index newValue
abbrev pub lset : List (List ℕ) → Variables → Outcome
lset args vars = set_if_said (arg 0 args) (variable_with (arg 0 args) (arg 1 args) (arg 2 args) vars) vars

abbrev pub list_reversed : List ℕ → Said (List ℕ)
list_reversed l = list_of l >>= λ es. limited (written (reverse es))

-- lreverse list
abbrev pub lreverse : List (List ℕ) → Said (List ℕ)
lreverse args = list_reversed (arg 0 args)

abbrev pub bad_count : List ℕ → List ℕ
bad_count text = quoted (codes "bad count ") text

-- The number of bytes of all elements, plus one per element. The written list is at most one byte shorter.
abbrev pub least_size : List (List ℕ) → ℕ
least_size es = sum_by (λ e. length e + 1) es

-- The list of the values, repeated n times. n must not be negative.
abbrev pub repeated : List ℕ → List (List ℕ) → ℤ → Said (List ℕ)
repeated count values (pos n) = limited (written (repeat n values))
repeated count values (negsuc n) = Err (bad_count count)

-- lrepeat count ?element ...?
abbrev pub lrepeat : List (List ℕ) → Said (List ℕ)
lrepeat args = as_number (arg 0 args) >>= λ n. repeated (arg 0 args) (drop 1 args) n

-- The value replaces the one of a command that ended with `Ok`.
abbrev pub value_if : Code → List ℕ → List ℕ → List ℕ
value_if code.Ok value other = value
value_if c value other = other

abbrev pub with_result : List ℕ → Outcome → Outcome
with_result value o = (o.0, value_if o.0 value o.1, o.2)

-- The elements of a list, and the list of those after the first n.
abbrev pub taken_apart : ℕ → List ℕ → Said (List (List ℕ) × List ℕ)
taken_apart n l = list_of l >>= λ es. limited (written (drop n es)) >>= λ rest. Ok (es, rest)

-- lassign list ?varName ...?
-- The value is the list of the remaining elements.
abbrev pub lassign : List (List ℕ) → Variables → Outcome
lassign args vars = on_said (taken_apart (length (drop 1 args)) (arg 0 args)) vars (λ p. with_result p.1 (assigned (drop 1 args) p.0 vars))
