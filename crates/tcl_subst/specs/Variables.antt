-- Variables: the outermost scope and the scopes over it (Tcl(n): upvar, global).
use Rattle.std.specs.Prelude.{ℕ, ◌+◌, min, Bool, List, [], ◌∷◌, length, Option, Some, None, Result, Ok, Err, nat_lt, slice_index_or, slice_set, if◌then◌else◌}
use Rattle.tcl_subst.specs.declared.faults.SubstFault.{SubstFault}
use Rattle.tcl_subst.specs.declared.scope.VariablePlace.{VariablePlace}
use Rattle.tcl_subst.specs.Entries.{Entries, find}
use Rattle.tcl_subst.specs.Slots.{Scope, base, index, here, leads, name_or, read_at, slot_exists, entered, written, unset, link, elements_in, array_made, list_in}

pub record Variables : Type 0 where
  -- The outermost scope.
  pub globals : Scope
  -- The other scopes, the innermost first.
  pub locals : List Scope

abbrev pub place_in : List ℕ → List Scope → VariablePlace
place_in name [] = here
place_in name (scope ∷ outer) = leads (find name scope)

-- The scope so many calls further out than the current one. Past the last one it is the outermost.
abbrev pub scope_at : ℕ → Variables → Scope
scope_at calls vars = slice_index_or vars.locals calls vars.globals

-- The variables with another scope in its place.
abbrev pub with_scope_at : ℕ → Scope → Variables → Variables
with_scope_at calls new vars =
    if nat_lt calls (length vars.locals) then record { globals = vars.globals; locals = slice_set vars.locals calls new }
    else record { globals = new; locals = vars.locals }

-- Where a variable of the current scope is: there, or where a link leads.
abbrev pub place : List ℕ → Variables → VariablePlace
place name vars = place_in name vars.locals

-- The scope in which a variable is looked up.
abbrev pub home : List ℕ → Variables → Scope
home name vars = scope_at (place name vars).calls vars

-- Its name in that scope.
abbrev pub name_there : List ℕ → Variables → List ℕ
name_there name vars = name_or name (place name vars).name

abbrev pub in_place : VariablePlace → Variables → Result Scope SubstFault → Result Variables SubstFault
in_place place vars (Ok scope) = Ok (with_scope_at place.calls scope vars)
in_place place vars (Err f) = Err f

-- No variables.
abbrev pub no_variables : Variables
no_variables = record { globals = []; locals = [] }

-- The value of a variable, or of its element with an index.
abbrev pub value_at : List ℕ → Option (List ℕ) → Variables → Result (List ℕ) SubstFault
value_at variable index vars = read_at (name_there variable vars) index (home variable vars)

-- The value of a variable or an element.
abbrev pub value_of : List ℕ → Variables → Result (List ℕ) SubstFault
value_of name vars = value_at (base name) (index name) vars

-- The value of an array's element.
abbrev pub member_of : List ℕ → List ℕ → Variables → Result (List ℕ) SubstFault
member_of array index vars = value_at array (Some index) vars

-- The elements of an array. `None` if there is no such array.
abbrev pub array_of : List ℕ → Variables → Option (Entries (List ℕ))
array_of name vars = elements_in (find (name_there name vars) (home name vars))

-- The list that a variable or an element is.
abbrev pub list_of : List ℕ → Variables → Result (List (List ℕ)) SubstFault
list_of name vars = list_in (value_of name vars)

-- The variable or element exists.
abbrev pub has : List ℕ → Variables → Bool
has name vars = slot_exists (index name) (find (name_there (base name) vars) (home (base name) vars))

-- The variables after g was applied to a variable or an element. A missing value counts as empty.
abbrev pub with_value : (List ℕ → Result (List ℕ) SubstFault) → List ℕ → Variables → Result Variables SubstFault
with_value g name vars = in_place (place (base name) vars) vars (written g (name_there (base name) vars) (index name) (home (base name) vars))

-- The variables with an array. A missing one has no elements. The name isn't that of an element.
abbrev pub with_array : List ℕ → Variables → Result Variables SubstFault
with_array name vars = in_place (place name vars) vars (entered (name_there name vars) (home name vars) (array_made (find (name_there name vars) (home name vars))))

-- The variables without a variable or an element.
abbrev pub without_value : List ℕ → Variables → Result Variables SubstFault
without_value name vars = in_place (place (base name) vars) vars (unset (name_there (base name) vars) (index name) (home (base name) vars))

abbrev pub with_innermost : Variables → List Scope → Result Scope SubstFault → Result Variables SubstFault
with_innermost vars outer (Ok scope) = Ok (record { globals = vars.globals; locals = scope ∷ outer })
with_innermost vars outer (Err f) = Err f

abbrev pub link_in : VariablePlace → List ℕ → Variables → List Scope → Result Variables SubstFault
link_in place name vars [] = Ok vars
link_in place name vars (scope ∷ outer) = with_innermost vars outer (link place name scope)

-- The variables with a link from the current scope to the variable of that name in the outermost one.
abbrev pub linked : List ℕ → Variables → Result Variables SubstFault
linked name vars = link_in (record { calls = length vars.locals; name = None }) name vars vars.locals

-- Where a variable of the scope so many calls further out leads.
abbrev pub further : ℕ → List ℕ → VariablePlace → ℕ → VariablePlace
further calls other place depth = record { calls = min (calls + place.calls) depth; name = Some (name_or other place.name) }

abbrev pub place_from : ℕ → List ℕ → Variables → VariablePlace
place_from calls other vars = further calls other (leads (find other (scope_at calls vars))) (length vars.locals)

-- The variables with a link from the current scope to a variable of the scope so many calls further out. If that is a link,
-- the new one leads where it leads.
abbrev pub linked_up : ℕ → List ℕ → List ℕ → Variables → Result Variables SubstFault
linked_up calls other my vars = link_in (place_from calls other vars) my vars vars.locals
