-- Writing a variable in a scope of a call's own changes that scope alone.
use Rattle.std.proofs.Common.{◌≡◌, ◌<◌, ℕ, Bool, true, false, cond, List, [], ◌∷◌, length, Option, Some, None, is_some, Result, Ok, Err, IfOk, nat_lt, refl, sym, ap, subst, ◌∙◌, arith}
use Rattle.std.proofs.lemmas.Bool.Decides.{nat_tests}
use Rattle.std.specs.Ordering.{match_ordering}
use Rattle.std.specs.declared.cmp.Ordering.{Ordering}
use Rattle.std.specs.declared.cmp.Ordering.TheVariants.{Less, Equal, Greater}
use Rattle.std.specs.Map.{lookup, set_value}
use Rattle.std.specs.BTreeMap.{insert_entry}
use Rattle.tcl_subst.specs.declared.faults.SubstFault.{SubstFault}
use Rattle.tcl_subst.specs.declared.scope.Slot.{Slot}
use Rattle.tcl_subst.specs.declared.scope.Slot.TheVariants.{Text, Array, Link}
use Rattle.tcl_subst.specs.Entries.{Entries, order, is_name, find, with_entry}
use Rattle.tcl_subst.specs.declared.scope.VariablePlace.{VariablePlace}
use Rattle.tcl_subst.specs.Slots.{Scope, base, index, here, leads, name_or, as_text, as_array, entered, text_written, element_written, slot_written, entry_written, written}
use Rattle.tcl_subst.specs.Variables.{Variables, scope_at, with_scope_at, in_place, with_value}
use Rattle.tcl_control.specs.Scopes.{HasNoLink, IsOwn, KeepsOuter}

-- a slot that is no link
abbrev NoLink : Slot → Type 0
NoLink x = leads (Some x) ≡ here

by_test : (t : Bool) (a b : Scope) → HasNoLink a → HasNoLink b → HasNoLink (cond t a b)
by_test true a b p q = p
by_test false a b p q = q

by_order : (o : Ordering) (a b c : Scope) → HasNoLink a → HasNoLink b → HasNoLink c → HasNoLink (match_ordering o a b c)
by_order Less a b c p q r = p
by_order Equal a b c p q r = q
by_order Greater a b c p q r = r

set_own : (test : List ℕ → Bool) (es : Scope) (x : Slot) → NoLink x → HasNoLink es → HasNoLink (set_value test es x)
set_own test [] x none own = tt
set_own test (e ∷ es) x none own = by_test (test e.0) _ _ (none, own.1) (own.0, set_own test es x none own.1)

insert_own : (es : Scope) (name : List ℕ) (x : Slot) → NoLink x → HasNoLink es → HasNoLink (insert_entry order es name x)
insert_own [] name x none own = (none, tt)
insert_own (e ∷ es) name x none own = by_order (order name e.0) _ _ _ (none, own) (none, own.1) (own.0, insert_own es name x none own.1)

entry_own : (name : List ℕ) (x : Slot) (es : Scope) → NoLink x → HasNoLink es → HasNoLink (with_entry name x es)
entry_own name x es none own = by_test (is_some (find name es)) _ _ (set_own (is_name name) es x none own) (insert_own es name x none own)

entered_own : (name : List ℕ) (es : Scope) (r : Result Slot SubstFault) → HasNoLink es → IfOk r NoLink → IfOk (entered name es r) HasNoLink
entered_own name es (Ok x) own none = entry_own name x es none own
entered_own name es (Err f) own none = tt

text_no_link : (r : Result (List ℕ) SubstFault) → IfOk (as_text r) NoLink
text_no_link (Ok value) = refl
text_no_link (Err f) = tt

array_no_link : (r : Result (Entries (List ℕ)) SubstFault) → IfOk (as_array r) NoLink
array_no_link (Ok es) = refl
array_no_link (Err f) = tt

module _ (g : List ℕ → Result (List ℕ) SubstFault) where
  text_written_own : (o : Option Slot) → IfOk (text_written g o) NoLink
  text_written_own None = text_no_link (g [])
  text_written_own (Some (Text value)) = text_no_link (g value)
  text_written_own (Some (Array es)) = tt
  text_written_own (Some (Link place)) = text_no_link (g [])

  element_written_own : (index : List ℕ) (o : Option Slot) → IfOk (element_written g index o) NoLink
  element_written_own index None = array_no_link (entry_written g index [])
  element_written_own index (Some (Text value)) = tt
  element_written_own index (Some (Array es)) = array_no_link (entry_written g index es)
  element_written_own index (Some (Link place)) = array_no_link (entry_written g index [])

  slot_written_own : (index : Option (List ℕ)) (o : Option Slot) → IfOk (slot_written g index o) NoLink
  slot_written_own None o = text_written_own o
  slot_written_own (Some index) o = element_written_own index o

  written_own : (variable : List ℕ) (index : Option (List ℕ)) (scope : Scope) → HasNoLink scope → IfOk (written g variable index scope) HasNoLink
  written_own variable index scope own = entered_own variable scope _ own (slot_written_own index (find variable scope))

found_no_link : (t : Bool) (x : Slot) (r : Option Slot) → NoLink x → leads r ≡ here → leads (cond t (Some x) r) ≡ here
found_no_link true x r none later = none
found_no_link false x r none later = later

find_no_link : (test : List ℕ → Bool) (es : Scope) → HasNoLink es → leads (lookup test es) ≡ here
find_no_link test [] own = refl
find_no_link test (e ∷ es) own = found_no_link (test e.0) e.1 (lookup test es) own.0 (find_no_link test es own.1)

abbrev Kept : Variables → Result Variables SubstFault → Type 0
Kept old r = IfOk r (λ new. KeepsOuter old new)

innermost : (globals scope : Scope) (outer : List Scope) (new : Scope) → with_scope_at 0 new (record { globals = globals; locals = scope ∷ outer }) ≡ record { globals = globals; locals = new ∷ outer }
innermost globals scope outer new =
    let some : nat_lt 0 (length (scope ∷ outer)) ≡ true = grind (arith, nat_tests) in
    ap (λ t. cond t (record { globals = globals; locals = new ∷ outer }) (record { globals = new; locals = scope ∷ outer })) some

kept_here : (globals scope : Scope) (outer : List Scope) (r : Result Scope SubstFault) → IfOk r HasNoLink → Kept (record { globals = globals; locals = scope ∷ outer }) (in_place here (record { globals = globals; locals = scope ∷ outer }) r)
kept_here globals scope outer (Ok new) own =
    subst (KeepsOuter (record { globals = globals; locals = scope ∷ outer })) (sym (innermost globals scope outer new)) (record { own = own; some = omega arith; globals = refl; outer = refl })
kept_here globals scope outer (Err f) own = tt

-- a variable written at a place
abbrev written_at : (List ℕ → Result (List ℕ) SubstFault) → List ℕ → Option (List ℕ) → Variables → VariablePlace → Result Variables SubstFault
written_at g variable index vars place = in_place place vars (written g (name_or variable place.name) index (scope_at place.calls vars))

kept_value : (g : List ℕ → Result (List ℕ) SubstFault) (name : List ℕ) (globals : Scope) (locals : List Scope) → IsOwn locals → Kept (record { globals = globals; locals = locals }) (with_value g name (record { globals = globals; locals = locals }))
kept_value g name globals [] own = absurd own
kept_value g name globals (scope ∷ outer) own =
    subst (λ place. Kept (record { globals = globals; locals = scope ∷ outer }) (written_at g (base name) (index name) (record { globals = globals; locals = scope ∷ outer }) place))
    (sym (find_no_link (is_name (base name)) scope own))
    (kept_here globals scope outer (written g (base name) (index name) scope) (written_own g (base name) (index name) scope own))

-- a variable that was written: only the innermost scope changed
pub with_value_keeps : (g : List ℕ → Result (List ℕ) SubstFault) (name : List ℕ) (old new : Variables) → IsOwn old.locals → with_value g name old ≡ Ok new → KeepsOuter old new
with_value_keeps g name old new own was = subst (Kept old) was (kept_value g name old.globals old.locals own)

own_some : (locals : List Scope) → IsOwn locals → 0 < length locals
own_some [] own = absurd own
own_some (scope ∷ outer) own = omega arith

-- nothing changed
pub keeps_all : (old : Variables) → IsOwn old.locals → KeepsOuter old old
keeps_all old own = record { own = own; some = own_some old.locals own; globals = refl; outer = refl }

pub keeps_on : (a b c : Variables) → KeepsOuter a b → KeepsOuter b c → KeepsOuter a c
keeps_on a b c k l = record { own = l.own; some = l.some; globals = l.globals ∙ k.globals; outer = l.outer ∙ k.outer }
