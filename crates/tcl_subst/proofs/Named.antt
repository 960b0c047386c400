-- Entries whose names are the bytes of their keys.
use Rattle.std.proofs.Common.{◌≡◌, ℕ, Bool, true, false, cond, List, [], ◌∷◌, Option, Some, None, unwrap_or, is_some, Result, Ok, Err, if◌then◌else◌, map, refl, sym, ap, ◌∙◌}
use mathlib.Core.Option as mathlib
use Rattle.std.proofs.Math.Path.{fun_ext}
use base.Fml.{GName}
use borrow.Follows.Closed.{read_of}
use Rattle.std.specs.Prelude.{OnOk}
use Rattle.std.specs.Ordering.{match_ordering}
use Rattle.std.specs.declared.cmp.Ordering.{Ordering}
use Rattle.std.specs.declared.cmp.Ordering.TheVariants.{Less, Equal, Greater}
use Rattle.std.specs.Map.{lookup, set_value, remove_entry}
use Rattle.std.specs.BTreeMap.{insert_entry}
use Rattle.tcl_subst.specs.declared.faults.SubstFault.{SubstFault}
use Rattle.tcl_subst.specs.Entries.{Entries, order, is_name, find, changed, with_entry}
use Rattle.tcl_subst.specs.Faults.{Changes}
use Rattle.tcl_subst.specs.Slots.{entered}

of_choice : {A B : Type 0} (f : A → B) (t : Bool) (x y : A) → f (cond t x y) ≡ cond t (f x) (f y)
of_choice f true x y = refl
of_choice f false x y = refl

of_ordering : {A B : Type 0} (f : A → B) (o : Ordering) (x y z : A) → f (match_ordering o x y z) ≡ match_ordering o (f x) (f y) (f z)
of_ordering f Less x y z = refl
of_ordering f Equal x y z = refl
of_ordering f Greater x y z = refl

module _ {K X : Type 0} (name_of : K → List ℕ) where
  abbrev pub named : List (K × X) → Entries X
  named es = map (λ e. (name_of e.0, e.1)) es

  pub lookup_named : (test : List ℕ → Bool) (es : List (K × X)) → lookup (λ k. test (name_of k)) es ≡ lookup test (named es)
  lookup_named test [] = refl
  lookup_named test (e ∷ es) = ap (λ r. cond (test (name_of e.0)) (Some e.1) r) (lookup_named test es)

  pub remove_named : (test : List ℕ → Bool) (es : List (K × X)) → named (remove_entry (λ k. test (name_of k)) es) ≡ remove_entry test (named es)
  remove_named test [] = refl
  remove_named test (e ∷ es) =
      of_choice named (test (name_of e.0)) es (e ∷ remove_entry (λ k. test (name_of k)) es)
      ∙ ap (λ r. cond (test (name_of e.0)) (named es) ((name_of e.0, e.1) ∷ r)) (remove_named test es)

  pub set_named : (test : List ℕ → Bool) (es : List (K × X)) (x : X) → named (set_value (λ k. test (name_of k)) es x) ≡ set_value test (named es) x
  set_named test [] x = refl
  set_named test (e ∷ es) x =
      of_choice named (test (name_of e.0)) ((e.0, x) ∷ es) (e ∷ set_value (λ k. test (name_of k)) es x)
      ∙ ap (λ r. cond (test (name_of e.0)) ((name_of e.0, x) ∷ named es) ((name_of e.0, e.1) ∷ r)) (set_named test es x)

  pub insert_named : (k : K) (x : X) (es : List (K × X)) → named (insert_entry (λ a b. order (name_of a) (name_of b)) es k x) ≡ insert_entry order (named es) (name_of k) x
  insert_named k x [] = refl
  insert_named k x (e ∷ es) =
      of_ordering named (order (name_of k) (name_of e.0)) ((k, x) ∷ e ∷ es) ((e.0, x) ∷ es) (e ∷ insert_entry (λ a b. order (name_of a) (name_of b)) es k x)
      ∙ ap (λ r. match_ordering (order (name_of k) (name_of e.0)) ((name_of k, x) ∷ (name_of e.0, e.1) ∷ named es) ((name_of e.0, x) ∷ named es) ((name_of e.0, e.1) ∷ r)) (insert_named k x es)

-- what is lent of entries is put in as they are
module _ {K Y X : Type 0} (name_of : K → List ℕ) (value_of : Y → X) where
  pub insert_seen : (k : K) (y : Y) (es : List (K × Y)) → map (λ e. (name_of e.0, value_of e.1)) (insert_entry (λ a b. order (name_of a) (name_of b)) es k y) ≡ insert_entry order (map (λ e. (name_of e.0, value_of e.1)) es) (name_of k) (value_of y)
  insert_seen k y [] = refl
  insert_seen k y (e ∷ es) =
      of_ordering (map (λ e. (name_of e.0, value_of e.1))) (order (name_of k) (name_of e.0)) ((k, y) ∷ e ∷ es) ((e.0, y) ∷ es) (e ∷ insert_entry (λ a b. order (name_of a) (name_of b)) es k y)
      ∙ ap (λ r. match_ordering (order (name_of k) (name_of e.0)) ((name_of k, value_of y) ∷ (name_of e.0, value_of e.1) ∷ map (λ e. (name_of e.0, value_of e.1)) es) ((name_of e.0, value_of y) ∷ map (λ e. (name_of e.0, value_of e.1)) es) ((name_of e.0, value_of e.1) ∷ r)) (insert_seen k y es)

-- a name that isn't there is put in
pub put_new : {X : Type 0} (name : List ℕ) (x : X) (es : Entries X) → find name es ≡ None → insert_entry order es name x ≡ with_entry name x es
put_new name x es none = sym (ap (λ o. if is_some o then changed name x es else insert_entry order es name x) none)

-- what a name names already is changed
pub put_old : {X : Type 0} (name : List ℕ) (x y : X) (es : Entries X) → Some x ≡ find name es → with_entry name y es ≡ changed name y es
put_old name x y es there = ap (λ o. if is_some o then changed name y es else insert_entry order es name y) (sym there)

some_same : {X : Type 0} (x y : X) → Some x ≡ Some y → x ≡ y
some_same x y e = ap (λ o. unwrap_or o x) e

set_here : {X : Type 0} (t : Bool) (name : List ℕ) (x y : X) (es r : Entries X) (s : Option X) → Some x ≡ cond t (Some y) s → (Some x ≡ s → r ≡ es) → cond t ((name, x) ∷ es) ((name, y) ∷ r) ≡ (name, y) ∷ es
set_here true name x y es r s here on = ap (λ z. (name, z) ∷ es) (some_same x y here)
set_here false name x y es r s here on = ap (λ z. (name, y) ∷ z) (on here)

-- and stays where it is changed to itself
pub changed_same : {X : Type 0} (name : List ℕ) (x : X) (es : Entries X) → Some x ≡ find name es → changed name x es ≡ es
changed_same name x [] there = refl
changed_same name x (e ∷ es) there = set_here (is_name name e.0) e.0 x e.1 es (changed name x es) (find name es) there (changed_same name x es)

-- a change of what a name names is a change of the entries
pub entry_changes : {X Y : Type 0} (r : Result Y SubstFault) (meant : Result X SubstFault) (name : List ℕ) (es : Entries X) (x y : X) → Some x ≡ find name es → Changes r meant x y
    → Changes r (entered name es meant) es (changed name y es)
entry_changes (Ok u) meant name es x y there is = ap (entered name es) is ∙ ap (λ es. Ok es) (put_old name x y es there)
entry_changes (Err f) meant name es x y there is = (ap (λ z. changed name z es) is.0 ∙ changed_same name x es there, λ n. ap (entered name es) (is.1 n))

pub on_ok : {Y E : Type 0} (r : Result Y E) (A B : Type 0) → (A → B) → OnOk r A → OnOk r B
on_ok (Ok y) A B f a = f a
on_ok (Err e) A B f a = tt

-- what a loan leaves, for each value that is written and where nothing is lent
pub left_alike : {D E : Type 0} (loan : mathlib.Option GName) (f g : E → D) (u v : D) → ((w : E) → f w ≡ g w) → u ≡ v → read_of loan f u ≡ read_of loan g v
left_alike loan f g u v each none = ap (λ h. read_of loan h u) (fun_ext each) ∙ ap (λ x. read_of loan g x) none
