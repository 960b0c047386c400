-- Entries with short names and entries with long names, as one list in byte order of names.
use Rattle.std.specs.Prelude.{ℕ, Bool, T, not, nat_le, List, [], ◌∷◌, ◌++◌, length}
use Rattle.std.specs.BTreeMap.{insert_entry}
use Rattle.std.specs.FinMap.Entries.{where_key, is_sorted}
use Rattle.tcl_subst.specs.Entries.{Entries, order}

abbrev pub is_short : List ℕ → Bool
is_short name = nat_le (length name) 15

module _ {X : Type 0} where
  abbrev pub in_order : Entries X → Entries X
  in_order [] = []
  in_order (e ∷ es) = insert_entry order (in_order es) e.0 e.1

  -- The entries with short names of the first list, and those with long names of the second.
  abbrev pub both : Entries X → Entries X → Entries X
  both short long = in_order (where_key order is_short short ++ where_key order (λ name. not (is_short name)) long)

  -- Each name is less than the later ones.
  abbrev pub Sorted : Entries X → Type 0
  Sorted es = T (is_sorted order es)
