-- Entries by name: a list of names and their values, in byte order of names.
use Rattle.std.specs.Prelude.{ℕ, Bool, List, Option, is_some, if◌then◌else◌}
use Rattle.std.specs.Ordering.{nat_cmp}
use Rattle.std.specs.Cmp.Lexicographic.{slice_cmp}
use Rattle.std.specs.declared.cmp.Ordering.{Ordering}
use Rattle.std.specs.Map.{lookup, set_value, remove_entry}
use Rattle.std.specs.BTreeMap.{insert_entry, is_at}

abbrev pub Entries : Type 0 → Type 0
Entries X = List (List ℕ × X)

-- Names are compared byte by byte.
abbrev pub order : List ℕ → List ℕ → Ordering
order = slice_cmp nat_cmp

abbrev pub is_name : List ℕ → List ℕ → Bool
is_name name = is_at (order name)

module _ {X : Type 0} where
  -- The value of a name, or `None`.
  abbrev pub find : List ℕ → Entries X → Option X
  find name es = lookup (is_name name) es

  -- The entries without a name.
  abbrev pub without : List ℕ → Entries X → Entries X
  without name es = remove_entry (is_name name) es

  -- The entries with a new value for a name that is present.
  abbrev pub changed : List ℕ → X → Entries X → Entries X
  changed name x es = set_value (is_name name) es x

  -- The entries with a value for a name, whether it is present or not.
  abbrev pub with_entry : List ℕ → X → Entries X → Entries X
  with_entry name x es = if is_some (find name es) then changed name x es else insert_entry order es name x
