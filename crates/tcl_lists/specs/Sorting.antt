-- Sorted lists (lsort(n)).
use Rattle.std.specs.Prelude.{ℕ, ◌+◌, Bool, true, false, ◌&&◌, List, [], ◌∷◌, length, drop, map, slice_index_or, Option, Some, None, Ok, Err, ℤ, pos, if◌then◌else◌}
use Rattle.std.specs.Cmp.Lexicographic.{slice_cmp}
use Rattle.std.specs.List.Sorted.{ties}
use Rattle.std.specs.Ordering.{nat_cmp, int_cmp, is_lt}
use Rattle.tcl_words.specs.Lists.{written}
use Rattle.command_table.specs.declared.switches.Switches.TheVariants.{Sort}
use Rattle.tcl_lists.specs.declared.sorting.Entry.{Entry}
use Rattle.tcl_results.specs.declared.switches.Given.{Given}
use Rattle.tcl_results.specs.Texts.{bad_index}
use Rattle.tcl_results.specs.Cases.{folded}
use Rattle.tcl_results.specs.Given.{arg}
use Rattle.tcl_results.specs.Indices.{index_of, at_place}
use Rattle.tcl_results.specs.Switches.{flags_of}
use Rattle.tcl_results.specs.Said.{Said, ◌>>=◌, limited, list_of, as_number}

module _ {X : Type 0} (before : X → X → Bool) where
  -- Inserts an element into a sorted list: after those that come before it, and before all others.
  abbrev pub put : X → List X → List X
  put x [] = x ∷ []
  put x (y ∷ ys) = if before y x then y ∷ put x ys else x ∷ y ∷ ys

  -- The sorted list. Equal elements keep their order.
  abbrev pub in_order : List X → List X
  in_order [] = []
  in_order (x ∷ xs) = put x (in_order xs)

-- Compares numbers, or the bytes of keys.
abbrev pub is_lower : Given → Entry → Entry → Bool
is_lower g x y = if g.integer then is_lt (int_cmp x.number y.number) else is_lt (slice_cmp nat_cmp x.key y.key)

abbrev pub comes_before : Given → Entry → Entry → Bool
comes_before g x y = if g.decreasing then is_lower g y x else is_lower g x y

-- `-unique` drops an element because it is equal to the next one.
abbrev pub is_left_out : Given → Entry → List Entry → Bool
is_left_out g x [] = false
is_left_out g x (y ∷ ys) = g.unique && ties (comes_before g) x y

abbrev pub chosen : Given → List Entry → List Entry
chosen g [] = []
chosen g (x ∷ xs) = if is_left_out g x xs then chosen g xs else x ∷ chosen g xs

abbrev pub some_element : List ℕ → Option (List ℕ) → Said (List ℕ)
some_element i None = Err (bad_index i)
some_element i (Some e) = Ok e

abbrev pub part_of : List ℕ → List ℕ → Said (List ℕ)
part_of i e = list_of e >>= λ es. index_of (length es) i >>= λ at. some_element i (at_place at es)

-- The sort key: the element itself, or the part that `-index` denotes. Its value is the argument at index n.
abbrev pub key_of : Option ℕ → List (List ℕ) → List ℕ → Said (List ℕ)
key_of None args e = Ok e
key_of (Some n) args e = part_of (arg n args) e

abbrev pub number_by : Bool → List ℕ → Said ℤ
number_by true key = as_number key
number_by false key = Ok (pos 0)

abbrev pub entry : Given → ℕ → List ℕ → ℤ → Entry
entry g n key number = record { key = folded g.nocase key; number = number; place = n }

abbrev pub entry_of : Given → List (List ℕ) → ℕ → List ℕ → Said Entry
entry_of g args n e = key_of g.index args e >>= λ key. number_by g.integer key >>= λ number. Ok (entry g n key number)

-- The entries of elements. The first element has index n.
abbrev pub entries_from : Given → List (List ℕ) → ℕ → List (List ℕ) → Said (List Entry)
entries_from g args n [] = Ok []
entries_from g args n (e ∷ es) = entry_of g args n e >>= λ x. entries_from g args (n + 1) es >>= λ xs. Ok (x ∷ xs)

-- The elements of entries.
abbrev pub elements_at : List (List ℕ) → List Entry → List (List ℕ)
elements_at es xs = map (λ x. slice_index_or es x.place []) xs

abbrev pub list_sorted : Given → List (List ℕ) → List ℕ → Said (List ℕ)
list_sorted g args l = list_of l >>= λ es. entries_from g args 0 es >>= λ xs. limited (written (elements_at es (chosen g (in_order (comes_before g) xs))))

-- lsort ?-integer? ?-decreasing? ?-unique? ?-nocase? ?-index index? list
abbrev pub lsort : List ℕ → List (List ℕ) → Said (List ℕ)
lsort command args = flags_of Sort 1 command args >>= λ p. list_sorted p.0 args (arg 0 (drop p.1 args))
