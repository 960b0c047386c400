-- The iterations of `foreach` (foreach(n)).
use Rattle.std.specs.Prelude.{ℕ, ◌*◌, max, Bool, true, false, List, [], ◌∷◌, ◌++◌, length, take, drop, map, flat_map, replicate, Option, Some, None, option_map, Ok, Err}
use Rattle.std.specs.Int.{div_ceil}
use Rattle.std.specs.List.{range_with_len}
use Rattle.tcl_subst.specs.Variables.{Variables}
use Rattle.tcl_results.specs.declared.code.Code.{Code}
use Rattle.tcl_results.specs.declared.code.Code.TheVariants as code
use Rattle.tcl_control.specs.declared.groups.Pair.{Pair}
use Rattle.tcl_results.specs.Texts.{wrong_args, bad_list}
use Rattle.tcl_results.specs.Said.{Said, ◌>>=◌, Outcome, told, list_of}
use Rattle.tcl_results.specs.Setting.{assigned}

-- A list of at least one name.
abbrev pub some_names : List (List ℕ) → Said (List (List ℕ))
some_names [] = Err bad_list
some_names (name ∷ names) = Ok (name ∷ names)

-- The first n elements. A missing element is empty.
abbrev pub padded : ℕ → List (List ℕ) → List (List ℕ)
padded n es = take n (es ++ replicate n [])

-- The elements that the names of a list take in iteration n, counted from 0. Each iteration takes one per name.
abbrev pub taken_in : ℕ → Pair → List (List ℕ)
taken_in n p = padded (length p.names) (drop (n * length p.names) p.elements)

-- The elements that all names take in iteration n, list by list.
abbrev pub values_in : List Pair → ℕ → List (List ℕ)
values_in ps n = flat_map (λ p. taken_in n p) ps

-- The number of iterations that take all elements of a list.
abbrev pub turns_for : Pair → ℕ
turns_for p = div_ceil (length p.elements) (length p.names)

-- The iterations go on until the elements of all lists are taken.
abbrev pub turn_count : List Pair → ℕ
turn_count [] = 0
turn_count (p ∷ ps) = max (turns_for p) (turn_count ps)

-- The elements of each iteration.
unfoldable pub all_turns : List Pair → List (List (List ℕ))
all_turns ps = map (values_in ps) (range_with_len 0 (turn_count ps))

abbrev pub all_names : List Pair → List (List ℕ)
all_names ps = flat_map (λ p. p.names) ps

-- All names were set.
abbrev pub is_set : Code → Bool
is_set code.Ok = true
is_set other = false

-- The names, and the elements of the remaining iterations.
pub record Turns : Type 0 where
  pub names : List (List ℕ)
  pub left : List (List (List ℕ))

abbrev pub turns : List Pair → Turns
turns ps = record { names = all_names ps; left = all_turns ps }

-- The names in a list. There must be at least one.
abbrev pub names_of : List ℕ → Said (List (List ℕ))
names_of text = list_of text >>= λ ns. some_names ns

-- A list of names, and the list of their elements.
abbrev pub pair_of : List ℕ → List ℕ → Said Pair
pair_of names l = names_of names >>= λ ns. list_of l >>= λ es. Ok (record { names = ns; elements = es })

abbrev pub pairs_of : List (List ℕ × List ℕ) → Said (List Pair)
pairs_of [] = Ok []
pairs_of (l ∷ ls) = pair_of l.0 l.1 >>= λ p. pairs_of ls >>= λ ps. Ok (p ∷ ps)

-- Each list of names with its list, and the body.
abbrev pub Lists : Type 0
Lists = List (List ℕ × List ℕ) × List ℕ

abbrev pub with_list : List ℕ → List ℕ → Lists → Lists
with_list names l lists = ((names, l) ∷ lists.0, lists.1)

-- foreach varlist1 list1 ?varlist2 list2 ...? body
abbrev pub lists_in : List (List ℕ) → Option Lists
lists_in (names ∷ l ∷ body ∷ []) = Some ((names, l) ∷ [], body)
lists_in (names ∷ l ∷ more) = option_map (with_list names l) (lists_in more)
lists_in args = None

abbrev pub or_wrong : List ℕ → Option Lists → Said Lists
or_wrong command None = Err (wrong_args command)
or_wrong command (Some lists) = Ok lists

-- The iterations and the body. The number of arguments is checked before any list is parsed.
abbrev pub each_of : List ℕ → List (List ℕ) → Said (Turns × List ℕ)
each_of command args = or_wrong command (lists_in args) >>= λ lists. pairs_of lists.0 >>= λ ps. Ok (turns ps, lists.1)

abbrev pub turned_by : List (List ℕ) → List (List (List ℕ)) → Variables → Outcome
turned_by names [] vars = told (Ok []) vars
turned_by names (es ∷ left) vars = assigned names es vars

-- Sets the names for the next iteration.
abbrev pub turned : Turns → Variables → Outcome
turned t vars = turned_by t.names t.left vars

-- The iterations after the next one.
abbrev pub behind : Turns → Turns
behind t = record { names = t.names; left = drop 1 t.left }
