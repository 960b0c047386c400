-- The spawn ids that patterns are for, and the children that take part in an `expect` (expect(1), `-i`).
use Rattle.std.specs.Prelude.{ℕ, suc, ◌+◌, ◌==◌, nat_lt, List, [], ◌∷◌, ◌++◌, map, codes, Bool, true, false, ◌||◌, if◌then◌else◌, None, Ok, Err, ⊤}
use Rattle.std.specs.List.{list_any}
use Rattle.std.specs.Str.{bytes_eq}
use Rattle.exp_match.specs.declared.list.PatternList.{PatternList}
use Rattle.exp_match.specs.Choice.{serves}
use Rattle.tcl_subst.specs.Variables.{Variables}
use Rattle.tcl_results.specs.Said.{Said, ◌>>=◌, list_of}
use Rattle.expect_core.specs.declared.served.Id.{Id}
use Rattle.expect_core.specs.declared.served.Id.TheVariants.{Any, One}
use Rattle.expect_core.specs.declared.own.Own.{Own}
use Rattle.expect_core.specs.Ids.{known, open_to, if_open}
use Rattle.expect_core.specs.Heard.{Watch}
use Rattle.expect_core.specs.Texts.{no_such_id}

-- The spawn ids that a group of patterns is for.
abbrev pub Served : Type 0
Served = List Id

-- There is no `-i`.
abbrev pub is_none : List (List ℕ) → Bool
is_none [] = true
is_none (id ∷ ids) = false

-- The child of the variable `spawn_id` takes part if there is no `-i`. It also takes part if a pattern or keyword other
-- than `timeout` comes before the first `-i`.
abbrev pub takes_current : PatternList → Bool
takes_current list = is_none list.ids || serves 0 list.entries

-- The word `any`, or the id of a child that is known and open.
abbrev pub id_named : List ℕ → Own → Said Id
id_named name o = if bytes_eq name (codes "any") then Ok Any else (known name o >>= λ i. if_open i o >>= λ i. Ok (One i))

-- Appends the ids with these names, in their order.
abbrev pub ids_named : Served → List (List ℕ) → Own → Said Served
ids_named ids [] o = Ok ids
ids_named ids (name ∷ names) o = id_named name o >>= λ id. ids_named (ids ++ id ∷ []) names o

-- A list of ids has at least one.
abbrev pub some_named : List (List ℕ) → Own → Said Served
some_named [] o = Err (no_such_id [])
some_named (name ∷ names) o = ids_named [] (name ∷ names) o

-- The ids of the list after an `-i`.
abbrev pub ids_in : List ℕ → Own → Said Served
ids_in word o = list_of word >>= λ names. some_named names o

-- Appends the ids after each `-i`.
abbrev pub ids_in_each : List Served → List (List ℕ) → Own → Said (List Served)
ids_in_each groups [] o = Ok groups
ids_in_each groups (word ∷ words) o = ids_in word o >>= λ ids. ids_in_each (groups ++ ids ∷ []) words o

-- The ids of group 0: the child of the variable `spawn_id`, if it takes part.
abbrev pub current_ids : Bool → Variables → Own → Said Served
current_ids false vars o = Ok []
current_ids true vars o = open_to None vars o >>= λ i. Ok (One i ∷ [])

-- The ids of each group, in the order of the arguments. Group g follows the g-th `-i`.
abbrev pub asked_by : Bool → PatternList → Variables → Own → Said (List Served)
asked_by takes list vars o = current_ids takes vars o >>= λ ids. ids_in_each (ids ∷ []) list.ids o

-- The places of the children that these ids name, in their order.

abbrev pub children_in : Served → List ℕ
children_in [] = []
children_in (Any ∷ ids) = children_in ids
children_in (One i ∷ ids) = i ∷ children_in ids

abbrev pub children_of : List Served → List ℕ
children_of [] = []
children_of (ids ∷ groups) = children_in ids ++ children_of groups

-- The number of first places that are below this one.
abbrev pub rank_of : ℕ → List ℕ → ℕ
rank_of i [] = 0
rank_of i (k ∷ ks) = if nat_lt k i then suc (rank_of i ks) else 0

-- Inserts a place in its order, unless it is there.
abbrev pub with_place : ℕ → List ℕ → List ℕ
with_place i [] = i ∷ []
with_place i (k ∷ ks) =
    if nat_lt k i then k ∷ with_place i ks
    else if k == i then k ∷ ks
    else i ∷ k ∷ ks

abbrev pub with_places : List ℕ → List ℕ → List ℕ
with_places [] ks = ks
with_places (i ∷ is) ks = with_places is (with_place i ks)

-- `any` serves each child that takes part.
abbrev pub is_for : ℕ → Id → Bool
is_for i Any = true
is_for i (One k) = k == i

-- The numbers, from g on, of the groups that serve the child at a place.
abbrev pub serving : ℕ → ℕ → List Served → List ℕ
serving i g [] = []
serving i g (ids ∷ groups) = if list_any (is_for i) ids then g ∷ serving i (g + 1) groups else serving i (g + 1) groups

-- The children that groups name take part, in order of places, each with the groups that serve it.
abbrev pub sides_of : List Served → List Watch
sides_of groups = map (λ i. (i, serving i 0 groups)) (with_places (children_of groups) [])

-- All of them must still be open. They are checked in this order.
abbrev pub still_open : List ℕ → Own → Said ⊤
still_open [] o = Ok tt
still_open (i ∷ is) o = if_open i o >>= λ k. still_open is o
