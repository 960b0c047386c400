-- Standing patterns: those of `expect_before` and `expect_after` belong to each later `expect` (expect(1)).
use Rattle.std.specs.Prelude.{ℕ, ◌+◌, ◌==◌, nat_lt, List, [], ◌∷◌, ◌++◌, map, length, take, filter, slice_index_or, Bool, true, false, not, ◌&&◌, ◌||◌, Option, None}
use Rattle.std.specs.List.{list_any}
use Rattle.exp_match.specs.declared.entry.Entry.{Entry}
use Rattle.exp_match.specs.declared.list.PatternList.{PatternList}
use Rattle.expect_core.specs.declared.child.Child.{Child}
use Rattle.expect_core.specs.declared.served.Id.{Id}
use Rattle.expect_core.specs.declared.served.Id.TheVariants.{Any, One}
use Rattle.expect_core.specs.declared.standing.StandingEntry.{StandingEntry}
use Rattle.expect_core.specs.declared.plan.Span.{Span}
use Rattle.expect_core.specs.declared.plan.Plan.{Plan}
use Rattle.expect_core.specs.declared.own.Own.{Own}
use Rattle.expect_core.specs.Owned.{child_in}
use Rattle.expect_core.specs.Ids.{is_open}
use Rattle.expect_core.specs.Sides.{Served, is_none, sides_of}

-- The ids of a standing entry.

abbrev pub is_same : Id → Id → Bool
is_same Any Any = true
is_same Any (One k) = false
is_same (One i) Any = false
is_same (One i) (One k) = i == k

-- Its child was not closed. `any` always stands.
abbrev pub stands : List Child → Id → Bool
stands children Any = true
stands children (One i) = is_open (child_in i children).standing

-- The id stays with its entries: it stands, and is none of those that leave.
abbrev pub stays : Served → List Child → Id → Bool
stays leaving children id = stands children id && not (list_any (is_same id) leaving)

-- An entry that no id has goes.
abbrev pub with_ids : Served → StandingEntry → List StandingEntry → List StandingEntry
with_ids [] s ss = ss
with_ids (id ∷ ids) s ss = record s { ids = id ∷ ids } ∷ ss

-- What is left of entries after these ids have left them, and the ids of closed children.
abbrev pub left_by : Served → List Child → List StandingEntry → List StandingEntry
left_by leaving children [] = []
left_by leaving children (s ∷ ss) = with_ids (filter (stays leaving children) s.ids) s (left_by leaving children ss)

-- The entries that stand.

abbrev pub before : Own → List StandingEntry
before o = left_by [] o.children o.before

abbrev pub after : Own → List StandingEntry
after o = left_by [] o.children o.after

-- `expect_before` and `expect_after`.

-- Without `-i`, the entries are for the child of the variable `spawn_id`. So are those before the first `-i`.
abbrev pub is_for_current : PatternList → Bool
is_for_current list = is_none list.ids || list_any (λ e. e.group == 0) list.entries

-- The entries of a list, each with the ids of its group.
abbrev pub as_standing : List Served → List Entry → List StandingEntry
as_standing groups [] = []
as_standing groups (e ∷ es) = record { ids = slice_index_or groups e.group []; entry = e } ∷ as_standing groups es

abbrev pub all_ids : List Served → Served
all_ids [] = []
all_ids (ids ∷ groups) = ids ++ all_ids groups

-- An `expect` with its own patterns between those of `expect_before` and those of `expect_after`.

abbrev pub ids_of_each : List StandingEntry → List Served
ids_of_each ss = map (λ s. s.ids) ss

-- Each standing entry has a group of its own, from group g on.
abbrev pub in_groups : ℕ → List StandingEntry → List Entry
in_groups g [] = []
in_groups g (s ∷ ss) = record s.entry { group = g } ∷ in_groups (g + 1) ss

-- The ids of all groups: its own groups, and those of both lists.

abbrev pub ids_before : List Served → Own → List Served
ids_before groups o = groups ++ ids_of_each (before o)

abbrev pub ids_with : List Served → Own → List Served
ids_with groups o = ids_before groups o ++ ids_of_each (after o)

-- Its own entries are those of its own groups.
abbrev pub own_entries : ℕ → List Entry → List Entry
own_entries n es = filter (λ e. nat_lt e.group n) es

abbrev pub entries_with : List Served → List Entry → Own → List Entry
entries_with groups es o =
    in_groups (length groups) (before o) ++ own_entries (length groups) es ++ in_groups (length (ids_before groups o)) (after o)

-- What an `expect` waits for, given its own list and the ids of its own groups.
abbrev pub planned : PatternList → List Served → Span → Option ℕ → Own → Plan
planned list groups span deadline o = record {
  sides = sides_of (ids_with groups o);
  ids = ids_with groups o;
  list = record list { entries = entries_with groups list.entries o };
  span = span;
  deadline = deadline;
  met = None;
  pending = None;
}

-- The ids of its own groups.
abbrev pub own_ids : Plan → List Served
own_ids p = take (length p.list.ids + 1) p.ids
