-- The child that a command is for.
use Rattle.std.specs.Prelude.{ℕ, List, codes, Bool, true, false, ◌&&◌, Option, Some, None, position, if◌then◌else◌, Ok, Err}
use Rattle.std.specs.Str.{bytes_eq}
use Rattle.tcl_subst.specs.Variables.{Variables}
use Rattle.tcl_results.specs.Said.{Said, ◌>>=◌}
use Rattle.expect_core.specs.declared.child.Standing.{Standing}
use Rattle.expect_core.specs.declared.child.Standing.TheVariants.{Unborn, Open, Closed}
use Rattle.expect_core.specs.declared.child.Child.{Child}
use Rattle.expect_core.specs.declared.own.Own.{Own}
use Rattle.expect_core.specs.Owned.{child_of}
use Rattle.expect_core.specs.Scoped.{needed}
use Rattle.expect_core.specs.Texts.{no_such_id, not_open}

abbrev pub is_born : Standing → Bool
is_born Unborn = false
is_born Open = true
is_born Closed = true

abbrev pub is_open : Standing → Bool
is_open Unborn = false
is_open Open = true
is_open Closed = false

abbrev pub has_id : List ℕ → Child → Bool
has_id id child = is_born child.standing && bytes_eq child.id id

abbrev pub or_no_such : List ℕ → Option ℕ → Said ℕ
or_no_such id None = Err (no_such_id id)
or_no_such id (Some i) = Ok i

-- The child with a spawn id.
abbrev pub known : List ℕ → Own → Said ℕ
known id o = or_no_such id (position (has_id id) o.children)

-- The spawn id after `-i`, or else the value of the variable `spawn_id`.
abbrev pub id_of : Option (List ℕ) → Variables → Said (List ℕ)
id_of (Some id) vars = Ok id
id_of None vars = needed (codes "spawn_id") vars

abbrev pub spoken_to : Option (List ℕ) → Variables → Own → Said ℕ
spoken_to id vars o = id_of id vars >>= λ name. known name o

abbrev pub if_open : ℕ → Own → Said ℕ
if_open i o = if is_open (child_of i o).standing then Ok i else Err (not_open (child_of i o).id)

-- The child, or an error if it isn't open.
abbrev pub open_to : Option (List ℕ) → Variables → Own → Said ℕ
open_to id vars o = spoken_to id vars o >>= λ i. if_open i o
