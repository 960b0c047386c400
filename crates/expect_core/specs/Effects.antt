-- What the effects of a turn change: the child that it is about, or what all children share.
use Rattle.std.specs.Prelude.{ℕ, ◌+◌, nat_lt, min, List, [], ◌∷◌, ◌++◌, length, drop, Bool, true, if◌then◌else◌, Option, Some, None}
use Rattle.circular_buffer.specs.Buffer.{keep_last}
use Rattle.tty.specs.declared.modes.Modes.{Modes}
use Rattle.tcl_subst.specs.Variables.{Variables}
use Rattle.expect_core.specs.declared.child.Change.{Change}
use Rattle.expect_core.specs.declared.child.Change.TheVariants.{Stand, Waited, Sent, Take, Size, Removal}
use Rattle.expect_core.specs.declared.child.Child.{Child}
use Rattle.expect_core.specs.declared.effect.Effect.{Effect}
use Rattle.expect_core.specs.declared.effect.Effect.TheVariants.{Tell, Log, LogUser, Add, Store, Set, Ask, Receive, Reader, Writer, Move, Shut, Errors, Day, Before, After, Alter}
use Rattle.expect_core.specs.declared.own.Own.{Own}
use Rattle.expect_core.specs.Opened.{reading, writing, opened, moved, let_go}
use Rattle.expect_core.specs.Owned.{child_as, child_of, with_child, told, logged, asked, received}
use Rattle.expect_core.specs.Scoped.{Unset, set_all}
use Rattle.expect_core.specs.Standing.{left_by}
use Rattle.expect_core.specs.Texts.{id_at}

abbrev pub altered : Change → Child → Child
altered (Stand s) child = record child { standing = s }
altered Waited child = record child { waited = true }
altered (Sent n) child = record child { sent = min (child.sent + n) 18446744073709551615 }
altered (Take n) child = record child { kept = record child.kept { bytes = drop n child.kept.bytes } }
altered (Size n) child = record child { kept = record { bytes = keep_last n child.kept.bytes; size = n } }
altered (Removal on) child = record child { remove_nulls = on }

-- Without a child, a change sets the buffer size and the removal of NUL bytes of later children.

abbrev pub size_by : Change → ℕ → ℕ
size_by (Size n) size = n
size_by other size = size

abbrev pub removal_by : Change → Bool → Bool
removal_by (Removal on) remove = on
removal_by other remove = remove

abbrev pub to_come : Change → Own → Own
to_come x o = record o { size = size_by x o.size; remove_nulls = removal_by x o.remove_nulls }

-- Adds a child if there are fewer than 16.
abbrev pub added : Modes → Own → Own
added modes o =
    let i = length o.children in
    if nat_lt i 16 then record o { children = o.children ++ child_as (id_at i) modes o.size o.remove_nulls ∷ [] } else o

abbrev pub changed : Option ℕ → Effect → Own → Own
changed at (Tell text) o = told text o
changed at (Log text) o = logged text o
changed at (LogUser on) o = record o { log_user = on }
changed at (Add modes) o = added modes o
changed at (Store pairs) o = o
changed at (Set name value) o = o
changed (Some i) (Ask act) o = asked i act o
changed None (Ask act) o = o
changed (Some i) (Receive piece) o = received i piece o
changed None (Receive piece) o = o
changed (Some i) (Reader bytes ended) o = opened (reading i bytes ended) o
changed None (Reader bytes ended) o = o
changed (Some i) Writer o = opened (writing i) o
changed None Writer o = o
changed at (Move n count met) o = moved n count met o
changed at (Shut n) o = let_go n o
changed (Some i) Errors o = record o { errors = Some i }
changed None Errors o = o
changed at (Day time) o = record o { day = Some (time, o.clock) }
changed at (Before ids more) o = record o { before = left_by ids o.children o.before ++ more }
changed at (After ids more) o = record o { after = left_by ids o.children o.after ++ more }
changed (Some i) (Alter x) o = with_child i (altered x (child_of i o)) o
changed None (Alter x) o = to_come x o

-- The variables after an effect, or the error for the first that can't be set.
abbrev pub stored : Effect → Variables → Variables × Unset
stored (Store pairs) vars = set_all pairs vars
stored (Set name value) vars = set_all ((name, value) ∷ []) vars
stored other vars = (vars, None)

abbrev pub Performed : Type 0
Performed = Unset × Variables × Own

abbrev pub unless : Variables × Unset → Own → (Variables → Performed) → Performed
unless (vars, None) o more = more vars
unless (vars, Some text) o more = (Some text, vars, o)

-- Effects are performed in order, up to the first that fails.
abbrev pub performed : Option ℕ → List Effect → Variables → Own → Performed
performed at [] vars o = (None, vars, o)
performed at (x ∷ xs) vars o = unless (stored x vars) o (λ vars. performed at xs vars (changed at x o))
