-- `match_max` and `remove_nulls` (expect(1)).
use Rattle.std.specs.Prelude.{ℕ, nat_le, ◌&&◌, List, [], ◌∷◌, codes, Bool, true, false, if◌then◌else◌, Option, Some, None, Ok, Err, ℤ, pos, negsuc, slice_get}
use Rattle.std.specs.Str.{bytes_eq}
use Rattle.std.specs.Fmt.{decimal}
use Rattle.command_table.specs.declared.commands.ExpectCommand.{ExpectCommand}
use Rattle.command_table.specs.declared.commands.ExpectCommand.TheVariants as command
use Rattle.tcl_expr.specs.Number.{number_of}
use Rattle.tcl_subst.specs.Variables.{Variables}
use Rattle.tcl_results.specs.Said.{Said, ◌>>=◌}
use Rattle.expect_core.specs.declared.flags.Flags.{Flags}
use Rattle.expect_core.specs.declared.child.Change.TheVariants.{Size, Removal}
use Rattle.expect_core.specs.declared.effect.Effect.TheVariants.{Alter}
use Rattle.expect_core.specs.declared.turn.Deed.{Deed}
use Rattle.expect_core.specs.declared.own.Own.{Own}
use Rattle.expect_core.specs.Flags.{arguments}
use Rattle.expect_core.specs.Owned.{size_at, removes_at}
use Rattle.expect_core.specs.Ids.{open_to}
use Rattle.expect_core.specs.Texts.{bad_size, bad_removal, bit}
use Rattle.expect_core.specs.Turns.{done, over_at}

-- Whose option is meant: that of the child at a place, or with `-d` that of later children.
abbrev pub whose : Flags → Variables → Own → Said (Option ℕ)
whose f vars o = if f.on then Ok None else (open_to f.id vars o >>= λ i. Ok (Some i))

-- Whose option is meant, and the new value if there is one.
abbrev pub option_of : ExpectCommand → List ℕ → List (List ℕ) → Variables → Own → Said (Option ℕ × Option (List ℕ))
option_of c name args vars o = arguments c name args >>= λ f. whose f.0 vars o >>= λ at. Ok (at, slice_get f.1 0)

-- match_max ?-d? ?-i spawn_id? ?size?

abbrev pub size_by : List ℕ → Option ℤ → Said ℕ
size_by text (Some (pos n)) = if nat_le 1 n && nat_le n 1000000 then Ok n else Err (bad_size text)
size_by text (Some (negsuc n)) = Err (bad_size text)
size_by text None = Err (bad_size text)

abbrev pub size_of : List ℕ → Said ℕ
size_of text = size_by text (number_of text)

abbrev pub sizing_at : Option ℕ → Option (List ℕ) → Own → Said Deed
sizing_at at None o = Ok (over_at at [] (done (decimal (size_at at o))))
sizing_at at (Some text) o = size_of text >>= λ n. Ok (over_at at (Alter (Size n) ∷ []) (done []))

abbrev pub sizing : List ℕ → List (List ℕ) → Variables → Own → Said Deed
sizing name args vars o = option_of command.MatchMax name args vars o >>= λ s. sizing_at s.0 s.1 o

-- remove_nulls ?-d? ?-i spawn_id? ?value?

abbrev pub removal_of : List ℕ → Said Bool
removal_of text =
    if bytes_eq text (codes "0") then Ok false
    else if bytes_eq text (codes "1") then Ok true
    else Err (bad_removal text)

abbrev pub removing_at : Option ℕ → Option (List ℕ) → Own → Said Deed
removing_at at None o = Ok (over_at at [] (done (bit (removes_at at o))))
removing_at at (Some text) o = removal_of text >>= λ on. Ok (over_at at (Alter (Removal on) ∷ []) (done []))

abbrev pub removing : List ℕ → List (List ℕ) → Variables → Own → Said Deed
removing name args vars o = option_of command.RemoveNulls name args vars o >>= λ s. removing_at s.0 s.1 o
