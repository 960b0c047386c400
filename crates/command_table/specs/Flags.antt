-- The flags of commands.
use Rattle.std.specs.Prelude.{ℕ, ◌==◌, Bool, true, false, not, ◌&&◌, ◌||◌, List, [], ◌∷◌, codes, bytes_eq, if◌then◌else◌}
use Rattle.tcl_words.specs.Bytes as ascii
use Rattle.command_table.specs.declared.flags.Own.{Own}
use Rattle.command_table.specs.declared.flags.Own.TheVariants as own
use Rattle.command_table.specs.declared.flags.Flags.{Flags}
use Rattle.command_table.specs.declared.flags.Role.{Role}
use Rattle.command_table.specs.declared.flags.Role.TheVariants as role

-- A word is the command's own flag, which has no value.
abbrev pub is_own : Own → List ℕ → Bool
is_own own.None word = false
is_own own.Send word = false
is_own own.Spawn word = bytes_eq word (codes "-noecho")
is_own own.Exec word = bytes_eq word (codes "-keepnewline")
is_own own.Default word = bytes_eq word (codes "-d")
is_own own.Timer word = bytes_eq word (codes "-continue_timer")
is_own own.Wait word = bytes_eq word (codes "-nowait")

abbrev pub begins_with_minus : List ℕ → Bool
begins_with_minus [] = false
begins_with_minus (b ∷ bytes) = b == ascii.minus

-- The flags of spawn other than -noecho: whether the child is on a terminal of the system, and those that its line shows.
abbrev pub spawn_role : List ℕ → Role
spawn_role word =
    if bytes_eq word (codes "-tty") then role.Choice true
    else if bytes_eq word (codes "-notty") then role.Choice false
    else if bytes_eq word (codes "-nottycopy") || bytes_eq word (codes "-nottyinit") then role.Shown
    else if bytes_eq word (codes "-ignore") then role.ShownWithValue
    else role.Bad

-- The flag of exec other than -keepnewline. Standard error is never part of what exec returns, so it changes nothing.
abbrev pub exec_role : List ℕ → Role
exec_role word = if bytes_eq word (codes "-ignorestderr") then role.Shown else role.Bad

-- The flags of send: byte by byte, as a person types, or in pieces.
abbrev pub send_role : List ℕ → Role
send_role word =
    if bytes_eq word (codes "-h") then role.Choice true
    else if bytes_eq word (codes "-s") then role.Choice false
    else role.Bad

abbrev pub other_role : Own → List ℕ → Role
other_role own.Spawn word = spawn_role word
other_role own.Exec word = exec_role word
other_role own.Send word = send_role word
other_role own word = role.Bad

-- The role of an argument that may be a flag.
abbrev pub flag_role : Flags → List ℕ → Role
flag_role f word =
    if not (begins_with_minus word) then role.Word
    else if f.end && bytes_eq word (codes "--") then role.End
    else if is_own f.own word then role.Alone
    else if f.id && bytes_eq word (codes "-i") then role.Id
    else other_role f.own word
