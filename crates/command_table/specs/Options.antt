-- The options of commands, their first arguments: string(n), info(n), array(n), package(n), file(n), and
-- log_user of expect(1).
use Rattle.std.specs.Prelude.{ℕ, ◌||◌, List, codes, Option, Some, None, option_map, bytes_eq, if◌then◌else◌, option_and_then}
use Rattle.command_table.specs.declared.commands.Command.{Command}
use Rattle.command_table.specs.declared.commands.Command.TheVariants.{Tcl, Expect}
use Rattle.command_table.specs.declared.commands.TclCommand.TheVariants.{Value}
use Rattle.command_table.specs.declared.commands.ValueCommand.TheVariants as value
use Rattle.command_table.specs.declared.commands.ExpectCommand.TheVariants as expect
use Rattle.command_table.specs.declared.counts.Count.{Count}
use Rattle.command_table.specs.declared.options.StringOption.{StringOption}
use Rattle.command_table.specs.declared.options.StringOption.TheVariants as string
use Rattle.command_table.specs.declared.options.InfoOption.{InfoOption}
use Rattle.command_table.specs.declared.options.InfoOption.TheVariants as info
use Rattle.command_table.specs.declared.options.ArrayOption.{ArrayOption}
use Rattle.command_table.specs.declared.options.ArrayOption.TheVariants as array
use Rattle.command_table.specs.declared.options.PackageOption.{PackageOption}
use Rattle.command_table.specs.declared.options.PackageOption.TheVariants.{Require}
use Rattle.command_table.specs.declared.options.ClockOption.{ClockOption}
use Rattle.command_table.specs.declared.options.ClockOption.TheVariants as clock
use Rattle.command_table.specs.declared.options.FileOption.{FileOption}
use Rattle.command_table.specs.declared.options.FileOption.TheVariants as file
use Rattle.command_table.specs.declared.switches.Switches.{Switches}
use Rattle.command_table.specs.declared.switches.Switches.TheVariants.{Case, Strict}
use Rattle.command_table.specs.Counts.{exactly, at_least, between}

abbrev pub string_option : List ℕ → Option StringOption
string_option word =
    if bytes_eq word (codes "length") then Some string.Length
    else if bytes_eq word (codes "index") then Some string.Index
    else if bytes_eq word (codes "range") then Some string.Range
    else if bytes_eq word (codes "equal") then Some string.Equal
    else if bytes_eq word (codes "compare") then Some string.Compare
    else if bytes_eq word (codes "first") then Some string.First
    else if bytes_eq word (codes "tolower") then Some string.ToLower
    else if bytes_eq word (codes "toupper") then Some string.ToUpper
    else if bytes_eq word (codes "trim") then Some string.Trim
    else if bytes_eq word (codes "last") then Some string.Last
    else if bytes_eq word (codes "trimleft") then Some string.TrimLeft
    else if bytes_eq word (codes "trimright") then Some string.TrimRight
    else if bytes_eq word (codes "match") then Some string.Match
    else if bytes_eq word (codes "map") then Some string.Map
    else if bytes_eq word (codes "is") then Some string.Is
    else if bytes_eq word (codes "reverse") then Some string.Reverse
    else if bytes_eq word (codes "repeat") then Some string.Repeat
    else None

abbrev pub string_count : StringOption → Count
-- string length string
string_count string.Length = exactly 1
-- string index string charIndex
string_count string.Index = exactly 2
-- string range string first last
string_count string.Range = exactly 3
-- string equal ?-nocase? string1 string2
string_count string.Equal = at_least 2
-- string compare ?-nocase? string1 string2
string_count string.Compare = at_least 2
-- string first needleString haystackString
string_count string.First = exactly 2
-- string last needleString haystackString
string_count string.Last = exactly 2
-- string tolower string
string_count string.ToLower = exactly 1
-- string toupper string
string_count string.ToUpper = exactly 1
-- string trim string ?chars?
string_count string.Trim = between 1 2
-- string trimleft string ?chars?
string_count string.TrimLeft = between 1 2
-- string trimright string ?chars?
string_count string.TrimRight = between 1 2
-- string match ?-nocase? pattern string
string_count string.Match = at_least 2
-- string map ?-nocase? mapping string
string_count string.Map = at_least 2
-- string is class ?-strict? string
string_count string.Is = at_least 2
-- string reverse string
string_count string.Reverse = exactly 1
-- string repeat string count
string_count string.Repeat = exactly 2

-- The flags before the last arguments of an option.
abbrev pub string_switches : StringOption → Option Switches
string_switches string.Equal = Some Case
string_switches string.Compare = Some Case
string_switches string.Match = Some Case
string_switches string.Map = Some Case
string_switches string.Is = Some Strict
string_switches other = None

abbrev pub info_option : List ℕ → Option InfoOption
info_option word = if bytes_eq word (codes "exists") then Some info.Exists else None

abbrev pub info_count : InfoOption → Count
-- info exists varName
info_count info.Exists = exactly 1

abbrev pub array_option : List ℕ → Option ArrayOption
array_option word =
    if bytes_eq word (codes "exists") then Some array.Exists
    else if bytes_eq word (codes "get") then Some array.Get
    else if bytes_eq word (codes "names") then Some array.Names
    else if bytes_eq word (codes "set") then Some array.Set
    else if bytes_eq word (codes "size") then Some array.Size
    else if bytes_eq word (codes "unset") then Some array.Unset
    else None

abbrev pub array_count : ArrayOption → Count
-- array exists arrayName
array_count array.Exists = exactly 1
-- array get arrayName ?pattern?
array_count array.Get = between 1 2
-- array names arrayName ?pattern?
array_count array.Names = between 1 2
-- array set arrayName list
array_count array.Set = exactly 2
-- array size arrayName
array_count array.Size = exactly 1
-- array unset arrayName ?pattern?
array_count array.Unset = between 1 2

abbrev pub package_option : List ℕ → Option PackageOption
package_option word = if bytes_eq word (codes "require") then Some Require else None

abbrev pub package_count : PackageOption → Count
-- package require package ?requirement?
package_count Require = at_least 1

abbrev pub clock_option : List ℕ → Option ClockOption
clock_option word =
    if bytes_eq word (codes "seconds") then Some clock.Seconds
    else if bytes_eq word (codes "milliseconds") then Some clock.Milliseconds
    else None

abbrev pub clock_count : ClockOption → Count
-- clock seconds
clock_count clock.Seconds = exactly 0
-- clock milliseconds
clock_count clock.Milliseconds = exactly 0

abbrev pub file_option : List ℕ → Option FileOption
file_option word =
    if bytes_eq word (codes "exists") then Some file.Exists
    else if bytes_eq word (codes "readable") then Some file.Readable
    else if bytes_eq word (codes "writable") then Some file.Writable
    else if bytes_eq word (codes "executable") then Some file.Executable
    else if bytes_eq word (codes "isfile") then Some file.IsFile
    else if bytes_eq word (codes "isdirectory") then Some file.IsDirectory
    else if bytes_eq word (codes "size") then Some file.Size
    else if bytes_eq word (codes "mtime") then Some file.Mtime
    else if bytes_eq word (codes "stat") then Some file.Stat
    else if bytes_eq word (codes "delete") then Some file.Delete
    else if bytes_eq word (codes "copy") then Some file.Copy
    else None

abbrev pub file_count : FileOption → Count
-- file exists name
file_count file.Exists = exactly 1
-- file readable name
file_count file.Readable = exactly 1
-- file writable name
file_count file.Writable = exactly 1
-- file executable name
file_count file.Executable = exactly 1
-- file isfile name
file_count file.IsFile = exactly 1
-- file isdirectory name
file_count file.IsDirectory = exactly 1
-- file size name
file_count file.Size = exactly 1
-- file mtime name
file_count file.Mtime = exactly 1
-- file stat name varName
file_count file.Stat = exactly 2
-- file delete ?-force? ?--? pathname ?pathname ...?
file_count file.Delete = at_least 1
-- file copy ?-force? ?--? source target
file_count file.Copy = between 2 4

-- How many arguments an option takes, if the command has it.
abbrev pub option_count : Command → List ℕ → Option Count
option_count (Tcl (Value value.String)) word = option_map string_count (string_option word)
option_count (Tcl (Value value.Info)) word = option_map info_count (info_option word)
option_count (Tcl (Value value.Array)) word = option_map array_count (array_option word)
option_count (Tcl (Value value.Package)) word = option_map package_count (package_option word)
option_count (Expect expect.Clock) word = option_map clock_count (clock_option word)
option_count (Expect expect.File) word = option_map file_count (file_option word)
-- log_user -info|0|1
option_count (Expect expect.LogUser) word = if bytes_eq word (codes "0") || bytes_eq word (codes "1") || bytes_eq word (codes "-info") then Some (exactly 0) else None
option_count other word = None

-- The flags before the last arguments of an option, if there are any.
abbrev pub option_switches : Command → List ℕ → Option Switches
option_switches (Tcl (Value value.String)) word = option_and_then string_switches (string_option word)
option_switches other word = None
