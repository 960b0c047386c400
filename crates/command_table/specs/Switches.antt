-- The flags of value commands. They come before the last arguments: string(n), lsearch(n), lsort(n), switch(n), regexp(n),
-- regsub(n), subst(n). No word is a flag of `package require` and of `exp_version`, but it may not look like one.
use Rattle.std.specs.Prelude.{ℕ, Bool, true, false, List, codes, Option, Some, None, bytes_eq, if◌then◌else◌}
use Rattle.command_table.specs.declared.counts.Count.{Count}
use Rattle.command_table.specs.declared.switches.Switch.{Switch}
use Rattle.command_table.specs.declared.switches.Switch.TheVariants as switch
use Rattle.command_table.specs.declared.switches.Switches.{Switches}
use Rattle.command_table.specs.declared.switches.Switches.TheVariants as switches
use Rattle.command_table.specs.Counts.{at_least, between}

-- ?-exact|-glob|-regexp? ?--?
abbrev pub case_switch : List ℕ → Option Switch
case_switch word =
    if bytes_eq word (codes "--") then Some switch.End
    else if bytes_eq word (codes "-exact") then Some switch.Exact
    else if bytes_eq word (codes "-glob") then Some switch.Glob
    else if bytes_eq word (codes "-regexp") then Some switch.Regexp
    else None

-- ?-exact|-glob|-regexp? ?-all? ?-inline? ?-not? ?-nocase? ?-start index?
abbrev pub search_switch : List ℕ → Option Switch
search_switch word =
    if bytes_eq word (codes "-exact") then Some switch.Exact
    else if bytes_eq word (codes "-glob") then Some switch.Glob
    else if bytes_eq word (codes "-regexp") then Some switch.Regexp
    else if bytes_eq word (codes "-all") then Some switch.All
    else if bytes_eq word (codes "-inline") then Some switch.Inline
    else if bytes_eq word (codes "-not") then Some switch.Not
    else if bytes_eq word (codes "-nocase") then Some switch.Nocase
    else if bytes_eq word (codes "-start") then Some switch.Start
    else None

-- ?-integer? ?-decreasing? ?-unique? ?-nocase? ?-index index?
abbrev pub sort_switch : List ℕ → Option Switch
sort_switch word =
    if bytes_eq word (codes "-integer") then Some switch.Integer
    else if bytes_eq word (codes "-decreasing") then Some switch.Decreasing
    else if bytes_eq word (codes "-unique") then Some switch.Unique
    else if bytes_eq word (codes "-nocase") then Some switch.Nocase
    else if bytes_eq word (codes "-index") then Some switch.Index
    else None

-- ?-lineanchor? ?-nocase? ?-start index? ?--?
abbrev pub place_switch : List ℕ → Option Switch
place_switch word =
    if bytes_eq word (codes "--") then Some switch.End
    else if bytes_eq word (codes "-nocase") then Some switch.Nocase
    else if bytes_eq word (codes "-lineanchor") then Some switch.LineAnchor
    else if bytes_eq word (codes "-start") then Some switch.Start
    else None

-- ?-all? ?-lineanchor? ?-nocase? ?-start index? ?--?
abbrev pub replace_switch : List ℕ → Option Switch
replace_switch word = if bytes_eq word (codes "-all") then Some switch.All else place_switch word

-- ?-all? ?-indices? ?-inline? ?-lineanchor? ?-nocase? ?-start index? ?--?
abbrev pub match_switch : List ℕ → Option Switch
match_switch word =
    if bytes_eq word (codes "-inline") then Some switch.Inline
    else if bytes_eq word (codes "-indices") then Some switch.Indices
    else replace_switch word

-- The allowed flag that a word is.
abbrev pub switch_of : Switches → List ℕ → Option Switch
switch_of switches.Case word = if bytes_eq word (codes "-nocase") then Some switch.Nocase else None
switch_of switches.Choice word = case_switch word
switch_of switches.Match word = match_switch word
switch_of switches.Replace word = replace_switch word
switch_of switches.Require word = None
switch_of switches.Strict word = if bytes_eq word (codes "-strict") then Some switch.Strict else None
switch_of switches.Search word = search_switch word
switch_of switches.Sort word = sort_switch word
switch_of switches.Substitute word = if bytes_eq word (codes "-nocommands") then Some switch.Nocommands else None
switch_of switches.Version word = None

-- The next word is the value of the flag.
abbrev pub takes_value : Switch → Bool
takes_value switch.Index = true
takes_value switch.Start = true
takes_value other = false

-- The flag is the end of the flags.
abbrev pub is_end : Switch → Bool
is_end switch.End = true
is_end other = false

-- The number of words after the flags: `exp string ?matchVar? ?subMatchVar subMatchVar ...?` of `regexp`, with at most ten
-- names, `exp string subSpec ?varName?` of `regsub`, `package ?requirement?` of `package require`, and `?version?` of
-- `exp_version`.
abbrev pub words_behind : Switches → Count
words_behind switches.Match = between 2 12
words_behind switches.Replace = between 3 4
words_behind switches.Require = between 1 2
words_behind switches.Version = between 0 1
words_behind other = at_least 0

-- The number of words before the flags. `string is` has its class there.
abbrev pub words_before : Switches → ℕ
words_before switches.Strict = 1
words_before other = 0

-- The number of flags that a command needs. `subst` needs `-nocommands`.
abbrev pub flags_needed : Switches → ℕ
flags_needed switches.Substitute = 1
flags_needed other = 0
