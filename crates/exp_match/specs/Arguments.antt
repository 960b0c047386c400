-- Reads the arguments of `expect` from left to right, as in expect(1): flags, and patterns or keywords with their
-- actions.
use Rattle.std.specs.Prelude.{◌≡◌, ℕ, ◌+◌, Bool, true, false, ◌||◌, ◌==◌, if◌then◌else◌, List, [], ◌∷◌, ◌++◌, length, Some, None, Result, Ok, Err, codes}
use Rattle.std.specs.Str.{bytes_eq}
use Rattle.tcl_words.specs.Bytes as ascii
use Rattle.exp_glob.specs.Elements.{glob_of}
use Rattle.exp_match.specs.Scan.{is_pattern}
use Rattle.exp_match.specs.declared.faults.PatternFault.{PatternFault}
use Rattle.exp_match.specs.declared.faults.PatternFault.TheVariants as fault
use Rattle.exp_match.specs.declared.entry.Keyword.TheVariants as keyword
use Rattle.exp_match.specs.declared.entry.Want.{Want}
use Rattle.exp_match.specs.declared.entry.Want.TheVariants as want
use Rattle.exp_match.specs.declared.list.PatternList.{PatternList}
use Rattle.exp_match.specs.declared.pending.Mark.{Mark}
use Rattle.exp_match.specs.declared.pending.Mark.TheVariants as mark
use Rattle.exp_match.specs.declared.pending.Marks.{Marks}
use Rattle.exp_match.specs.declared.pending.Way.{Way}
use Rattle.exp_match.specs.declared.pending.Way.TheVariants as way
use Rattle.exp_match.specs.declared.pending.Role.{Role}
use Rattle.exp_match.specs.declared.pending.Role.TheVariants as role
use Rattle.exp_match.specs.declared.pending.Pending.{Pending}
use Rattle.exp_match.specs.declared.pending.Pending.TheVariants as pending
use Rattle.exp_match.specs.declared.pending.Reader.{Reader}

-- An error of the arguments themselves. The other errors concern memory or the compiler.
abbrev pub IsOfArguments : PatternFault → Type 0
IsOfArguments (fault.BadFlag at) = Unit {0}
IsOfArguments (fault.BadRegex at) = Unit {0}
IsOfArguments fault.Refused = ⊥
IsOfArguments fault.Memory = ⊥

-- The result is the one that the definition gives. If memory is refused, nothing is claimed.
abbrev pub Gives : {X : Type 0} → Result X PatternFault → Result X PatternFault → Type 0
Gives (Ok x) meant = meant ≡ Ok x
Gives (Err f) meant = IsOfArguments f → meant ≡ Err f

-- The word begins with `-`.
abbrev pub is_dash : List ℕ → Bool
is_dash [] = false
is_dash (b ∷ bytes) = b == ascii.minus

-- The role of a word that is no known flag.
abbrev pub plain_role : List ℕ → Role
plain_role word =
    if is_dash word || bytes_eq word (codes "null") then role.Bad
    else (if bytes_eq word (codes "eof") then role.Keyword keyword.Eof
    else (if bytes_eq word (codes "timeout") then role.Keyword keyword.Timeout
    else (if bytes_eq word (codes "default") then role.Keyword keyword.Default
    else (if bytes_eq word (codes "full_buffer") then role.Keyword keyword.FullBuffer
    else role.Glob))))

-- How the pattern after a flag is written.
abbrev pub way_role : List ℕ → Role
way_role word =
    if bytes_eq word (codes "-ex") || bytes_eq word (codes "-exact") then role.Written way.Exact
    else (if bytes_eq word (codes "-gl") || bytes_eq word (codes "-glob") || bytes_eq word (codes "--") then role.Written way.Glob
    else (if bytes_eq word (codes "-re") || bytes_eq word (codes "-regexp") then role.Written way.Regular
    else plain_role word))

-- The role of a word in the place of a pattern.
unfoldable pub role_of : List ℕ → Role
role_of word =
    if bytes_eq word (codes "-nocase") then role.Mark mark.Nocase
    else (if bytes_eq word (codes "-indices") then role.Mark mark.Indices
    else (if bytes_eq word (codes "-notransfer") then role.Mark mark.Notransfer
    else (if bytes_eq word (codes "-i") then role.Id
    else (if bytes_eq word (codes "-timeout") then role.Timeout
    else way_role word))))

abbrev pub no_marks : Marks
no_marks = record { nocase = false; indices = false; notransfer = false }

abbrev pub with_mark : Marks → Mark → Marks
with_mark m mark.Nocase = record m { nocase = true }
with_mark m mark.Indices = record m { indices = true }
with_mark m mark.Notransfer = record m { notransfer = true }

-- The pattern that the word at index `at` writes.
abbrev pub want_of : Way → Bool → ℕ → List ℕ → Result Want PatternFault
want_of way.Exact nocase at word = Ok (want.Exact word nocase)
want_of way.Glob nocase at word = Ok (want.Glob (glob_of word) nocase)
want_of way.Regular nocase at word =
    if is_pattern word then Ok (want.Regular (record { source = word; nocase = nocase; lines = false })) else Err (fault.BadRegex at)

-- Appends a pattern or keyword with its action. Its group is the one that the last `-i` opened.
abbrev pub with_entry : PatternList → Marks → Want → List ℕ → PatternList
with_entry list m w action = record list {
  entries = list.entries ++ record { want = w; indices = m.indices; notransfer = m.notransfer; action = action; group = length list.ids } ∷ [];
}

-- Opens a group for a list of spawn ids.
abbrev pub with_id : PatternList → List ℕ → PatternList
with_id list id = record list { ids = list.ids ++ id ∷ [] }

-- The last `-timeout` counts.
abbrev pub with_timeout : PatternList → List ℕ → PatternList
with_timeout list time = record list { timeout = Some time }

-- An action may follow a pattern.
abbrev pub awaits_action : PatternList → Marks → Result Want PatternFault → Result Reader PatternFault
awaits_action list m (Ok w) = Ok (record { list = list; marks = m; pending = pending.Action w })
awaits_action list m (Err f) = Err f

abbrev pub by_role : PatternList → Marks → ℕ → List ℕ → Role → Result Reader PatternFault
by_role list m at word (role.Mark k) = Ok (record { list = list; marks = with_mark m k; pending = pending.More at })
by_role list m at word role.Id = Ok (record { list = list; marks = m; pending = pending.Id at })
by_role list m at word role.Timeout = Ok (record { list = list; marks = m; pending = pending.Timeout at })
by_role list m at word (role.Written w) = Ok (record { list = list; marks = m; pending = pending.Pattern w at })
by_role list m at word (role.Keyword k) = awaits_action list no_marks (Ok (want.Keyword k))
by_role list m at word role.Glob = awaits_action list m (want_of way.Glob m.nocase at word)
by_role list m at word role.Bad = Err (fault.BadFlag at)

-- Reads the word at index `at` by what may stand there.
abbrev pub taken : PatternList → Marks → ℕ → List ℕ → Pending → Result Reader PatternFault
taken list m at word pending.Front = by_role list m at word (role_of word)
taken list m at word (pending.More flag) = by_role list m at word (role_of word)
taken list m at word (pending.Id flag) = Ok (record { list = with_id list word; marks = m; pending = pending.Front })
taken list m at word (pending.Timeout flag) = Ok (record { list = with_timeout list word; marks = m; pending = pending.Front })
taken list m at word (pending.Pattern w flag) = awaits_action list m (want_of w m.nocase at word)
taken list m at word (pending.Action w) = Ok (record { list = with_entry list m w word; marks = no_marks; pending = pending.Front })

-- The end of the arguments. A missing action is empty. A flag must be followed by its argument.
abbrev pub ended : PatternList → Marks → Pending → Result PatternList PatternFault
ended list m pending.Front = Ok list
ended list m (pending.More flag) = Err (fault.BadFlag flag)
ended list m (pending.Id flag) = Err (fault.BadFlag flag)
ended list m (pending.Timeout flag) = Err (fault.BadFlag flag)
ended list m (pending.Pattern w flag) = Err (fault.BadFlag flag)
ended list m (pending.Action w) = Ok (with_entry list m w [])

abbrev pub read_more : (Reader → Result PatternList PatternFault) → Result Reader PatternFault → Result PatternList PatternFault
read_more on (Ok r) = on r
read_more on (Err f) = Err f

-- Reads the words from an index on, left to right.
abbrev pub read_on : List (List ℕ) → ℕ → Reader → Result PatternList PatternFault
read_on [] at r = ended r.list r.marks r.pending
read_on (word ∷ words) at r = read_more (read_on words (at + 1)) (taken r.list r.marks at word r.pending)

abbrev pub nothing_read : Reader
nothing_read = record { list = record { entries = []; ids = []; timeout = None }; marks = no_marks; pending = pending.Front }

-- The list that the arguments write, or the error of the first bad argument.
unfoldable pub patterns_of : List (List ℕ) → Result PatternList PatternFault
patterns_of args = read_on args 0 nothing_read
