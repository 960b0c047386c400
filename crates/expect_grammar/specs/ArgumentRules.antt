-- The arguments of `expect`, as in expect(1), rule by rule. `X args v rest` means that the arguments begin with an X
-- whose value is v, and that `rest` is the rest.
use Rattle.std.specs.Prelude.{◌≡◌, ◌≢◌, ℕ, ◌+◌, ◌-◌, Bool, true, false, List, [], ◌∷◌, length, Option, Some, None, codes}
use Rattle.tcl_words.specs.Bytes.{minus}
use Rattle.tcl_words.specs.Lists.{begins_with}
use Rattle.exp_glob.specs.Elements.{glob_of}
use Rattle.exp_match.specs.Grammar.{RePattern}
use Rattle.exp_match.specs.declared.entry.Entry.{Entry}
use Rattle.exp_match.specs.declared.entry.Keyword.{Keyword}
use Rattle.exp_match.specs.declared.entry.Keyword.TheVariants as key
use Rattle.exp_match.specs.declared.entry.Want.{Want}
use Rattle.exp_match.specs.declared.entry.Want.TheVariants as want
use Rattle.exp_match.specs.declared.faults.PatternFault.{PatternFault}
use Rattle.exp_match.specs.declared.faults.PatternFault.TheVariants as fault
use Rattle.exp_match.specs.declared.list.PatternList.{PatternList}
use Rattle.exp_match.specs.declared.pending.Marks.{Marks}
use Rattle.exp_match.specs.declared.pending.Way.{Way}
use Rattle.exp_match.specs.declared.pending.Way.TheVariants as way

-- ---- Words with a special meaning

-- A flag for the next pattern, with the flags before and after it.
pub data IsMark : List ℕ → Marks → Marks → Type 0 where
  -- The pattern matches letters in either case.
  nocase : (flags : Marks) → IsMark (codes "-nocase") flags (record flags { nocase = true })
  -- The indices of its match are stored too.
  indices : (flags : Marks) → IsMark (codes "-indices") flags (record flags { indices = true })
  -- The matched bytes stay in the buffer.
  notransfer : (flags : Marks) → IsMark (codes "-notransfer") flags (record flags { notransfer = true })

-- A keyword in the place of a pattern.
pub data IsKeyword : List ℕ → Keyword → Type 0 where
  -- The output of the process has ended.
  eof : IsKeyword (codes "eof") key.Eof
  -- The time has run out.
  timeout : IsKeyword (codes "timeout") key.Timeout
  -- The output has ended, or the time has run out.
  default : IsKeyword (codes "default") key.Default
  -- The buffer is full.
  full_buffer : IsKeyword (codes "full_buffer") key.FullBuffer

-- A flag that tells how the next pattern is written, by any of its names.
pub data IsWay : List ℕ → Way → Type 0 where
  -- Exactly these bytes.
  ex : IsWay (codes "-ex") way.Exact
  exact : IsWay (codes "-exact") way.Exact
  -- A glob pattern.
  gl : IsWay (codes "-gl") way.Glob
  glob : IsWay (codes "-glob") way.Glob
  dashes : IsWay (codes "--") way.Glob
  -- A regular expression.
  re : IsWay (codes "-re") way.Regular
  regexp : IsWay (codes "-regexp") way.Regular

-- A flag. An argument must follow.
pub data IsFlag : List ℕ → Type 0 where
  -- A flag for the next pattern.
  mark : (word : List ℕ) (before behind : Marks) → IsMark word before behind → IsFlag word
  -- A flag for the pattern in the next argument.
  written : (word : List ℕ) (w : Way) → IsWay word w → IsFlag word
  -- The spawn ids for the later patterns.
  id : IsFlag (codes "-i")
  -- The time limit of `expect`.
  timeout : IsFlag (codes "-timeout")

-- A word that may not stand in the place of a pattern.
pub data IsUnknown : List ℕ → Type 0 where
  -- It begins with `-` and is no flag.
  no_flag : (word : List ℕ) → begins_with minus word ≡ true → ¬ IsFlag word → IsUnknown word
  -- This pattern isn't supported.
  null : IsUnknown (codes "null")

-- A pattern without a flag.
abbrev pub IsPlain : List ℕ → Type 0
IsPlain word = (begins_with minus word ≡ false) × (word ≢ codes "null") × ((k : Keyword) → ¬ IsKeyword word k)

-- ---- Patterns and actions

-- A pattern, with or without `-nocase` before it.
pub data Pattern (nocase : Bool) : List (List ℕ) → Want → List (List ℕ) → Type 0 where
  -- After `-ex`, the next argument is the pattern, whatever it is. It matches exactly these bytes.
  exact : (flag word : List ℕ) (rest : List (List ℕ)) → IsWay flag way.Exact → Pattern nocase (flag ∷ word ∷ rest) (want.Exact word nocase) rest
  -- After `-gl` or `--`, it is a glob pattern, whatever it is.
  glob : (flag word : List ℕ) (rest : List (List ℕ)) → IsWay flag way.Glob → Pattern nocase (flag ∷ word ∷ rest) (want.Glob (glob_of word) nocase) rest
  -- After `-re`, it must be a regular expression.
  regular : (flag word : List ℕ) (rest : List (List ℕ)) → IsWay flag way.Regular → RePattern word
      → Pattern nocase (flag ∷ word ∷ rest) (want.Regular (record { source = word; nocase = nocase; lines = false })) rest
  -- Without such a flag, it is a glob pattern.
  plain : (word : List ℕ) (rest : List (List ℕ)) → IsPlain word → Pattern nocase (word ∷ rest) (want.Glob (glob_of word) nocase) rest

-- The action of a pattern or keyword.
pub data Action : List (List ℕ) → List ℕ → List (List ℕ) → Type 0 where
  -- The next argument, whatever it is.
  given : (action : List ℕ) (rest : List (List ℕ)) → Action (action ∷ rest) action rest
  -- The last pattern or keyword may have no action. Its action is then empty.
  absent : Action [] [] []

-- ---- All arguments

-- No flags for the next pattern.
abbrev pub no_flags : Marks
no_flags = record { nocase = false; indices = false; notransfer = false }

abbrev pub no_patterns : PatternList
no_patterns = record { entries = []; ids = []; timeout = None }

-- Adds a pattern or keyword with its action at the front of a list.
abbrev pub before : Entry → PatternList → PatternList
before e list = record list { entries = e ∷ list.entries }

abbrev pub entry : Want → Marks → List ℕ → ℕ → Entry
entry w flags action group = record { want = w; indices = flags.indices; notransfer = flags.notransfer; action = action; group = group }

-- The time of a `-timeout`, unless there is a later one.
abbrev pub unless : Option (List ℕ) → List ℕ → List ℕ
unless None time = time
unless (Some later) time = later

-- `Arguments group flags args list`: in this group, with these flags for the next pattern, the arguments write this
-- list.
pub data Arguments : ℕ → Marks → List (List ℕ) → PatternList → Type 0 where
  -- There may be no further argument.
  end : (group : ℕ) (flags : Marks) → Arguments group flags [] no_patterns
  -- A flag for the next pattern. Another argument must follow.
  mark : (group : ℕ) (flags behind : Marks) (flag word : List ℕ) (rest : List (List ℕ)) (list : PatternList)
      → IsMark flag flags behind → Arguments group behind (word ∷ rest) list → Arguments group flags (flag ∷ word ∷ rest) list
  -- `-i ids`: the later patterns are for those spawn ids, and belong to the next group.
  id : (group : ℕ) (flags : Marks) (id : List ℕ) (rest : List (List ℕ)) (list : PatternList)
      → Arguments (group + 1) flags rest list → Arguments group flags (codes "-i" ∷ id ∷ rest) (record list { ids = id ∷ list.ids })
  -- `-timeout time`: the last one counts, for all patterns.
  timeout : (group : ℕ) (flags : Marks) (time : List ℕ) (rest : List (List ℕ)) (list : PatternList)
      → Arguments group flags rest list → Arguments group flags (codes "-timeout" ∷ time ∷ rest) (record list { timeout = Some (unless list.timeout time) })
  -- A pattern with its action. The flags before it apply only to this pattern.
  pattern : (group : ℕ) (flags : Marks) (args behind rest : List (List ℕ)) (w : Want) (action : List ℕ) (list : PatternList)
      → Pattern flags.nocase args w behind → Action behind action rest → Arguments group no_flags rest list
      → Arguments group flags args (before (entry w flags action group) list)
  -- A keyword with its action. Flags before it have no effect.
  keyword : (group : ℕ) (flags : Marks) (word : List ℕ) (behind rest : List (List ℕ)) (k : Keyword) (action : List ℕ) (list : PatternList)
      → IsKeyword word k → Action behind action rest → Arguments group no_flags rest list
      → Arguments group flags (word ∷ behind) (before (entry (want.Keyword k) no_flags action group) list)

-- These arguments write this list of patterns.
abbrev pub Write : List (List ℕ) → PatternList → Type 0
Write args list = Arguments 0 no_flags args list

-- ---- The first bad argument

-- The index of the argument that begins the rest.
abbrev pub place : List (List ℕ) → List (List ℕ) → ℕ
place all rest = length all - length rest

-- `Bad all args f`: the arguments before `args` are correct, and f names the first bad one.
pub data Bad (all : List (List ℕ)) : List (List ℕ) → PatternFault → Type 0 where
  -- No flag, and no pattern.
  unknown : (word : List ℕ) (rest : List (List ℕ)) → IsUnknown word → Bad all (word ∷ rest) (fault.BadFlag (place all (word ∷ rest)))
  -- A flag with no argument after it.
  last : (flag : List ℕ) → IsFlag flag → Bad all (flag ∷ []) (fault.BadFlag (place all (flag ∷ [])))
  -- After `-re`, an argument that is no regular expression.
  regular : (flag word : List ℕ) (rest : List (List ℕ)) → IsWay flag way.Regular → ¬ RePattern word
      → Bad all (flag ∷ word ∷ rest) (fault.BadRegex (place all (word ∷ rest)))
  -- The bad argument follows a flag for the next pattern.
  mark : (before behind : Marks) (flag word : List ℕ) (rest : List (List ℕ)) (f : PatternFault)
      → IsMark flag before behind → Bad all (word ∷ rest) f → Bad all (flag ∷ word ∷ rest) f
  -- The bad argument follows `-i id`.
  id : (id : List ℕ) (rest : List (List ℕ)) (f : PatternFault) → Bad all rest f → Bad all (codes "-i" ∷ id ∷ rest) f
  -- The bad argument follows `-timeout time`.
  timeout : (time : List ℕ) (rest : List (List ℕ)) (f : PatternFault) → Bad all rest f → Bad all (codes "-timeout" ∷ time ∷ rest) f
  -- The bad argument follows a pattern with its action.
  pattern : (nocase : Bool) (args behind rest : List (List ℕ)) (w : Want) (action : List ℕ) (f : PatternFault)
      → Pattern nocase args w behind → Action behind action rest → Bad all rest f → Bad all args f
  -- The bad argument follows a keyword with its action.
  keyword : (word : List ℕ) (behind rest : List (List ℕ)) (k : Keyword) (action : List ℕ) (f : PatternFault)
      → IsKeyword word k → Action behind action rest → Bad all rest f → Bad all (word ∷ behind) f

-- f names the first bad argument.
abbrev pub AreBad : List (List ℕ) → PatternFault → Type 0
AreBad args f = Bad args args f
