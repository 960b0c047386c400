-- Flags before the last `tail` arguments of a command. An argument is a flag only if at least `tail` others follow.
use Rattle.std.specs.Prelude.{ℕ, ◌+◌, nat_lt, Bool, true, false, ◌&&◌, List, [], ◌∷◌, length, drop, Option, Some, None, Ok, Err, if◌then◌else◌}
use Rattle.command_table.specs.declared.switches.Switch.{Switch}
use Rattle.command_table.specs.declared.switches.Switch.TheVariants.{All, Decreasing, End, Exact, Glob, Index, Indices, Inline, Integer, LineAnchor, Nocase, Nocommands, Not, Regexp, Start, Strict, Unique}
use Rattle.command_table.specs.declared.switches.Switches.{Switches}
use Rattle.command_table.specs.Counts.{exactly}
use Rattle.command_table.specs.Flags.{begins_with_minus}
use Rattle.command_table.specs.Switches.{switch_of}
use Rattle.tcl_results.specs.declared.switches.Given.{Given}
use Rattle.tcl_results.specs.declared.ways.Way.TheVariants as ways
use Rattle.tcl_results.specs.Given.{if_fits}
use Rattle.tcl_results.specs.Texts.{bad_flag}
use Rattle.tcl_results.specs.Said.{Said, ◌>>=◌}

-- No flags.
abbrev pub nothing : Given
nothing = record {
  all = false;
  decreasing = false;
  due = false;
  index = None;
  inline = false;
  integer = false;
  nocase = false;
  not = false;
  start = None;
  strict = false;
  unique = false;
  way = ways.Glob;
}

-- The flags with one added. n is the index of the argument after it. The last of `-exact`, `-glob` and `-regexp` counts.
abbrev pub with_switch : Switch → ℕ → Given → Given
with_switch All n g = record g { all = true }
with_switch Decreasing n g = record g { decreasing = true }
with_switch End n g = g
with_switch Exact n g = record g { way = ways.Exact }
with_switch Glob n g = record g { way = ways.Glob }
with_switch Index n g = record g { index = Some n; due = true }
with_switch Indices n g = g
with_switch Inline n g = record g { inline = true }
with_switch Integer n g = record g { integer = true }
with_switch LineAnchor n g = g
with_switch Nocase n g = record g { nocase = true }
with_switch Nocommands n g = g
with_switch Not n g = record g { not = true }
with_switch Regexp n g = record g { way = ways.Regular }
with_switch Start n g = record g { start = Some n; due = true }
with_switch Strict n g = record g { strict = true }
with_switch Unique n g = record g { unique = true }

abbrev pub if_switch : List ℕ → Option Switch → ℕ → Given → Said (Option Given)
if_switch word None n g = Err (bad_flag word)
if_switch word (Some x) n g = Ok (Some (with_switch x n g))

-- Reads a word as a flag or as the value of the last flag. n is the index of the argument after it.
abbrev pub flag_step : Switches → List ℕ → Bool → ℕ → Given → Said (Option Given)
flag_step s word more n g =
    if g.due then Ok (Some (record g { due = false }))
    else if more && begins_with_minus word then if_switch word (switch_of s word) n g
    else Ok None

abbrev pub on_flag : (Given → Said (Given × ℕ)) → Given × ℕ → Option Given → Said (Given × ℕ)
on_flag on end None = Ok end
on_flag on end (Some g) = on g

-- The flags at the front of the arguments, and how many arguments they take.
abbrev pub flags_from : Switches → ℕ → Given → ℕ → List (List ℕ) → Said (Given × ℕ)
flags_from s tail g n [] = Ok (g, n)
flags_from s tail g n (w ∷ ws) = flag_step s w (nat_lt tail (length (w ∷ ws))) (n + 1) g >>= λ t. on_flag (λ h. flags_from s tail h (n + 1) ws) (g, n) t

-- The same, if exactly `tail` arguments follow.
abbrev pub flags_of : Switches → ℕ → List ℕ → List (List ℕ) → Said (Given × ℕ)
flags_of s tail command args = flags_from s tail nothing 0 args >>= λ p. if_fits (exactly tail) command (drop p.1 args) (Ok p)
