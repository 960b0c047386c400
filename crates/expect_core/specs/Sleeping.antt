-- `sleep` (expect(1)), and `after` with nothing but a time (after(n)). They wait, and take no output meanwhile.
use Rattle.std.specs.Prelude.{ℕ, ◌+◌, ◌*◌, ◌-◌, ◌==◌, nat_le, nat_lt, ◌&&◌, min, List, [], ◌∷◌, take, drop, slice_index_or, position, if◌then◌else◌, Option, Some, None, option_map, option_and_then, Ok, Err}
use Rattle.tcl_words.specs.Bytes as ascii
use Rattle.tcl_results.specs.Given.{arg}
use Rattle.tcl_results.specs.Said.{Said, ◌>>=◌}
use Rattle.tcl_results.specs.Texts.{expected_number}
use Rattle.command_table.specs.declared.commands.ExpectCommand.{ExpectCommand}
use Rattle.command_table.specs.declared.commands.ExpectCommand.TheVariants as command
use Rattle.expect_core.specs.declared.turn.Deed.{Deed}
use Rattle.expect_core.specs.declared.turn.Deed.TheVariants.{Alone, Expect}
use Rattle.expect_core.specs.declared.own.Own.{Own}
use Rattle.expect_core.specs.Flags.{arguments}
use Rattle.expect_core.specs.Pauses.{nothing_until}
use Rattle.expect_core.specs.Turns.{done}

abbrev pub digits_behind : ℕ → List ℕ → Option ℕ
digits_behind n [] = Some n
digits_behind n (c ∷ cs) = if nat_le 48 c && nat_le c 57 then digits_behind (n * 10 + (c - 48)) cs else None

-- The number that digits write, at least one of them.
abbrev pub digits : List ℕ → Option ℕ
digits [] = None
digits (c ∷ cs) = digits_behind 0 (c ∷ cs)

-- The digit at an index, or 0 behind the last one.
abbrev pub digit_at : List ℕ → ℕ → ℕ
digit_at ds n = slice_index_or ds n 48 - 48

-- The first three decimals, in thousandths.
abbrev pub thousandths : List ℕ → Option ℕ
thousandths ds = option_map (λ n. 100 * digit_at ds 0 + 10 * digit_at ds 1 + digit_at ds 2) (digits ds)

-- The digits before the point. There may be none.
abbrev pub whole : List ℕ → ℕ → Option ℕ
whole text n = if n == 0 then Some 0 else digits (take n text)

-- The milliseconds of a time in seconds, given the index of its point.
abbrev pub seconds_at : List ℕ → Option ℕ → Option ℕ
seconds_at text None = option_map (λ s. s * 1000) (digits text)
seconds_at text (Some n) = option_and_then (λ s. option_map (λ m. s * 1000 + m) (thousandths (drop (n + 1) text))) (whole text n)

abbrev pub seconds : List ℕ → Option ℕ
seconds text = seconds_at text (position (λ c. c == ascii.dot) text)

-- A time below zero is none.
abbrev pub signed : List ℕ → Option ℕ
signed [] = None
signed (c ∷ cs) = if c == ascii.minus then option_map (λ m. 0) (seconds cs) else seconds (c ∷ cs)

abbrev pub or_expected : List ℕ → Option ℕ → Said ℕ
or_expected text None = Err (expected_number text)
or_expected text (Some n) = Ok n

-- The last moment of a wait of this many milliseconds. More than 9,000,000,000,000 seconds never end.
abbrev pub until : ℕ → ℕ → Option ℕ
until clock ms = if nat_lt 9000000000000000 ms then None else Some (clock + ms)

abbrev pub sleeping_for : Own → ℕ → Deed
sleeping_for o ms = if ms == 0 then Alone [] (done []) else Expect (nothing_until (until o.clock ms) None)

abbrev pub sleeping_if : Own → List ℕ → Option ℕ → Said Deed
sleeping_if o text time = or_expected text time >>= λ ms. Ok (sleeping_for o ms)

abbrev pub sleeping_by : ExpectCommand → (List ℕ → Option ℕ) → List ℕ → List (List ℕ) → Own → Said Deed
sleeping_by c time word args o = arguments c word args >>= λ f. sleeping_if o (arg 0 f.1) (time (arg 0 f.1))

-- sleep seconds
abbrev pub sleeping : List ℕ → List (List ℕ) → Own → Said Deed
sleeping word args o = sleeping_by command.Sleep signed word args o

-- after ms
abbrev pub waiting_after : List ℕ → List (List ℕ) → Own → Said Deed
waiting_after word args o = sleeping_by command.After digits word args o

-- What the code keeps of a time: more than 9,000,000,000,000 seconds are all the same.
abbrev pub kept : ℕ → ℕ
kept n = min n 9000000000000001
