-- The options of `string` (string(n)). Characters are bytes. Only ASCII letters have case.
use Rattle.std.specs.Prelude.{ℕ, suc, List, [], ◌∷◌, length, map, drop, take, ◌-◌, reverse, Option, Some, None, option_map, Ok, Err, ℤ, pos, negsuc, if◌then◌else◌}
use Rattle.std.specs.List.{prefix_len, repeat}
use Rattle.std.specs.Option.{option_or}
use Rattle.std.specs.Ordering.{nat_cmp}
use Rattle.std.specs.Char.{to_ascii_lowercase, to_ascii_uppercase}
use Rattle.std.specs.Cmp.Lexicographic.{slice_cmp}
use Rattle.std.specs.declared.cmp.Ordering.{Ordering}
use Rattle.std.specs.declared.cmp.Ordering.TheVariants as order
use Rattle.tcl_words.specs.Bytes as ascii
use Rattle.command_table.specs.declared.options.StringOption.{StringOption}
use Rattle.command_table.specs.declared.options.StringOption.TheVariants.{Length, Index, Range, Equal, Compare, First, Last, ToLower, ToUpper, Trim, TrimLeft, TrimRight, Match, Map, Is, Reverse, Repeat}
use Rattle.command_table.specs.declared.switches.Switches.TheVariants.{Case}
use Rattle.command_table.specs.Options.{string_option, string_count}
use Rattle.tcl_results.specs.Texts.{bad_option}
use Rattle.exp_glob.specs.Whole.{matches}
use Rattle.tcl_results.specs.Given.{arg, arg_or, if_fits}
use Rattle.tcl_results.specs.Sets.{is_one_of}
use Rattle.tcl_results.specs.Switches.{flags_of}
use Rattle.tcl_results.specs.Cases.{folded, are_same, begins_with}
use Rattle.tcl_strings.specs.Mapping.{mapped}
use Rattle.tcl_strings.specs.Classes.{classed}
use Rattle.tcl_results.specs.Said.{Said, ◌>>=◌, limited, as_number}
use Rattle.tcl_results.specs.Indices.{index_of, between}
use Rattle.tcl_results.specs.Values.{count_text, bit_text, place_text}

abbrev pub order_text : Ordering → List ℕ
order_text order.Less = ascii.minus ∷ ascii.digit_1 ∷ []
order_text order.Equal = ascii.digit_0 ∷ []
order_text order.Greater = ascii.digit_1 ∷ []

-- The first index of a text in another. The empty text is found at 0.
unfoldable pub first_place : List ℕ → List ℕ → Option ℕ
first_place text [] = if begins_with [] text then Some 0 else None
first_place text (b ∷ bytes) = if begins_with (b ∷ bytes) text then Some 0 else option_map suc (first_place text bytes)

-- The last index of a text in another. The empty text is found after the last byte.
unfoldable pub last_place : List ℕ → List ℕ → Option ℕ
last_place text [] = if begins_with [] text then Some 0 else None
last_place text (b ∷ bytes) = option_or (option_map suc (last_place text bytes)) (if begins_with (b ∷ bytes) text then Some 0 else None)

-- The bytes that are trimmed by default.
abbrev pub blanks : List ℕ
blanks = ascii.space ∷ ascii.tab ∷ ascii.newline ∷ ascii.vertical_tab ∷ ascii.form_feed ∷ ascii.carriage_return ∷ []

-- A text without the bytes of a set at its front.
abbrev pub trimmed_left : List ℕ → List ℕ → List ℕ
trimmed_left chars text = drop (prefix_len (is_one_of chars) text) text

-- A text without the bytes of a set at its end.
abbrev pub trimmed_right : List ℕ → List ℕ → List ℕ
trimmed_right chars text = take (length text - prefix_len (is_one_of chars) (reverse text)) text

abbrev pub byte_at : List ℕ → List ℕ → Said (List ℕ)
byte_at t i = index_of (length t) i >>= λ at. Ok (between at at t)

abbrev pub bytes_between : List ℕ → List ℕ → List ℕ → Said (List ℕ)
bytes_between t i j = index_of (length t) i >>= λ from. index_of (length t) j >>= λ to. Ok (between from to t)

-- string equal ?-nocase? string1 string2
abbrev pub equal : List ℕ → List (List ℕ) → Said (List ℕ)
equal command args = flags_of Case 2 command args >>= λ p. Ok (bit_text (are_same p.0.nocase (arg 0 (drop p.1 args)) (arg 1 (drop p.1 args))))

-- string compare ?-nocase? string1 string2
abbrev pub compared : List ℕ → List (List ℕ) → Said (List ℕ)
compared command args =
    flags_of Case 2 command args >>= λ p. Ok (order_text (slice_cmp nat_cmp (folded p.0.nocase (arg 0 (drop p.1 args))) (folded p.0.nocase (arg 1 (drop p.1 args)))))

-- string match ?-nocase? pattern string
abbrev pub matched : List ℕ → List (List ℕ) → Said (List ℕ)
matched command args = flags_of Case 2 command args >>= λ p. Ok (bit_text (matches p.0.nocase (arg 0 (drop p.1 args)) (arg 1 (drop p.1 args))))

-- A text, n times. A negative number counts as 0.
abbrev pub repeated : List ℕ → ℤ → Said (List ℕ)
repeated text (pos n) = limited (repeat n text)
repeated text (negsuc n) = Ok []

-- The result of an option with the arguments after it.
abbrev pub string_by : StringOption → List ℕ → List (List ℕ) → Said (List ℕ)
string_by Length command args = Ok (count_text (length (arg 0 args)))
string_by Index command args = byte_at (arg 0 args) (arg 1 args)
string_by Range command args = bytes_between (arg 0 args) (arg 1 args) (arg 2 args)
string_by Equal command args = equal command args
string_by Compare command args = compared command args
string_by First command args = Ok (place_text (first_place (arg 0 args) (arg 1 args)))
string_by Last command args = Ok (place_text (last_place (arg 0 args) (arg 1 args)))
string_by ToLower command args = Ok (map to_ascii_lowercase (arg 0 args))
string_by ToUpper command args = Ok (map to_ascii_uppercase (arg 0 args))
string_by Trim command args = Ok (trimmed_right (arg_or blanks 1 args) (trimmed_left (arg_or blanks 1 args) (arg 0 args)))
string_by TrimLeft command args = Ok (trimmed_left (arg_or blanks 1 args) (arg 0 args))
string_by TrimRight command args = Ok (trimmed_right (arg_or blanks 1 args) (arg 0 args))
string_by Match command args = matched command args
string_by Map command args = mapped command args
string_by Is command args = classed command args >>= λ b. Ok (bit_text b)
string_by Reverse command args = Ok (reverse (arg 0 args))
string_by Repeat command args = as_number (arg 1 args) >>= λ n. repeated (arg 0 args) n

-- An unknown option is reported before a wrong number of arguments.
abbrev pub string_named : List ℕ → List ℕ → Option StringOption → List (List ℕ) → Said (List ℕ)
string_named command word None args = Err (bad_option word)
string_named command word (Some option) args = if_fits (string_count option) command args (string_by option command args)

abbrev pub string : List ℕ → List (List ℕ) → Said (List ℕ)
string command args = string_named command (arg 0 args) (string_option (arg 0 args)) (drop 1 args)
