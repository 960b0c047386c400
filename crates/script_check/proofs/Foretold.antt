-- A problem with the arguments of a command of the language is the error in which the command ends.
use Rattle.std.proofs.Common.{◌≡◌, ℕ, suc, ◌+◌, ◌%◌, ◌==◌, Bool, true, false, ◌&&◌, List, [], ◌∷◌, length, drop, Option, Some, None, Ok, Err, if◌then◌else◌, sym, ap, subst, ◌∙◌, refl, true≢false, arith}
use Rattle.std.specs.Prelude.{codes, bytes_eq, nat_le, nat_lt, option_map, option_and_then}
use Rattle.std.proofs.lemmas.Bool.Decides.{nat_tests}
use Rattle.std.proofs.lemmas.List.{drop-drop}
use Rattle.tcl_subst.specs.Variables.{Variables}
use Rattle.command_table.specs.declared.commands.Command.{Command}
use Rattle.command_table.specs.declared.commands.Command.TheVariants.{Tcl, Expect}
use Rattle.command_table.specs.declared.commands.ExpectCommand.{ExpectCommand}
use Rattle.command_table.specs.declared.commands.TclCommand.{TclCommand}
use Rattle.command_table.specs.declared.commands.TclCommand.TheVariants.{Value, If, Foreach, Expr, Eval as EvalCommand, Exit, While, For, Proc, Catch, Switch as SwitchCommand}
use Rattle.command_table.specs.declared.commands.ValueCommand.{ValueCommand}
use Rattle.command_table.specs.declared.commands.ValueCommand.TheVariants.{String, Info, Array, Lsearch, Lsort, Subst, Regexp, Regsub, Package, ExpVersion}
use Rattle.command_table.specs.declared.counts.Count.{Count}
use Rattle.command_table.specs.declared.options.StringOption.{StringOption}
use Rattle.command_table.specs.declared.options.StringOption.TheVariants as string
use Rattle.command_table.specs.declared.switches.Switch.{Switch}
use Rattle.command_table.specs.declared.switches.Switch.TheVariants as switch
use Rattle.command_table.specs.declared.switches.Switches.{Switches}
use Rattle.command_table.specs.declared.switches.Switches.TheVariants as switches
use Rattle.command_table.specs.declared.options.InfoOption.{InfoOption}
use Rattle.command_table.specs.declared.options.ArrayOption.{ArrayOption}
use Rattle.command_table.specs.declared.options.PackageOption.{PackageOption}
use Rattle.command_table.specs.declared.reading.Kind.{Kind}
use Rattle.command_table.specs.declared.reading.Kind.TheVariants.{Text, Script}
use Rattle.command_table.specs.declared.reading.Stage.{Stage}
use Rattle.command_table.specs.declared.reading.Stage.TheVariants.{Each, Test, Then, Branch, Ends, Else, Done, Over}
use Rattle.command_table.specs.Commands.{tcl_command, language_command, or_redefinable, expect_command, tcl_or_expect, command_of}
use Rattle.command_table.specs.Counts.{exactly, at_least, fits}
use Rattle.command_table.specs.Flags.{begins_with_minus}
use Rattle.command_table.specs.Switches.{switch_of, takes_value, is_end, words_behind}
use Rattle.command_table.specs.Options.{string_option, string_count, string_switches, info_option, info_count, array_option, array_count, package_option, package_count, option_count, option_switches}
use Rattle.command_table.specs.Reading.{step, is_short}
use Rattle.command_table.specs.Rows.{value_row, tcl_row}
use Rattle.tcl_results.specs.declared.code.Code.TheVariants as code
use Rattle.tcl_results.specs.Texts.{wrong_args}
use Rattle.tcl_results.specs.Said.{Said, Outcome, told, ◌>>=◌, on_said as on_value}
use Rattle.tcl_results.specs.Front.{Front, with_flag, at_flag, front_from, front_of}
use Rattle.tcl_patterns.specs.Regexps.{matched}
use Rattle.tcl_commands.specs.Versions.{package_by, package_named, package_command}
use Rattle.tcl_patterns.specs.Replacing.{changed}
use Rattle.tcl_results.specs.Given.{if_fits}
use Rattle.tcl_commands.specs.Plain.{plain, allowed, info_by, info_named, info}
use Rattle.tcl_commands.specs.Arrays.{array_by, array_named, array}
use Rattle.tcl_results.specs.Switches.{nothing, with_switch, if_switch, flag_step, on_flag, flags_from, flags_of}
use Rattle.tcl_strings.specs.Classes.{classed}
use Rattle.tcl_strings.specs.Strings.{string_by, string_named, string}
use Rattle.tcl_control.specs.Arms.{arms_of, with_arm, only_body, tests, bodies, body, ends, or_wrong}
use Rattle.tcl_control.specs.Groups.{each_of}
use Rattle.tcl_control.specs.Choosing.{body_of_switch}
use Rattle.tcl_lists.specs.Joining.{expr_text, eval_text}
use Rattle.tcl_control.specs.Verbs.{as_verb, exit_status}
use Rattle.tcl_subst.specs.Entries.{find}
use Rattle.tcl_control.proofs.Grouped.{each_even}
use Rattle.tcl_eval.specs.declared.procedure.Procedure.{Procedure}
use Rattle.tcl_eval.specs.Tree.{State, Tree}
use Rattle.tcl_eval.specs.Meaning.{Next, Eval, on_said, after, invoked, redefinable_or_begun, called_or_begun, named}
use Rattle.script_check.specs.declared.placed.Placed.{Placed}
use Rattle.script_check.specs.declared.problem.Problem.{Problem}
use Rattle.script_check.specs.Faults.{wrong, counted, by_switch, maybe_switch, switched, if_counted, chosen, at_front, fronted, last_stage, fault_of}
use Rattle.script_check.specs.Texts.{text_of}
use Rattle.script_check.specs.Runs.{MayBe, AreWords, FindingsHold}

-- a command ends in an error with this text, and leaves the variables as they were
abbrev ValueEnds : List ℕ → List ℕ → List (List ℕ) → ValueCommand → Type 0
ValueEnds text name words c = (vars : Variables) → plain c name words vars ≡ (code.Error, text, vars)

abbrev EndsIn : List ℕ → List ℕ → List (List ℕ) → TclCommand → Type 0
EndsIn text name words c = (ev : Eval) (k : Next) (st : State) → invoked ev (as_verb c) name words k st ≡ k code.Error text st

-- what is said of the text of a problem, if there is one
abbrev Foretold : Option Problem → (List ℕ → Type 0) → Type 0
Foretold None says = Unit
Foretold (Some p) says = says (text_of p)

weaker : (found : Option Problem) (P Q : List ℕ → Type 0) → ((text : List ℕ) → P text → Q text) → Foretold found P → Foretold found Q
weaker None P Q implies holds = tt
weaker (Some p) P Q implies holds = implies (text_of p) holds

-- ---- numbers of arguments

lengths : (args : List Placed) (words : List (List ℕ)) → AreWords args words → length words ≡ length args
lengths [] [] are = refl
lengths [] (x ∷ xs) are = absurd are
lengths (w ∷ ws) [] are = absurd are
lengths (w ∷ ws) (x ∷ xs) are = ap (λ n. suc n) (lengths ws xs are.1)

if_wrong : (b : Bool) (name : List ℕ) (says : List ℕ → Type 0) → (b ≡ false → says (wrong_args name)) → Foretold (if b then None else wrong name) says
if_wrong true name says holds = tt
if_wrong false name says holds = holds refl

counted_is : (c : Count) (name : List ℕ) (n m : ℕ) (says : List ℕ → Type 0) → m ≡ n → (fits c m ≡ false → says (wrong_args name)) → Foretold (counted name c n) says
counted_is c name n m says same holds = if_wrong (fits c n) name says (λ unfit. holds (ap (λ k. fits c k) same ∙ unfit))

unfit : {X : Type 0} (c : Count) (name : List ℕ) (words : List (List ℕ)) (said : Said X) → fits c (length words) ≡ false → if_fits c name words said ≡ Err (wrong_args name)
unfit c name words said is = ap (λ (b : Bool). if b then said else Err (wrong_args name)) is

one_fits : (n : ℕ) → nat_le 1 (suc n) ≡ true
one_fits n = grind (arith, nat_tests)

two_fit : (n : ℕ) → nat_le 2 (suc (suc n)) ≡ true
two_fit n = grind (arith, nat_tests)

-- ---- flags before the last arguments

abbrev TypeOf : {X : Type 0} → X → Type 0
TypeOf {X = X} x = X

-- flags that were read
abbrev Flagged : Type 0
Flagged = TypeOf nothing

bind_ends : {X Y : Type 0} (said : Said X) (text : List ℕ) (more : X → Said Y) → said ≡ Err text → (said >>= more) ≡ Err text
bind_ends {X = X} said text more is = ap (λ (s : Said X). s >>= more) is

bind_goes : {X Y : Type 0} (said : Said X) (x : X) (more : X → Said Y) → said ≡ Ok x → (said >>= more) ≡ more x
bind_goes {X = X} said x more is = ap (λ (s : Said X). s >>= more) is

drop_next : (n : ℕ) (whole : List (List ℕ)) (x : List ℕ) (xs : List (List ℕ)) → drop n whole ≡ x ∷ xs → drop (n + 1) whole ≡ xs
drop_next n whole x xs is = sym (drop-drop 1 n whole) ∙ ap (λ (ws : List (List ℕ)). drop 1 ws) is

too_many : (n m : ℕ) → nat_lt n m ≡ true → fits (exactly n) m ≡ false
too_many n m lt = grind (arith, nat_tests, lt)

-- the next word is the value of a flag
due_of : (x : Switch) (n : ℕ) (g : Flagged) → g.due ≡ false → (with_switch x n g).due ≡ takes_value x
due_of switch.Index n g is = refl
due_of switch.Start n g is = refl
due_of other n g is = is

module _ (name : List ℕ) (s : Switches) (n : ℕ) (whole : List (List ℕ)) where
  abbrev behind_flags : Flagged × ℕ → Said (Flagged × ℕ)
  behind_flags p = if_fits (exactly n) name (drop p.1 whole) (Ok p)

  -- the flags from a word on end in this error
  abbrev FlagsEnd : Flagged → ℕ → List (List ℕ) → List ℕ → Type 0
  FlagsEnd g at words text = (flags_from s n g at words >>= behind_flags) ≡ Err text

  -- no word is a flag
  none_left : (g : Flagged) (at : ℕ) (words : List (List ℕ)) (m : ℕ) → flags_from s n g at words ≡ Ok (g, at) → drop at whole ≡ words → length words ≡ m
      → Foretold (counted name (exactly n) m) (FlagsEnd g at words)
  none_left g at words m is here long =
      counted_is (exactly n) name m (length (drop at whole)) (FlagsEnd g at words) (ap (λ (ws : List (List ℕ)). length ws) here ∙ long)
      (λ unfits. bind_goes (flags_from s n g at words) (g, at) behind_flags is ∙ unfit (exactly n) name (drop at whole) (Ok (g, at)) unfits)

  module _ (g : Flagged) (at : ℕ) (x : List ℕ) (xs : List (List ℕ)) where
    abbrev onward : Said (Option Flagged) → Said (Flagged × ℕ)
    onward t = t >>= λ t. on_flag (λ h. flags_from s n h (at + 1) xs) (g, at) t

    abbrev step_at : Said (Option Flagged)
    step_at = flag_step s x (nat_lt n (length (x ∷ xs))) (at + 1) g

    steps_to : (due more minus : Bool) → g.due ≡ due → nat_lt n (length (x ∷ xs)) ≡ more → begins_with_minus x ≡ minus
        → step_at ≡ (if due then Ok (Some (record g { due = false })) else if more && minus then if_switch x (switch_of s x) (at + 1) g else Ok None)
    steps_to due more minus is_due is_more is_minus =
        ap (λ (b : Bool). if b then Ok (Some (record g { due = false })) else if nat_lt n (length (x ∷ xs)) && begins_with_minus x then if_switch x (switch_of s x) (at + 1) g else Ok None) is_due
        ∙ ap (λ (b : Bool). if due then Ok (Some (record g { due = false })) else if b && begins_with_minus x then if_switch x (switch_of s x) (at + 1) g else Ok None) is_more
        ∙ ap (λ (b : Bool). if due then Ok (Some (record g { due = false })) else if more && b then if_switch x (switch_of s x) (at + 1) g else Ok None) is_minus

    goes_on : (h : Flagged) → step_at ≡ Ok (Some h) → (text : List ℕ) → FlagsEnd h (at + 1) xs text → FlagsEnd g at (x ∷ xs) text
    goes_on h is text ends = ap (λ (t : Said (Option Flagged)). onward t >>= behind_flags) is ∙ ends

    stays : step_at ≡ Ok None → flags_from s n g at (x ∷ xs) ≡ Ok (g, at)
    stays is = ap (λ (t : Said (Option Flagged)). onward t) is

    module _ (w : Placed) (ws : List Placed) (is_word : MayBe w.value x) (long : length xs ≡ length ws) (here : drop at whole ≡ x ∷ xs)
        (later : (h : Flagged) → Foretold (switched name s n h.due ws) (FlagsEnd h (at + 1) xs)) where
      abbrev on : Bool → Option Problem
      on due = switched name s n due ws

      module _ (not_due : g.due ≡ false) (more : nat_lt n (length (x ∷ xs)) ≡ true) where
        switch_told : (o : Option Switch) → switch_of s x ≡ o → begins_with_minus x ≡ true → Foretold (by_switch on x o) (FlagsEnd g at (x ∷ xs))
        switch_told None is minus =
            ap (λ (t : Said (Option Flagged)). onward t >>= behind_flags) (steps_to false true true not_due more minus ∙ ap (λ (o : Option Switch). if_switch x o (at + 1) g) is)
        switch_told (Some y) is minus =
            weaker (switched name s n (takes_value y) ws) (FlagsEnd (with_switch y (at + 1) g) (at + 1) xs) (FlagsEnd g at (x ∷ xs))
            (goes_on (with_switch y (at + 1) g) (steps_to false true true not_due more minus ∙ ap (λ (o : Option Switch). if_switch x o (at + 1) g) is))
            (subst (λ (b : Bool). Foretold (switched name s n b ws) (FlagsEnd (with_switch y (at + 1) g) (at + 1) xs)) (due_of y (at + 1) g not_due) (later (with_switch y (at + 1) g)))

        minus_told : (b : Bool) → begins_with_minus x ≡ b → Foretold (if b then by_switch on x (switch_of s x) else wrong name) (FlagsEnd g at (x ∷ xs))
        minus_told true is = switch_told (switch_of s x) refl is
        minus_told false is =
            bind_goes (flags_from s n g at (x ∷ xs)) (g, at) behind_flags (stays (steps_to false true false not_due more is))
            ∙ unfit (exactly n) name (drop at whole) (Ok (g, at)) (ap (λ (ys : List (List ℕ)). fits (exactly n) (length ys)) here ∙ too_many n (length (x ∷ xs)) more)

        value_told : (v : Option (List ℕ)) → MayBe v x → Foretold (option_and_then (maybe_switch on name s) v) (FlagsEnd g at (x ∷ xs))
        value_told None is = tt
        value_told (Some text) is = subst (λ (y : List ℕ). Foretold (maybe_switch on name s y) (FlagsEnd g at (x ∷ xs))) is (minus_told (begins_with_minus x) refl)

      more_told : (b : Bool) → g.due ≡ false → nat_lt n (suc (length ws)) ≡ b
          → Foretold (if b then option_and_then (maybe_switch on name s) w.value else counted name (exactly n) (suc (length ws))) (FlagsEnd g at (x ∷ xs))
      more_told true not_due is = value_told not_due (ap (λ (m : ℕ). nat_lt n (suc m)) long ∙ is) w.value is_word
      more_told false not_due is =
          none_left g at (x ∷ xs) (suc (length ws)) (stays (steps_to false false (begins_with_minus x) not_due (ap (λ (m : ℕ). nat_lt n (suc m)) long ∙ is) refl)) here
          (ap (λ (m : ℕ). suc m) long)

      due_told : (d : Bool) → g.due ≡ d → Foretold (switched name s n d (w ∷ ws)) (FlagsEnd g at (x ∷ xs))
      due_told true is =
          weaker (switched name s n false ws) (FlagsEnd (record g { due = false }) (at + 1) xs) (FlagsEnd g at (x ∷ xs))
          (goes_on (record g { due = false }) (steps_to true (nat_lt n (length (x ∷ xs))) (begins_with_minus x) is refl refl)) (later (record g { due = false }))
      due_told false is = more_told (nat_lt n (suc (length ws))) is refl

  flags_told : (args : List Placed) (words : List (List ℕ)) (g : Flagged) (at : ℕ) → AreWords args words → drop at whole ≡ words
      → Foretold (switched name s n g.due args) (FlagsEnd g at words)
  flags_told [] [] g at are here = none_left g at [] 0 refl here refl
  flags_told [] (x ∷ xs) g at are here = absurd are
  flags_told (w ∷ ws) [] g at are here = absurd are
  flags_told (w ∷ ws) (x ∷ xs) g at are here =
      due_told g at x xs w ws are.0 (lengths ws xs are.1) here (λ h. flags_told ws xs h (at + 1) are.1 (drop_next at whole x xs here)) g.due refl

by_fit : (b : Bool) (name : List ℕ) (found : Option Problem) (says : List ℕ → Type 0) → (b ≡ false → says (wrong_args name)) → (b ≡ true → Foretold found says)
    → Foretold (if b then found else wrong name) says
by_fit true name found says unfits fit = fit refl
by_fit false name found says unfits fit = unfits refl

-- flags before the last n of these words, of a command that may have so many words
module _ (c : Count) (name : List ℕ) (s : Switches) (n : ℕ) (args : List Placed) (words : List (List ℕ)) (are : AreWords args words) where
  flagged_told : (k m : ℕ) (says : List ℕ → Type 0) → m ≡ k → (fits c m ≡ false → says (wrong_args name))
      → (fits c m ≡ true → (text : List ℕ) → flags_of s n name words ≡ Err text → says text) → Foretold (if fits c k then switched name s n false args else wrong name) says
  flagged_told k m says same unfits ends =
      by_fit (fits c k) name (switched name s n false args) says (λ is. unfits (ap (λ (i : ℕ). fits c i) same ∙ is))
      (λ is. weaker (switched name s n false args) (FlagsEnd name s n words nothing 0 words) says (ends (ap (λ (i : ℕ). fits c i) same ∙ is))
      (flags_told name s n words args words nothing 0 are refl))

-- ---- flags before all other words

no_fewer : (n : ℕ) → nat_le 0 n ≡ true
no_fewer n = grind (arith, nat_tests)

some_left : (n : ℕ) → nat_lt 0 (suc n) ≡ true
some_left n = grind (arith, nat_tests)

module _ (name : List ℕ) (s : Switches) where
  abbrev if_counts : Said Front → Said Front
  if_counts f = f >>= λ p. if_fits (words_behind s) name p.1 (Ok p)

  -- the words end in this error
  abbrev FrontEnds : Bool → List (List ℕ) → List ℕ → Type 0
  FrontEnds due words text = if_counts (front_from s 0 due words) ≡ Err text

  other_front : (b : Bool) (p q : Front) (text : List ℕ) → (if b then Ok p else Err (wrong_args name)) ≡ Err text → (if b then Ok q else Err (wrong_args name)) ≡ Err text
  other_front true p q text ends = cc
  other_front false p q text ends = ends

  -- a flag more in front
  behind_flag : (x : List ℕ) (said : Said Front) (text : List ℕ) → if_counts said ≡ Err text → if_counts (said >>= λ p. Ok (with_flag x p)) ≡ Err text
  behind_flag x (Err t) text ends = ends
  behind_flag x (Ok p) text ends = other_front (fits (words_behind s) (length p.1)) p (with_flag x p) text ends

  module _ (x : List ℕ) (xs : List (List ℕ)) (ws : List Placed) (long : length xs ≡ length ws) (later : (due : Bool) → Foretold (fronted name s (words_behind s) due ws) (FrontEnds due xs)) where
    abbrev onwards : Bool → Said Front
    onwards due = front_from s 0 due xs

    steps_by : (minus : Bool) → begins_with_minus x ≡ minus → front_from s 0 false (x ∷ xs) ≡ (if minus then at_flag x (switch_of s x) xs onwards else Ok ([], x ∷ xs))
    steps_by minus is =
        ap (λ (b : Bool). if b && begins_with_minus x then at_flag x (switch_of s x) xs onwards else Ok ([], x ∷ xs)) (some_left (length xs))
        ∙ ap (λ (b : Bool). if b then at_flag x (switch_of s x) xs onwards else Ok ([], x ∷ xs)) is

    ends_at : (b : Bool) (y : Switch) → is_end y ≡ b → switch_of s x ≡ Some y → begins_with_minus x ≡ true
        → front_from s 0 false (x ∷ xs) ≡ (if b then Ok ([], xs) else (onwards (takes_value y) >>= λ p. Ok (with_flag x p)))
    ends_at b y ends is minus =
        steps_by true minus ∙ ap (λ (o : Option Switch). at_flag x o xs onwards) is
        ∙ ap (λ (e : Bool). if e then Ok ([], xs) else (onwards (takes_value y) >>= λ p. Ok (with_flag x p))) ends

    end_told : (b : Bool) (y : Switch) → is_end y ≡ b → switch_of s x ≡ Some y → begins_with_minus x ≡ true
        → Foretold (if b then counted name (words_behind s) (length ws) else fronted name s (words_behind s) (takes_value y) ws) (FrontEnds false (x ∷ xs))
    end_told true y ends is minus =
        counted_is (words_behind s) name (length ws) (length xs) (FrontEnds false (x ∷ xs)) long
        (λ unfits. ap if_counts (ends_at true y ends is minus) ∙ unfit (words_behind s) name xs (Ok ([], xs)) unfits)
    end_told false y ends is minus =
        weaker (fronted name s (words_behind s) (takes_value y) ws) (FrontEnds (takes_value y) xs) (FrontEnds false (x ∷ xs))
        (λ text holds. ap if_counts (ends_at false y ends is minus) ∙ behind_flag x (onwards (takes_value y)) text holds) (later (takes_value y))

    abbrev flag_found : List ℕ → Option Switch → Option Problem
    flag_found = at_front (λ due. fronted name s (words_behind s) due ws) (counted name (words_behind s) (length ws))

    flag_told : (o : Option Switch) → switch_of s x ≡ o → begins_with_minus x ≡ true → Foretold (flag_found x o) (FrontEnds false (x ∷ xs))
    flag_told None is minus = ap if_counts (steps_by true minus ∙ ap (λ (o : Option Switch). at_flag x o xs onwards) is)
    flag_told (Some y) is minus = end_told (is_end y) y refl is minus

    abbrev word_found : List ℕ → Option Problem
    word_found text = if begins_with_minus text then flag_found text (switch_of s text) else counted name (words_behind s) (suc (length ws))

    word_told : (b : Bool) → begins_with_minus x ≡ b → Foretold (if b then flag_found x (switch_of s x) else counted name (words_behind s) (suc (length ws))) (FrontEnds false (x ∷ xs))
    word_told true is = flag_told (switch_of s x) refl is
    word_told false is =
        counted_is (words_behind s) name (suc (length ws)) (suc (length xs)) (FrontEnds false (x ∷ xs)) (ap (λ (n : ℕ). suc n) long)
        (λ unfits. ap if_counts (steps_by false is) ∙ unfit (words_behind s) name (x ∷ xs) (Ok ([], x ∷ xs)) unfits)

    literal_told : (v : Option (List ℕ)) → MayBe v x → Foretold (option_and_then word_found v) (FrontEnds false (x ∷ xs))
    literal_told None is = tt
    literal_told (Some text) is = subst (λ (y : List ℕ). Foretold (word_found y) (FrontEnds false (x ∷ xs))) is (word_told (begins_with_minus x) refl)

  front_told : (args : List Placed) (words : List (List ℕ)) (due : Bool) → AreWords args words → Foretold (fronted name s (words_behind s) due args) (FrontEnds due words)
  front_told [] [] due are = counted_is (words_behind s) name 0 0 (FrontEnds due []) refl (λ unfits. unfit (words_behind s) name [] (Ok ([], [])) unfits)
  front_told [] (x ∷ xs) due are = absurd are
  front_told (w ∷ ws) [] due are = absurd are
  front_told (w ∷ ws) (x ∷ xs) true are =
      weaker (fronted name s (words_behind s) false ws) (FrontEnds false xs) (FrontEnds true (x ∷ xs)) (λ text holds. behind_flag x (front_from s 0 false xs) text holds) (front_told ws xs false are.1)
  front_told (w ∷ ws) (x ∷ xs) false are = literal_told x xs ws (lengths ws xs are.1) (λ due. front_told ws xs due are.1) w.value are.0

-- ---- options

outcome_told : (found : Option Problem) (name : List ℕ) (n m : ℕ) (outcome : Variables → Outcome) → Foretold found (λ text. (vars : Variables) → outcome vars ≡ (code.Error, text, vars))
    → Foretold (if nat_le 1 (suc n) then found else wrong name) (λ text. (vars : Variables) → (if nat_le 1 (suc m) then outcome vars else told (Err (wrong_args name)) vars) ≡ (code.Error, text, vars))
outcome_told found name n m outcome holds =
    subst (λ (b : Bool). Foretold (if b then found else wrong name) (λ text. (vars : Variables) → (if nat_le 1 (suc m) then outcome vars else told (Err (wrong_args name)) vars) ≡ (code.Error, text, vars)))
    (sym (one_fits n))
    (weaker found _ _ (λ text is vars. ap (λ (b : Bool). if b then outcome vars else told (Err (wrong_args name)) vars) (one_fits m) ∙ is vars) holds)

option_told : (found : Option Problem) (name : List ℕ) (n m : ℕ) (said : Variables → Said (List ℕ)) → Foretold found (λ text. (vars : Variables) → said vars ≡ Err text)
    → Foretold (if nat_le 1 (suc n) then found else wrong name) (λ text. (vars : Variables) → (if nat_le 1 (suc m) then told (said vars) vars else told (Err (wrong_args name)) vars) ≡ (code.Error, text, vars))
option_told found name n m said holds =
    outcome_told found name n m (λ vars. told (said vars) vars) (weaker found _ _ (λ text is vars. ap (λ (s : Said (List ℕ)). told s vars) (is vars)) holds)

tail_are : (args : List Placed) (words : List (List ℕ)) → AreWords args words → AreWords (drop 1 args) (drop 1 words)
tail_are [] [] are = tt
tail_are [] (x ∷ xs) are = absurd are
tail_are (w ∷ ws) [] are = absurd are
tail_are (w ∷ ws) (x ∷ xs) are = are.1

module _ (name : List ℕ) (args : List Placed) (words : List (List ℕ)) (are : AreWords args words) where
  fit_ends : (c : Count) (said : Said (List ℕ)) (text : List ℕ) → fits c (length words) ≡ true → said ≡ Err text → if_fits c name words said ≡ Err text
  fit_ends c said text fit is = ap (λ (b : Bool). if b then said else Err (wrong_args name)) fit ∙ is

  flags_foretold : (s : Switches) (n : ℕ) (c : Count) (some : List Placed) (their : List (List ℕ)) (said : Said (List ℕ)) → AreWords some their
      → ((text : List ℕ) → flags_of s n name their ≡ Err text → said ≡ Err text) → Foretold (if fits c (length args) then switched name s n false some else wrong name) (λ t. if_fits c name words said ≡ Err t)
  flags_foretold s n c some their said are_so ends =
      flagged_told c name s n some their are_so (length args) (length words) (λ t. if_fits c name words said ≡ Err t) (lengths args words are) (unfit c name words said)
      (λ fit text is. fit_ends c said text fit (ends text is))

  string_known : (text : List ℕ) (o : Option StringOption) → Foretold (if_counted name args text (option_map string_count o) (option_and_then string_switches o)) (λ t. string_named name text o words ≡ Err t)
  string_known text None = refl
  string_known text (Some string.Equal) = flags_foretold switches.Case 2 (at_least 2) args words (string_by string.Equal name words) are (λ t is. bind_ends (flags_of switches.Case 2 name words) t _ is)
  string_known text (Some string.Compare) = flags_foretold switches.Case 2 (at_least 2) args words (string_by string.Compare name words) are (λ t is. bind_ends (flags_of switches.Case 2 name words) t _ is)
  string_known text (Some string.Match) = flags_foretold switches.Case 2 (at_least 2) args words (string_by string.Match name words) are (λ t is. bind_ends (flags_of switches.Case 2 name words) t _ is)
  string_known text (Some string.Map) = flags_foretold switches.Case 2 (at_least 2) args words (string_by string.Map name words) are (λ t is. bind_ends (flags_of switches.Case 2 name words) t _ is)
  string_known text (Some string.Is) =
      flags_foretold switches.Strict 1 (at_least 2) (drop 1 args) (drop 1 words) (string_by string.Is name words) (tail_are args words are)
      (λ t is. bind_ends (classed name words) t _ (bind_ends (flags_of switches.Strict 1 name (drop 1 words)) t _ is))
  string_known text (Some o) =
      counted_is (string_count o) name (length args) (length words) (λ t. string_named name text (Some o) words ≡ Err t) (lengths args words are) (unfit (string_count o) name words (string_by o name words))

  string_told : (value : Option (List ℕ)) (x : List ℕ) → MayBe value x → Foretold (chosen (Tcl (Value String)) name args value) (λ t. (vars : Variables) → string name (x ∷ words) ≡ Err t)
  string_told None x is = tt
  string_told (Some text) x is =
      weaker (if_counted name args text (option_count (Tcl (Value String)) text) (option_switches (Tcl (Value String)) text)) _ _ (λ t holds vars. holds)
      (subst (λ y. Foretold (if_counted name args text (option_count (Tcl (Value String)) text) (option_switches (Tcl (Value String)) text)) (λ t. string name (y ∷ words) ≡ Err t)) (sym is)
      (string_known text (string_option text)))

  info_known : (text : List ℕ) (o : Option InfoOption) → Foretold (if_counted name args text (option_map info_count o) None) (λ t. (vars : Variables) → info_named name text o words vars ≡ Err t)
  info_known text None = λ vars. refl
  info_known text (Some o) =
      counted_is (info_count o) name (length args) (length words) (λ t. (vars : Variables) → info_named name text (Some o) words vars ≡ Err t) (lengths args words are)
      (λ is vars. unfit (info_count o) name words (info_by o words vars) is)

  info_told : (value : Option (List ℕ)) (x : List ℕ) → MayBe value x → Foretold (chosen (Tcl (Value Info)) name args value) (λ t. (vars : Variables) → info name (x ∷ words) vars ≡ Err t)
  info_told None x is = tt
  info_told (Some text) x is =
      subst (λ y. Foretold (if_counted name args text (option_count (Tcl (Value Info)) text) None) (λ t. (vars : Variables) → info name (y ∷ words) vars ≡ Err t)) (sym is)
      (info_known text (info_option text))

  array_known : (text : List ℕ) (o : Option ArrayOption) → Foretold (if_counted name args text (option_map array_count o) None) (λ t. (vars : Variables) → array_named name text o words vars ≡ (code.Error, t, vars))
  array_known text None = λ vars. refl
  array_known text (Some o) =
      counted_is (array_count o) name (length args) (length words) (λ t. (vars : Variables) → array_named name text (Some o) words vars ≡ (code.Error, t, vars)) (lengths args words are)
      (λ is vars. ap (λ (b : Bool). if b then array_by o words vars else told (Err (wrong_args name)) vars) is)

  array_told : (value : Option (List ℕ)) (x : List ℕ) → MayBe value x → Foretold (chosen (Tcl (Value Array)) name args value) (λ t. (vars : Variables) → array name (x ∷ words) vars ≡ (code.Error, t, vars))
  array_told None x is = tt
  array_told (Some text) x is =
      subst (λ y. Foretold (if_counted name args text (option_count (Tcl (Value Array)) text) None) (λ t. (vars : Variables) → array name (y ∷ words) vars ≡ (code.Error, t, vars))) (sym is)
      (array_known text (array_option text))

  package_known : (text : List ℕ) (o : Option PackageOption) → Foretold (if_counted name args text (option_map package_count o) None) (λ t. (vars : Variables) → package_named name text o words ≡ Err t)
  package_known text None = λ vars. refl
  package_known text (Some o) =
      counted_is (package_count o) name (length args) (length words) (λ t. (vars : Variables) → package_named name text (Some o) words ≡ Err t) (lengths args words are)
      (λ is vars. unfit (package_count o) name words (package_by o name words) is)

  package_told : (value : Option (List ℕ)) (x : List ℕ) → MayBe value x → Foretold (chosen (Tcl (Value Package)) name args value) (λ t. (vars : Variables) → package_command name (x ∷ words) ≡ Err t)
  package_told None x is = tt
  package_told (Some text) x is =
      subst (λ y. Foretold (if_counted name args text (option_count (Tcl (Value Package)) text) None) (λ t. (vars : Variables) → package_command name (y ∷ words) ≡ Err t)) (sym is)
      (package_known text (package_option text))

-- ---- commands that evaluate nothing

unfit_row : (c : ValueCommand) (name : List ℕ) (words : List (List ℕ)) → fits (value_row c).count (length words) ≡ false → ValueEnds (wrong_args name) name words c
unfit_row c name words is vars = ap (λ (b : Bool). if b then allowed c name words vars else told (Err (wrong_args name)) vars) is

fit_row : (c : ValueCommand) (name : List ℕ) (words : List (List ℕ)) → fits (value_row c).count (length words) ≡ true → (vars : Variables) → plain c name words vars ≡ allowed c name words vars
fit_row c name words is vars = ap (λ (b : Bool). if b then allowed c name words vars else told (Err (wrong_args name)) vars) is

by_row : (c : ValueCommand) (name : List ℕ) (args : List Placed) (words : List (List ℕ)) → AreWords args words → Foretold (counted name (value_row c).count (length args)) (λ text. ValueEnds text name words c)
by_row c name args words are =
    counted_is (value_row c).count name (length args) (length words) (λ text. ValueEnds text name words c) (lengths args words are)
    (unfit_row c name words)

value_foretold : (c : ValueCommand) (name : List ℕ) (args : List Placed) (words : List (List ℕ)) → AreWords args words → Foretold (fault_of (Tcl (Value c)) name args) (λ text. ValueEnds text name words c)
value_foretold String name [] [] are = λ vars. refl
value_foretold String name [] (x ∷ xs) are = absurd are
value_foretold String name (w ∷ ws) [] are = absurd are
value_foretold String name (w ∷ ws) (x ∷ xs) are =
    option_told (chosen (Tcl (Value String)) name ws w.value) name (length ws) (length xs) (λ vars. string name (x ∷ xs)) (string_told name ws xs are.1 w.value x are.0)
value_foretold Info name [] [] are = λ vars. refl
value_foretold Info name [] (x ∷ xs) are = absurd are
value_foretold Info name (w ∷ ws) [] are = absurd are
value_foretold Info name (w ∷ ws) (x ∷ xs) are =
    option_told (chosen (Tcl (Value Info)) name ws w.value) name (length ws) (length xs) (λ vars. info name (x ∷ xs) vars) (info_told name ws xs are.1 w.value x are.0)
value_foretold Array name [] [] are = λ vars. refl
value_foretold Array name [] (x ∷ xs) are = absurd are
value_foretold Array name (w ∷ ws) [] are = absurd are
value_foretold Array name (w ∷ ws) (x ∷ xs) are =
    outcome_told (chosen (Tcl (Value Array)) name ws w.value) name (length ws) (length xs) (λ vars. array name (x ∷ xs) vars) (array_told name ws xs are.1 w.value x are.0)
value_foretold Package name [] [] are = λ vars. refl
value_foretold Package name [] (x ∷ xs) are = absurd are
value_foretold Package name (w ∷ ws) [] are = absurd are
value_foretold Package name (w ∷ ws) (x ∷ xs) are =
    option_told (chosen (Tcl (Value Package)) name ws w.value) name (length ws) (length xs) (λ vars. package_command name (x ∷ xs)) (package_told name ws xs are.1 w.value x are.0)
value_foretold Lsearch name args words are =
    flagged_told (at_least 2) name switches.Search 2 args words are (length args) (length words) (λ text. ValueEnds text name words Lsearch) (lengths args words are) (unfit_row Lsearch name words)
    (λ fit text is vars. fit_row Lsearch name words fit vars ∙ ap (λ (s : Said (List ℕ)). told s vars) (bind_ends (flags_of switches.Search 2 name words) text _ is))
value_foretold Lsort name args words are =
    flagged_told (at_least 1) name switches.Sort 1 args words are (length args) (length words) (λ text. ValueEnds text name words Lsort) (lengths args words are) (unfit_row Lsort name words)
    (λ fit text is vars. fit_row Lsort name words fit vars ∙ ap (λ (s : Said (List ℕ)). told s vars) (bind_ends (flags_of switches.Sort 1 name words) text _ is))
value_foretold Subst name args words are =
    flagged_told (at_least 2) name switches.Substitute 1 args words are (length args) (length words) (λ text. ValueEnds text name words Subst) (lengths args words are) (unfit_row Subst name words)
    (λ fit text is vars. fit_row Subst name words fit vars ∙ ap (λ (s : Said (List ℕ)). told s vars) (bind_ends (flags_of switches.Substitute 1 name words) text _ is))
value_foretold Regexp name args words are =
    weaker (fronted name switches.Match (words_behind switches.Match) false args) (FrontEnds name switches.Match false words) (λ text. ValueEnds text name words Regexp)
    (λ text is vars. fit_row Regexp name words (no_fewer (length words)) vars ∙ ap (λ (f : Said Front). on_value f vars (λ p. matched p.0 p.1 vars)) is)
    (front_told name switches.Match args words false are)
value_foretold Regsub name args words are =
    weaker (fronted name switches.Replace (words_behind switches.Replace) false args) (FrontEnds name switches.Replace false words) (λ text. ValueEnds text name words Regsub)
    (λ text is vars. fit_row Regsub name words (no_fewer (length words)) vars ∙ ap (λ (f : Said Front). on_value f vars (λ p. changed p.0 p.1 vars)) is)
    (front_told name switches.Replace args words false are)
value_foretold ExpVersion name args words are =
    weaker (fronted name switches.Version (words_behind switches.Version) false args) (FrontEnds name switches.Version false words) (λ text. ValueEnds text name words ExpVersion)
    (λ text is vars. fit_row ExpVersion name words (no_fewer (length words)) vars ∙ ap (λ (s : Said (List ℕ)). told s vars) (bind_ends (front_of switches.Version name words) text _ is))
    (front_told name switches.Version args words false are)
value_foretold other name args words are = by_row other name args words are

-- ---- if

-- words that don't make arms, from a stage on
abbrev Short : Stage → List (List ℕ) → Type 0
Short Test words = tests words ≡ None
Short Then words = (test : List ℕ) → bodies test words ≡ None
Short Branch words = (test : List ℕ) → body test words ≡ None
Short Ends words = ends words ≡ None
Short Else words = only_body words ≡ None
Short Done words = (first : List ℕ) → only_body (first ∷ words) ≡ None
Short Over words = (first second : List ℕ) → only_body (first ∷ second ∷ words) ≡ None
Short (Each first second third others) words = ⊥
Short other words = Unit

short_end : (s : Stage) → is_short s ≡ true → Short s []
short_end Test is = refl
short_end Then is = λ test. refl
short_end Branch is = λ test. refl
short_end Ends is = absurd (true≢false (sym is))
short_end Else is = refl
short_end Done is = absurd (true≢false (sym is))
short_end Over is = λ first second. refl
short_end (Each first second third others) is = absurd (true≢false (sym is))
short_end other is = tt

abbrev then_step : Bool → Kind × Stage
then_step is_then = if is_then then (Text, Branch) else (Script, Ends)

abbrev body_step : Bool → Bool → Kind × Stage
body_step is_elseif is_else = if is_elseif then (Text, Test) else if is_else then (Text, Else) else (Script, Done)

then_or_body : (b : Bool) (test word : List ℕ) (words : List (List ℕ)) → Short (then_step b).1 words → (if b then body test words else option_map (with_arm test word) (ends words)) ≡ None
then_or_body true test word words short = short test
then_or_body false test word words short = ap (option_map (with_arm test word)) short

arm_or_end : (b c : Bool) (word : List ℕ) (words : List (List ℕ)) → Short (body_step b c).1 words
    → (if b then tests words else if c then only_body words else only_body (word ∷ words)) ≡ None
arm_or_end true c word words short = short
arm_or_end false true word words short = short
arm_or_end false false word words short = short word

short_step : (s : Stage) (value : Option (List ℕ)) (x : List ℕ) (xs : List (List ℕ)) → MayBe value x → Short (step s value).1 xs → Short s (x ∷ xs)
short_step Test value x xs is short = short x
short_step Then None x xs is short = absurd short
short_step Then (Some text) x xs is short = λ test. subst (λ y. bodies test (y ∷ xs) ≡ None) (sym is) (then_or_body (bytes_eq text (codes "then")) test text xs short)
short_step Branch value x xs is short = λ test. ap (option_map (with_arm test x)) short
short_step Ends None x xs is short = absurd short
short_step Ends (Some text) x xs is short = subst (λ y. ends (y ∷ xs) ≡ None) (sym is) (arm_or_end (bytes_eq text (codes "elseif")) (bytes_eq text (codes "else")) text xs short)
short_step Else value x xs is short = short x
short_step Done value x xs is short = λ first. refl
short_step Over value x xs is short = λ first second. refl
short_step (Each first second third others) value x xs is short = short
short_step other value x xs is short = tt

shorts : (s : Stage) (args : List Placed) (words : List (List ℕ)) → AreWords args words → is_short (last_stage s args) ≡ true → Short s words
shorts s [] [] are is = short_end s is
shorts s [] (x ∷ xs) are is = absurd are
shorts s (w ∷ ws) [] are is = absurd are
shorts s (w ∷ ws) (x ∷ xs) are is = short_step s w.value x xs are.0 (shorts (step s w.value).1 ws xs are.1 is)

if_short : (b : Bool) (name : List ℕ) (says : List ℕ → Type 0) → (b ≡ true → says (wrong_args name)) → Foretold (if b then wrong name else None) says
if_short true name says holds = holds refl
if_short false name says holds = tt

-- ---- the other commands

exit_wrong : (name : List ℕ) (words : List (List ℕ)) → fits (tcl_row Exit).count (length words) ≡ false → exit_status name words ≡ Err (wrong_args name)
exit_wrong name [] is = absurd (true≢false is)
exit_wrong name (n ∷ []) is = absurd (true≢false is)
exit_wrong name (n ∷ other ∷ more) is = refl

even_is : (n : ℕ) → (n % 2 == 1) ≡ false → n % 2 ≡ 0
even_is n is = grind (arith, nat_tests)

three_fit : (n : ℕ) → nat_le 3 (suc (suc (suc n))) ≡ true
three_fit n = grind (arith, nat_tests)

foreach_wrong : (name : List ℕ) (words : List (List ℕ)) → (fits (tcl_row Foreach).count (length words) && (length words % 2 == 1)) ≡ false → each_of name words ≡ Err (wrong_args name)
foreach_wrong name [] is = refl
foreach_wrong name (a ∷ []) is = refl
foreach_wrong name (a ∷ b ∷ []) is = refl
foreach_wrong name (a ∷ b ∷ c ∷ more) is =
    let odd : (length (a ∷ b ∷ c ∷ more) % 2 == 1) ≡ false = ap (λ (t : Bool). t && (length (a ∷ b ∷ c ∷ more) % 2 == 1)) (sym (three_fit (length more))) ∙ is in
    each_even name (a ∷ b ∷ c ∷ more) (even_is (length (a ∷ b ∷ c ∷ more)) odd)

expr_wrong : (name : List ℕ) (words : List (List ℕ)) → fits (tcl_row Expr).count (length words) ≡ false → expr_text name words ≡ Err (wrong_args name)
expr_wrong name [] is = refl
expr_wrong name (w ∷ ws) is = absurd (true≢false (sym (one_fits (length ws)) ∙ is))

eval_wrong : (name : List ℕ) (words : List (List ℕ)) → fits (tcl_row EvalCommand).count (length words) ≡ false → eval_text name words ≡ Err (wrong_args name)
eval_wrong name [] is = refl
eval_wrong name (w ∷ ws) is = absurd (true≢false (sym (one_fits (length ws)) ∙ is))

while_wrong : (name : List ℕ) (words : List (List ℕ)) → fits (tcl_row While).count (length words) ≡ false → EndsIn (wrong_args name) name words While
while_wrong name [] is ev k st = refl
while_wrong name (a ∷ []) is ev k st = refl
while_wrong name (a ∷ b ∷ []) is ev k st = absurd (true≢false is)
while_wrong name (a ∷ b ∷ c ∷ more) is ev k st = refl

for_wrong : (name : List ℕ) (words : List (List ℕ)) → fits (tcl_row For).count (length words) ≡ false → EndsIn (wrong_args name) name words For
for_wrong name [] is ev k st = refl
for_wrong name (a ∷ []) is ev k st = refl
for_wrong name (a ∷ b ∷ []) is ev k st = refl
for_wrong name (a ∷ b ∷ c ∷ []) is ev k st = refl
for_wrong name (a ∷ b ∷ c ∷ d ∷ []) is ev k st = absurd (true≢false is)
for_wrong name (a ∷ b ∷ c ∷ d ∷ e ∷ more) is ev k st = refl

proc_wrong : (name : List ℕ) (words : List (List ℕ)) → fits (tcl_row Proc).count (length words) ≡ false → EndsIn (wrong_args name) name words Proc
proc_wrong name [] is ev k st = refl
proc_wrong name (a ∷ []) is ev k st = refl
proc_wrong name (a ∷ b ∷ []) is ev k st = refl
proc_wrong name (a ∷ b ∷ c ∷ []) is ev k st = absurd (true≢false is)
proc_wrong name (a ∷ b ∷ c ∷ d ∷ more) is ev k st = refl

catch_wrong : (name : List ℕ) (words : List (List ℕ)) → fits (tcl_row Catch).count (length words) ≡ false → EndsIn (wrong_args name) name words Catch
catch_wrong name [] is ev k st = refl
catch_wrong name (a ∷ []) is ev k st = absurd (true≢false is)
catch_wrong name (a ∷ b ∷ []) is ev k st = absurd (true≢false is)
catch_wrong name (a ∷ b ∷ c ∷ more) is ev k st = refl

switch_wrong : (name : List ℕ) (words : List (List ℕ)) → fits (tcl_row SwitchCommand).count (length words) ≡ false → body_of_switch name words ≡ Err (wrong_args name)
switch_wrong name [] is = refl
switch_wrong name (a ∷ []) is = refl
switch_wrong name (a ∷ b ∷ more) is = absurd (true≢false (sym (two_fit (length more)) ∙ is))

said_ends : {X : Type 0} (said : Said X) (text : List ℕ) (k : Next) (go : X → State → Tree) (st : State) → said ≡ Err text → on_said said k go st ≡ k code.Error text st
said_ends {X = X} said text k go st is = ap (λ (s : Said X). on_said s k go st) is

counts_foretold : (c : TclCommand) (name : List ℕ) (args : List Placed) (words : List (List ℕ)) → AreWords args words
    → (fits (tcl_row c).count (length words) ≡ false → EndsIn (wrong_args name) name words c) → Foretold (counted name (tcl_row c).count (length args)) (λ text. EndsIn text name words c)
counts_foretold c name args words are = counted_is (tcl_row c).count name (length args) (length words) (λ text. EndsIn text name words c) (lengths args words are)

foretold : (c : TclCommand) (name : List ℕ) (args : List Placed) (words : List (List ℕ)) → AreWords args words → Foretold (fault_of (Tcl c) name args) (λ text. EndsIn text name words c)
foretold (Value c) name args words are =
    weaker (fault_of (Tcl (Value c)) name args) (λ text. ValueEnds text name words c) (λ text. EndsIn text name words (Value c))
    (λ text holds ev k st. ap (λ (o : Outcome). after o k st) (holds st.vars)) (value_foretold c name args words are)
foretold If name args words are =
    if_short (is_short (last_stage Test args)) name (λ text. EndsIn text name words If)
    (λ is ev k st. said_ends (arms_of name words) (wrong_args name) k _ st (ap (or_wrong name) (shorts Test args words are is)))
foretold Exit name args words are = counts_foretold Exit name args words are (λ is ev k st. said_ends (exit_status name words) (wrong_args name) k _ st (exit_wrong name words is))
foretold Foreach name args words are =
    if_wrong (fits (tcl_row Foreach).count (length args) && (length args % 2 == 1)) name (λ text. EndsIn text name words Foreach)
    (λ is ev k st. said_ends (each_of name words) (wrong_args name) k _ st
    (foreach_wrong name words (ap (λ (n : ℕ). fits (tcl_row Foreach).count n && (n % 2 == 1)) (lengths args words are) ∙ is)))
foretold Expr name args words are = counts_foretold Expr name args words are (λ is ev k st. said_ends (expr_text name words) (wrong_args name) k _ st (expr_wrong name words is))
foretold EvalCommand name args words are = counts_foretold EvalCommand name args words are (λ is ev k st. said_ends (eval_text name words) (wrong_args name) k _ st (eval_wrong name words is))
foretold While name args words are = counts_foretold While name args words are (while_wrong name words)
foretold For name args words are = counts_foretold For name args words are (for_wrong name words)
foretold Proc name args words are = counts_foretold Proc name args words are (proc_wrong name words)
foretold SwitchCommand name args words are = counts_foretold SwitchCommand name args words are (λ is ev k st. said_ends (body_of_switch name words) (wrong_args name) k _ st (switch_wrong name words is))
foretold Catch name args words are = counts_foretold Catch name args words are (catch_wrong name words)

-- ---- names

abbrev of_language : Option Command → Option TclCommand
of_language (Some (Tcl c)) = Some c
of_language other = None

expect_is_other : (e : Option ExpectCommand) → of_language (option_map Expect e) ≡ None
expect_is_other None = refl
expect_is_other (Some e) = refl

found_is_run : (t : Option TclCommand) (name : List ℕ) → of_language (tcl_or_expect t name) ≡ t
found_is_run None name = expect_is_other (expect_command name)
found_is_run (Some c) name = refl

language_is : (c : TclCommand) (name : List ℕ) → command_of name ≡ Some (Tcl c) → language_command name ≡ Some c
language_is c name is = sym (found_is_run (language_command name) name) ∙ ap of_language is

-- a command runs by the verb that the table has for it
runs_as : (o : Option TclCommand) (c : TclCommand) (name : List ℕ) (words : List (List ℕ)) (ev : Eval) (k : Next) (st : State)
    → or_redefinable o name ≡ Some c → (o ≡ None → find name st.procs ≡ None) → named ev (option_map as_verb o) name words k st ≡ invoked ev (as_verb c) name words k st
runs_as (Some d) c name words ev k st is free = ap (λ (v : Option TclCommand). named ev (option_map as_verb v) name words k st) is
runs_as None c name words ev k st is free =
    ap (λ (p : Option Procedure). called_or_begun ev p name words k st) (free refl)
    ∙ ap (λ (v : Option TclCommand). redefinable_or_begun ev (option_map as_verb v) name words k st) is

pub findings_hold : FindingsHold
findings_hold c name args p words named_so found are ev k st free =
    runs_as (tcl_command name) c name words ev k st (language_is c name named_so) free
    ∙ subst (λ (f : Option Problem). Foretold f (λ text. EndsIn text name words c)) found (foretold c name args words are) ev k st
