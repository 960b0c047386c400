-- How a run treats the arguments that a finding is about.
use Rattle.std.specs.Prelude.{◌≡◌, ℕ, List, [], ◌∷◌, Option, Some, None}
use Rattle.command_table.specs.declared.commands.Command.TheVariants.{Tcl}
use Rattle.command_table.specs.declared.commands.TclCommand.{TclCommand}
use Rattle.tcl_subst.specs.Entries.{find}
use Rattle.command_table.specs.Commands.{tcl_command, command_of}
use Rattle.tcl_results.specs.declared.code.Code.TheVariants.{Error}
use Rattle.tcl_eval.specs.Tree.{State}
use Rattle.tcl_eval.specs.Meaning.{Next, Eval, invoke}
use Rattle.script_check.specs.declared.placed.Placed.{Placed}
use Rattle.script_check.specs.declared.problem.Problem.{Problem}
use Rattle.script_check.specs.Faults.{fault_of}
use Rattle.script_check.specs.Texts.{text_of}

-- The word in a run: the literal text, or any text if the word isn't literal.
abbrev pub MayBe : Option (List ℕ) → List ℕ → Type 0
MayBe None word = Unit
MayBe (Some text) word = word ≡ text

-- The words in a run, one for each word of the source.
abbrev pub AreWords : List Placed → List (List ℕ) → Type 0
AreWords [] [] = Unit
AreWords [] (x ∷ xs) = ⊥
AreWords (w ∷ ws) [] = ⊥
AreWords (w ∷ ws) (x ∷ xs) = MayBe w.value x × AreWords ws xs

-- No procedure stands for the command. None can, unless the command is one that can be redefined.
abbrev pub IsNotReplaced : List ℕ → State → Type 0
IsNotReplaced name st = tcl_command name ≡ None → find name st.procs ≡ None

-- If a word names a command of the language and the arguments have a problem, then a run of the command is an error,
-- unless a procedure stands for it. Its text is that of the problem. The run evaluates nothing, and changes no variable.
abbrev pub FindingsHold : Type 0
FindingsHold =
    (c : TclCommand) (name : List ℕ) (args : List Placed) (p : Problem) (words : List (List ℕ)) → command_of name ≡ Some (Tcl c)
    → fault_of (Tcl c) name args ≡ Some p → AreWords args words → (ev : Eval) (k : Next) (st : State) → IsNotReplaced name st
    → invoke ev (name ∷ words) k st ≡ k Error (text_of p) st
