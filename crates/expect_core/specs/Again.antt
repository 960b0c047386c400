-- `exp_continue`: an action goes back to its `expect` (expect(1)).
use Rattle.std.specs.Prelude.{ℕ, List, [], if◌then◌else◌, Ok}
use Rattle.command_table.specs.declared.commands.ExpectCommand.TheVariants as command
use Rattle.tcl_results.specs.declared.code.Code.{Code}
use Rattle.tcl_results.specs.declared.code.Code.TheVariants as code
use Rattle.tcl_results.specs.Said.{Said, ◌>>=◌}
use Rattle.expect_core.specs.declared.flags.Flags.{Flags}
use Rattle.expect_core.specs.declared.turn.Reply.TheVariants.{Done}
use Rattle.expect_core.specs.declared.turn.Deed.{Deed}
use Rattle.expect_core.specs.declared.turn.Deed.TheVariants.{Alone}
use Rattle.expect_core.specs.Flags.{arguments}

-- exp_continue ?-continue_timer?

abbrev pub again_code : Flags → Code
again_code f = if f.on then code.AgainLater else code.Again

abbrev pub continued : List ℕ → List (List ℕ) → Said Code
continued name args = arguments command.ExpContinue name args >>= λ f. Ok (again_code f.0)

abbrev pub continuing : List ℕ → List (List ℕ) → Said Deed
continuing name args = continued name args >>= λ c. Ok (Alone [] (Done c []))
