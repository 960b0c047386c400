-- Shows that a run ends, or waits: the potential falls with each step and each reply.
use Rattle.std.specs.Prelude.{ℕ, ◌+◌, ◌*◌, List, [], ◌∷◌}
use Rattle.tcl_results.specs.declared.code.Code.{Code}
use Rattle.tcl_results.specs.declared.code.Code.TheVariants.{Ok, Error, Return, Break, Continue, Again, AgainLater}
use Rattle.tcl_eval.specs.declared.engine.Engine.{Engine}
use Rattle.tcl_eval.specs.declared.frame.Then.{Then}
use Rattle.tcl_eval.specs.declared.frame.Then.TheVariants.{Command, List as HostList}
use Rattle.tcl_eval.specs.declared.frame.Frame.{Frame}
use Rattle.tcl_eval.specs.declared.frame.Frame.TheVariants.{Onward as OnwardFrame, HostBody}
use Rattle.tcl_eval.specs.declared.frame.Onward.{Onward}
use Rattle.tcl_eval.specs.declared.frame.Onward.TheVariants.{Fill}
use Rattle.tcl_eval.specs.declared.frame.Mode.{Mode}
use Rattle.tcl_eval.specs.declared.frame.Call.{Call}
use Rattle.tcl_eval.specs.declared.frame.Call.TheVariants.{Begin, AfterWords, AfterBody}
use Rattle.tcl_eval.specs.declared.frame.Mode.TheVariants.{Give, Run, Call as CallHost, Define, Ended}

-- A code at which a host may ask for another script.
abbrev pub again : Code → ℕ
again Ok = 0
again Error = 0
again (Return c) = 0
again Break = 0
again Continue = 0
again Again = 2
again AgainLater = 2

-- Words and scripts that the host asked for.
abbrev pub then_weight : Then → ℕ
then_weight Command = 0
then_weight (HostList fault) = 5

abbrev pub onward_weight : Onward → ℕ
onward_weight (Fill words next expand done to depth) = then_weight to
onward_weight _ = 0

abbrev pub frame_weight : Frame → ℕ
frame_weight (OnwardFrame o) = onward_weight o
frame_weight (HostBody bound depth) = 3
frame_weight _ = 0

abbrev pub bodies : List Frame → ℕ
bodies [] = 0
bodies (f ∷ fs) = frame_weight f + bodies fs

-- What a reply may ask for.
abbrev pub asks : Call → ℕ
asks (Begin words) = 3
asks (AfterWords words) = 2
asks (AfterBody c v bound) = again c

abbrev pub call_credit : Call → ℕ
call_credit call = 3 + asks call

abbrev pub credit : Mode → ℕ
credit (Give c v) = again c
credit (Run script depth) = 1
credit (CallHost call depth resumed) = call_credit call
credit (Define name formals body) = 6
credit (Ended end) = 0

-- The potential. It falls with each step and each reply.
abbrev pub potential : Engine → Mode → ℕ
potential m mode = 8 * m.left + bodies m.stack + credit mode
