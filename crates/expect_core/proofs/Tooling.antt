-- The order of a command that runs a program.
use Rattle.std.proofs.Common.{◌≡◌, ℕ, List, [], length, Bool, Ok, Err, refl, ap, ◌∙◌}
use Rattle.std.specs.Prelude.{if◌then◌else◌}
use Rattle.tcl_results.specs.Said.{Said}
use Rattle.tcl_results.specs.Texts.{too_long}
use Rattle.expect_core.specs.declared.request.Act.TheVariants as act
use Rattle.expect_core.specs.declared.tool.Job.{Job}
use Rattle.expect_core.specs.declared.tool.Job.TheVariants as job
use Rattle.expect_core.specs.declared.tool.ToolRun.{ToolRun}
use Rattle.expect_core.specs.declared.tool.Stride.TheVariants as stride
use Rattle.expect_core.specs.declared.turn.Aim.TheVariants as aim
use Rattle.expect_core.specs.declared.turn.Purpose.TheVariants as purpose
use Rattle.expect_core.specs.declared.turn.Next.TheVariants.{Await, Hear}
use Rattle.expect_core.specs.declared.turn.Reaction.{Reaction}
use Rattle.expect_core.specs.declared.turn.Deed.{Deed}
use Rattle.expect_core.specs.declared.turn.Deed.TheVariants.{To}
use Rattle.expect_core.specs.Texts.{too_many}
use Rattle.expect_core.specs.Turns.{react, badly}
use Rattle.expect_core.specs.Tools.{run_of, starting, asking, fed, gathered, gathering, tool_piece, IsPlain, RunsInOrder}

fed_plain : (j : Job) (run : ToolRun) → IsPlain j → fed j run ≡ asking act.End stride.Fed run
fed_plain job.Writer run plain = absurd plain
fed_plain (job.Complainer text) run plain = absurd plain
fed_plain _ run plain = refl

piece_plain : (j : Job) (run : ToolRun) (i : ℕ) (piece : List ℕ) → IsPlain j → tool_piece j run i piece ≡ gathering (gathered piece run)
piece_plain job.Writer run i piece plain = absurd plain
piece_plain (job.Complainer text) run i piece plain = absurd plain
piece_plain _ run i piece plain = refl

pub runs_in_order : RunsInOrder
runs_in_order = record {
  starts = λ t o room. ap (λ (b : Bool). let d : Said Deed = (if b then Ok (To (length o.children) (react (starting t.words) (Await (purpose.Tool stride.Start (run_of t))))) else Err too_many) in d) room;
  started = λ run i a plain. fed_plain run.job run plain;
  fed = λ run i a failure. refl;
  heard = λ run i piece plain short.
      piece_plain run.job run i piece plain ∙ ap (λ (b : Bool). let r : Reaction = (if b then badly [] too_long else react [] (Hear (aim.Tool (gathered piece run)))) in r) short;
  ended = λ run i. refl;
  closed = λ run i a failure. refl;
}
