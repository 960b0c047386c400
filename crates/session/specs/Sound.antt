-- The invariant of a session.
use Rattle.std.specs.Prelude.{◌≡◌, ◌≤◌, [], drop, length, false, IsTrue}
use Rattle.tcl_eval.specs.Rest.{engine_rest}
use Rattle.tcl_eval.specs.Steps.{left_of}
use Rattle.expect_core.specs.Good.{Good}
use Rattle.session.specs.declared.session.Session.TheInside.{Inside}
use Rattle.session.specs.Left.{Kept}
use Rattle.session.specs.Play.{play}
use Rattle.session.specs.Quiet.{Quiet}
use Rattle.session.specs.Shown.{shown}

abbrev pub kept_of : Inside → Kept
kept_of a = record {
  bound = a.bound;
  tells = a.tells_vars;
  engine = a.machine.engine;
  mode = a.machine.mode;
  steps = left_of a.meter;
  dialogue = a.dialogue;
  handed = a.handed;
  lives = a.lives;
}

-- Unless memory was refused: the report now is the paused machine's, and ticks up to the deadline don't change it. No
-- item is later than the greatest moment. `handed` is at most the number of requests, and the later requests are
-- queued.
pub record Sound (a : Inside) : Type 0 where
  pub shows : IsTrue a.lives → play a.bound (engine_rest a.machine.engine (left_of a.meter) a.machine.mode) a.dialogue ≡ shown a.bound a.machine.engine a.machine.mode (left_of a.meter) a.dialogue
  pub quiet : IsTrue a.lives → Quiet a.machine.engine a.machine.mode (left_of a.meter) a.dialogue
  pub good : IsTrue a.lives → Good a.dialogue
  pub counted : IsTrue a.lives → a.handed ≤ length a.dialogue.own.requests
  pub ready : IsTrue a.lives → a.ready.items ≡ drop a.handed a.dialogue.own.requests
  pub spent : a.lives ≡ false → a.ready.items ≡ []
