use Rattle.std.proofs.Common.{◌≡◌, vec_len, vec_capacity}
use Rattle.session.specs.Spent.{Reports}
use Rattle.dialogue_sched.proofs.Opening.{Through}
use Rattle.dialogue_sched.proofs.hall.reports_in.Given as goal

abbrev pub invariant-loop-session : goal.invariant-loop-session
invariant-loop-session l = record {
  through : Through Reports l.fn.sessions.items l.session-iterator.rest.items l.list.items (vec_len l.list);
  room : vec_capacity l.list ≡ vec_capacity l.fn.room;
}
