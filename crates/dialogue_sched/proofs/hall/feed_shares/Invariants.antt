use Rattle.std.proofs.Common.{◌≡◌, ◌≤◌, drop, vec_len}
use Rattle.dialogue_sched.proofs.Taking.{TookTo}
use Rattle.dialogue_sched.proofs.hall.feed_shares.Given as goal

abbrev pub invariant-loop-share : goal.invariant-loop-share
invariant-loop-share l = record {
  left : l.share-iterator.rest.items ≡ drop l.i l.fn.shares.items;
  took : TookTo l.i l.fn.shares.items l.fn.sessions.items l.sessions.items;
  within : l.i ≤ vec_len l.fn.shares;
  same : vec_len l.sessions ≡ vec_len l.fn.sessions;
}
