use Rattle.std.proofs.Common.{◌≡◌, ℕ, ◌-◌, ◌<◌, List, length, None, ap, sym, ◌∙◌, arith}
use Rattle.std.proofs.lemmas.Bool.Decides.{nat_tests}
use Rattle.child_events.specs.declared.event.What.{What}
use Rattle.child_events.specs.declared.event.HallEvent.TheVariants as hall
use Rattle.session.specs.Left.{Kept}
use Rattle.dialogue_sched.specs.Refusal.{refusal_of}
use Rattle.dialogue_sched.proofs.Taking.{AllTook_tick, AllTook_child}
use Rattle.dialogue_sched.proofs.hall.Hall.step.Goals as goal

pub returns-in-Tick : goal.returns-in-Tick
returns-in-Tick c = (
  sym (c.refusal.ensures ∙ ap (λ (n : ℕ). refusal_of n c.args.event) (c.len.ensures ∙ c.self.inside.sessions.ok.0 ∙ ap (λ (ks : List Kept). length ks) c.self.view_is)) ∙ c.in_default.is,
  rw (c.in-Tick.is, ← c.self.view_is) (AllTook_tick 1 c.in-Tick.moment c.self.inside.sessions.items c.tick_all.new.sessions.items c.tick_all.ensures.fed),
)

from_one : (n s c m : ℕ) (w : What) → refusal_of n (hall.Child s c m w) ≡ None → 0 < s
from_one n s c m w h = grind (arith, nat_tests)

pub returns-in-Child : goal.returns-in-Child
returns-in-Child c =
    let f = c.feed_at.ensures.fed in
    let accepted : refusal_of (length c.args.self.now) c.args.event ≡ None =
    sym (c.refusal.ensures ∙ ap (λ (n : ℕ). refusal_of n c.args.event) (c.len.ensures ∙ c.self.inside.sessions.ok.0 ∙ ap (λ (ks : List Kept). length ks) c.self.view_is)) ∙ c.in_default.is in
    let first : 0 < c.in-Child.script = from_one (length c.args.self.now) c.in-Child.script c.in-Child.child c.in-Child.moment c.in-Child.what (ap (refusal_of (length c.args.self.now)) (sym c.in-Child.is) ∙ accepted) in (
      accepted,
      rw (c.in-Child.is, ← c.self.view_is, f.4) (AllTook_child 1 (c.in-Child.script - 1) c.in-Child.script c.in-Child.child c.in-Child.moment c.in-Child.what c.self.inside.sessions.items f.0 f.1 (omega arith) f.2 f.3),
    )
