-- A watcher sees all that is met, and takes no part in what a run comes to.
use Rattle.std.proofs.Common.{◌≡◌, Bool, List, [], ◌∷◌, Option, Some, None, refl, sym, ap, subst, ◌∙◌}
use Rattle.std.specs.Prelude.{ℕ, IsTrue}
use Rattle.child_events.specs.declared.event.Event.{Event}
use Rattle.tcl_subst.specs.Variables.{Variables}
use Rattle.tcl_host.specs.declared.host.HostStep.{HostStep}
use Rattle.tcl_host.specs.declared.host.HostStep.TheVariants.{Done, Fail, Body, Words, Wait, Stop, Unknown, Memory}
use Rattle.tcl_eval.specs.declared.engine.Engine.{Engine}
use Rattle.tcl_eval.specs.declared.frame.Mode.{Mode}
use Rattle.tcl_eval.specs.declared.frame.Mode.TheVariants.{Ended}
use Rattle.tcl_eval.specs.Rest.{engine_rest}
use Rattle.tcl_eval.specs.Suspended.{IsOver}
use Rattle.tcl_host.specs.Calls.{Call, Begin, Resume, AfterWords, AfterBody, Knows, Reply, Stepped, Known}
use Rattle.tcl_eval.specs.Tree.{Tree, Over, Ask, answered, follow, Leads}
use Rattle.expect_core.specs.declared.own.Own.{Own}
use Rattle.expect_core.specs.declared.dialogue.Dialogue.{Dialogue}
use Rattle.expect_core.specs.Lanes.{extended}
use Rattle.expect_core.specs.Calls.{outcome, IsReply}
use Rattle.expect_core.specs.Good.{Good}
use Rattle.session.specs.Left.{Kept}
use Rattle.session.specs.Watching.{Meeting, met_by, met_in, met_then, meets_behind, meets_asking, meets, met_by_run, met_from, Sight, Sees, SeesAll, Sights}
use Rattle.session.proofs.Suspending.{onwards, outcomes_onward, IsTold, step_by, leads_lived}
use Rattle.session.proofs.Lefts.{own_extended}

asked : (more : Reply → Dialogue → List Meeting) (call : Call) (st : Dialogue) → IsTold call → meets_asking more call st ≡ meets_behind more (outcome call st)
asked more (Knows word) st t = absurd t
asked more (Begin words vars) st t = refl
asked more (Resume vars) st t = refl
asked more (AfterWords words vars) st t = refl
asked more (AfterBody c value vars) st t = refl

module _ (left : ℕ) (go : Reply → Tree) where
  abbrev more : Reply → Dialogue → List Meeting
  more r = meets (go r)

  replied : (s : HostStep) (vars : Variables) (d : Dialogue) (es : List Event) → meets_behind more (onwards es (s, vars, d)) ≡ met_then (met_by s vars d.own) (meets (answered s vars left go) (extended es d))
  replied Wait vars d es = refl
  replied (Done c v) vars d es = refl
  replied (Fail t) vars d es = refl
  replied (Body t) vars d es = ap (λ (o : Own). met_then (met_by (Body t) vars o) (more (Stepped (Body t) vars) (extended es d))) (own_extended es d)
  replied (Words t) vars d es = refl
  replied (Stop n) vars d es = refl
  replied Unknown vars d es = refl
  replied Memory vars d es = refl

  -- one step
  stepped : (call : Call) (s : HostStep) (vars : Variables) (d d' : Dialogue) (es : List Event) → IsTold call → Good d → outcome call d ≡ (s, vars, d')
      → meets (Ask call left go) (extended es d) ≡ met_then (met_by s vars d'.own) (meets (answered s vars left go) (extended es d'))
  stepped call s vars d d' es t g e =
      asked more call (extended es d) t ∙ ap (meets_behind more) (outcomes_onward es call d g ∙ ap (onwards es) e) ∙ replied s vars d' es

  -- one reply
  met_at : (call : Call) (r : Reply) (d d' : Dialogue) (es : List Event) → Good d → IsReply d call r d' → IsTrue d'.lives
      → meets (Ask call left go) (extended es d) ≡ met_then (met_in r d'.own) (meets (follow (Ask call left go) r) (extended es d'))
  met_at (Begin words w) (Stepped s vars) d d' es g a lives = stepped (Begin words w) s vars d d' es tt g (a.0 lives).1
  met_at (Resume w) (Stepped s vars) d d' es g a lives = stepped (Resume w) s vars d d' es tt g (a.0 lives).1
  met_at (AfterWords words w) (Stepped s vars) d d' es g a lives = stepped (AfterWords words w) s vars d d' es tt g (a.0 lives).1
  met_at (AfterBody c value w) (Stepped s vars) d d' es g a lives = stepped (AfterBody c value w) s vars d d' es tt g (a.0 lives).1
  met_at (Knows word) (Known b) d d' es g a lives =
      ap (λ (k : Bool). meets (go (Known k)) (extended es d)) (sym a.0) ∙ ap (λ (x : Dialogue). meets (go (Known b)) (extended es x)) (sym a.1)
  met_at (Knows word) (Stepped s vars) d d' es g a lives = absurd a
  met_at (Begin words w) (Known b) d d' es g a lives = absurd a
  met_at (Resume w) (Known b) d d' es g a lives = absurd a
  met_at (AfterWords words w) (Known b) d d' es g a lives = absurd a
  met_at (AfterBody c value w) (Known b) d d' es g a lives = absurd a

module _ {H W : Type 0} (dialogue : H → Dialogue) (watcher : H → W) (sees : Sight W) where
  abbrev pub Replies : H → Call → Reply → H → Type 0
  Replies old call reply new = IsReply (dialogue old) call reply (dialogue new) × Sees sees (met_in reply (dialogue new).own) (watcher old) (watcher new)

  -- what the dialogue is led by
  pub leads_of : (rs : List Reply) (t : Tree) (old : H) (t' : Tree) (new : H) → Leads Replies rs t old t' new → Leads IsReply rs t (dialogue old) t' (dialogue new)
  leads_of [] t old t' new l = (l.0, ap dialogue l.1)
  leads_of (r ∷ rs) (Over e s) old t' new l = absurd l.1
  leads_of (r ∷ rs) (Ask call left go) old t' new l = (dialogue l.0, l.1.0, leads_of rs (follow (Ask call left go) r) l.0 t' new l.2)

  abbrev Seen : Tree → H → Tree → H → Type 0
  Seen t old t' new = Sights sees (λ later. meets t (extended later (dialogue old))) (watcher old) (λ later. meets t' (extended later (dialogue new))) (watcher new)

  seen_more : (m : Option Meeting) (t : Tree) (old : H) (t1 : Tree) (mid : H) (t' : Tree) (new : H)
      → ((es : List Event) → meets t (extended es (dialogue old)) ≡ met_then m (meets t1 (extended es (dialogue mid)))) → Sees sees m (watcher old) (watcher mid) → Seen t1 mid t' new → Seen t old t' new
  seen_more None t old t1 mid t' new each saw more = record {
    met = more.met;
    each = λ later. each later ∙ more.each later;
    seen = subst (λ (w : W). SeesAll sees more.met w (watcher new)) saw more.seen;
  }
  seen_more (Some m) t old t1 mid t' new each saw more = record {
    met = m ∷ more.met;
    each = λ later. each later ∙ ap (λ (ms : List Meeting). m ∷ ms) (more.each later);
    seen = (watcher mid, saw, more.seen);
  }

  -- and what the watcher sees
  pub sights_of : (rs : List Reply) (t : Tree) (old : H) (t' : Tree) (new : H) → Good (dialogue old) → Leads Replies rs t old t' new → IsTrue (dialogue new).lives → Seen t old t' new
  sights_of [] t old t' new g l lives = record {
    met = [];
    each = λ later. ap (λ (x : Tree). meets x (extended later (dialogue old))) l.0 ∙ ap (λ (h : H). meets t' (extended later (dialogue h))) l.1;
    seen = sym (ap watcher l.1);
  }
  sights_of (r ∷ rs) (Over e s) old t' new g l lives = absurd l.1
  sights_of (r ∷ rs) (Ask call left go) old t' new g l lives =
      let t : Tree = follow (Ask call left go) r in
      let mid : H = l.0 in
      let lived = leads_lived rs t (dialogue mid) t' (dialogue new) (leads_of rs t mid t' new l.2) lives in
      let step = step_by call left go r (dialogue old) (dialogue mid) g l.1.0 lived in
      seen_more (met_in r (dialogue mid).own) (Ask call left go) old t mid t' new (λ es. met_at left go call r (dialogue old) (dialogue mid) es g l.1.0 lived) l.1.1 (sights_of rs t mid t' new step.good l.2 lives)

-- what is seen where an event came
pub seen_fed : {W : Type 0} (sees : Sight W) (k l : Kept) (e : Event) (d : Dialogue) (old new : W) → d ≡ extended (e ∷ []) k.dialogue
    → Sights sees (met_by_run k.engine k.steps k.mode d) old (met_by_run l.engine l.steps l.mode l.dialogue) new → Sights sees (λ later. met_from k (e ∷ later)) old (met_from l) new
unfolding met_from
seen_fed sees k l e d old new came saw = record {
  met = saw.met;
  each = λ later. ap (λ (x : Dialogue). meets (engine_rest k.engine k.steps k.mode) (extended later x)) (sym came) ∙ saw.each later;
  seen = saw.seen;
}

-- nothing more is met where a session is over
met_over_by : (engine : Engine) (steps : ℕ) (mode : Mode) (d : Dialogue) (es : List Event) → IsOver mode → met_by_run engine steps mode d es ≡ []
met_over_by engine steps (Ended e) d es over = refl
met_over_by engine steps _ d es over = absurd over

pub seen_over : {W : Type 0} (sees : Sight W) (k : Kept) (e : Event) (watcher : W) → IsOver k.mode → Sights sees (λ later. met_from k (e ∷ later)) watcher (met_from k) watcher
unfolding met_from
seen_over sees k e watcher over = record {
  met = [];
  each = λ later. met_over_by k.engine k.steps k.mode k.dialogue (e ∷ later) over ∙ sym (met_over_by k.engine k.steps k.mode k.dialogue later over);
  seen = refl;
}
