-- A run of a machine leaves the report for whatever comes as it was.
use Rattle.std.proofs.Common.{◌≡◌, ◌≢◌, ℕ, Bool, true, false, ◌-◌, List, [], ◌∷◌, refl, sym, ap, ◌∙◌, subst, max, arith}
use Rattle.std.specs.Prelude.{IsTrue}
use Rattle.std.specs.Bool.{OnFalse}
use Rattle.child_events.specs.declared.event.Event.{Event}
use Rattle.child_events.specs.declared.event.Event.TheVariants as event
use Rattle.tcl_subst.specs.Variables.{Variables}
use Rattle.tcl_host.specs.declared.ending.Ending.TheVariants as ending
use Rattle.tcl_eval.specs.declared.engine.Engine.{Engine}
use Rattle.tcl_eval.specs.declared.frame.End.{End}
use Rattle.tcl_eval.specs.declared.frame.Mode.{Mode}
use Rattle.tcl_eval.specs.declared.frame.Call.TheVariants.{Begin as BeginCommand, AfterWords as HandWords, AfterBody as TellEnd}
use Rattle.tcl_eval.specs.declared.frame.Mode.TheVariants.{Call as CallHost, Ended}
use Rattle.tcl_host.specs.declared.host.HostStep.{HostStep}
use Rattle.tcl_host.specs.declared.host.HostStep.TheVariants.{Done, Fail, Body, Words, Wait, Stop, Unknown, Memory}
use Rattle.tcl_eval.specs.declared.machine.Pause.{Pause}
use Rattle.tcl_eval.specs.declared.machine.Pause.TheVariants as pause
use Rattle.tcl_host.specs.Calls.{Call, Begin, Resume, AfterWords, AfterBody, Knows, Reply, Stepped, Known}
use Rattle.tcl_eval.specs.Tree.{Tree, Over, Ask, answered, follow, Leads}
use Rattle.tcl_eval.specs.Rest.{engine_rest}
use Rattle.tcl_eval.specs.Suspended.{IsPauseOf}
use Rattle.tcl_eval.specs.Asked.{EndsInWait, IsAsking}
use Rattle.expect_core.specs.declared.settings.Settings.{Settings}
use Rattle.expect_core.specs.declared.dialogue.Dialogue.{Dialogue}
use Rattle.expect_core.specs.Lanes.{offered, extended}
use Rattle.expect_core.specs.Answered.{Outcome}
use Rattle.expect_core.specs.Calls.{outcome, resumed, onward, IsReply, fresh}
use Rattle.expect_core.specs.Good.{Good}
use Rattle.expect_core.specs.Deadlines.{IsWithin, deadline_of}
use Rattle.expect_core.proofs.Asleep.{waits_on}
use Rattle.expect_core.proofs.EachCall.{outcome_onward}
use Rattle.expect_core.proofs.Moments.{good_offered}
use Rattle.expect_core.proofs.Goodness.{GoodAfter, outcome_good, good_fresh}
use Rattle.session.specs.declared.report.Report.{Report}
use Rattle.session.specs.Play.{said, behind, asking, play}
use Rattle.session.specs.Quiet.{Quiet, deadline_in}
use Rattle.session.specs.Shown.{shown, Ran}

-- an event that says nothing
unfoldable null : Event
null = event.Tick 0

null_offered : (st : Dialogue) → offered null st ≡ st
unfolding null
null_offered st = ap (λ (n : ℕ). record st { horizon = n }) (let same : max st.horizon 0 ≡ st.horizon = omega arith in same)

-- what a call comes to with events more
abbrev pub onwards : List Event → Outcome → Outcome
onwards es (Wait, vars, st) = resumed vars (extended es st)
onwards es (Done c v, vars, st) = (Done c v, vars, extended es st)
onwards es (Fail t, vars, st) = (Fail t, vars, extended es st)
onwards es (Body t, vars, st) = (Body t, vars, extended es st)
onwards es (Words t, vars, st) = (Words t, vars, extended es st)
onwards es (Stop n, vars, st) = (Stop n, vars, extended es st)
onwards es (Unknown, vars, st) = (Unknown, vars, extended es st)
onwards es (Memory, vars, st) = (Memory, vars, extended es st)

-- a call that waits, asked to go on where nothing came, waits and changes nothing
again : (call : Call) (st : Dialogue) (vars : Variables) (st' : Dialogue) → Good st → outcome call st ≡ (Wait, vars, st') → resumed vars st' ≡ (Wait, vars, st')
again call st vars st' g e =
    ap (resumed vars) (sym (null_offered st'))
    ∙ sym (ap (onward null) e)
    ∙ sym (outcome_onward null call st g)
    ∙ ap (outcome call) (null_offered st)
    ∙ e

at_none : (x : Outcome) (call : Call) (st : Dialogue) → Good st → outcome call st ≡ x → x ≡ onwards [] x
at_none (Wait, vars, st') call st g e = sym (again call st vars st' g e)
at_none (Done c v, vars, st') call st g e = refl
at_none (Fail t, vars, st') call st g e = refl
at_none (Body t, vars, st') call st g e = refl
at_none (Words t, vars, st') call st g e = refl
at_none (Stop n, vars, st') call st g e = refl
at_none (Unknown, vars, st') call st g e = refl
at_none (Memory, vars, st') call st g e = refl

chained : (e : Event) (es : List Event) (x : Outcome) → GoodAfter x → ((vars : Variables) (st : Dialogue) → Good st → onwards es (resumed vars (offered e st)) ≡ resumed vars (extended es (offered e st))) → onwards es (onward e x) ≡ onwards (e ∷ es) x
chained e es (Wait, vars, st) g same = same vars st g
chained e es (Done c v, vars, st) g same = refl
chained e es (Fail t, vars, st) g same = refl
chained e es (Body t, vars, st) g same = refl
chained e es (Words t, vars, st) g same = refl
chained e es (Stop n, vars, st) g same = refl
chained e es (Unknown, vars, st) g same = refl
chained e es (Memory, vars, st) g same = refl

pub outcomes_onward : (es : List Event) (call : Call) (st : Dialogue) → Good st → outcome call (extended es st) ≡ onwards es (outcome call st)
outcomes_onward [] call st g = at_none (outcome call st) call st g refl
outcomes_onward (e ∷ es) call st g =
    outcomes_onward es call (offered e st) (good_offered e st g)
    ∙ ap (onwards es) (outcome_onward e call st g)
    ∙ chained e es (outcome call st) (outcome_good call st g) (λ vars st' g'. sym (outcomes_onward es (Resume vars) (offered e st') (good_offered e st' g')))

-- a call of which more is to be told than a name
abbrev pub IsTold : Call → Type 0
IsTold (Knows word) = ⊥
IsTold (Begin words vars) = Unit {0}
IsTold (Resume vars) = Unit {0}
IsTold (AfterWords words vars) = Unit {0}
IsTold (AfterBody c value vars) = Unit {0}

asked : (steps : ℕ) (more : Reply → Dialogue → Report) (call : Call) (st : Dialogue) → IsTold call → asking steps more call st ≡ behind steps more (outcome call st)
asked steps more (Knows word) st t = absurd t
asked steps more (Begin words vars) st t = refl
asked steps more (Resume vars) st t = refl
asked steps more (AfterWords words vars) st t = refl
asked steps more (AfterBody c value vars) st t = refl

module _ (bound : ℕ) (left : ℕ) (go : Reply → Tree) (vars : Variables) where
  replied : (s : HostStep) (d : Dialogue) (es : List Event) → behind (bound - left) (λ r. play bound (go r)) (onwards es (s, vars, d)) ≡ play bound (answered s vars left go) (extended es d)
  replied Wait d es = refl
  replied (Done c v) d es = refl
  replied (Fail t) d es = refl
  replied (Body t) d es = refl
  replied (Words t) d es = refl
  replied (Stop n) d es = refl
  replied Unknown d es = refl
  replied Memory d es = refl

  -- one reply
  stepped : (call : Call) (s : HostStep) (d d' : Dialogue) (es : List Event) → IsTold call → Good d → outcome call d ≡ (s, vars, d') → play bound (Ask call left go) (extended es d) ≡ play bound (answered s vars left go) (extended es d')
  stepped call s d d' es t g e =
      asked (bound - left) (λ r. play bound (go r)) call (extended es d) t
      ∙ ap (behind (bound - left) (λ r. play bound (go r))) (outcomes_onward es call d g ∙ ap (onwards es) e)
      ∙ replied s d' es

good_along : (call : Call) (d : Dialogue) (s : HostStep) (vars : Variables) (d' : Dialogue) → Good d → outcome call d ≡ (s, vars, d') → Good d'
good_along call d s vars d' g e = subst (λ (x : Outcome). GoodAfter x) e (outcome_good call d g)

-- what a reply says of the dialogue before it
lived_by : (call : Call) (r : Reply) (d d' : Dialogue) → IsReply d call r d' → IsTrue d'.lives → IsTrue d.lives
lived_by (Begin words w) (Stepped s vars) d d' a lives = (a.0 lives).0
lived_by (Resume w) (Stepped s vars) d d' a lives = (a.0 lives).0
lived_by (AfterWords words w) (Stepped s vars) d d' a lives = (a.0 lives).0
lived_by (AfterBody c value w) (Stepped s vars) d d' a lives = (a.0 lives).0
lived_by (Knows word) (Known b) d d' a lives = subst (λ (x : Dialogue). IsTrue x.lives) a.1 lives
lived_by (Knows word) (Stepped s vars) d d' a lives = absurd a
lived_by (Begin words w) (Known b) d d' a lives = absurd a
lived_by (Resume w) (Known b) d d' a lives = absurd a
lived_by (AfterWords words w) (Known b) d d' a lives = absurd a
lived_by (AfterBody c value w) (Known b) d d' a lives = absurd a

-- the replies were given by dialogues that lived
pub leads_lived : (rs : List Reply) (t : Tree) (d : Dialogue) (t' : Tree) (d' : Dialogue) → Leads IsReply rs t d t' d' → IsTrue d'.lives → IsTrue d.lives
leads_lived [] t d t' d' l lives = subst (λ (x : Dialogue). IsTrue x.lives) (sym l.1) lives
leads_lived (r ∷ rs) (Over e s) d t' d' l lives = absurd l.1
leads_lived (r ∷ rs) (Ask call left go) d t' d' l lives =
    lived_by call r d l.0 l.1 (leads_lived rs (follow (Ask call left go) r) l.0 t' d' l.2 lives)

-- one reply: the dialogue stays good, and the report for whatever comes stays
pub record Steps (t : Tree) (r : Reply) (d d' : Dialogue) : Type 0 where
  pub good : Good d'
  pub same : (bound : ℕ) (es : List Event) → play bound t (extended es d) ≡ play bound (follow t r) (extended es d')

told_step : (call : Call) (left : ℕ) (go : Reply → Tree) (s : HostStep) (vars : Variables) (d d' : Dialogue) → IsTold call → Good d → outcome call d ≡ (s, vars, d') → Steps (Ask call left go) (Stepped s vars) d d'
told_step call left go s vars d d' t g e = record {
  good = good_along call d s vars d' g e;
  same = λ bound es. stepped bound left go vars call s d d' es t g e;
}

pub step_by : (call : Call) (left : ℕ) (go : Reply → Tree) (r : Reply) (d d' : Dialogue) → Good d → IsReply d call r d' → IsTrue d'.lives → Steps (Ask call left go) r d d'
step_by (Begin words w) left go (Stepped s vars) d d' g a lives = told_step (Begin words w) left go s vars d d' tt g (a.0 lives).1
step_by (Resume w) left go (Stepped s vars) d d' g a lives = told_step (Resume w) left go s vars d d' tt g (a.0 lives).1
step_by (AfterWords words w) left go (Stepped s vars) d d' g a lives = told_step (AfterWords words w) left go s vars d d' tt g (a.0 lives).1
step_by (AfterBody c value w) left go (Stepped s vars) d d' g a lives = told_step (AfterBody c value w) left go s vars d d' tt g (a.0 lives).1
step_by (Knows word) left go (Known b) d d' g a lives = record {
  good = subst Good (sym a.1) g;
  same = λ bound es. ap (λ (k : Bool). play bound (go (Known k)) (extended es d)) (sym a.0) ∙ ap (λ (x : Dialogue). play bound (go (Known b)) (extended es x)) (sym a.1);
}
step_by (Knows word) left go (Stepped s vars) d d' g a lives = absurd a
step_by (Begin words w) left go (Known b) d d' g a lives = absurd a
step_by (Resume w) left go (Known b) d d' g a lives = absurd a
step_by (AfterWords words w) left go (Known b) d d' g a lives = absurd a
step_by (AfterBody c value w) left go (Known b) d d' g a lives = absurd a

-- a list of replies
pub leads_play : (rs : List Reply) (t : Tree) (d : Dialogue) (t' : Tree) (d' : Dialogue) → Good d → Leads IsReply rs t d t' d' → IsTrue d'.lives → Good d' × ((bound : ℕ) (es : List Event) → play bound t (extended es d) ≡ play bound t' (extended es d'))
leads_play [] t d t' d' g l lives = (
  subst Good l.1 g,
  λ bound es. ap (λ (x : Tree). play bound x (extended es d)) l.0 ∙ ap (λ (x : Dialogue). play bound t' (extended es x)) l.1,
)
leads_play (r ∷ rs) (Over e s) d t' d' g l lives = absurd l.1
leads_play (r ∷ rs) (Ask call left go) d t' d' g l lives =
    let t : Tree = follow (Ask call left go) r in
    let step = step_by call left go r d l.0 g l.1 (leads_lived rs t l.0 t' d' l.2 lives) in
    let more = leads_play rs t l.0 t' d' step.good l.2 lives in
    (more.0, λ bound es. step.same bound es ∙ more.1 bound es)

-- a tree that has asked and waits, and goes on waiting up to the deadline
pub record Waiting (t : Tree) (d : Dialogue) : Type 0 where
  pub vars : Variables
  pub left : ℕ
  pub go : Reply → Tree
  pub tree : t ≡ Ask (Resume vars) left go
  pub waits : resumed vars d ≡ (Wait, vars, d)
  pub waits_on : (m : ℕ) → IsWithin m (deadline_of d) → resumed vars (offered (event.Tick m) d) ≡ (Wait, vars, offered (event.Tick m) d)

told_waits : (call : Call) (left : ℕ) (go : Reply → Tree) (s : HostStep) (vars : Variables) (d mid : Dialogue) (t' : Tree) (d' : Dialogue) → Good d → outcome call d ≡ (s, vars, mid) → s ≡ Wait → answered s vars left go ≡ t' → mid ≡ d' → Waiting t' d'
told_waits call left go s vars d mid t' d' g e w same there = record {
  vars = vars;
  left = left;
  go = go;
  tree = sym same ∙ ap (λ (x : HostStep). answered x vars left go) w;
  waits = subst (λ (x : Dialogue). resumed vars x ≡ (Wait, vars, x)) there (again call d vars mid g came);
  waits_on = subst (λ (x : Dialogue). (m : ℕ) → IsWithin m (deadline_of x) → resumed vars (offered (event.Tick m) x) ≡ (Wait, vars, offered (event.Tick m) x)) there (waits_on call d vars mid came);
}
  where
    came : outcome call d ≡ (Wait, vars, mid)
    came = e ∙ ap (λ (x : HostStep). let y : Outcome = (x, vars, mid) in y) w

last_waits : (call : Call) (left : ℕ) (go : Reply → Tree) (r : Reply) (d mid : Dialogue) (t' : Tree) (d' : Dialogue) → Good d → IsReply d call r mid → IsTrue mid.lives → EndsInWait (r ∷ []) → follow (Ask call left go) r ≡ t' → mid ≡ d' → Waiting t' d'
last_waits (Begin words w) left go (Stepped s vars) d mid t' d' g a lives ends same there = told_waits (Begin words w) left go s vars d mid t' d' g (a.0 lives).1 ends same there
last_waits (Resume w) left go (Stepped s vars) d mid t' d' g a lives ends same there = told_waits (Resume w) left go s vars d mid t' d' g (a.0 lives).1 ends same there
last_waits (AfterWords words w) left go (Stepped s vars) d mid t' d' g a lives ends same there = told_waits (AfterWords words w) left go s vars d mid t' d' g (a.0 lives).1 ends same there
last_waits (AfterBody c value w) left go (Stepped s vars) d mid t' d' g a lives ends same there = told_waits (AfterBody c value w) left go s vars d mid t' d' g (a.0 lives).1 ends same there
last_waits (Knows word) left go (Known b) d mid t' d' g a lives ends same there = absurd ends
last_waits (Knows word) left go (Stepped s vars) d mid t' d' g a lives ends same there = absurd a
last_waits (Begin words w) left go (Known b) d mid t' d' g a lives ends same there = absurd a
last_waits (Resume w) left go (Known b) d mid t' d' g a lives ends same there = absurd a
last_waits (AfterWords words w) left go (Known b) d mid t' d' g a lives ends same there = absurd a
last_waits (AfterBody c value w) left go (Known b) d mid t' d' g a lives ends same there = absurd a

pub leads_waiting : (rs : List Reply) (t : Tree) (d : Dialogue) (t' : Tree) (d' : Dialogue) → Good d → Leads IsReply rs t d t' d' → IsTrue d'.lives → EndsInWait rs → Waiting t' d'
leads_waiting [] t d t' d' g l lives w = absurd w
leads_waiting (r ∷ rs) (Over e s) d t' d' g l lives w = absurd l.1
leads_waiting (r ∷ []) (Ask call left go) d t' d' g l lives w =
    last_waits call left go r d l.0 t' d' g l.1 (subst (λ (x : Dialogue). IsTrue x.lives) (sym l.2.1) lives) w l.2.0 l.2.1
leads_waiting (r ∷ q ∷ rs) (Ask call left go) d t' d' g l lives w =
    let t : Tree = follow (Ask call left go) r in
    let step = step_by call left go r d l.0 g l.1 (leads_lived (q ∷ rs) t l.0 t' d' l.2 lives) in
    leads_waiting (q ∷ rs) t l.0 t' d' step.good l.2 lives w

-- the steps that are left in a tree that asks, and the variables that it lends
unfoldable left_in : Tree → ℕ
left_in (Over e s) = s.left
left_in (Ask call left go) = left

unfoldable vars_in : Tree → Variables
vars_in (Over e s) = s.vars
vars_in (Ask (Begin words vars) left go) = vars
vars_in (Ask (Resume vars) left go) = vars
vars_in (Ask (AfterWords words vars) left go) = vars
vars_in (Ask (AfterBody c value vars) left go) = vars
vars_in (Ask (Knows word) left go) = record { globals = []; locals = [] }

left_asking : (engine : Engine) (mode : Mode) (n : ℕ) → IsAsking mode → left_in (engine_rest engine n mode) ≡ n
unfolding left_in
left_asking engine (CallHost call depth r) n a = refl
left_asking engine _ n a = absurd a

vars_asking : (engine : Engine) (mode : Mode) (n : ℕ) → IsAsking mode → vars_in (engine_rest engine n mode) ≡ engine.vars
unfolding vars_in
vars_asking engine (CallHost call depth true) n a = refl
vars_asking engine (CallHost (BeginCommand words) depth false) n a = refl
vars_asking engine (CallHost (HandWords words) depth false) n a = refl
vars_asking engine (CallHost (TellEnd c v bound) depth false) n a = refl
vars_asking engine _ n a = absurd a

shown_asking : (bound : ℕ) (engine : Engine) (mode : Mode) (n : ℕ) (d : Dialogue) → IsAsking mode → said ending.Waiting [] [] (bound - n) engine.vars d ≡ shown bound engine mode n d
shown_asking bound engine (CallHost call depth r) n d a = refl
shown_asking bound engine _ n d a = absurd a

deadline_asking : (mode : Mode) (d : Dialogue) → IsAsking mode → deadline_in mode d ≡ deadline_of d
deadline_asking (CallHost call depth r) d a = refl
deadline_asking _ d a = absurd a

shows_waiting : (bound : ℕ) (engine : Engine) (mode : Mode) (n : ℕ) (d : Dialogue) → IsAsking mode → Waiting (engine_rest engine n mode) d → play bound (engine_rest engine n mode) d ≡ shown bound engine mode n d
unfolding left_in vars_in
shows_waiting bound engine mode n d a w =
    ap (λ (t : Tree). play bound t d) w.tree
    ∙ ap (behind (bound - w.left) (λ r. play bound (w.go r))) w.waits
    ∙ ap (λ (k : ℕ). said ending.Waiting [] [] (bound - k) w.vars d) (sym (ap left_in w.tree) ∙ left_asking engine mode n a)
    ∙ ap (λ (v : Variables). said ending.Waiting [] [] (bound - n) v d) (sym (ap vars_in w.tree) ∙ vars_asking engine mode n a)
    ∙ shown_asking bound engine mode n d a

quiet_asking : (engine : Engine) (mode : Mode) (n : ℕ) (d : Dialogue) → IsAsking mode → Waiting (engine_rest engine n mode) d → Quiet engine mode n d
quiet_asking engine mode n d a w = record {
  tick = λ bound m le.
      let reply : Outcome → Report = behind (bound - w.left) (λ r. play bound (w.go r)) in
      ap (λ (t : Tree). play bound t (offered (event.Tick m) d)) w.tree
      ∙ ap reply (w.waits_on m (subst (IsWithin m) (deadline_asking mode d a) le))
      ∙ sym (ap (λ (t : Tree). play bound t d) w.tree ∙ ap reply w.waits);
}

quiet_over : (engine : Engine) (mode : Mode) (e : End) (n : ℕ) (d : Dialogue) → mode ≡ Ended e → Quiet engine mode n d
quiet_over engine mode e n d is = record {
  tick = λ bound m le. subst (λ (x : Mode). play bound (engine_rest engine n x) (offered (event.Tick m) d) ≡ play bound (engine_rest engine n x) d) (sym is) refl;
}

shows_over : (bound : ℕ) (engine : Engine) (mode : Mode) (e : End) (n : ℕ) (d : Dialogue) → mode ≡ Ended e → play bound (engine_rest engine n mode) d ≡ shown bound engine mode n d
shows_over bound engine mode e n d is = subst (λ (m : Mode). play bound (engine_rest engine n m) d ≡ shown bound engine m n d) (sym is) refl

shows_pause : (why : Pause) (replies : List Reply) (t : Tree) (d : Dialogue) (engine : Engine) (mode : Mode) (n : ℕ) (d' : Dialogue) → Good d → why ≢ pause.Memory → Leads IsReply replies t d (engine_rest engine n mode) d' → IsTrue d'.lives → IsPauseOf why mode replies → (bound : ℕ) → play bound (engine_rest engine n mode) d' ≡ shown bound engine mode n d'
shows_pause pause.Waits replies t d engine mode n d' g differs l lives p bound = shows_waiting bound engine mode n d' p.1 (leads_waiting replies t d (engine_rest engine n mode) d' g l lives p.0)
shows_pause (pause.Finished c v) replies t d engine mode n d' g differs l lives p bound = shows_over bound engine mode _ n d' p
shows_pause (pause.Stopped e) replies t d engine mode n d' g differs l lives p bound = shows_over bound engine mode _ n d' p
shows_pause pause.StepLimit replies t d engine mode n d' g differs l lives p bound = shows_over bound engine mode _ n d' p
shows_pause pause.Memory replies t d engine mode n d' g differs l lives p bound = absurd (differs refl)

quiet_pause : (why : Pause) (replies : List Reply) (t : Tree) (d : Dialogue) (engine : Engine) (mode : Mode) (n : ℕ) (d' : Dialogue) → Good d → why ≢ pause.Memory → Leads IsReply replies t d (engine_rest engine n mode) d' → IsTrue d'.lives → IsPauseOf why mode replies → Quiet engine mode n d'
quiet_pause pause.Waits replies t d engine mode n d' g differs l lives p = quiet_asking engine mode n d' p.1 (leads_waiting replies t d (engine_rest engine n mode) d' g l lives p.0)
quiet_pause (pause.Finished c v) replies t d engine mode n d' g differs l lives p = quiet_over engine mode _ n d' p
quiet_pause (pause.Stopped e) replies t d engine mode n d' g differs l lives p = quiet_over engine mode _ n d' p
quiet_pause pause.StepLimit replies t d engine mode n d' g differs l lives p = quiet_over engine mode _ n d' p
quiet_pause pause.Memory replies t d engine mode n d' g differs l lives p = absurd (differs refl)

-- what holds where a test fails, where it failed
pub unless : {P : Type 0} (b : Bool) → b ≡ false → OnFalse b P → P
unless true h p = cc
unless false h p = p

-- a run, from what the machine's run ensures
pub ran : (why : Pause) (old : Engine) (was : Mode) (had : ℕ) (d : Dialogue) (new : Engine) (is : Mode) (has : ℕ) (d' : Dialogue) → (IsTrue d.lives → Good d) → why ≢ pause.Memory → IsTrue d'.lives → ((replies : List Reply) × Leads IsReply replies (engine_rest old had was) d (engine_rest new has is) d' × IsPauseOf why is replies) → Ran old was had d new is has d'
ran why old was had d new is has d' good differs lives h =
    let lived = leads_lived h.0 (engine_rest old had was) d (engine_rest new has is) d' h.1 lives in
    let led = leads_play h.0 (engine_rest old had was) d (engine_rest new has is) d' (good lived) h.1 lives in
    record {
      lived = lived;
      good = led.0;
      says = λ bound later. sym (led.1 bound later);
      shows = shows_pause why h.0 (engine_rest old had was) d new is has d' (good lived) differs h.1 lives h.2;
      quiet = quiet_pause why h.0 (engine_rest old had was) d new is has d' (good lived) differs h.1 lives h.2;
    }

pub good_new : (settings : Settings) (d : Dialogue) → d ≡ fresh settings → Good d
good_new settings d e = subst Good (sym e) (good_fresh settings)

pub good_fed : (e : Event) (d d' : Dialogue) → Good d → d' ≡ offered e d → Good d'
good_fed e d d' g h = subst Good (sym h) (good_offered e d g)

pub good_extended : (es : List Event) (d : Dialogue) → Good d → Good (extended es d)
good_extended [] d g = g
good_extended (e ∷ es) d g = good_extended es (offered e d) (good_offered e d g)

pub good_fed_all : (es : List Event) (d d' : Dialogue) → Good d → d' ≡ extended es d → Good d'
good_fed_all es d d' g h = subst Good (sym h) (good_extended es d g)
