-- Behind its limit a script doesn't wait.
use Rattle.std.proofs.Common.{◌≡◌, ◌≢◌, inl, inr, ℕ, ◌-◌, ◌<◌, Bool, true, false, Option, Some, List, [], ◌∷◌, ◌++◌, refl, sym, subst, max, arith}
use Rattle.std.specs.Prelude.{IsTrue, nat_le}
use Rattle.std.proofs.lemmas.Bool.Decides.{nat_tests}
use Rattle.child_events.specs.declared.event.Event.{Event}
use Rattle.child_events.specs.World.{moment_of, horizon_from}
use Rattle.tcl_host.specs.declared.ending.Ending.{Ending}
use Rattle.tcl_host.specs.declared.ending.Ending.TheVariants as ending
use Rattle.tcl_host.specs.declared.host.HostStep.TheVariants.{Done, Fail, Body, Words, Wait, Stop, Unknown, Memory}
use Rattle.tcl_host.specs.Calls.{Begin, Resume, AfterWords, AfterBody, Knows, Reply, Stepped, Known, step_of}
use Rattle.tcl_eval.specs.Tree.{Tree, Over, Ask}
use Rattle.expect_core.specs.declared.dialogue.Dialogue.{Dialogue}
use Rattle.expect_core.specs.declared.request.Request.{Request}
use Rattle.expect_core.specs.declared.settings.Settings.{Settings}
use Rattle.expect_core.specs.Heard.{at_most}
use Rattle.expect_core.specs.Lanes.{offered, extended}
use Rattle.expect_core.specs.Answered.{Outcome}
use Rattle.expect_core.specs.Calls.{knows, fresh}
use Rattle.expect_core.specs.Laws.{step_to}
use Rattle.session.specs.declared.report.Report.{Report}
use Rattle.session.specs.Play.{behind, play}
use Rattle.session.specs.Meaning.{steps_of, tree_of, meaning}
use Rattle.session.specs.Left.{Kept, left, Fed, HandsOut}
use Rattle.session.specs.Spent.{memory_report, Reports}
use Rattle.session.specs.Limits.{LimitEnds, EndsPast}
use Rattle.session.proofs.Sparing.{Spared, SparedStep, SparedTree, tree_spared, outcome_spared}
use Rattle.expect_core.proofs.Overdue.{Past, PastAfter, outcome_past}

-- of a call: what follows it comes to an ending of the script's own, where time is past the limit
behind_past : (steps : ℕ) (more : Reply → Dialogue → Report) (x : Outcome) → SparedStep (step_to x) → PastAfter x → ((r : Reply) (d : Dialogue) → SparedStep (step_of r) → Past d → Spared (more r d).ending) → Spared (behind steps more x).ending
behind_past steps more (Wait, vars, st) s p says = absurd p
behind_past steps more (Done c v, vars, st) s p says = says (Stepped (Done c v) vars) st s p
behind_past steps more (Fail t, vars, st) s p says = says (Stepped (Fail t) vars) st s p
behind_past steps more (Body t, vars, st) s p says = says (Stepped (Body t) vars) st s p
behind_past steps more (Words t, vars, st) s p says = says (Stepped (Words t) vars) st s p
behind_past steps more (Stop e, vars, st) s p says = says (Stepped (Stop e) vars) st s p
behind_past steps more (Unknown, vars, st) s p says = says (Stepped Unknown vars) st s p
behind_past steps more (Memory, vars, st) s p says = absurd s

play_past : (bound : ℕ) (t : Tree) (d : Dialogue) → SparedTree t → Past d → Spared (play bound t d).ending
play_past bound (Over e s) d h p = h
play_past bound (Ask (Knows name) had go) d h p = play_past bound (go (Known (knows name))) d (h (Known (knows name)) tt) p
play_past bound (Ask (Begin words vars) had go) d h p =
    behind_past (bound - had) (λ r. play bound (go r)) _ (outcome_spared (Begin words vars) d) (outcome_past (Begin words vars) d p) (λ r d s p. play_past bound (go r) d (h r s) p)
play_past bound (Ask (Resume vars) had go) d h p =
    behind_past (bound - had) (λ r. play bound (go r)) _ (outcome_spared (Resume vars) d) (outcome_past (Resume vars) d p) (λ r d s p. play_past bound (go r) d (h r s) p)
play_past bound (Ask (AfterWords words vars) had go) d h p =
    behind_past (bound - had) (λ r. play bound (go r)) _ (outcome_spared (AfterWords words vars) d) (outcome_past (AfterWords words vars) d p) (λ r d s p. play_past bound (go r) d (h r s) p)
play_past bound (Ask (AfterBody c v vars) had go) d h p =
    behind_past (bound - had) (λ r. play bound (go r)) _ (outcome_spared (AfterBody c v vars) d) (outcome_past (AfterBody c v vars) d p) (λ r d s p. play_past bound (go r) d (h r s) p)

-- time, behind events more

above : (h limit : ℕ) → limit < h → nat_le h limit ≡ false
above h limit lt = grind (arith, nat_tests)

past_extended : (es : List Event) (limit : ℕ) (d : Dialogue) → d.limit ≡ Some limit → limit < horizon_from d.horizon es → Past (extended es d)
past_extended [] limit d is lt = subst (λ (l : Option ℕ). at_most d.horizon l ≡ false) (sym is) (above d.horizon limit lt)
past_extended (e ∷ es) limit d is lt = past_extended es limit (offered e d) is lt

differs : (e : Ending) → Spared e → e ≢ ending.Waiting
differs e s is = subst Spared is s

pub limit_ends : LimitEnds
limit_ends source settings events limit is lt =
    differs (meaning source settings events).ending
    (play_past (steps_of settings.steps) (tree_of source settings) (extended events (fresh settings)) (tree_spared source settings) (past_extended events limit (fresh settings) is lt))

-- sessions

horizon_behind : (es : List Event) (h : ℕ) (later : List Event) → horizon_from (horizon_from h es) later ≡ horizon_from h (es ++ later)
horizon_behind [] h later = refl
horizon_behind (e ∷ es) h later = horizon_behind es (max h (moment_of e)) later

pub begins_limited : (source : List ℕ) (settings : Settings) (limit : ℕ) (k : Kept) → settings.limit_ms ≡ Some limit → (IsTrue k.lives → (later : List Event) → left k later ≡ meaning source settings later) → EndsPast limit 0 k
begins_limited source settings limit k is says = λ lives later lt. subst (λ (r : Report). r.ending ≢ ending.Waiting) (sym (says lives later)) (limit_ends source settings later limit is lt)

pub fed_limited : (limit horizon : ℕ) (old new : Kept) (events : List Event) → Fed old events new → EndsPast limit horizon old → EndsPast limit (horizon_from horizon events) new
fed_limited limit horizon old new events f ends = λ lives later lt.
    subst (λ (r : Report). r.ending ≢ ending.Waiting) (sym (f.says lives later))
    (ends (f.lived lives) (events ++ later) (subst (λ (h : ℕ). limit < h) (horizon_behind events horizon later) lt))

pub handed_limited : (limit horizon : ℕ) (old new : Kept) (request : Option Request) → HandsOut old request new → EndsPast limit horizon old → EndsPast limit horizon new
handed_limited limit horizon old new request out ends = λ lives later lt.
    subst (λ (r : Report). r.ending ≢ ending.Waiting) (sym (out.says later)) (ends (subst (λ (b : Bool). IsTrue b) out.lives lives) later lt)

pub memory_differs : (r : Report) → r ≡ memory_report → r.ending ≢ ending.Waiting
memory_differs r is = subst (λ (r : Report). r.ending ≢ ending.Waiting) (sym is) (λ same. cc)

reported_by : (b : Bool) (k : Kept) → k.lives ≡ b → (limit horizon : ℕ) (r : Report) → Reports k r → EndsPast limit horizon k → limit < horizon → r.ending ≢ ending.Waiting
reported_by true k is limit horizon r rep ends lt =
    let lives : IsTrue k.lives = subst IsTrue (sym is) refl in
    elim (rep.lives lives) [
      | inl says ↦ subst (λ (r : Report). r.ending ≢ ending.Waiting) (sym says) (ends lives [] lt)
      | inr memory ↦ memory_differs r memory
    ]
reported_by false k is limit horizon r rep ends lt = memory_differs r (rep.spent is)

pub reported_limited : (limit horizon : ℕ) (k : Kept) (r : Report) → Reports k r → EndsPast limit horizon k → limit < horizon → r.ending ≢ ending.Waiting
reported_limited limit horizon k r rep ends lt = reported_by k.lives k refl limit horizon r rep ends lt
