-- A call leaves alone each child but those that it speaks to.
use Rattle.std.proofs.Common.{◌≡◌, ◌≢◌, ℕ, ◌+◌, ◌<◌, List, [], ◌∷◌, ◌++◌, length, Bool, true, false, Option, Some, None, inl, inr, refl, sym, ap, subst, ◌∙◌, arith}
use Rattle.std.specs.Prelude.{◌==◌, cond, nat_lt, if◌then◌else◌}
use Rattle.std.specs.List.{filter}
use Rattle.std.proofs.lemmas.Bool.Decides.{nat_tests}
use Rattle.std.proofs.lemmas.List.{get_or-set_other, get_or_append_left, length-append}
use Rattle.std.proofs.Math.Seq.{lt-length-set}
use Rattle.child_events.specs.declared.event.Event.TheVariants as event
use Rattle.tty.specs.declared.modes.Modes.{Modes}
use Rattle.tcl_host.specs.Calls.{Call, Begin, Resume, AfterWords, AfterBody, Knows}
use Rattle.expect_core.specs.declared.body.Body.{Body}
use Rattle.expect_core.specs.declared.body.Body.TheVariants.{Action, Source}
use Rattle.expect_core.specs.declared.request.Act.{Act}
use Rattle.expect_core.specs.declared.request.Request.{Request}
use Rattle.expect_core.specs.declared.child.Child.{Child}
use Rattle.expect_core.specs.declared.effect.Effect.{Effect}
use Rattle.expect_core.specs.declared.effect.Effect.TheVariants.{Tell, Log, LogUser, Add, Store, Set, Ask, Receive, Reader, Writer, Move, Shut, Errors, Day, Before, After}
use Rattle.expect_core.specs.declared.plan.Plan.{Plan}
use Rattle.expect_core.specs.declared.phase.Phase.{Phase}
use Rattle.expect_core.specs.declared.phase.Phase.TheVariants.{Idle, At}
use Rattle.expect_core.specs.declared.turn.Want.{Want}
use Rattle.expect_core.specs.declared.turn.Want.TheVariants.{Answer, Item, Output, End}
use Rattle.expect_core.specs.declared.dialogue.Dialogue.{Dialogue}
use Rattle.expect_core.specs.Lanes.{no_lane, lane_of, place}
use Rattle.expect_core.specs.Owned.{nobody, child_as, child_of, with_child, asked, told, logged, seen, received}
use Rattle.expect_core.specs.Texts.{id_at}
use Rattle.expect_core.specs.Heard.{places_of, IsWatched, about}
use Rattle.expect_core.specs.Among.{IsAmong}
use Rattle.expect_core.specs.Effects.{changed}
use Rattle.expect_core.specs.Calls.{outer, outcome}
use Rattle.expect_core.specs.Laws.{behind_call}
use Rattle.expect_core.specs.Apart.{asked_of, Untouched, wanted_of, under_way, speaks_to, IsOfOwn, NoneIsOf, IsAside, CallsOwn, StaysOfOwn, EventsOne}
use Rattle.expect_core.proofs.Stepping.{ChildOf, WantOf, PhaseOf, Kept, among_too}
use Rattle.expect_core.proofs.Calling.{outcome_keeps}
use Rattle.expect_core.proofs.Speaking.{LeavesPhase, opens}
use Rattle.expect_core.proofs.Steady.{Any, AnyEnd, Steady, steady}

-- a request more, to another child
not_asked : (p : Request → Bool) (r : Request) (rs : List Request) → p r ≡ false → filter p (rs ++ r ∷ []) ≡ filter p rs
not_asked p r [] e = ap (λ (b : Bool). cond b (r ∷ []) []) e
not_asked p r (x ∷ rs) e = ap (λ (l : List Request). cond (p x) (x ∷ l) l) (not_asked p r rs e)

module _ (j : ℕ) where
  abbrev Other : ℕ → Type 0
  Other i = j ≢ i

  -- what is left of a child, and nothing that is kept comes to be about it
  pub record Spared (a st : Dialogue) : Type 0 where
    pub lane : lane_of j st.lanes ≡ lane_of j a.lanes
    pub child : child_of j st.own ≡ child_of j a.own
    pub asked : asked_of j st.own.requests ≡ asked_of j a.own.requests
    pub there : j < length st.own.children
    pub bodies : IsAside j a → NoneIsOf j st.own.bodies

  module _ (a : Dialogue) where
    child_spared : (i : ℕ) (x : Child) (st : Dialogue) → j ≢ i → Spared a st → Spared a (record st { own = with_child i x st.own })
    child_spared i x st other k = record {
      lane = k.lane;
      child = get_or-set_other st.own.children i j x nobody other ∙ k.child;
      asked = k.asked;
      there = lt-length-set st.own.children i x k.there;
      bodies = k.bodies;
    }

    asked_spared : (i : ℕ) (x : Act) (st : Dialogue) → j ≢ i → Spared a st → Spared a (record st { own = asked i x st.own })
    asked_spared i x st other k = record { lane = k.lane; child = k.child; asked = not_asked (λ r. r.child == j + 1) _ st.own.requests (apart i other) ∙ k.asked; there = k.there; bodies = k.bodies }
      where
        apart : (i : ℕ) → j ≢ i → (i + 1 == j + 1) ≡ false
        apart i differ = grind (arith, nat_tests)

    logged_spared : (text : List ℕ) (st : Dialogue) (b : Bool) → Spared a st → Spared a (record st { own = if b then told text st.own else st.own })
    logged_spared text st true k = record { lane = k.lane; child = k.child; asked = k.asked; there = k.there; bodies = k.bodies }
    logged_spared text st false k = k

    received_spared : (i : ℕ) (piece : List ℕ) (st : Dialogue) → j ≢ i → Spared a st → Spared a (record st { own = received i piece st.own })
    received_spared i piece st other k = child_spared i _ (record st { own = logged (seen i piece st.own) st.own }) other (logged_spared (seen i piece st.own) st st.own.log_user k)

    added_spared : (modes : Modes) (st : Dialogue) (b : Bool) → Spared a st →
        Spared a (record st { own = if b then record st.own { children = st.own.children ++ child_as (id_at (length st.own.children)) modes st.own.size st.own.remove_nulls ∷ [] } else st.own })
    added_spared modes st true k = record {
      lane = k.lane;
      child = get_or_append_left st.own.children _ nobody j k.there ∙ k.child;
      asked = k.asked;
      there = longer st.own.children _ j k.there;
      bodies = k.bodies;
    }
      where
        longer : (xs : List Child) (x : Child) (j : ℕ) → j < length xs → j < length (xs ++ x ∷ [])
        longer xs x j lt = omega (arith, lt, length-append xs (x ∷ []))
    added_spared modes st false k = k

    does_spared : (at : Option ℕ) (x : Effect) (st : Dialogue) → ChildOf Other AnyEnd at → Spared a st → Spared a (record st { own = changed at x st.own })
    does_spared at (Tell text) st other k = logged_spared text st true k
    does_spared at (Log text) st other k = logged_spared text st st.own.log_user k
    does_spared at (Add modes) st other k = added_spared modes st (nat_lt (length st.own.children) 16) k
    does_spared at (LogUser on) st other k = record { lane = k.lane; child = k.child; asked = k.asked; there = k.there; bodies = k.bodies }
    does_spared at (Store pairs) st other k = k
    does_spared at (Set name value) st other k = k
    does_spared (Some i) (Reader bytes ended) st other k = record { lane = k.lane; child = k.child; asked = k.asked; there = k.there; bodies = k.bodies }
    does_spared (Some i) Writer st other k = record { lane = k.lane; child = k.child; asked = k.asked; there = k.there; bodies = k.bodies }
    does_spared at (Move n count met) st other k = record { lane = k.lane; child = k.child; asked = k.asked; there = k.there; bodies = k.bodies }
    does_spared at (Shut n) st other k = record { lane = k.lane; child = k.child; asked = k.asked; there = k.there; bodies = k.bodies }
    does_spared at (Day time) st other k = record { lane = k.lane; child = k.child; asked = k.asked; there = k.there; bodies = k.bodies }
    does_spared at (Before ids more) st other k = record { lane = k.lane; child = k.child; asked = k.asked; there = k.there; bodies = k.bodies }
    does_spared at (After ids more) st other k = record { lane = k.lane; child = k.child; asked = k.asked; there = k.there; bodies = k.bodies }
    does_spared (Some i) Errors st other k = record { lane = k.lane; child = k.child; asked = k.asked; there = k.there; bodies = k.bodies }
    does_spared (Some i) (Ask act) st other k = asked_spared i act st other k
    does_spared (Some i) (Receive piece) st other k = received_spared i piece st other k
    does_spared None _ st other k = record { lane = k.lane; child = k.child; asked = k.asked; there = k.there; bodies = k.bodies }
    does_spared (Some i) _ st other k = child_spared i _ st other k

    none_around : (bodies : List Body) → NoneIsOf j bodies → NoneIsOf j (outer bodies)
    none_around [] none = tt
    none_around (Action p ∷ bodies) none = none.1
    none_around (Source ∷ bodies) none = none

    spared : Kept Other (Spared a)
    spared = record {
      does = λ at x st other k. does_spared at x st other k;
      holds = λ p st sees k. record { lane = k.lane; child = k.child; asked = k.asked; there = k.there; bodies = λ aside. ((λ part. sees j (among_too p.pending (places_of p.sides) j part) refl), k.bodies aside) };
      reads = λ st k. record { lane = k.lane; child = k.child; asked = k.asked; there = k.there; bodies = λ aside. k.bodies aside };
      pops = λ st k. record { lane = k.lane; child = k.child; asked = k.asked; there = k.there; bodies = λ aside. none_around st.own.bodies (k.bodies aside) };
      types = λ i text st other k. let new = child_spared i _ st other k in record { lane = get_or-set_other st.lanes i j _ no_lane other ∙ k.lane; child = new.child; asked = new.asked; there = new.there; bodies = new.bodies };
      trims = λ i st other k. child_spared i _ st other k;
      receives = λ i piece st other k. received_spared i piece st other k;
      takes = λ i q qs st other is k. record { lane = get_or-set_other st.lanes i j _ no_lane other ∙ k.lane; child = k.child; asked = k.asked; there = k.there; bodies = k.bodies };
      answers = λ i x l st other is k. record { lane = get_or-set_other st.lanes i j _ no_lane other ∙ k.lane; child = k.child; asked = k.asked; there = k.there; bodies = k.bodies };
      times = λ d st le k. record { lane = k.lane; child = k.child; asked = k.asked; there = k.there; bodies = k.bodies };
    }

  -- what is under way is about others just where j is not among those

  others_wanted : (w : Want) → ¬ IsAmong j (wanted_of w) → WantOf Other AnyEnd w
  others_wanted (Answer i why) out = λ same. out (inl (sym same))
  others_wanted (Item i why) out = λ same. out (inl (sym same))
  others_wanted (Output p) out = λ i part same. out (subst (λ (i : ℕ). IsAmong i (about p)) (sym same) part)
  others_wanted (End i p) out = ((λ same. out (inl (sym same))), (λ i part same. out (inr (subst (λ (i : ℕ). IsAmong i (about p)) (sym same) part))), tt)

  wanted_others : (w : Want) → WantOf Other AnyEnd w → ¬ IsAmong j (wanted_of w)
  wanted_others (Answer i why) other among = elim among [ inl same ↦ other (sym same) | inr none ↦ none ]
  wanted_others (Item i why) other among = elim among [ inl same ↦ other (sym same) | inr none ↦ none ]
  wanted_others (Output p) other among = other j among refl
  wanted_others (End i p) other among = elim among [ inl same ↦ other.0 (sym same) | inr part ↦ other.1 j part refl ]

  others_under : (f : Phase) → ¬ IsAmong j (under_way f) → PhaseOf Other AnyEnd f
  others_under Idle out = tt
  others_under (At n w) out = others_wanted w out

  under_others : (f : Phase) → PhaseOf Other AnyEnd f → ¬ IsAmong j (under_way f)
  under_others Idle other among = among
  under_others (At n w) other among = wanted_others w other among

  abbrev Sparing : Call → Dialogue → Type 0
  Sparing call st = let new = behind_call (outcome call st) in Untouched j st new × (j < length new.own.children) × (IsAside j st → IsAside j new)

  call_spared : (call : Call) (st : Dialogue) → ¬ IsAmong j (speaks_to call st) → j < length st.own.children → (LeavesPhase Other AnyEnd call → PhaseOf Other AnyEnd st.phase) → Sparing call st
  call_spared call st out lt under =
      let k = outcome_keeps Other AnyEnd (λ i p w. tt) (Spared st) (spared st) call st
      (opens Other AnyEnd call st (λ i among same. out (subst (λ (i : ℕ). IsAmong i (speaks_to call st)) (sym same) among)) (λ room same. absurd (omega (arith, lt, same))) under)
      (record { lane = refl; child = refl; asked = refl; there = lt; bodies = λ aside. aside.1 }) in
      let new = k.0 in
      ((new.lane, new.child, new.asked), new.there, λ aside. (under_others (outcome call st).2.phase k.1, new.bodies aside))

pub calls_own : CallsOwn
calls_own (Knows word) st own j out lt = ((refl, refl, refl), lt, λ aside. aside)
calls_own (Begin words vars) st own j out lt = call_spared j (Begin words vars) st out lt (λ leaves. absurd leaves)
calls_own (Resume vars) st own j out lt = call_spared j (Resume vars) st out lt (λ leaves. others_under j st.phase out)
calls_own (AfterWords words vars) st own j out lt = call_spared j (AfterWords words vars) st out lt (λ leaves. absurd leaves)
calls_own (AfterBody c value vars) st own j out lt = call_spared j (AfterBody c value vars) st out lt (λ leaves. absurd leaves)

-- where an expect awaits that a child is let go, that is one of its own

abbrev Mine : ℕ → Plan → Type 0
Mine i p = IsWatched i p.sides

own_phase : (f : Phase) → IsOfOwn f → PhaseOf Any Mine f
own_phase Idle own = tt
own_phase (At n (Answer i why)) own = tt
own_phase (At n (Item i why)) own = tt
own_phase (At n (Output p)) own = λ i part. tt
own_phase (At n (End i p)) own = (tt, (λ i part. tt), own)

phase_own : (f : Phase) → PhaseOf Any Mine f → IsOfOwn f
phase_own (At n (End i p)) of = of.2
phase_own _ of = tt

pub stays_of_own : StaysOfOwn
stays_of_own = record {
  begins = λ settings. tt;
  offered = λ e st own. own;
  called = λ call st own.
      phase_own (outcome call st).2.phase
      (outcome_keeps Any Mine (λ i p w. w) (Steady st) (steady st) call st (opens Any Mine call st (λ i among. tt) (λ room. tt) (λ leaves. own_phase st.phase own)) (refl, refl, refl)).1;
}

pub events_one : EventsOne
events_one (event.Child c m w) st = (refl, refl, λ j apart. (get_or-set_other st.lanes (place c) j _ no_lane (λ same. apart (ap Some (sym same))), refl, refl))
events_one (event.Tick m) st = (refl, refl, λ j apart. (refl, refl, refl))
