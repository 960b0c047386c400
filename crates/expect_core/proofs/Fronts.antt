-- No call takes back what was asked and told.
use Rattle.std.proofs.Common.{ℕ, List, [], ◌++◌, length, Option, Some, None, sym, ap, ◌∙◌}
use Rattle.std.proofs.lemmas.List.{append_assoc, append-nil}
use Rattle.std.specs.Prelude.{nat_lt}
use Rattle.tcl_host.specs.Calls.{Call}
use Rattle.expect_core.specs.declared.request.Act.{Act}
use Rattle.expect_core.specs.declared.effect.Effect.{Effect}
use Rattle.expect_core.specs.declared.effect.Effect.TheVariants.{Tell, Log, Add, Ask, Receive}
use Rattle.expect_core.specs.declared.own.Own.{Own}
use Rattle.expect_core.specs.declared.dialogue.Dialogue.{Dialogue}
use Rattle.expect_core.specs.Owned.{asked, told, seen, received}
use Rattle.expect_core.specs.Effects.{changed}
use Rattle.expect_core.specs.Answered.{Outcome}
use Rattle.expect_core.specs.Calls.{outcome}
use Rattle.expect_core.specs.Laws.{IsFront, Keeps}
use Rattle.expect_core.proofs.Stepping.{Kept}
use Rattle.expect_core.proofs.Calling.{pick}
use Rattle.expect_core.proofs.Steady.{Any, any_outcome}

abbrev pub KeptAfter : Own → Outcome → Type 0
KeptAfter o (step, vars, st) = Keeps o st.own

pub front_same : {X : Type 0} (xs : List X) → IsFront xs xs
front_same xs = record { more = []; joined = sym (append-nil xs) }

front_on : {X : Type 0} (xs ys zs : List X) → IsFront xs ys → IsFront xs (ys ++ zs)
front_on xs ys zs f = record { more = f.more ++ zs; joined = ap (λ l. l ++ zs) f.joined ∙ append_assoc xs f.more zs }

pub keeps_same : (o : Own) → Keeps o o
keeps_same o = (front_same o.requests, front_same o.transcript)

-- what was asked and told long before
module _ (o : Own) where
  asked_kept : (i : ℕ) (x : Act) (new : Own) → Keeps o new → Keeps o (asked i x new)
  asked_kept i x new k = (front_on o.requests new.requests _ k.0, k.1)

  told_kept : (text : List ℕ) (new : Own) → Keeps o new → Keeps o (told text new)
  told_kept text new k = (k.0, front_on o.transcript new.transcript text k.1)

  received_kept : (i : ℕ) (piece : List ℕ) (new : Own) → Keeps o new → Keeps o (received i piece new)
  received_kept i piece new k = pick (Keeps o) new.log_user _ _ (told_kept (seen i piece new) new k) k

  does_kept : (at : Option ℕ) (x : Effect) (new : Own) → Keeps o new → Keeps o (changed at x new)
  does_kept at (Tell text) new k = told_kept text new k
  does_kept at (Log text) new k = pick (Keeps o) new.log_user _ _ (told_kept text new k) k
  does_kept at (Add modes) new k = pick (Keeps o) (nat_lt (length new.children) 16) _ _ k k
  does_kept (Some i) (Ask act) new k = asked_kept i act new k
  does_kept (Some i) (Receive piece) new k = received_kept i piece new k
  does_kept None _ new k = k
  does_kept (Some i) _ new k = k

  fronts : Kept Any (λ st. Keeps o st.own)
  fronts = record {
    does = λ at x st a k. does_kept at x st.own k;
    holds = λ p st a k. k;
    reads = λ st k. k;
    pops = λ st k. k;
    types = λ i text st a k. k;
    trims = λ i st a k. k;
    receives = λ i piece st a k. received_kept i piece st.own k;
    takes = λ i q qs st a is k. k;
    answers = λ i x l st a is k. k;
    times = λ d st le k. k;
  }

  pub outcome_kept : (call : Call) (st : Dialogue) → Keeps o st.own → KeptAfter o (outcome call st)
  outcome_kept call st k = (any_outcome (λ st. Keeps o st.own) fronts call st k).0

pub outcome_told : (call : Call) (st : Dialogue) → KeptAfter st.own (outcome call st)
outcome_told call st = outcome_kept st.own call st (keeps_same st.own)
