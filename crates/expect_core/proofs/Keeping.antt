-- What holds before a wait for patterns and is kept by each of its steps holds behind it. What came of it is about a child that takes part, and no later than
-- the horizon; where nothing came, nothing is there to be taken.
use Rattle.std.proofs.Common.{◌≡◌, ℕ, zero, suc, ◌≤◌, ◌<◌, List, [], ◌∷◌, Bool, true, false, Option, Some, None, inl, inr, refl, sym, subst, arith}
use Rattle.std.specs.Prelude.{nat_le, if◌then◌else◌, slice_get}
use Rattle.std.proofs.lemmas.Bool.{leb-false}
use Rattle.child_events.specs.declared.event.Item.{Item}
use Rattle.child_events.specs.declared.event.Item.TheVariants as item
use Rattle.child_events.specs.Queue.{Queued}
use Rattle.child_events.specs.Next.{next_of}
use Rattle.child_events.proofs.Nexts.{next_there}
use Rattle.exp_match.specs.declared.chosen.Chosen.{Chosen}
use Rattle.exp_match.specs.declared.chosen.Chosen.TheVariants as chosen
use Rattle.expect_core.specs.declared.lanes.Lane.{Lane}
use Rattle.expect_core.specs.declared.plan.Plan.{Plan}
use Rattle.expect_core.specs.declared.phase.Heard.{Heard}
use Rattle.expect_core.specs.declared.phase.Heard.TheVariants.{TimedOut, OverLimit, NotYet}
use Rattle.expect_core.specs.declared.own.Own.{Own}
use Rattle.expect_core.specs.Lanes.{lane_of, with_items}
use Rattle.expect_core.proofs.Times.{lapse_by}
use Rattle.expect_core.proofs.Listening.{fewer}
use Rattle.expect_core.proofs.Resting.{NoItem, NoNext, Rests, AsleepOver}
use Rattle.expect_core.specs.Owned.{received, at_moment, trimmed}
use Rattle.expect_core.specs.Heard.{at_most, in_time, Watch, watched, place_in, lapse, Listened, chosen_of, decided, tested, heard, heads, taken, on_next, listen_for, item_count, listen, look, IsWatched, IsAbout}

-- the one that is next takes part
next_watched : (ws : List Watch) (lanes : List Lane) (n m : ℕ) → slice_get (heads ws lanes) n ≡ Some (Some m) → IsWatched (place_in ws n) ws
next_watched [] lanes zero m e = absurd (let no : None ≡ Some (Some m) = e in cc)
next_watched [] lanes (suc n) m e = absurd (let no : None ≡ Some (Some m) = e in cc)
next_watched (w ∷ ws) lanes zero m e = inl refl
next_watched (w ∷ ws) lanes (suc n) m e = inr (next_watched ws lanes n m e)

-- a timeout is no later than this
abbrev pub OnTime : ℕ → Heard → Type 0
OnTime h (TimedOut d) = d ≤ h
OnTime h v = Unit {0}

timed : (h d : ℕ) (a b c : Bool) → nat_le h d ≡ a → OnTime h (lapse_by a b c d)
timed h d true true c e = tt
timed h d true false c e = tt
timed h d false b true e = let above : d < h = leb-false h d e in omega arith
timed h d false b false e = tt

endless : (h : ℕ) (b : Bool) → OnTime h (if b then NotYet else OverLimit)
endless h true = tt
endless h false = tt

lapsed_on_time : (limit : Option ℕ) (h : ℕ) (d : Option ℕ) → OnTime h (lapse limit h d)
lapsed_on_time limit h None = endless h (at_most h limit)
lapsed_on_time limit h (Some d) = timed h d (nat_le h d) (at_most h limit) (at_most d limit) refl

module _ (limit : Option ℕ) (h : ℕ) (p : Plan) (P : List Lane → Own → Type 0) where
  abbrev pub Watches : ℕ → Type 0
  Watches i = IsWatched i (watched p)

  abbrev pub Kept : Listened → Type 0
  Kept (v, lanes, o) = P lanes o × IsAbout (watched p) v × OnTime h v × AsleepOver limit h p (v, lanes, o)

  lapse_about : (ws : List Watch) (a b c : Bool) (d : ℕ) → IsAbout ws (lapse_by a b c d)
  lapse_about ws true true c d = tt
  lapse_about ws true false c d = tt
  lapse_about ws false b true d = tt
  lapse_about ws false b false d = tt

  endless_about : (ws : List Watch) (b : Bool) → IsAbout ws (if b then NotYet else OverLimit)
  endless_about ws true = tt
  endless_about ws false = tt

  lapsed_about : (d : Option ℕ) → IsAbout (watched p) (lapse limit h d)
  lapsed_about None = endless_about (watched p) (at_most h limit)
  lapsed_about (Some d) = lapse_about (watched p) _ (at_most h limit) (at_most d limit) d

  rested : (v : Heard) (lanes : List Lane) (o : Own) → lapse limit h p.deadline ≡ v → Rests limit h p lanes → AsleepOver limit h p (v, lanes, o)
  rested NotYet lanes o e rests = (rests, e)
  rested _ lanes o e rests = tt

  -- nothing is taken
  lapsed_keeps : (lanes : List Lane) (o : Own) → P lanes o → Rests limit h p lanes → Kept (lapse limit h p.deadline, lanes, o)
  lapsed_keeps lanes o holds rests = (holds, lapsed_about p.deadline, lapsed_on_time limit h p.deadline, rested (lapse limit h p.deadline) lanes o refl rests)

  module _
      (trims : (i : ℕ) → Watches i → (lanes : List Lane) (o : Own) → P lanes o → P lanes (trimmed i o))
      (receives : (i : ℕ) → Watches i → (piece : List ℕ) (lanes : List Lane) (o : Own) → P lanes o → P lanes (received i piece o))
      (takes : (i : ℕ) → Watches i → (q : Queued) (qs : List Queued) (lanes : List Lane) (o : Own) → (lane_of i lanes).items ≡ q ∷ qs → P lanes o → P (with_items i qs lanes) (at_moment q.moment o))
    where
      decided_keeps : (i : ℕ) → Watches i → (c : Chosen) (lanes : List Lane) (o : Own) (k : Own → Listened) → P lanes o → ((o : Own) → P lanes o → Kept (k o)) → Kept (decided i c lanes o k)
      decided_keeps i w (chosen.Pattern n spans) lanes o k holds keeps = (holds, w, tt, tt)
      decided_keeps i w chosen.Full lanes o k holds keeps = (holds, w, tt, tt)
      decided_keeps i w chosen.None lanes o k holds keeps = keeps (trimmed i o) (trims i w lanes o holds)

      tested_keeps : (ws : List Watch) → ((i : ℕ) → IsWatched i ws → Watches i) → (lanes : List Lane) (o : Own) (k : Own → Listened) → P lanes o → ((o : Own) → P lanes o → Kept (k o)) → Kept (tested p ws lanes o k)
      tested_keeps [] within lanes o k holds keeps = keeps o holds
      tested_keeps (w ∷ ws) within lanes o k holds keeps =
          decided_keeps w.0 (within w.0 (inl refl)) (chosen_of p w o) lanes o (λ o. tested p ws lanes o k) holds
          (λ o holds. tested_keeps ws (λ i w. within i (inr w)) lanes o k holds keeps)

      heard_keeps : (i : ℕ) → Watches i → (it : Item) (lanes : List Lane) (o : Own) (k : Own → Listened) → P lanes o → ((o : Own) → P lanes o → Kept (k o)) → Kept (heard p i it lanes o k)
      heard_keeps i w (item.Out piece) lanes o k holds keeps = tested_keeps (watched p) (λ i w. w) lanes (received i piece o) k (receives i w piece lanes o holds) keeps
      heard_keeps i w item.Eof lanes o k holds keeps = (holds, w, tt, tt)
      heard_keeps i w (item.ReadFail c) lanes o k holds keeps = (holds, w, tt, tt)

      module _ (lanes : List Lane) (o : Own) (holds : P lanes o) (k : List Lane → Own → Listened)
          (keeps : (i : ℕ) (q : Queued) (qs : List Queued) → (lane_of i lanes).items ≡ q ∷ qs → (o : Own) → P (with_items i qs lanes) o → Kept (k (with_items i qs lanes) o)) where
        first_keeps : (i : ℕ) → Watches i → (q : Queued) (qs : List Queued) → (lane_of i lanes).items ≡ q ∷ qs → (in_time limit p.deadline q.moment ≡ false → Rests limit h p lanes) → (b : Bool) → in_time limit p.deadline q.moment ≡ b →
            Kept (if b then heard p i q.item (with_items i qs lanes) (at_moment q.moment o) (k (with_items i qs lanes)) else (lapse limit h p.deadline, lanes, o))
        first_keeps i w q qs is rests true e = heard_keeps i w q.item (with_items i qs lanes) (at_moment q.moment o) (k (with_items i qs lanes)) (takes i w q qs lanes o is holds) (keeps i q qs is)
        first_keeps i w q qs is rests false e = lapsed_keeps lanes o holds (rests e)

        taken_keeps : (i : ℕ) → Watches i → (qs : List Queued) → (lane_of i lanes).items ≡ qs → (NoItem limit p.deadline qs → Rests limit h p lanes) → Kept (taken limit h p i qs lanes o k)
        taken_keeps i w [] is rests = lapsed_keeps lanes o holds (rests tt)
        taken_keeps i w (q ∷ qs) is rests = first_keeps i w q qs is rests (in_time limit p.deadline q.moment) refl

        next_keeps : (x : Option ℕ) → next_of (heads (watched p) lanes) h ≡ x → Kept (on_next limit h p x lanes o k)
        next_keeps None is = lapsed_keeps lanes o holds (subst (λ (x : Option ℕ). NoNext limit p x lanes) (sym is) tt)
        next_keeps (Some n) is =
            let there = next_there (heads (watched p) lanes) h n is in
            let i = place_in (watched p) n in
            taken_keeps i (next_watched (watched p) lanes n there.0 there.1) (lane_of i lanes).items refl (λ none. subst (λ (x : Option ℕ). NoNext limit p x lanes) (sym is) none)

      listen_for_keeps : (n : ℕ) (lanes : List Lane) (o : Own) → item_count lanes < n → P lanes o → Kept (listen_for n limit h p lanes o)
      listen_for_keeps zero lanes o lt holds = absurd (let no : item_count lanes < 0 = lt in omega arith)
      listen_for_keeps (suc n) lanes o lt holds =
          next_keeps lanes o holds (listen_for n limit h p)
          (λ i q qs is o holds. let less = fewer i q qs lanes is in listen_for_keeps n (with_items i qs lanes) o (omega (arith, less, lt)) holds)
          (next_of (heads (watched p) lanes) h) refl

      pub wait_keeps : (lanes : List Lane) (o : Own) → P lanes o → Kept (look limit h p lanes o) × Kept (listen limit h p lanes o)
      wait_keeps lanes o holds = (
        tested_keeps (watched p) (λ i w. w) lanes o (listen limit h p lanes) holds (λ o holds. listen_for_keeps (suc (item_count lanes)) lanes o (omega arith) holds),
        listen_for_keeps (suc (item_count lanes)) lanes o (omega arith) holds,
      )
