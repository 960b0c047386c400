-- An echo in front of what comes later is where it would be in the whole list.
use Rattle.std.proofs.Common.{◌≡◌, ℕ, ◌≤◌, List, [], ◌∷◌, ◌++◌, Bool, true, false, refl, sym, ap, ◌∙◌, max, arith, append_assoc}
use Rattle.std.specs.Prelude.{nat_le, map, if◌then◌else◌}
use Rattle.std.proofs.lemmas.Bool.{le-leb}
use Rattle.std.proofs.lemmas.List.{append-nil}
use Rattle.child_events.specs.declared.event.Event.{Event}
use Rattle.child_events.specs.World.{moment_of}
use Rattle.child_events.specs.Queue.{Queued, echo, echoes, put, with_echo}
use Rattle.expect_core.specs.declared.lanes.Lane.{Lane}
use Rattle.expect_core.specs.declared.dialogue.Dialogue.{Dialogue}
use Rattle.expect_core.specs.Lanes.{lane_of, with_items, arrived, offered}
use Rattle.expect_core.specs.Sending.{echoed}
use Rattle.expect_core.specs.Good.{Good}
use Rattle.expect_core.proofs.Growing.{IsLater, IsFromChild, more_items}

-- the place before an item of the child, or further on
abbrev pub put_by : Bool → Bool → List Queued → Queued → List Queued → List Queued → List Queued
put_by echoed here xs q qs further = if echoed then q ∷ further else if here then xs ++ q ∷ qs else q ∷ further

first_place : (t h : ℕ) (xs : List Queued) (q : Queued) (qs : List Queued) → t ≤ h → h ≤ q.moment → q.echoed ≡ false → put t xs (q ∷ qs) ≡ xs ++ q ∷ qs
first_place t h xs q qs le later from =
    ap (λ (b : Bool). put_by b (nat_le t q.moment) xs q qs (put t xs qs)) from
    ∙ ap (λ (b : Bool). put_by false b xs q qs (put t xs qs)) (le-leb t q.moment (omega (arith, le, later)))

put_further : (xs more : List Queued) (q : Queued) (qs further : List Queued) (a b : Bool) → put_by a b xs q (qs ++ more) (further ++ more) ≡ put_by a b xs q qs further ++ more
put_further xs more q qs further true b = refl
put_further xs more q qs further false true = sym (append_assoc xs (q ∷ qs) more)
put_further xs more q qs further false false = refl

put-append : (t h : ℕ) (xs qs more : List Queued) → t ≤ h → IsLater h more → IsFromChild more → put t xs (qs ++ more) ≡ put t xs qs ++ more
put-append t h xs [] [] le later from = sym (append-nil xs)
put-append t h xs [] (z ∷ zs) le later from = first_place t h xs z zs le later from
put-append t h xs (q ∷ qs) more le later from =
    ap (put_by q.echoed (nat_le t q.moment) xs q (qs ++ more)) (put-append t h xs qs more le later from)
    ∙ put_further xs more q qs (put t xs qs) q.echoed (nat_le t q.moment)

-- an echo before an event more, and behind it, where nothing is later than the greatest moment
pub echoed_onward : (e : Event) (i : ℕ) (bytes : List ℕ) (st : Dialogue) → Good st → echoed i bytes (offered e st) ≡ offered e (echoed i bytes st)
echoed_onward e i bytes st g =
    let h : ℕ = max st.horizon (moment_of e) in
    let m = more_items i h st.lanes e in
    let qs : List Queued = (lane_of i st.lanes).items in
    ap (λ (l : List Queued). record (offered e st) { lanes = with_items i (with_echo st.own.clock bytes l) (arrived e h st.lanes) }) m.read
    ∙ ap (λ (l : List Queued). record (offered e st) { lanes = with_items i l (arrived e h st.lanes) }) (put-append st.own.clock h (map echo (echoes st.own.clock bytes)) qs m.more (omega (arith, g.clock)) m.later m.from)
    ∙ ap (λ (ls : List Lane). record (offered e st) { lanes = ls }) (m.put (with_echo st.own.clock bytes qs))
