-- Events make the same of a dialogue that has taken nothing as of a world.
use Rattle.std.proofs.Common.{◌≡◌, ℕ, zero, suc, ◌≤◌, List, [], ◌∷◌, ◌++◌, map, length, Bool, true, false, refl, sym, ap, ◌∙◌, max, arith}
use Rattle.std.specs.Prelude.{◌==◌, ◌-◌, replicate, if◌then◌else◌, slice_set, slice_index_or}
use Rattle.std.proofs.lemmas.List.{map-append, length-map}
use Rattle.child_events.specs.declared.event.Item.{Item}
use Rattle.child_events.specs.declared.event.Item.TheVariants as item
use Rattle.child_events.specs.declared.event.What.{What}
use Rattle.child_events.specs.declared.event.What.TheVariants as what
use Rattle.child_events.specs.declared.event.Event.{Event}
use Rattle.child_events.specs.declared.event.Event.TheVariants as event
use Rattle.child_events.specs.World.{Lane as Known}
use Rattle.child_events.specs.World.{World}
use Rattle.child_events.specs.Queue.{Queued, came}
use Rattle.child_events.specs.World.{blank, blank_lanes, lanes_with, grown as grown_world, grown_all, fresh as nothing_known}
use Rattle.child_events.specs.World.{with_item as known_item, lane_with as known_with}
use Rattle.expect_core.specs.declared.lanes.Lane.{Lane}
use Rattle.expect_core.specs.declared.dialogue.Dialogue.{Dialogue}
use Rattle.expect_core.specs.Lanes.{no_lane, no_lanes, with_item, lane_with, grown, place, offered, extended}
use Rattle.expect_core.specs.Calls.{fresh}
use Rattle.expect_core.specs.Worlds.{untaken, Holds, HoldsWorlds}

set_untaken : (i : ℕ) (k : Known) (ks : List Known) → slice_set (map untaken ks) i (untaken k) ≡ map untaken (slice_set ks i k)
set_untaken i k [] = refl
set_untaken zero k (x ∷ xs) = refl
set_untaken (suc i) k (x ∷ xs) = ap (λ (ls : List Lane). untaken x ∷ ls) (set_untaken i k xs)

at_untaken : (i : ℕ) (ks : List Known) → slice_index_or (map untaken ks) i no_lane ≡ untaken (slice_index_or ks i blank)
at_untaken i [] = refl
at_untaken zero (x ∷ xs) = refl
at_untaken (suc i) (x ∷ xs) = at_untaken i xs

set_beyond : (i : ℕ) (l : Lane) (ls : List Lane) → length ls ≤ i → slice_set ls i l ≡ ls
set_beyond i l [] le = refl
set_beyond zero l (x ∷ xs) le = absurd (omega (arith, le))
set_beyond (suc i) l (x ∷ xs) le = ap (λ (ls : List Lane). x ∷ ls) (set_beyond i l xs (omega (arith, le)))

set_length : (i : ℕ) (k : Known) (ks : List Known) → length (slice_set ks i k) ≡ length ks
set_length i k [] = refl
set_length zero k (x ∷ xs) = refl
set_length (suc i) k (x ∷ xs) = ap suc (set_length i k xs)

blanks : (n : ℕ) → replicate n no_lane ≡ map untaken (replicate n blank)
blanks zero = refl
blanks (suc n) = ap (λ (ls : List Lane). no_lane ∷ ls) (blanks n)

-- an item more, unless the child is over
item_if : (b : Bool) (m : ℕ) (i : Item) (ends : Bool) (k : Known) →
    (if b then untaken k else record (untaken k) { items = map came k.items ++ came (m, i) ∷ []; over = ends }) ≡ untaken (if b then k else record k { items = k.items ++ (m, i) ∷ []; over = ends })
item_if true m i ends k = refl
item_if false m i ends k = ap (λ (qs : List Queued). let l : Lane = record { items = qs; answers = k.answers; over = ends } in l) (sym (map-append came k.items ((m, i) ∷ [])))

item_untaken : (m : ℕ) (i : Item) (ends : Bool) (k : Known) → with_item m i ends (untaken k) ≡ untaken (known_item m i ends k)
item_untaken m i ends k = item_if k.over m i ends k

lane_untaken : (m : ℕ) (w : What) (k : Known) → lane_with m w (untaken k) ≡ untaken (known_with m w k)
lane_untaken m (what.Out piece) k = item_untaken m (item.Out piece) false k
lane_untaken m what.Eof k = item_untaken m item.Eof true k
lane_untaken m (what.ReadFail cause) k = item_untaken m (item.ReadFail cause) true k
lane_untaken m (what.Answer a) k = refl

arrives_if : (b : Bool) (i m : ℕ) (w : What) (ks : List Known) → length ks ≡ 16 →
    grown (lane_with m w) (if b then 16 else i) (map untaken ks) ≡ map untaken (if b then ks else slice_set ks i (known_with m w (if b then blank else slice_index_or ks i blank)))
arrives_if true i m w ks len = set_beyond 16 _ (map untaken ks) (omega (arith, len, length-map ks untaken))
arrives_if false i m w ks len =
    ap (λ (l : Lane). slice_set (map untaken ks) i (lane_with m w l)) (at_untaken i ks)
    ∙ ap (λ (l : Lane). slice_set (map untaken ks) i l) (lane_untaken m w (slice_index_or ks i blank))
    ∙ set_untaken i (known_with m w (slice_index_or ks i blank)) ks

arrives : (c m : ℕ) (w : What) (ks : List Known) → length ks ≡ 16 → grown (lane_with m w) (place c) (map untaken ks) ≡ map untaken (lanes_with c m w ks)
arrives c m w ks len = arrives_if (c == 0) (c - 1) m w ks len

length_if : (b : Bool) (i : ℕ) (k : Known) (ks : List Known) → length (if b then ks else slice_set ks i k) ≡ length ks
length_if true i k ks = refl
length_if false i k ks = set_length i k ks

lanes_length : (c m : ℕ) (w : What) (ks : List Known) → length (lanes_with c m w ks) ≡ length ks
lanes_length c m w ks = length_if (c == 0) (c - 1) _ ks

offers : (e : Event) (st : Dialogue) (w : World) → Holds st w → length w.lanes ≡ 16 → Holds (offered e st) (grown_world w e)
offers (event.Tick m) st w h len = record { horizon = ap (λ (n : ℕ). max n m) h.horizon; lanes = h.lanes }
offers (event.Child c m x) st w h len = record {
  horizon = ap (λ (n : ℕ). max n m) h.horizon;
  lanes =
      ap (λ (n : ℕ). grown (lane_with (max n m) x) (place c) st.lanes) h.horizon
      ∙ ap (λ (ls : List Lane). grown (lane_with (max w.horizon m) x) (place c) ls) h.lanes
      ∙ arrives c (max w.horizon m) x w.lanes len;
}

world_length : (e : Event) (w : World) → length (grown_world w e).lanes ≡ length w.lanes
world_length (event.Tick m) w = refl
world_length (event.Child c m x) w = lanes_length c (max w.horizon m) x w.lanes

all_offer : (es : List Event) (st : Dialogue) (w : World) → Holds st w → length w.lanes ≡ 16 → Holds (extended es st) (grown_all w es)
all_offer [] st w h len = h
all_offer (e ∷ es) st w h len = all_offer es (offered e st) (grown_world w e) (offers e st w h len) (world_length e w ∙ len)

pub holds_worlds : HoldsWorlds
unfolding no_lanes blank_lanes
holds_worlds settings es = all_offer es (fresh settings) nothing_known (record { horizon = refl; lanes = blanks 16 }) refl
