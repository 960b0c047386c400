-- A queue as the child's items with the echoes before each.
use Rattle.std.proofs.Common.{◌≡◌, ℕ, zero, suc, ◌+◌, ◌/◌, ◌<◌, ◌≤◌, max, List, [], ◌∷◌, ◌++◌, map, take, drop, length, Bool, true, false, refl, sym, ap, subst, ◌∙◌, append_assoc, arith}
use Rattle.std.specs.Prelude.{nat_le, if◌then◌else◌, slice_index_or, slice_set}
use Rattle.std.proofs.lemmas.List.{append-nil, map-append, length-drop}
use Rattle.std.proofs.lemmas.Bool.Decides.{nat_tests}
use Rattle.child_events.specs.declared.event.Item.{Item}
use Rattle.child_events.specs.declared.event.Item.TheVariants as item
use Rattle.child_events.specs.declared.slot.Slot.{Slot}
use Rattle.child_events.specs.Queue.{Queued, came, echo, how_many_came, last_moment, pushed, put, cut_into, pieces, echoes, joined, Rises, latest, place}

-- the echoes before an item, it, and what is behind
abbrev slot_list : Slot → List Queued → List Queued
slot_list s qs = map echo s.echoes.items ++ came (s.moment, s.item) ∷ qs

joined_slot : (s : Slot) (ss : List Slot) (qs : List Queued) → joined (s ∷ ss) ++ qs ≡ slot_list s (joined ss ++ qs)
joined_slot s ss qs = append_assoc (map echo s.echoes.items) (came (s.moment, s.item) ∷ joined ss) qs

-- echoes don't change the moment of the last item
moment_of_echoes : (m : ℕ) (es : List (ℕ × Item)) (qs : List Queued) → last_moment m (map echo es ++ qs) ≡ last_moment m qs
moment_of_echoes m [] qs = refl
moment_of_echoes m (e ∷ es) qs = moment_of_echoes m es qs

pub moment_is : (m : ℕ) (ss : List Slot) (last : List (ℕ × Item)) → last_moment m (joined ss ++ map echo last) ≡ latest m ss
moment_is m [] last = ap (last_moment m) (sym (append-nil (map echo last))) ∙ moment_of_echoes m last []
moment_is m (s ∷ ss) last =
    ap (last_moment m) (joined_slot s ss (map echo last))
    ∙ (moment_of_echoes m s.echoes.items (came (s.moment, s.item) ∷ (joined ss ++ map echo last)) ∙ moment_is s.moment ss last)

-- echoes don't count
came_behind_echoes : (es : List (ℕ × Item)) (qs : List Queued) → how_many_came (map echo es ++ qs) ≡ how_many_came qs
came_behind_echoes [] qs = refl
came_behind_echoes (e ∷ es) qs = came_behind_echoes es qs

-- each slot has one item that came from the child
pub came_in_slots : (ss : List Slot) (last : List (ℕ × Item)) → how_many_came (joined ss ++ map echo last) ≡ length ss
came_in_slots [] last = ap how_many_came (sym (append-nil (map echo last))) ∙ came_behind_echoes last []
came_in_slots (s ∷ ss) last =
    ap how_many_came (joined_slot s ss (map echo last))
    ∙ came_behind_echoes s.echoes.items (came (s.moment, s.item) ∷ (joined ss ++ map echo last))
    ∙ ap suc (came_in_slots ss last)

joined_more : (ss : List Slot) (s : Slot) → joined (ss ++ s ∷ []) ≡ joined ss ++ map echo s.echoes.items ++ came (s.moment, s.item) ∷ []
joined_more [] s = refl
joined_more (r ∷ ss) s =
    ap (slot_list r) (joined_more ss s ∙ append_assoc (joined ss) (map echo s.echoes.items) (came (s.moment, s.item) ∷ []))
    ∙ (sym (joined_slot r ss (map echo s.echoes.items ++ came (s.moment, s.item) ∷ []))
    ∙ sym (append_assoc (joined (r ∷ ss)) (map echo s.echoes.items) (came (s.moment, s.item) ∷ [])))

-- an item behind all others takes the echoes that stood there
pub pushed_is : (ss : List Slot) (s : Slot) (m : ℕ) (none : List (ℕ × Item)) → none ≡ [] → s.moment ≡ max (latest 0 ss) m
    → joined (ss ++ s ∷ []) ++ map echo none ≡ pushed m s.item (joined ss ++ map echo s.echoes.items)
pushed_is ss s m none empty at =
    ap (λ es. joined (ss ++ s ∷ []) ++ map echo es) empty
    ∙ (append-nil (joined (ss ++ s ∷ []))
    ∙ (joined_more ss s
    ∙ ap (λ k. joined ss ++ map echo s.echoes.items ++ came (k, s.item) ∷ []) (at ∙ ap (λ k. max k m) (sym (moment_is 0 ss s.echoes.items)))))

pub rises_more : (m : ℕ) (ss : List Slot) (s : Slot) → Rises m ss → latest m ss ≤ s.moment → Rises m (ss ++ s ∷ [])
rises_more m [] s r above = (above, tt)
rises_more m (t ∷ ss) s r above = (r.0, rises_more t.moment ss s r.1 above)

rises_lower : (m n : ℕ) (ss : List Slot) → n ≤ m → Rises m ss → Rises n ss
rises_lower m n [] below r = tt
rises_lower m n (s ∷ ss) below r = (omega (arith, r.0), r.1)

pub rises_drop : (ss : List Slot) → Rises 0 ss → Rises 0 (drop 1 ss)
rises_drop [] r = tt
rises_drop (s ∷ ss) r = rises_lower s.moment 0 ss (omega arith) r.1

-- what is put passes the echoes
put_past : (t : ℕ) (xs : List Queued) (es : List (ℕ × Item)) (qs : List Queued) → put t xs (map echo es ++ qs) ≡ map echo es ++ put t xs qs
put_past t xs [] qs = refl
put_past t xs (e ∷ es) qs = ap (λ l. echo e ∷ l) (put_past t xs es qs)

-- a slot with further echoes
abbrev pub echoed : List (ℕ × Item) → Slot → List (ℕ × Item)
echoed xs s = s.echoes.items ++ xs

-- the last slot's moment
pub latest_last : (m k : ℕ) (s : Slot) (ss : List Slot) → length ss ≡ suc k → s ≡ slice_index_or ss k s → s.moment ≡ latest m ss
latest_last m k s [] len is = absurd (omega (arith, len))
latest_last m zero s (t ∷ []) len is = ap (λ r. r.moment) is
latest_last m zero s (t ∷ u ∷ ss) len is = absurd (omega (arith, len))
latest_last m (suc k) s (t ∷ ss) len is = latest_last t.moment k s ss (omega (arith, len)) is

-- An echo goes among those before the first item that is late enough.
pub put_within : (t : ℕ) (xs : List (ℕ × Item)) (ss : List Slot) (last : List (ℕ × Item)) (r d : Slot)
    → place t ss < length ss
    → r.moment ≡ (slice_index_or ss (place t ss) d).moment
    → r.item ≡ (slice_index_or ss (place t ss) d).item
    → r.echoes.items ≡ (slice_index_or ss (place t ss) d).echoes.items ++ xs
    → put t (map echo xs) (joined ss ++ map echo last) ≡ joined (slice_set ss (place t ss) r) ++ map echo last
put_within t xs [] last r d within moment item es = absurd (omega (arith, within))
put_within t xs (s ∷ ss) last r d within moment item es = reach ∙ by_test (put_within t xs ss last r d) (nat_le t s.moment) within moment item es
  where
    rest : List Queued
    rest = joined ss ++ map echo last

    reach : put t (map echo xs) (joined (s ∷ ss) ++ map echo last)
        ≡ map echo s.echoes.items ++ (if nat_le t s.moment then map echo xs ++ came (s.moment, s.item) ∷ rest else came (s.moment, s.item) ∷ put t (map echo xs) rest)
    reach = ap (put t (map echo xs)) (joined_slot s ss (map echo last)) ∙ put_past t (map echo xs) s.echoes.items (came (s.moment, s.item) ∷ rest)

    here : r.moment ≡ s.moment → r.item ≡ s.item → r.echoes.items ≡ s.echoes.items ++ xs
        → map echo s.echoes.items ++ (map echo xs ++ came (s.moment, s.item) ∷ rest) ≡ joined (r ∷ ss) ++ map echo last
    here m i e =
        sym (append_assoc (map echo s.echoes.items) (map echo xs) (came (s.moment, s.item) ∷ rest))
        ∙ (ap (λ l. l ++ came (s.moment, s.item) ∷ rest) (sym (ap (map echo) e ∙ map-append echo s.echoes.items xs))
        ∙ (ap (λ k. map echo r.echoes.items ++ came (k, s.item) ∷ rest) (sym m)
        ∙ (ap (λ j. map echo r.echoes.items ++ came (r.moment, j) ∷ rest) (sym i)
        ∙ sym (joined_slot r ss (map echo last)))))

    Again : Type 0
    Again = place t ss < length ss
        → r.moment ≡ (slice_index_or ss (place t ss) d).moment
        → r.item ≡ (slice_index_or ss (place t ss) d).item
        → r.echoes.items ≡ (slice_index_or ss (place t ss) d).echoes.items ++ xs
        → put t (map echo xs) (joined ss ++ map echo last) ≡ joined (slice_set ss (place t ss) r) ++ map echo last

    by_test : Again → (b : Bool)
        → (if b then 0 else suc (place t ss)) < suc (length ss)
        → r.moment ≡ (slice_index_or (s ∷ ss) (if b then 0 else suc (place t ss)) d).moment
        → r.item ≡ (slice_index_or (s ∷ ss) (if b then 0 else suc (place t ss)) d).item
        → r.echoes.items ≡ (slice_index_or (s ∷ ss) (if b then 0 else suc (place t ss)) d).echoes.items ++ xs
        → map echo s.echoes.items ++ (if b then map echo xs ++ came (s.moment, s.item) ∷ rest else came (s.moment, s.item) ∷ put t (map echo xs) rest)
        ≡ joined (slice_set (s ∷ ss) (if b then 0 else suc (place t ss)) r) ++ map echo last
    by_test again true w m i e = here m i e
    by_test again false w m i e =
        ap (slot_list s) (again (omega (arith, w)) m i e)
        ∙ sym (joined_slot s (slice_set ss (place t ss) r) (map echo last))

-- Where none is, it goes behind all.
pub put_behind : (t : ℕ) (xs : List (ℕ × Item)) (ss : List Slot) (last : List (ℕ × Item)) → length ss ≤ place t ss
    → put t (map echo xs) (joined ss ++ map echo last) ≡ joined ss ++ map echo (last ++ xs)
put_behind t xs [] last over =
    ap (put t (map echo xs)) (sym (append-nil (map echo last)))
    ∙ (put_past t (map echo xs) last [] ∙ sym (map-append echo last xs))
put_behind t xs (s ∷ ss) last over = reach ∙ by_test (put_behind t xs ss last) (nat_le t s.moment) over
  where
    rest : List Queued
    rest = joined ss ++ map echo last

    reach : put t (map echo xs) (joined (s ∷ ss) ++ map echo last)
        ≡ map echo s.echoes.items ++ (if nat_le t s.moment then map echo xs ++ came (s.moment, s.item) ∷ rest else came (s.moment, s.item) ∷ put t (map echo xs) rest)
    reach = ap (put t (map echo xs)) (joined_slot s ss (map echo last)) ∙ put_past t (map echo xs) s.echoes.items (came (s.moment, s.item) ∷ rest)

    by_test : (length ss ≤ place t ss → put t (map echo xs) rest ≡ joined ss ++ map echo (last ++ xs))
        → (b : Bool) → suc (length ss) ≤ (if b then 0 else suc (place t ss))
        → map echo s.echoes.items ++ (if b then map echo xs ++ came (s.moment, s.item) ∷ rest else came (s.moment, s.item) ∷ put t (map echo xs) rest)
        ≡ joined (s ∷ ss) ++ map echo (last ++ xs)
    by_test again true o = absurd (omega (arith, o))
    by_test again false o = ap (slot_list s) (again (omega (arith, o))) ∙ sym (joined_slot s ss (map echo (last ++ xs)))

-- The place is found from behind, since moments rise.
pub place_at_most : (t i m : ℕ) (ss : List Slot) (d : Slot) → Rises m ss → i < length ss → t ≤ (slice_index_or ss i d).moment → place t ss ≤ i
place_at_most t i m [] d r within late = absurd (omega (arith, within))
place_at_most t i m (s ∷ ss) d r within late = by_test (λ j. place_at_most t j s.moment ss d r.1) (nat_le t s.moment) refl i within late
  where
    by_test : ((j : ℕ) → j < length ss → t ≤ (slice_index_or ss j d).moment → place t ss ≤ j) → (b : Bool) → nat_le t s.moment ≡ b → (j : ℕ) → j < suc (length ss) → t ≤ (slice_index_or (s ∷ ss) j d).moment → (if b then 0 else suc (place t ss)) ≤ j
    by_test again true is j w l = omega arith
    by_test again false is zero w l = absurd (grind (arith, nat_tests))
    by_test again false is (suc j) w l = let p = again j (omega (arith, w)) l in omega (arith, p)

-- no slot is below the first one
rises_at : (n j : ℕ) (qs : List Slot) (d : Slot) → Rises n qs → j < length qs → n ≤ (slice_index_or qs j d).moment
rises_at n j [] d r w = absurd (omega (arith, w))
rises_at n zero (q ∷ qs) d r w = r.0
rises_at n (suc j) (q ∷ qs) d r w = let p = rises_at q.moment j qs d r.1 (omega (arith, w)) in omega (arith, p, r.0)

pub place_above : (t i m : ℕ) (ss : List Slot) (d : Slot) → Rises m ss → i < length ss → (slice_index_or ss i d).moment < t → i < place t ss
place_above t i m [] d r within early = absurd (omega (arith, within))
place_above t i m (s ∷ ss) d r within early = by_test (λ j. place_above t j s.moment ss d r.1) (nat_le t s.moment) refl i within early
  where
    by_test : ((j : ℕ) → j < length ss → (slice_index_or ss j d).moment < t → j < place t ss) → (b : Bool) → nat_le t s.moment ≡ b → (j : ℕ) → j < suc (length ss) → (slice_index_or (s ∷ ss) j d).moment < t → j < (if b then 0 else suc (place t ss))
    by_test again true is zero w e = absurd (grind (arith, nat_tests))
    by_test again true is (suc j) w e = let p = rises_at s.moment j ss d r.1 (omega (arith, w)) in absurd (grind (arith, nat_tests))
    by_test again false is zero w e = omega arith
    by_test again false is (suc j) w e = let p = again j (omega (arith, w)) e in omega (arith, p)

pub place_within : (t : ℕ) (ss : List Slot) → place t ss ≤ length ss
place_within t [] = omega arith
place_within t (s ∷ ss) = by_test (place_within t ss) (nat_le t s.moment)
  where
    by_test : place t ss ≤ length ss → (b : Bool) → (if b then 0 else suc (place t ss)) ≤ suc (length ss)
    by_test again true = omega arith
    by_test again false = omega (arith, again)

-- further echoes at a slot leave its moment
pub rises_set : (m i : ℕ) (ss : List Slot) (r d : Slot) → r.moment ≡ (slice_index_or ss i d).moment → Rises m ss → Rises m (slice_set ss i r)
rises_set m i [] r d is rises = tt
rises_set m zero (s ∷ ss) r d is rises = (omega (arith, is, rises.0), subst (λ k. Rises k ss) (sym is) rises.1)
rises_set m (suc i) (s ∷ ss) r d is rises = (rises.0, rises_set s.moment i ss r d is rises.1)

-- a slot written again as it was
pub joined_set : (i : ℕ) (ss : List Slot) (r d : Slot)
    → r.moment ≡ (slice_index_or ss i d).moment
    → r.item ≡ (slice_index_or ss i d).item
    → r.echoes.items ≡ (slice_index_or ss i d).echoes.items
    → joined (slice_set ss i r) ≡ joined ss
joined_set i [] r d moment item es = refl
joined_set zero (s ∷ ss) r d moment item es =
    ap (λ m. map echo r.echoes.items ++ came (m, r.item) ∷ joined ss) moment
    ∙ (ap (λ i. map echo r.echoes.items ++ came (s.moment, i) ∷ joined ss) item
    ∙ ap (λ l. map echo l ++ came (s.moment, s.item) ∷ joined ss) es)
joined_set (suc i) (s ∷ ss) r d moment item es = ap (slot_list s) (joined_set i ss r d moment item es)

-- the pieces of what is left, where something is
pub pieces_more : (bytes : List ℕ) → 0 < length bytes → pieces bytes ≡ take 4096 bytes ∷ pieces (drop 4096 bytes)
pieces_more bytes some = ap (cut_into 4096 bytes) count
  where
    count : (length bytes + 4095) / 4096 ≡ suc ((length (drop 4096 bytes) + 4095) / 4096)
    count = omega (arith, length-drop 4096 bytes)

pub echoes_more : (made : List (ℕ × Item)) (clock : ℕ) (bytes : List ℕ) → 0 < length bytes
    → made ++ (clock, item.Out (take 4096 bytes)) ∷ [] ++ echoes clock (drop 4096 bytes) ≡ made ++ echoes clock bytes
echoes_more made clock bytes some =
    append_assoc made ((clock, item.Out (take 4096 bytes)) ∷ []) (echoes clock (drop 4096 bytes))
    ∙ ap (λ ps. made ++ map (λ p. (clock, item.Out p)) ps) (sym (pieces_more bytes some))
