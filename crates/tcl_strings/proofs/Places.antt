-- The first and the last place of a text in another, as a search finds it.
use Rattle.std.proofs.Common.{◌≡◌, ℕ, zero, suc, ◌+◌, Bool, true, false, List, [], ◌∷◌, length, take, Option, Some, None, option_map, if◌then◌else◌, slice_index, refl, sym, ap, ◌∙◌, arith, length-take}
use Rattle.std.proofs.lemmas.Slice.Eq.{bytes_eq-Decides}
use Rattle.std.specs.Option.{option_or}
use Rattle.memchr.specs.Find.{OccursAt, FindsNeedle, FindsLastNeedle, NoneBefore, NoneAfter}
use Rattle.memchr.proofs.lemmas.MatchLemmas.{OccursAt-part, OccursAt-from_part}
use Rattle.tcl_results.specs.Cases.{begins_with}
use Rattle.tcl_strings.specs.Strings.{first_place, last_place}

begins_occurs : (text bytes : List ℕ) → begins_with bytes text ≡ true → OccursAt bytes text 0
begins_occurs text bytes begins =
    let same : take (length text) bytes ≡ text = (bytes_eq-Decides (take (length text) bytes) text).0 begins in
    OccursAt-from_part bytes text 0 (omega (arith, length-take (length text) bytes, ap length same)) same

occurs_begins : (text bytes : List ℕ) → OccursAt bytes text 0 → begins_with bytes text ≡ true
occurs_begins text bytes occurs = (bytes_eq-Decides (take (length text) bytes) text).1 (OccursAt-part bytes text 0 occurs)

refuted : (t : Bool) → ¬ (t ≡ true) → t ≡ false
refuted true wrong = absurd (wrong refl)
refuted false wrong = refl

not_begun : (text bytes : List ℕ) → ¬ OccursAt bytes text 0 → begins_with bytes text ≡ false
not_begun text bytes wrong = refuted (begins_with bytes text) (λ begins. wrong (begins_occurs text bytes begins))

later : (b k : ℕ) (bytes text : List ℕ) → OccursAt bytes text k → OccursAt (b ∷ bytes) text (suc k)
later b k bytes text h = record {
  fits = omega (arith, h.fits);
  reads = λ j l. let e : suc k + j ≡ suc (k + j) = omega arith in ap (slice_index (b ∷ bytes)) e ∙ h.reads j l;
}

earlier : (b k : ℕ) (bytes text : List ℕ) → OccursAt (b ∷ bytes) text (suc k) → OccursAt bytes text k
earlier b k bytes text h = record {
  fits = omega (arith, h.fits);
  reads = λ j l. let e : suc k + j ≡ suc (k + j) = omega arith in sym (ap (slice_index (b ∷ bytes)) e) ∙ h.reads j l;
}

pub first_place_is : (text bytes : List ℕ) (r : Option ℕ) → FindsNeedle bytes text 0 r → r ≡ first_place text bytes
unfolding first_place
first_place_is text [] None h = rw (not_begun text [] (h 0 (omega arith) (omega arith))) refl
first_place_is text [] (Some zero) h = rw (occurs_begins text [] h.1) refl
first_place_is text [] (Some (suc k)) h = absurd (omega (arith, h.0.high))
first_place_is text (b ∷ bytes) None h =
    let on : None ≡ first_place text bytes = first_place_is text bytes None (λ k low high occurs. h (suc k) (omega arith) (omega arith) (later b k bytes text occurs)) in
    rw (not_begun text (b ∷ bytes) (h 0 (omega arith) (omega arith))) (ap (option_map suc) on)
first_place_is text (b ∷ bytes) (Some zero) h = rw (occurs_begins text (b ∷ bytes) h.1) refl
first_place_is text (b ∷ bytes) (Some (suc k)) h =
    let none : NoneBefore (OccursAt bytes text) 0 (length bytes + 1) k = record {
      low = omega arith;
      high = omega (arith, h.0.high);
      before = λ j low high occurs. h.0.before (suc j) (omega arith) (omega arith) (later b j bytes text occurs);
    } in
    let on : Some k ≡ first_place text bytes = first_place_is text bytes (Some k) (none, earlier b k bytes text h.1) in
    rw (not_begun text (b ∷ bytes) (h.0.before 0 (omega arith) (omega arith))) (ap (option_map suc) on)

pub last_place_is : (text bytes : List ℕ) (r : Option ℕ) → FindsLastNeedle bytes text r → r ≡ last_place text bytes
unfolding last_place
last_place_is text [] None h = rw (not_begun text [] (h 0 (omega arith) (omega arith))) refl
last_place_is text [] (Some zero) h = rw (occurs_begins text [] h.1) refl
last_place_is text [] (Some (suc k)) h = absurd (omega (arith, h.0.high))
last_place_is text (b ∷ bytes) None h =
    let on : None ≡ last_place text bytes = last_place_is text bytes None (λ k low high occurs. h (suc k) (omega arith) (omega arith) (later b k bytes text occurs)) in
    rw (not_begun text (b ∷ bytes) (h 0 (omega arith) (omega arith))) (ap (λ (o : Option ℕ). option_or (option_map suc o) None) on)
last_place_is text (b ∷ bytes) (Some zero) h =
    let on : None ≡ last_place text bytes = last_place_is text bytes None (λ k low high occurs. h.0.after (suc k) (omega arith) (omega arith) (later b k bytes text occurs)) in
    rw (occurs_begins text (b ∷ bytes) h.1) (ap (λ (o : Option ℕ). option_or (option_map suc o) (Some 0)) on)
last_place_is text (b ∷ bytes) (Some (suc k)) h =
    let none : NoneAfter (OccursAt bytes text) 0 (length bytes + 1) k = record {
      low = omega arith;
      high = omega (arith, h.0.high);
      after = λ j low high occurs. h.0.after (suc j) (omega arith) (omega arith) (later b j bytes text occurs);
    } in
    let on : Some k ≡ last_place text bytes = last_place_is text bytes (Some k) (none, earlier b k bytes text h.1) in
    ap (λ (o : Option ℕ). option_or (option_map suc o) (if begins_with (b ∷ bytes) text then Some 0 else None)) on
