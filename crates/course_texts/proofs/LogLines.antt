-- A log that is shown part by part.
use Rattle.std.proofs.Common.{◌≡◌, ℕ, List, [], ◌∷◌, ◌++◌, length, take, drop, Option, Result, Ok, Err, inr, refl, sym, ap, subst, ◌∙◌, append_assoc}
use Rattle.std.specs.Prelude.{IfSome}
use Rattle.std.proofs.Math.Seq.{take-append_seam}
use Rattle.std.proofs.lemmas.List.{take-append-drop}
use Rattle.std.specs.Io.KnownBytes.{Appends}
use Rattle.std.proofs.KnownBytes.{Appends-trans}
use Rattle.child_events.specs.declared.event.HallEvent.{HallEvent}
use Rattle.child_events.specs.Log.{LogText}
use Rattle.report_texts.specs.declared.devices.Unwritten.{Unwritten}
use Rattle.course_texts.specs.declared.showing.ShowFault.{ShowFault}
use Rattle.course_texts.specs.declared.showing.ShowFault.TheVariants.{Read, Log, Write, Memory}
use Rattle.report_texts.specs.Devices.{WasPut, GaveUp, Writes}
use Rattle.course_texts.specs.Show.{shown_event, shown_log, PartShown, Shows, ShowsEvents}
use Rattle.report_texts.proofs.Writing.{writes_then, gives_up}
use Rattle.report_texts.proofs.Carried.{carried}

both_shown : (script : Option ℕ) (xs ys : List HallEvent) → shown_log script (xs ++ ys) ≡ shown_log script xs ++ shown_log script ys
both_shown script [] ys = refl
both_shown script (x ∷ xs) ys =
    ap (λ (z : List ℕ). shown_event script x ++ z) (both_shown script xs ys) ∙ sym (append_assoc (shown_event script x) (shown_log script xs) (shown_log script ys))

-- so many events were shown, and these are left
module _ (script : Option ℕ) (all shown left : List HallEvent) (is : shown ++ left ≡ all) (a b : Option (List ℕ)) (put : Appends a b (shown_log script shown)) where
  whole : shown_log script shown ++ shown_log script left ≡ shown_log script all
  whole = sym (both_shown script shown left) ∙ ap (λ (es : List HallEvent). shown_log script es) is

  -- no more was
  pub stopped_between : WasPut a b (shown_log script all)
  stopped_between =
      let front : List ℕ = shown_log script shown in
      subst (λ (t : List ℕ). WasPut a b t) whole (length front, subst (λ (t : List ℕ). Appends a b t) (sym (take-append_seam front (shown_log script left))) put)

  module _ (n : ℕ) (text : List ℕ) (text_is : text ≡ shown_log script (take n left)) (c : Option (List ℕ)) where
    part_and_rest : text ++ shown_log script (drop n left) ≡ shown_log script left
    part_and_rest =
        ap (λ (t : List ℕ). t ++ shown_log script (drop n left)) text_is ∙ sym (both_shown script (take n left) (drop n left))
        ∙ ap (λ (es : List HallEvent). shown_log script es) (take-append-drop n left)

    -- a front of the next part was written
    pub stopped_within : (failures calls : ℕ) (fault : Unwritten) → Writes {X = Unit {0}} text b c failures calls (Err fault) → WasPut a c (shown_log script all) × GaveUp failures calls
    stopped_within failures calls fault w =
        let rest : List ℕ = shown_log script (drop n left) in
        let more : Writes {X = Unit {0}} (shown_log script left) b c failures calls (Err fault) = subst (λ (t : List ℕ). Writes {X = Unit {0}} t b c failures calls (Err fault)) part_and_rest (gives_up b c text rest failures calls w) in
        subst (λ (t : List ℕ). Writes {X = Unit {0}} t a c failures calls (Err fault)) whole
        (writes_then (Unit {0}) a b c (shown_log script shown) (shown_log script left) failures calls (Err fault) put more)

    -- all of it was
    pub shown_more : Appends b c text → Appends a c (shown_log script (shown ++ take n left))
    shown_more next =
        subst (λ (t : List ℕ). Appends a c t) (ap (λ (t : List ℕ). shown_log script shown ++ t) text_is ∙ sym (both_shown script shown (take n left)))
        (Appends-trans a b c (shown_log script shown) text put next)

    pub still_all : (rest : List HallEvent) → rest ≡ drop n left → (shown ++ take n left) ++ rest ≡ all
    still_all rest rest_is =
        ap (λ (es : List HallEvent). (shown ++ take n left) ++ es) rest_is ∙ append_assoc shown (take n left) (drop n left)
        ∙ ap (λ (es : List HallEvent). shown ++ es) (take-append-drop n left) ∙ is

-- what was shown of a log is shown of the bytes that a reader had left, where they are known
pub shows_read : (script : Option ℕ) (known : Option (List ℕ)) (text slice : List ℕ) (events : List HallEvent) (old new : Option (List ℕ)) (failures calls : ℕ) (r : Result (Unit {0}) ShowFault) →
    IfSome known (λ bytes. text ≡ bytes) → slice ≡ text → LogText slice events → ShowsEvents script events old new failures calls r → IfSome known (λ bytes. Shows script bytes old new r)
shows_read script known text slice events old new failures calls r is same log shows = carried (λ (bytes : List ℕ). Shows script bytes old new r) known text slice is same (by_cases r shows)
  where
    part : WasPut old new (shown_log script events) → PartShown script slice old new
    part put = record { events = events; log = log; written = put }

    by_cases : (r : Result (Unit {0}) ShowFault) → ShowsEvents script events old new failures calls r → Shows script slice old new r
    by_cases (Ok done) s = record { events = events; log = log; written = s.0 }
    by_cases (Err Read) s = absurd s
    by_cases (Err (Log f)) s = absurd s
    by_cases (Err Write) s = part s.0
    by_cases (Err Memory) s = inr (part s.0)
