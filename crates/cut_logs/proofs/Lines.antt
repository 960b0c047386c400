-- A front of the lines of events and of the total's line has some of these lines whole.
use Rattle.std.proofs.Common.{◌≡◌, ◌⊎◌, inl, inr, ℕ, suc, ◌≤◌, List, [], ◌∷◌, ◌++◌, length, take, refl, sym, ap, ◌∙◌, append_assoc, arith}
use Rattle.child_events.specs.declared.child_numbers.ChildNumbers.{ChildNumbers}
use Rattle.child_events.specs.declared.event.HallEvent.{HallEvent}
use Rattle.child_events.specs.Log.{line_of, lines_text, fields_of, AreLogged}
use Rattle.child_events.proofs.Parts.{Without}
use Rattle.child_events.proofs.Plain.{without_joined}
use Rattle.child_events.proofs.Meant.{plain_fields}
use Rattle.cut_logs.specs.Cut.{whole, lines}
use Rattle.cut_logs.proofs.Newlines.{whole_behind, whole_none, lines_none, lines_behind, Within, Behind, first_line}

pub line_plain : (nums : ChildNumbers) (e : HallEvent) (es : List HallEvent) → AreLogged nums (e ∷ es) → Without 10 (line_of e)
line_plain nums e es logged = without_joined (fields_of e) (plain_fields nums e logged.0.0 logged.1.0)

-- the lines of events are whole
pub whole_lines : (es : List HallEvent) → whole (lines_text es) ≡ lines_text es
whole_lines [] = refl
whole_lines (e ∷ es) =
    let first = append_assoc (line_of e) (10 ∷ []) (lines_text es) in
    ap whole first ∙ whole_behind (line_of e) (lines_text es) ∙ ap (λ (r : List ℕ). line_of e ++ 10 ∷ r) (whole_lines es) ∙ sym first

-- The front ends within these lines or the line behind them.
pub record Cut (es : List HallEvent) (front : List ℕ) : Type 0 where
  pub text : whole front ≡ lines_text (take (lines front) es)
  pub few : lines front ≤ length es

-- Nothing was cut off.
pub record Whole (es : List HallEvent) (front rest : List ℕ) : Type 0 where
  pub nothing : rest ≡ []
  pub count : lines front ≡ suc (length es)

-- no line is whole
cut_first : (es : List HallEvent) (front : List ℕ) → Without 10 front → Cut es front
cut_first es front none =
    let count = lines_none front none in
    record { text = whole_none front none ∙ ap (λ (n : ℕ). lines_text (take n es)) (sym count); few = omega arith }

both_none : (a b : List ℕ) → a ++ b ≡ [] → (a ≡ []) × (b ≡ [])
both_none [] b is = (refl, is)
both_none (x ∷ a) b is = absurd (cc)

-- t is the line behind those of the events
pub cut_lines : (nums : ChildNumbers) (es : List HallEvent) (t front rest : List ℕ) → AreLogged nums es → Without 10 t → front ++ rest ≡ lines_text es ++ (t ++ 10 ∷ []) → Cut es front ⊎ Whole es front rest
cut_lines nums [] t front rest logged plain same = by_line (first_line t [] front rest plain same)
  where
    by_line : Within t front ⊎ Behind t [] front rest → Cut [] front ⊎ Whole [] front rest
    by_line (inl is) = inl (cut_first [] front is.none)
    by_line (inr is) =
        let none = both_none is.more rest is.left in
        inr (record { nothing = none.1; count = ap lines is.text ∙ lines_behind t is.more plain ∙ ap (λ (r : List ℕ). suc (lines r)) none.0 })
cut_lines nums (e ∷ es) t front rest logged plain same =
    by_line
    (λ more. cut_lines nums es t more rest (logged.0.1, logged.1.1) plain)
    (first_line (line_of e) (lines_text es ++ (t ++ 10 ∷ [])) front rest (line_plain nums e es logged) (
    same ∙ append_assoc (line_of e ++ 10 ∷ []) (lines_text es) (t ++ 10 ∷ []) ∙ append_assoc (line_of e) (10 ∷ []) (lines_text es ++ (t ++ 10 ∷ []))
    ))
  where
    by_rest : (more : List ℕ) → front ≡ line_of e ++ 10 ∷ more → Cut es more ⊎ Whole es more rest → Cut (e ∷ es) front ⊎ Whole (e ∷ es) front rest
    by_rest more is (inl cut) =
        let count : lines front ≡ suc (lines more) = ap lines is ∙ lines_behind (line_of e) more (line_plain nums e es logged) in
        let less = cut.few in
        inl (record {
          text = ap whole is ∙ whole_behind (line_of e) more ∙ ap (λ (r : List ℕ). line_of e ++ 10 ∷ r) cut.text
              ∙ sym (append_assoc (line_of e) (10 ∷ []) (lines_text (take (lines more) es)))
              ∙ ap (λ (n : ℕ). lines_text (take n (e ∷ es))) (sym count);
          few = omega arith;
        })
    by_rest more is (inr all) =
        inr (record { nothing = all.nothing; count = ap lines is ∙ lines_behind (line_of e) more (line_plain nums e es logged) ∙ ap suc all.count })

    by_line : ((more : List ℕ) → more ++ rest ≡ lines_text es ++ (t ++ 10 ∷ []) → Cut es more ⊎ Whole es more rest) →
        Within (line_of e) front ⊎ Behind (line_of e) (lines_text es ++ (t ++ 10 ∷ [])) front rest → Cut (e ∷ es) front ⊎ Whole (e ∷ es) front rest
    by_line others (inl is) = inl (cut_first (e ∷ es) front is.none)
    by_line others (inr is) = by_rest is.more is.text (others is.more is.left)
