-- The fields of a template, one more; and a text of fields that is too long.
use Rattle.std.proofs.Common.{◌≡◌, ℕ, zero, suc, ◌+◌, ◌<◌, ◌≤◌, true, List, [], ◌∷◌, ◌++◌, length, take, drop, get_or, replicate, Ok, Err, refl, sym, ap, ◌∙◌, arith, append_assoc, append-nil}
use Rattle.std.specs.List.{flat_map}
use Rattle.std.proofs.lemmas.Grind.{flat_map-append}
use Rattle.std.proofs.lemmas.List.{take_more}
use Rattle.std.proofs.lemmas.List.Concat.{length-flat_map}
use Rattle.std.proofs.lemmas.List.Sums.{sum_by-take-le}
use Rattle.tcl_subst.specs.Faults.{is_too_long}
use Rattle.tcl_formats.specs.declared.fields.Field.{Field}
use Rattle.tcl_formats.specs.declared.templates.Piece.{Piece}
use Rattle.tcl_formats.specs.Formats.{field_text, piece_field, all_fields}
use Rattle.tcl_results.specs.Said.{Said, ◌>>=◌, limited}
use Rattle.tcl_results.specs.Texts.{too_long}
use Rattle.tcl_results.proofs.Limits.{longer, limited_over}

-- fields behind those that were made already
abbrev pub onto : List Field → Said (List Field) → Said (List Field)
onto made r = r >>= λ xs. Ok (made ++ xs)

onto_pushed : (made : List Field) (x : Field) (r : Said (List Field)) → onto (made ++ x ∷ []) r ≡ onto made (r >>= λ xs. Ok (x ∷ xs))
onto_pushed made x (Ok xs) = ap Ok (append_assoc made (x ∷ []) xs)
onto_pushed made x (Err text) = refl

pub onto_nothing : (r : Said (List Field)) → onto [] r ≡ r
onto_nothing (Ok xs) = refl
onto_nothing (Err text) = refl

module _ (command : List ℕ) (made : List Field) (p : Piece) (ps : List Piece) (values : List (List ℕ)) (whole : Said (List Field)) where
  pub fields_on : (f : Field) (n : ℕ) → piece_field command p values ≡ Ok (f, n) → onto made (all_fields command (p ∷ ps) values) ≡ whole
      → onto (made ++ f ∷ []) (all_fields command ps (drop n values)) ≡ whole
  fields_on f n is was =
      onto_pushed made f (all_fields command ps (drop n values))
      ∙ sym (ap (λ (r : Said (Field × ℕ)). onto made (r >>= λ t. all_fields command ps (drop t.1 values) >>= λ fs. Ok (t.0 ∷ fs))) is) ∙ was

  pub fields_fail : (text : List ℕ) → piece_field command p values ≡ Err text → onto made (all_fields command (p ∷ ps) values) ≡ whole → whole ≡ Err text
  fields_fail text is was = sym was ∙ ap (λ (r : Said (Field × ℕ)). onto made (r >>= λ t. all_fields command ps (drop t.1 values) >>= λ fs. Ok (t.0 ∷ fs))) is

-- a byte more
pub times_more : (text : List ℕ) (n b : ℕ) → (text ++ replicate n b) ++ b ∷ [] ≡ text ++ replicate (n + 1) b
times_more text n b = append_assoc text (replicate n b) (b ∷ []) ∙ ap (λ (l : List ℕ). text ++ l) (turn n)
  where
    turn : (n : ℕ) → replicate n b ++ b ∷ [] ≡ replicate (n + 1) b
    turn zero = refl
    turn (suc n) =
        let next : suc (n + 1) ≡ suc n + 1 = omega arith in
        ap (λ (l : List ℕ). b ∷ l) (turn n) ∙ ap (λ (m : ℕ). replicate m b) next

field_more : (fs : List Field) (n : ℕ) (f : Field) → n < length fs → f ≡ get_or fs n f → flat_map field_text (take (n + 1) fs) ≡ flat_map field_text (take n fs) ++ field_text f
field_more fs n f some is =
    ap (flat_map field_text) (take_more fs n f some) ∙ flat_map-append field_text (take n fs) (get_or fs n f ∷ [])
    ∙ ap (λ (l : List ℕ). flat_map field_text (take n fs) ++ l) (append-nil (field_text (get_or fs n f)) ∙ ap field_text (sym is))

-- the front of the text is too long already
pub fields_over : (fs : List Field) (n : ℕ) (f : Field) (text new : List ℕ) → n < length fs → f ≡ get_or fs n f → text ≡ flat_map field_text (take n fs) → new ≡ text ++ field_text f
    → is_too_long (length new) ≡ true → limited (flat_map field_text fs) ≡ Err too_long
fields_over fs n f text new some is was made long =
    let front : new ≡ flat_map field_text (take (n + 1) fs) = made ∙ ap (λ (l : List ℕ). l ++ field_text f) was ∙ sym (field_more fs n f some is) in
    let short : length new ≤ length (flat_map field_text fs) =
    omega (arith, ap length front, length-flat_map field_text (take (n + 1) fs), length-flat_map field_text fs, sum_by-take-le (λ (g : Field). length (field_text g)) fs (n + 1)) in
    limited_over (flat_map field_text fs) (longer (length new) (length (flat_map field_text fs)) short long)
