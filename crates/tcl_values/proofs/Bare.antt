-- A list's one element that is written as it stands.
use Rattle.std.proofs.Common.{◌≡◌, ◌≤◌, ◌+◌, ℕ, Bool, true, false, not, List, [], ◌∷◌, ◌++◌, length, cond, Option, Some, None, refl, sym, ap, subst, ◌∙◌, length-append, arith}
use Rattle.std.specs.Prelude.{slice_get}
use Rattle.std.proofs.lemmas.List.{append-nil}
use Rattle.tcl_words.specs.Lists.{is_special, letter, needs_quoting, fits_braces, begins_with, escape, elements, written_element, written, ReadsAs}

-- backslashes make it longer
pub escape_longer : (e : List ℕ) → length e ≤ length (escape e)
escape_longer [] = omega arith
escape_longer (b ∷ e) = go (is_special b) (escape_longer e)
  where
    go : (t : Bool) → length e ≤ length (escape e) → length (b ∷ e) ≤ length (cond t (92 ∷ letter b ∷ escape e) (b ∷ escape e))
    go true rest = omega (arith, rest)
    go false rest = omega (arith, rest)

escape_alike : (e : List ℕ) → length (escape e) ≡ length e → escape e ≡ e
escape_alike [] is = refl
escape_alike (b ∷ e) is = go (is_special b) (escape_alike e) is
  where
    go : (t : Bool) → (length (escape e) ≡ length e → escape e ≡ e) → length (cond t (92 ∷ letter b ∷ escape e) (b ∷ escape e)) ≡ length (b ∷ e)
        → cond t (92 ∷ letter b ∷ escape e) (b ∷ escape e) ≡ b ∷ e
    go true rest long = absurd (omega (arith, long, escape_longer e))
    go false rest long = ap (λ (es : List ℕ). b ∷ es) (rest (omega (arith, long)))

-- so what is written in as many bytes is written as it stands
element_alike : (e : List ℕ) → length (written_element true e) ≡ length e → written_element true e ≡ e
element_alike e is = quoted (needs_quoting true e) is
  where
    hashed : (h : Bool) → length (cond h (92 ∷ escape e) (escape e)) ≡ length e → cond h (92 ∷ escape e) (escape e) ≡ e
    hashed true long = absurd (omega (arith, long, escape_longer e))
    hashed false long = escape_alike e long

    braced : (f : Bool) → length (cond f ((123 ∷ e) ++ 125 ∷ []) (cond (begins_with 35 e) (92 ∷ escape e) (escape e))) ≡ length e
        → cond f ((123 ∷ e) ++ 125 ∷ []) (cond (begins_with 35 e) (92 ∷ escape e) (escape e)) ≡ e
    braced true long = absurd (omega (arith, long, length-append e (125 ∷ [])))
    braced false long = hashed (begins_with 35 e) long

    quoted : (q : Bool) → length (cond (not q) e (cond (fits_braces e) ((123 ∷ e) ++ 125 ∷ []) (cond (begins_with 35 e) (92 ∷ escape e) (escape e)))) ≡ length e
        → cond (not q) e (cond (fits_braces e) ((123 ∷ e) ++ 125 ∷ []) (cond (begins_with 35 e) (92 ∷ escape e) (escape e))) ≡ e
    quoted true long = braced (fits_braces e) long
    quoted false long = refl

pub written_alike : (e : List ℕ) → length (written (e ∷ [])) ≡ length e → written (e ∷ []) ≡ e
written_alike e is =
    let alone : written (e ∷ []) ≡ written_element true e = append-nil (written_element true e) in
    alone ∙ element_alike e (sym (ap length alone) ∙ is)

some_alike : {A : Type 0} (a b : A) → Some a ≡ Some b → a ≡ b
some_alike {A = A} a b is = ap (λ (o : Option A). elim o [ None ↦ a | Some q ↦ q ]) is

-- what has one element in as many bytes is that element
pub word_of_one : (text : List ℕ) (es : List (List ℕ)) (e : List ℕ) → length es ≡ 1 → slice_get es 0 ≡ Some e → text ≡ written es → length e ≡ length text → written (text ∷ []) ≡ text
word_of_one text [] e one here whole long = absurd (omega (arith, one))
word_of_one text (x ∷ y ∷ es) e one here whole long = absurd (omega (arith, one))
word_of_one text (x ∷ []) e one here whole long =
    let bare : written (x ∷ []) ≡ x = written_alike x (ap length (sym whole) ∙ sym long ∙ ap length (sym (some_alike x e here))) in
    let is : text ≡ x = whole ∙ bare in
    ap (λ (t : List ℕ). written (t ∷ [])) is ∙ bare ∙ sym is

-- what is the written text of the list that has it alone is the written text of what it reads as
pub bare_written : (text : List ℕ) (es : List (List ℕ)) → ReadsAs text es → ReadsAs (written (text ∷ [])) (text ∷ []) → written (text ∷ []) ≡ text → text ≡ written es
bare_written text es reads round bare =
    let alone : elements text ≡ Some (text ∷ []) = subst (λ (t : List ℕ). elements t ≡ Some (text ∷ [])) bare round in
    sym bare ∙ ap written (sym (some_alike es (text ∷ []) (sym reads ∙ alone)))
