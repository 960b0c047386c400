-- The longest secret that a text begins with.
use Rattle.std.proofs.Common.{◌≡◌, ◌≤◌, ℕ, ◌+◌, Bool, true, false, List, [], ◌∷◌, ◌++◌, length, refl, sym, ap, subst, ◌∙◌}
use Rattle.std.specs.Prelude.{nat_lt, ◌&&◌, ◌||◌, if◌then◌else◌}
use Rattle.std.specs.List.{list_any}
use Rattle.std.proofs.lemmas.Bool.{and_parts, both_ways}
use Rattle.secret_words.specs.declared.masking.Found.{Found}
use Rattle.secret_words.specs.declared.secrets.Secret.{Secret}
use Rattle.secret_words.specs.Masking.{begins, longer, longest_in}
use Rattle.secret_words.specs.Pieces.{is_front}
use Rattle.secret_words.proofs.Begins.{begins_le, begins_more}

first_false : (x y : Bool) → (x || y) ≡ false → x ≡ false
first_false false y h = refl
first_false true y h = absurd (both_ways true h refl)

rest_false : (x y : Bool) → (x || y) ≡ false → y ≡ false
rest_false false y h = h
rest_false true y h = absurd (both_ways true h refl)

longer_more : (text more : List ℕ) (found : Found) (n : ℕ) (s : Secret) → is_front text s ≡ false → longer (text ++ more) found n s ≡ longer text found n s
longer_more text more found n s h =
    ap (λ (t : Bool). if nat_lt found.size (length s.bytes) && t then record { place = n; size = length s.bytes } else found) (begins_more s.bytes text more h)

-- If a text is no proper front of a secret, more bytes don't change which secret is the longest.
pub longest_more : (text more : List ℕ) (found : Found) (n : ℕ) (ss : List Secret) → list_any (is_front text) ss ≡ false → longest_in (text ++ more) found n ss ≡ longest_in text found n ss
longest_more text more found n [] h = refl
longest_more text more found n (s ∷ ss) h =
    ap (λ (f : Found). longest_in (text ++ more) f (n + 1) ss) (longer_more text more found n s (first_false (is_front text s) (list_any (is_front text) ss) h))
    ∙ longest_more text more (longer text found n s) (n + 1) ss (rest_false (is_front text s) (list_any (is_front text) ss) h)

longer_within : (text : List ℕ) (found : Found) (n : ℕ) (s : Secret) → found.size ≤ length text → (longer text found n s).size ≤ length text
longer_within text found n s within = by (nat_lt found.size (length s.bytes) && begins s.bytes text) refl
  where
    chosen : Bool → Found
    chosen t = if t then record { place = n; size = length s.bytes } else found

    by : (t : Bool) → (nat_lt found.size (length s.bytes) && begins s.bytes text) ≡ t → (chosen (nat_lt found.size (length s.bytes) && begins s.bytes text)).size ≤ length text
    by true is =
        subst (λ (t : Bool). (chosen t).size ≤ length text) (sym is) (begins_le s.bytes text (and_parts (nat_lt found.size (length s.bytes)) (begins s.bytes text) is).1)
    by false is = subst (λ (t : Bool). (chosen t).size ≤ length text) (sym is) within

-- The longest secret isn't longer than the text.
pub longest_within : (text : List ℕ) (found : Found) (n : ℕ) (ss : List Secret) → found.size ≤ length text → (longest_in text found n ss).size ≤ length text
longest_within text found n [] within = within
longest_within text found n (s ∷ ss) within = longest_within text (longer text found n s) (n + 1) ss (longer_within text found n s within)

longer_none : (text : List ℕ) (found : Found) (n : ℕ) (s : Secret) → begins s.bytes text ≡ false → longer text found n s ≡ found
longer_none text found n s h = by (nat_lt found.size (length s.bytes)) h
  where
    chosen : Bool → Found
    chosen t = if t then record { place = n; size = length s.bytes } else found

    by : (t : Bool) → begins s.bytes text ≡ false → chosen (t && begins s.bytes text) ≡ found
    by true none = ap chosen none
    by false none = refl

-- If a text begins with no secret, none is found.
pub longest_none : (text : List ℕ) (found : Found) (n : ℕ) (ss : List Secret) → list_any (λ s. begins s.bytes text) ss ≡ false → longest_in text found n ss ≡ found
longest_none text found n [] h = refl
longest_none text found n (s ∷ ss) h =
    ap (λ (f : Found). longest_in text f (n + 1) ss) (longer_none text found n s (first_false (begins s.bytes text) (list_any (λ s. begins s.bytes text) ss) h))
    ∙ longest_none text found (n + 1) ss (rest_false (begins s.bytes text) (list_any (λ s. begins s.bytes text) ss) h)
