-- What is given of pieces is the whole text with names in place of secrets.
use Rattle.std.proofs.Common.{◌≡◌, ◌≤◌, ◌⊎◌, inl, inr, ℕ, ◌-◌, Bool, true, false, eqb, List, [], ◌∷◌, ◌++◌, length, refl, sym, ap, subst, ◌∙◌, append_assoc, append-nil, arith}
use Rattle.std.specs.Prelude.{not, if◌then◌else◌}
use Rattle.std.specs.List.{list_any}
use Rattle.std.proofs.lemmas.Bool.{and_parts, and_cases, both_ways, eqb-true, not-true}
use Rattle.secret_words.specs.declared.masking.Found.{Found}
use Rattle.secret_words.specs.declared.secrets.Secret.{Secret}
use Rattle.secret_words.specs.Masking.{begins, nothing, longest, first_text, shown_at, hidden_behind, masked_from, masked}
use Rattle.secret_words.specs.Pieces.{is_front, waits, given_from, held_from, given, held, given_of, held_of, joined, is_free, PiecesAreWhole, HoldsLess, FreeIsUnchanged}
use Rattle.secret_words.proofs.Longest.{longest_more, longest_within, longest_none}

module _ (ss : List Secret) where
  -- what stands for a byte of a text that doesn't wait, and what follows it, are the same with more bytes

  same_longest : (n : ℕ) (text more : List ℕ) → eqb n 0 ≡ true → waits ss n text ≡ false → longest ss (text ++ more) ≡ longest ss text
  same_longest n text more first goes = elim (and_cases (eqb n 0) (list_any (is_front text) ss) goes) [
    | inl behind ↦ absurd (both_ways (eqb n 0) behind first)
    | inr none ↦ longest_more text more nothing 0 ss none
  ]

  same_shown : (n b : ℕ) (text more : List ℕ) → waits ss n text ≡ false → shown_at ss n b (text ++ more) ≡ shown_at ss n b text
  same_shown n b text more goes = by (eqb n 0) refl
    where
      either : Bool → List ℕ → List ℕ
      either t all = if t then first_text ss (longest ss all) b else []

      by : (t : Bool) → eqb n 0 ≡ t → either (eqb n 0) (text ++ more) ≡ either (eqb n 0) text
      by true first = ap (λ (f : Found). if eqb n 0 then first_text ss f b else []) (same_longest n text more first goes)
      by false behind = ap (λ (t : Bool). either t (text ++ more)) behind ∙ sym (ap (λ (t : Bool). either t text) behind)

  same_hidden : (n : ℕ) (text more : List ℕ) → waits ss n text ≡ false → hidden_behind ss n (text ++ more) ≡ hidden_behind ss n text
  same_hidden n text more goes = by (eqb n 0) refl
    where
      either : Bool → List ℕ → ℕ
      either t all = if t then (longest ss all).size - 1 else n - 1

      by : (t : Bool) → eqb n 0 ≡ t → either (eqb n 0) (text ++ more) ≡ either (eqb n 0) text
      by true first = ap (λ (f : Found). if eqb n 0 then f.size - 1 else n - 1) (same_longest n text more first goes)
      by false behind = ap (λ (t : Bool). either t (text ++ more)) behind ∙ sym (ap (λ (t : Bool). either t text) behind)

  hidden_within : (n b : ℕ) (bs : List ℕ) → n ≤ length (b ∷ bs) → hidden_behind ss n (b ∷ bs) ≤ length bs
  hidden_within n b bs within = by (eqb n 0)
    where
      most : (longest ss (b ∷ bs)).size ≤ length (b ∷ bs)
      most = longest_within (b ∷ bs) nothing 0 ss (omega arith)

      by : (t : Bool) → (if t then (longest ss (b ∷ bs)).size - 1 else n - 1) ≤ length bs
      by true = omega (arith, most)
      by false = omega (arith, within)

  -- what is given of a text, and then what is held with more bytes behind it

  pub split : (n : ℕ) (text more : List ℕ) → n ≤ length text → masked_from ss n (text ++ more) ≡ given_from ss n text ++ masked_from ss 0 (held_from ss n text ++ more)
  split n [] more within = let none : n ≡ 0 = omega (arith, within) in ap (λ (k : ℕ). masked_from ss k more) none
  split n (b ∷ bs) more within = by (split (hidden_behind ss n (b ∷ bs)) bs more (hidden_within n b bs within)) (waits ss n (b ∷ bs)) refl
    where
      h : ℕ
      h = hidden_behind ss n (b ∷ bs)

      its : List ℕ
      its = shown_at ss n b (b ∷ bs)

      what : Bool → List ℕ
      what w = (if w then [] else its ++ given_from ss h bs) ++ masked_from ss 0 ((if w then b ∷ bs else held_from ss h bs) ++ more)

      again : Type 0
      again = masked_from ss h (bs ++ more) ≡ given_from ss h bs ++ masked_from ss 0 (held_from ss h bs ++ more)

      goes : again → waits ss n (b ∷ bs) ≡ false → masked_from ss n ((b ∷ bs) ++ more) ≡ what false
      goes rest on =
          ap (λ (t : List ℕ). t ++ masked_from ss (hidden_behind ss n ((b ∷ bs) ++ more)) (bs ++ more)) (same_shown n b (b ∷ bs) more on)
          ∙ ap (λ (k : ℕ). its ++ masked_from ss k (bs ++ more)) (same_hidden n (b ∷ bs) more on)
          ∙ ap (λ (t : List ℕ). its ++ t) rest
          ∙ sym (append_assoc its (given_from ss h bs) (masked_from ss 0 (held_from ss h bs ++ more)))

      by : again → (w : Bool) → waits ss n (b ∷ bs) ≡ w → masked_from ss n ((b ∷ bs) ++ more) ≡ what (waits ss n (b ∷ bs))
      by rest true stops =
          ap (λ (k : ℕ). masked_from ss k ((b ∷ bs) ++ more)) (eqb-true n 0 (and_parts (eqb n 0) (list_any (is_front (b ∷ bs)) ss) stops).0)
          ∙ sym (ap what stops)
      by rest false on = goes rest on ∙ sym (ap what on)

  whole_behind : (before : List ℕ) (ps : List (List ℕ)) → given_of ss before ps ++ masked ss (held_of ss before ps) ≡ masked ss (before ++ joined ps)
  whole_behind before [] = ap (masked ss) (sym (append-nil before))
  whole_behind before (p ∷ ps) =
      let next = held ss (before ++ p) in
      append_assoc (given ss (before ++ p)) (given_of ss next ps) (masked ss (held_of ss next ps))
      ∙ ap (λ (t : List ℕ). given ss (before ++ p) ++ t) (whole_behind next ps)
      ∙ sym (split 0 (before ++ p) (joined ps) (omega arith))
      ∙ ap (masked ss) (append_assoc before p (joined ps))

  -- what is held is a proper front of a secret

  held_is : (n : ℕ) (text : List ℕ) → (held_from ss n text ≡ []) ⊎ (list_any (is_front (held_from ss n text)) ss ≡ true)
  held_is n [] = inl refl
  held_is n (b ∷ bs) = by (held_is (hidden_behind ss n (b ∷ bs)) bs) (waits ss n (b ∷ bs)) refl
    where
      what : Bool → List ℕ
      what w = if w then b ∷ bs else held_from ss (hidden_behind ss n (b ∷ bs)) bs

      IsHeld : Bool → Type 0
      IsHeld w = (what w ≡ []) ⊎ (list_any (is_front (what w)) ss ≡ true)

      by : IsHeld false → (w : Bool) → waits ss n (b ∷ bs) ≡ w → IsHeld (waits ss n (b ∷ bs))
      by rest true stops =
          subst IsHeld (sym stops) (inr (and_parts (eqb n 0) (list_any (is_front (b ∷ bs)) ss) stops).1)
      by rest false on = subst IsHeld (sym on) rest

  unchanged : (text : List ℕ) → is_free ss text ≡ true → masked_from ss 0 text ≡ text
  unchanged [] free = refl
  unchanged (b ∷ bs) free =
      ap (λ (f : Found). first_text ss f b ++ masked_from ss (f.size - 1) bs) none ∙ ap (λ (t : List ℕ). b ∷ t) (unchanged bs parts.1)
    where
      parts : (not (list_any (λ s. begins s.bytes (b ∷ bs)) ss) ≡ true) × (is_free ss bs ≡ true)
      parts = and_parts (not (list_any (λ s. begins s.bytes (b ∷ bs)) ss)) (is_free ss bs) free

      none : longest ss (b ∷ bs) ≡ nothing
      none = longest_none (b ∷ bs) nothing 0 ss (not-true (list_any (λ s. begins s.bytes (b ∷ bs)) ss) parts.0)

pub pieces_are_whole : PiecesAreWhole
pieces_are_whole ss ps = whole_behind ss [] ps

pub holds_less : HoldsLess
holds_less ss text = held_is ss 0 text

pub free_is_unchanged : FreeIsUnchanged
free_is_unchanged ss text free = unchanged ss text free
