-- Texts one behind another.
use Rattle.std.proofs.Common.{◌≡◌, ◌≤◌, ◌<◌, ◌+◌, ℕ, zero, suc, List, [], ◌∷◌, ◌++◌, length, take, drop, Some, None, refl, sym, ap, ◌∙◌, arith}
use Rattle.std.specs.Prelude.{get_or, slice_get}
use Rattle.std.proofs.lemmas.List.{take-append-le, take-take}
use Rattle.std.proofs.Math.Seq.{drop-append_seam, take-length, take-suc}
use Rattle.std.proofs.lemmas.Option.{slice_get_within, get_or_from_slice_get}
use Rattle.tcl_words.specs.Packed.{cut, Rise, begin}

pub rise_le : (at : ℕ) (ends : List ℕ) (last : ℕ) → Rise at ends last → at ≤ last
rise_le at [] last r = omega (arith, r)
rise_le at (e ∷ es) last r = omega (arith, r.0, rise_le e es last r.1)

-- one more text behind them
pub rise_more : (at : ℕ) (ends : List ℕ) (last n : ℕ) → Rise at ends last → last ≤ n → Rise at (ends ++ n ∷ []) n
rise_more at [] last n r le = (omega (arith, r, le), refl)
rise_more at (e ∷ es) last n r le = (r.0, rise_more e es last n r.1 le)

pub cut_length : (at : ℕ) (ends bytes : List ℕ) → length (cut at ends bytes) ≡ length ends
cut_length at [] bytes = refl
cut_length at (e ∷ es) bytes = ap suc (cut_length e es bytes)

-- what is cut before the end stays as it is once bytes stand behind
last_piece : (at : ℕ) (bytes more : List ℕ) → at ≡ length bytes → drop at (take (length (bytes ++ more)) (bytes ++ more)) ≡ more
last_piece at bytes more is =
    ap (drop at) (take-length (bytes ++ more)) ∙ ap (λ (n : ℕ). drop n (bytes ++ more)) is ∙ drop-append_seam bytes more

pub cut_more : (at : ℕ) (ends bytes more : List ℕ) → Rise at ends (length bytes) → cut at (ends ++ length (bytes ++ more) ∷ []) (bytes ++ more) ≡ cut at ends bytes ++ more ∷ []
cut_more at [] bytes more r = ap (λ (t : List ℕ). t ∷ []) (last_piece at bytes more r)
cut_more at (e ∷ es) bytes more r =
    ap (λ (front : List ℕ). drop at front ∷ cut e (es ++ length (bytes ++ more) ∷ []) (bytes ++ more)) (take-append-le e bytes more (rise_le e es (length bytes) r.1))
    ∙ ap (λ (ts : List (List ℕ)). drop at (take e bytes) ∷ ts) (cut_more e es bytes more r.1)

-- the text at an index
pub begins_at : (at : ℕ) (ends : List ℕ) (i d : ℕ) → i < length ends → begin at ends (suc i) ≡ get_or ends i d
begins_at at [] i d within = absurd (omega (arith, within))
begins_at at (e ∷ es) zero d within = refl
begins_at at (e ∷ es) (suc i) d within = begins_at e es i d (omega (arith, within))

pub piece_within : (at : ℕ) (ends : List ℕ) (last i d : ℕ) → Rise at ends last → i < length ends → (begin at ends i ≤ get_or ends i d) × (get_or ends i d ≤ last)
piece_within at [] last i d r within = absurd (omega (arith, within))
piece_within at (e ∷ es) last zero d r within = (r.0, rise_le e es last r.1)
piece_within at (e ∷ es) last (suc i) d r within = piece_within e es last i d r.1 (omega (arith, within))

pub piece_at : (at : ℕ) (ends bytes : List ℕ) (i d : ℕ) → i < length ends → slice_get (cut at ends bytes) i ≡ Some (drop (begin at ends i) (take (get_or ends i d) bytes))
piece_at at [] bytes i d within = absurd (omega (arith, within))
piece_at at (e ∷ es) bytes zero d within = refl
piece_at at (e ∷ es) bytes (suc i) d within = piece_at e es bytes i d (omega (arith, within))

pub no_piece : (at : ℕ) (ends bytes : List ℕ) (i : ℕ) → length ends ≤ i → slice_get (cut at ends bytes) i ≡ None
no_piece at [] bytes zero past = refl
no_piece at [] bytes (suc i) past = refl
no_piece at (e ∷ es) bytes zero past = absurd (omega (arith, past))
no_piece at (e ∷ es) bytes (suc i) past = no_piece e es bytes i (omega (arith, past))

-- the first of them alone
pub begin_le : (at : ℕ) (ends : List ℕ) (last n : ℕ) → Rise at ends last → n ≤ length ends → (at ≤ begin at ends n) × (begin at ends n ≤ last)
begin_le at [] last zero r within = (omega arith, omega (arith, r))
begin_le at [] last (suc n) r within = absurd (omega (arith, within))
begin_le at (e ∷ es) last zero r within = (omega arith, omega (arith, r.0, rise_le e es last r.1))
begin_le at (e ∷ es) last (suc n) r within =
    let rest = begin_le e es last n r.1 (omega (arith, within)) in
    (omega (arith, r.0, rest.0), rest.1)

pub front_rises : (at : ℕ) (ends : List ℕ) (last n : ℕ) → Rise at ends last → n ≤ length ends → Rise at (take n ends) (begin at ends n)
front_rises at [] last zero r within = refl
front_rises at [] last (suc n) r within = absurd (omega (arith, within))
front_rises at (e ∷ es) last zero r within = refl
front_rises at (e ∷ es) last (suc n) r within = (r.0, front_rises e es last n r.1 (omega (arith, within)))

pub cut_front : (at : ℕ) (ends bytes : List ℕ) (n m : ℕ) → Rise at ends (length bytes) → n ≤ length ends → begin at ends n ≤ m → cut at (take n ends) (take m bytes) ≡ take n (cut at ends bytes)
cut_front at [] bytes zero m r within le = refl
cut_front at [] bytes (suc n) m r within le = absurd (omega (arith, within))
cut_front at (e ∷ es) bytes zero m r within le = refl
cut_front at (e ∷ es) bytes (suc n) m r within le =
    let few : n ≤ length es = omega (arith, within) in
    let before = begin_le e es (length bytes) n r.1 few in
    ap (λ (front : List ℕ). drop at front ∷ cut e (take n es) (take m bytes)) (take-take e m bytes (omega (arith, before.0, le)))
    ∙ ap (λ (ts : List (List ℕ)). drop at (take e bytes) ∷ ts) (cut_front e es bytes n m r.1 few le)

-- a text that isn't there
pub none_at : (ts : List (List ℕ)) (i : ℕ) → slice_get ts i ≡ None → [] ≡ get_or ts i []
none_at [] zero none = refl
none_at [] (suc i) none = refl
none_at (t ∷ ts) zero none = absurd (cc)
none_at (t ∷ ts) (suc i) none = none_at ts i none

-- texts taken out one by one
pub one_more : (ts : List (List ℕ)) (i : ℕ) (t : List ℕ) → slice_get ts i ≡ Some t → take i ts ++ t ∷ [] ≡ take (i + 1) ts
one_more ts i t here =
    let one_on : suc i ≡ i + 1 = omega arith in
    ap (λ (u : List ℕ). take i ts ++ u ∷ []) (sym (get_or_from_slice_get ts i t [] here))
    ∙ sym (take-suc ts i [] (slice_get_within ts i t here))
    ∙ ap (λ (n : ℕ). take n ts) one_on
