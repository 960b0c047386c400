-- Lists that are paired, one member after another.
use Rattle.std.proofs.Common.{◌≡◌, ℕ, zero, suc, ◌≤◌, List, [], ◌∷◌, ◌++◌, length, refl, sym, ap, subst, ◌∙◌, arith, Option, Some, None}
use Rattle.std.specs.Prelude.{slice_get, slice_set}
use Rattle.dialogue_sched.specs.Pairs.{Paired}

pub Paired-push : {X Y : Type 0} (R : X → Y → Type 0) (xs : List X) (ys : List Y) (x : X) (y : Y) → Paired R xs ys → R x y → Paired R (xs ++ x ∷ []) (ys ++ y ∷ [])
Paired-push R [] [] x y p r = (r, tt)
Paired-push R [] (b ∷ ys) x y p r = absurd p
Paired-push R (a ∷ xs) [] x y p r = absurd p
Paired-push R (a ∷ xs) (b ∷ ys) x y p r = (p.0, Paired-push R xs ys x y p.1 r)

pub Paired-length : {X Y : Type 0} (R : X → Y → Type 0) (xs : List X) (ys : List Y) → Paired R xs ys → length xs ≡ length ys
Paired-length R [] [] p = refl
Paired-length R [] (b ∷ ys) p = absurd p
Paired-length R (a ∷ xs) [] p = absurd p
Paired-length R (a ∷ xs) (b ∷ ys) p = ap suc (Paired-length R xs ys p.1)

-- paired up to a place, and the same from there on
abbrev pub PairedTo : {X : Type 0} → (X → X → Type 0) → ℕ → List X → List X → Type 0
PairedTo R zero xs ys = ys ≡ xs
PairedTo R (suc i) [] ys = ys ≡ []
PairedTo R (suc i) (x ∷ xs) [] = ⊥
PairedTo R (suc i) (x ∷ xs) (y ∷ ys) = R x y × PairedTo R i xs ys

pub tail_of : {X : Type 0} (x y : X) (xs ys : List X) → x ∷ xs ≡ y ∷ ys → xs ≡ ys
tail_of x y xs ys h = cc

pub head_of : {X : Type 0} (x y : X) (xs ys : List X) → x ∷ xs ≡ y ∷ ys → x ≡ y
head_of x y xs ys h = cc

pub some_of : {X : Type 0} (x y : X) → Some x ≡ Some y → x ≡ y
some_of x y h = cc

pub no_cons : {X : Type 0} {A : Type 0} (y : X) (ys : List X) → y ∷ ys ≡ [] → A
no_cons y ys h = absurd (cc)

pub no_some : {X : Type 0} {A : Type 0} (y : X) → ◌≡◌ {A = Option X} None (Some y) → A
no_some y h = absurd (cc)

pub PairedTo-set : {X : Type 0} (R : X → X → Type 0) (i : ℕ) (xs ys : List X) (old new : X) → PairedTo R i xs ys → slice_get ys i ≡ Some old → R old new → PairedTo R (suc i) xs (slice_set ys i new)
PairedTo-set R zero [] [] old new h got r = no_some old got
PairedTo-set R zero [] (y ∷ ys) old new h got r = no_cons y ys h
PairedTo-set R zero (x ∷ xs) [] old new h got r = no_some old got
PairedTo-set R zero (x ∷ xs) (y ∷ ys) old new h got r = (subst (λ z. R z new) (sym (some_of y old got) ∙ head_of y x ys xs h) r, tail_of y x ys xs h)
PairedTo-set R (suc i) [] [] old new h got r = no_some old got
PairedTo-set R (suc i) [] (y ∷ ys) old new h got r = no_cons y ys h
PairedTo-set R (suc i) (x ∷ xs) [] old new h got r = absurd h
PairedTo-set R (suc i) (x ∷ xs) (y ∷ ys) old new h got r = (h.0, PairedTo-set R i xs ys old new h.1 got r)

pub Paired-from_to : {X : Type 0} (R : X → X → Type 0) (i : ℕ) (xs ys : List X) → PairedTo R i xs ys → length xs ≤ i → Paired R xs ys
Paired-from_to R zero [] [] h le = tt
Paired-from_to R zero [] (y ∷ ys) h le = no_cons y ys h
Paired-from_to R zero (x ∷ xs) ys h le = absurd (omega arith)
Paired-from_to R (suc i) [] [] h le = tt
Paired-from_to R (suc i) [] (y ∷ ys) h le = no_cons y ys h
Paired-from_to R (suc i) (x ∷ xs) [] h le = absurd h
Paired-from_to R (suc i) (x ∷ xs) (y ∷ ys) h le = (h.0, Paired-from_to R i xs ys h.1 (omega arith))
