-- Children that are listed, one after another.
use Rattle.std.proofs.Common.{◌≡◌, ◌⊎◌, inl, inr, ℕ, zero, suc, ◌+◌, ◌<◌, List, refl, sym, ap, subst, arith}
use Rattle.std.specs.Prelude.{Contains}
use Rattle.child_serve.specs.declared.served.Unsettled.{Unsettled}
use Rattle.run_records.specs.Joined.{script_of}
use Rattle.child_serve.specs.Opened.{KeepsListed, AreListed, AllListed}

-- the first so many children of a script
abbrev pub ListedTo : ℕ → ℕ → List Unsettled → Type 0
ListedTo n script unsettled = (index : ℕ) → index < n → Contains unsettled (record { script = script; child = index + 1 })

parted : (i n : ℕ) → i < n + 1 → (i ≡ n) ⊎ (i < n)
parted zero zero lt = inl refl
parted zero (suc n) lt = inr (omega arith)
parted (suc i) zero lt = absurd (omega (arith, lt))
parted (suc i) (suc n) lt = by_place (parted i n (omega (arith, lt)))
  where
    by_place : (i ≡ n) ⊎ (i < n) → (suc i ≡ suc n) ⊎ (suc i < suc n)
    by_place (inl e) = inl (ap suc e)
    by_place (inr less) = inr (omega (arith, less))

pub listed_next : (n script : ℕ) (old new : List Unsettled) → ListedTo n script old → KeepsListed old new → Contains new (record { script = script; child = n + 1 }) → ListedTo (n + 1) script new
listed_next n script old new to kept here index lt = by_place (parted index n lt)
  where
    by_place : (index ≡ n) ⊎ (index < n) → Contains new (record { script = script; child = index + 1 })
    by_place (inl e) = subst (λ (k : ℕ). Contains new (record { script = script; child = k + 1 })) (sym e) here
    by_place (inr less) = kept _ (to index less)

pub all_next : (n w count : ℕ) (old new : List Unsettled) → AllListed n w count old → KeepsListed old new → AreListed (script_of n w (count + 1)) new → AllListed n w (count + 1) new
all_next n w count old new all kept here at lt = by_place (parted at count lt)
  where
    by_place : (at ≡ count) ⊎ (at < count) → AreListed (script_of n w (at + 1)) new
    by_place (inl e) = subst (λ (k : ℕ). AreListed (script_of n w (k + 1)) new) (sym e) here
    by_place (inr less) = λ index small. kept _ (all at less index small)
