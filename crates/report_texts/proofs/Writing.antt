-- Texts that are written one behind another.
use Rattle.std.proofs.Common.{◌≡◌, ℕ, zero, suc, List, [], ◌∷◌, ◌++◌, take, Option, Result, Ok, Err, refl, sym, ap, subst}
use Rattle.std.proofs.KnownBytes.{Appends-trans}
use Rattle.std.specs.Io.KnownBytes.{Appends}
use Rattle.report_texts.specs.declared.devices.Unwritten.{Unwritten}
use Rattle.report_texts.specs.Devices.{WasPut, GaveUp, Writes}

-- a front of a text is one of what goes on behind it
front : (n : ℕ) (text more : List ℕ) → (m : ℕ) × (take m (text ++ more) ≡ take n text)
front zero text more = (zero, refl)
front (suc n) [] more = (zero, refl)
front (suc n) (x ∷ text) more = let p = front n text more in (suc p.0, ap (λ (zs : List ℕ). x ∷ zs) p.1)

pub put_front : (old new : Option (List ℕ)) (text more : List ℕ) → WasPut old new text → WasPut old new (text ++ more)
put_front old new text more (n, put) = let p = front n text more in (p.0, subst (λ (t : List ℕ). Appends old new t) (sym p.1) put)

-- and so is a text with a front behind it
behind : (n : ℕ) (text more : List ℕ) → (m : ℕ) × (take m (text ++ more) ≡ text ++ take n more)
behind n [] more = (n, refl)
behind n (x ∷ text) more = let p = behind n text more in (suc p.0, ap (λ (zs : List ℕ). x ∷ zs) p.1)

put_behind : (a b c : Option (List ℕ)) (text more : List ℕ) → Appends a b text → WasPut b c more → WasPut a c (text ++ more)
put_behind a b c text more first (n, put) = let p = behind n text more in (p.0, subst (λ (t : List ℕ). Appends a c t) (sym p.1) (Appends-trans a b c text (take n more) first put))

-- behind a text that was written another is
pub writes_then : (X : Type 0) (a b c : Option (List ℕ)) (text more : List ℕ) (failures calls : ℕ) (r : Result X Unwritten) → Appends a b text → Writes more b c failures calls r → Writes (text ++ more) a c failures calls r
writes_then X a b c text more failures calls (Ok x) first (put, unfailed, few) = (Appends-trans a b c text more first put, unfailed, few)
writes_then X a b c text more failures calls (Err fault) first (put, gave_up) = (put_behind a b c text more first put, gave_up)

-- and behind one that wasn't none is
pub gives_up : (a b : Option (List ℕ)) (text more : List ℕ) (failures calls : ℕ) → WasPut a b text × GaveUp failures calls → WasPut a b (text ++ more) × GaveUp failures calls
gives_up a b text more failures calls (put, gave_up) = (put_front a b text more put, gave_up)

pub writes_as : (X : Type 0) (a b : Option (List ℕ)) (slice text : List ℕ) (failures calls : ℕ) (r : Result X Unwritten) → slice ≡ text → Writes slice a b failures calls r → Writes text a b failures calls r
writes_as X a b slice text failures calls r is w = subst (λ (t : List ℕ). Writes {X = X} t a b failures calls r) is w
