-- What is seen of a text is what is seen of its first byte, and then of the others.
use Rattle.std.proofs.Common.{◌≡◌, ℕ, zero, suc, ◌+◌, ◌<◌, List, [], ◌∷◌, ◌++◌, length, take, drop, slice_index, Bool, true, false, not, Option, Some, None, refl, sym, ap, subst, ◌∙◌, arith, rules}
use Rattle.std.specs.Prelude.{◌==◌, ◌||◌, ◌-◌, slice_index_or, if◌then◌else◌}
use Rattle.std.proofs.lemmas.List.{take_all, take-append-drop}
use Rattle.memchr.specs.Find.{IsFirstByte, is_byte2}
use Rattle.tty.specs.declared.modes.Modes.{Modes}
use Rattle.tty.specs.Output.{with_returns, maps_newlines, without_nul, convert, is_plain, ArePlain}

pub convert_each : (remove : Bool) (m : Modes) (b : ℕ) (bs : List ℕ) → convert remove m (b ∷ bs) ≡ convert remove m (b ∷ []) ++ convert remove m bs
convert_each remove m b bs = search rules

plain_alone : (remove : Bool) (m : Modes) (b : ℕ) → is_plain b ≡ true → convert remove m (b ∷ []) ≡ b ∷ []
plain_alone remove m b plain = by_cases remove (maps_newlines m)
  where
    parts : (n z : Bool) → not (n || z) ≡ true → (n ≡ false) × (z ≡ false)
    parts true z h = absurd (cc)
    parts false true h = absurd (cc)
    parts false false h = (refl, refl)

    stays : without_nul (b ∷ []) ≡ b ∷ []
    stays = ap (λ (t : Bool). if not t then b ∷ [] else []) (parts (b == 10) (b == 0) plain).1

    unmapped : with_returns (b ∷ []) ≡ b ∷ []
    unmapped = ap (λ (t : Bool). if t then 13 ∷ 10 ∷ [] else b ∷ []) (parts (b == 10) (b == 0) plain).0

    by_cases : (r t : Bool) → (if t then with_returns (if r then without_nul (b ∷ []) else b ∷ []) else (if r then without_nul (b ∷ []) else b ∷ [])) ≡ b ∷ []
    by_cases true true = ap with_returns stays ∙ unmapped
    by_cases true false = stays
    by_cases false true = unmapped
    by_cases false false = refl

-- such bytes in front of others
pub plain_front : (remove : Bool) (m : Modes) (w bs : List ℕ) → ArePlain w → convert remove m (w ++ bs) ≡ w ++ convert remove m bs
plain_front remove m [] bs all = refl
plain_front remove m (b ∷ w) bs all =
    convert_each remove m b (w ++ bs)
    ∙ ap (λ (front : List ℕ). front ++ convert remove m (w ++ bs)) (plain_alone remove m b all.0)
    ∙ ap (λ (seen : List ℕ). b ∷ seen) (plain_front remove m w bs all.1)

-- the bytes from a plain one up to the next that isn't
pub plain_run : (remove : Bool) (m : Modes) (rest : List ℕ) (n : ℕ) → 0 < length rest → is_plain (slice_index_or rest 0 0) ≡ true → ArePlain (take n (take (length rest - 1) (drop 1 rest))) →
    convert remove m rest ≡ take (1 + n) rest ++ convert remove m (drop (1 + n) rest)
plain_run remove m [] n some is are = absurd (omega (arith, some))
plain_run remove m (b ∷ bs) n some is are =
    let same : take (length (b ∷ bs) - 1) bs ≡ bs = take_all (length (b ∷ bs) - 1) bs (omega arith) in
    let one : 1 + n ≡ suc n = omega arith in
    let plain : ArePlain (take (1 + n) (b ∷ bs))
    = subst (λ (k : ℕ). ArePlain (take k (b ∷ bs))) (sym one) (is, subst (λ (l : List ℕ). ArePlain (take n l)) same are) in
    ap (convert remove m) (sym (take-append-drop (1 + n) (b ∷ bs))) ∙ plain_front remove m (take (1 + n) (b ∷ bs)) (drop (1 + n) (b ∷ bs)) plain

pub nothing_seen : (remove : Bool) (m : Modes) → convert remove m [] ≡ []
nothing_seen remove m = by_cases remove (maps_newlines m)
  where
    by_cases : (r t : Bool) → (if t then with_returns (if r then without_nul [] else []) else (if r then without_nul [] else [])) ≡ []
    by_cases true true = refl
    by_cases true false = refl
    by_cases false true = refl
    by_cases false false = refl

is_false : (t : Bool) → (t ≡ true → ⊥) → t ≡ false
is_false true h = absurd (h refl)
is_false false h = refl

-- where no byte before a place is a newline or NUL
pub plain_before : (i : ℕ) (bytes : List ℕ) → ((k : ℕ) → k < i → (slice_index bytes k == 10 || slice_index bytes k == 0) ≡ true → ⊥) → ArePlain (take i bytes)
plain_before zero bytes h = tt
plain_before (suc i) [] h = tt
plain_before (suc i) (b ∷ bs) h = (ap not (is_false (b == 10 || b == 0) (h 0 (omega arith))), plain_before i bs (λ k lt. h (suc k) (omega (arith, lt))))

-- a search that finds no place
pub none_found : (bytes : List ℕ) (found : Option ℕ) → IsFirstByte (is_byte2 10 0) bytes found → ((i : ℕ) → found ≡ Some i → ⊥) → (k : ℕ) → k < length bytes → (slice_index bytes k == 10 || slice_index bytes k == 0) ≡ true → ⊥
none_found bytes None first other k lt is = first k (omega arith) lt is
none_found bytes (Some i) first other k lt is = other i refl
