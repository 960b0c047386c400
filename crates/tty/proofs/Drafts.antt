-- The last byte of a draft, which may be one that waited or one that was sent.
use Rattle.std.proofs.Common.{◌≡◌, ℕ, zero, suc, ◌<◌, ◌≤◌, ◌-◌, true, false, List, [], ◌∷◌, ◌++◌, length, take, Option, Some, None, refl, sym, ap, ◌∙◌, append_assoc, arith}
use Rattle.std.specs.Prelude.{is_some}
use Rattle.std.specs.Option.{option_to_list}
use Rattle.std.proofs.lemmas.List.{append-nil}
use Rattle.tty.specs.Drafted.{Drafted}
use Rattle.tty.specs.Buffer.{without_last}

abbrev pub drafted : List ℕ → List ℕ → Drafted
drafted before text = record { before = before; text = text }

last_gone : (t : List ℕ) (x : ℕ) → without_last (t ++ x ∷ []) ≡ t
last_gone [] x = refl
last_gone (a ∷ []) x = refl
last_gone (a ∷ c ∷ t) x = ap (λ (s : List ℕ). a ∷ s) (last_gone (c ∷ t) x)

take_less : (k : ℕ) (b : List ℕ) → k < length b → without_last (take (suc k) b) ≡ take k b
take_less k [] h = absurd (omega arith)
take_less zero (c ∷ b) h = refl
take_less (suc k) (c ∷ []) h = absurd (omega arith)
take_less (suc k) (c ∷ d ∷ b) h = ap (λ (s : List ℕ). c ∷ s) (take_less k (d ∷ b) (omega arith))

pub one_less : (k : ℕ) (b : List ℕ) → 0 < k → k ≤ length b → take (k - 1) b ≡ without_last (take k b)
one_less zero b pos h = absurd (omega arith)
one_less (suc k) b pos h =
    let e : suc k - 1 ≡ k = omega arith in
    ap (λ (n : ℕ). take n b) e ∙ sym (take_less k b (omega arith))

-- a byte that was sent goes
pub popped : (a f g : List ℕ) (r : Option ℕ) → f ≡ g ++ option_to_list r → is_some r ≡ true → a ++ g ≡ without_last (a ++ f)
popped a f g None e h = absurd (cc)
popped a f g (Some x) e h =
    sym (ap (λ (z : List ℕ). without_last (a ++ z)) e ∙ ap without_last (sym (append_assoc a g (x ∷ []))) ∙ last_gone (a ++ g) x)

-- or one that waited
pub shortened : (k : ℕ) (b f g : List ℕ) → f ≡ [] → g ≡ [] → 0 < k → k ≤ length b → take (k - 1) b ++ g ≡ without_last (take k b ++ f)
shortened k b f g none left pos h =
    ap (λ (z : List ℕ). take (k - 1) b ++ z) left ∙ append-nil (take (k - 1) b) ∙ one_less k b pos h
    ∙ sym (ap (λ (z : List ℕ). without_last (take k b ++ z)) none ∙ ap without_last (append-nil (take k b)))

-- or there is none
pub empty_stays : (k : ℕ) (b f g : List ℕ) → f ≡ [] → g ≡ [] → k ≡ 0 → take k b ++ g ≡ without_last (take k b ++ f)
empty_stays zero b f g none left is = left ∙ sym (ap without_last none)
empty_stays (suc k) b f g none left is = absurd (omega arith)

-- where no byte could be taken from the end, there was none
pub no_bytes : (f g : List ℕ) (r : Option ℕ) (n v : ℕ) → length f ≡ n → f ≡ g ++ option_to_list r → is_some r ≡ false → (0 < n → r ≡ Some v) → (f ≡ []) × (g ≡ [])
no_bytes f g (Some x) n v l e h some = absurd (cc)
no_bytes [] g None n v l e h some = (refl, sym (append-nil g) ∙ sym e)
no_bytes (a ∷ f) g None n v l e h some =
    let pos : 0 < n = omega arith in
    let bad : None ≡ Some v = some pos in absurd (cc)
