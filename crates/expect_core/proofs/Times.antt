-- What is too late stays too late.
use Rattle.std.proofs.Common.{◌≡◌, ℕ, ◌≤◌, ◌<◌, Bool, true, false, ◌&&◌, Option, Some, None, ◌⊎◌, inl, inr, refl, sym, ap, ◌∙◌, arith}
use Rattle.std.specs.Prelude.{nat_le, if◌then◌else◌}
use Rattle.std.proofs.lemmas.Bool.{leb-true, leb-false, lt-leb}
use Rattle.expect_core.specs.declared.phase.Heard.{Heard}
use Rattle.expect_core.specs.declared.phase.Heard.TheVariants.{TimedOut, OverLimit, NotYet}
use Rattle.expect_core.specs.Heard.{at_most, lapse, in_time}

later : (h d n : ℕ) → nat_le h d ≡ false → h ≤ n → nat_le n d ≡ false
later h d n e le = let above : d < h = leb-false h d e in lt-leb n d (omega arith)

pub past : (limit : Option ℕ) (h n : ℕ) → at_most h limit ≡ false → h ≤ n → at_most n limit ≡ false
past None h n e le = cc
past (Some d) h n e le = later h d n e le

abbrev pub lapse_by : Bool → Bool → Bool → ℕ → Heard
lapse_by a b c d = if a then (if b then NotYet else OverLimit) else (if c then TimedOut d else OverLimit)

over : (a b c : Bool) (d : ℕ) → b ≡ false → c ≡ false → lapse_by a b c d ≡ OverLimit
over true b c d eb ec = ap (λ (x : Bool). if x then NotYet else OverLimit) eb
over false b c d eb ec = ap (λ (x : Bool). if x then TimedOut d else OverLimit) ec

and_false : (a b : Bool) → b ≡ false → (a && b) ≡ false
and_false true b e = e
and_false false b e = refl

-- a decision stays, and nothing is in time any more
abbrev pub Lasts : Option ℕ → ℕ → Option ℕ → ℕ → Type 0
Lasts limit h d n = (lapse limit h d ≡ NotYet) ⊎ ((lapse limit n d ≡ lapse limit h d) × (in_time limit d n ≡ false))

lasts_by : (limit : Option ℕ) (h d n : ℕ) → h ≤ n → (a b : Bool) → nat_le h d ≡ a → at_most h limit ≡ b → Lasts limit h (Some d) n
lasts_by limit h d n le true true ea eb = inl (ap (λ (x : Bool). lapse_by x (at_most h limit) (at_most d limit) d) ea ∙ ap (λ (x : Bool). lapse_by true x (at_most d limit) d) eb)
lasts_by limit h d n le true false ea eb =
    let within : h ≤ d = leb-true h d ea in
    let c : at_most d limit ≡ false = past limit h d eb within in
    let b : at_most n limit ≡ false = past limit h n eb le in
    inr (over (nat_le n d) (at_most n limit) (at_most d limit) d b c ∙ sym (over (nat_le h d) (at_most h limit) (at_most d limit) d eb c), and_false (nat_le n d) (at_most n limit) b)
lasts_by limit h d n le false b ea eb =
    let a : nat_le n d ≡ false = later h d n ea le in
    inr (ap (λ (x : Bool). lapse_by x (at_most n limit) (at_most d limit) d) a ∙ sym (ap (λ (x : Bool). lapse_by x (at_most h limit) (at_most d limit) d) ea), ap (λ (x : Bool). x && at_most n limit) a)

endless_by : (limit : Option ℕ) (h n : ℕ) → h ≤ n → (b : Bool) → at_most h limit ≡ b → Lasts limit h None n
endless_by limit h n le true e = inl (ap (λ (x : Bool). let v : Heard = (if x then NotYet else OverLimit) in v) e)
endless_by limit h n le false e =
    let b : at_most n limit ≡ false = past limit h n e le in
    inr (ap (λ (x : Bool). let v : Heard = (if x then NotYet else OverLimit) in v) b ∙ sym (ap (λ (x : Bool). let v : Heard = (if x then NotYet else OverLimit) in v) e), b)

-- where nothing comes in time any more, nothing does later
pub lasts : (limit : Option ℕ) (h : ℕ) (d : Option ℕ) (n : ℕ) → h ≤ n → Lasts limit h d n
lasts limit h (Some d) n le = lasts_by limit h d n le (nat_le h d) (at_most h limit) refl refl
lasts limit h None n le = endless_by limit h n le (at_most h limit) refl
