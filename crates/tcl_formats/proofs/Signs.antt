-- Numbers with a minus before them.
use Rattle.std.proofs.Common.{◌≡◌, ℕ, zero, suc, ◌-◌, ◌<◌, pos, negsuc, neg_ℤ, ap, arith}

pub negated : (n : ℕ) → 0 < n → negsuc (n - 1) ≡ neg_ℤ (pos n)
negated zero some = absurd (omega arith)
negated (suc n) some = let same : suc n - 1 ≡ n = omega arith in ap negsuc same
