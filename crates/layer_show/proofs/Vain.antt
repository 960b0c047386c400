-- Bytes that were searched in vain.
use Rattle.std.proofs.Common.{ℕ, ◌<◌, ◌≤◌, ◌-◌, ◌++◌, List, length, take, subst, sym, arith}
use Rattle.std.proofs.Math.Seq.{take-length}
use Rattle.std.proofs.lemmas.List.{take-append-le}
use Rattle.circular_buffer.specs.Buffer.{keep_last}
use Rattle.exp_match.specs.declared.entry.Entry.{Entry}
use Rattle.exp_match.specs.Choice.{HasNone}
use Rattle.exp_match.proofs.Lasting.{has_none_in_rest}

-- so many of the first bytes were searched, where there are any, and the patterns find nothing in them
abbrev pub IsVain : List Entry → List ℕ → ℕ → List ℕ → Type 0
IsVain entries groups n bytes = (n ≤ length bytes) × (0 < n → HasNone entries groups (take n bytes))

module _ (entries : List Entry) (groups : List ℕ) where
  pub vain_before : (n : ℕ) (bytes piece : List ℕ) → IsVain entries groups n bytes → 0 < n → HasNone entries groups (take n (bytes ++ piece))
  vain_before n bytes piece vain some =
      subst (HasNone entries groups) (sym (take-append-le n bytes piece vain.0)) (vain.1 some)

  pub trimmed_vain : (size : ℕ) (bytes : List ℕ) → HasNone entries groups bytes → IsVain entries groups (length (keep_last size bytes)) (keep_last size bytes)
  trimmed_vain size bytes none = (
    omega arith,
    λ some. subst (HasNone entries groups) (sym (take-length (keep_last size bytes)))
        (has_none_in_rest entries groups bytes (length bytes - size) (omega arith) none),
  )
