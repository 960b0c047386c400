-- What holds of a slice holds of the bytes that a reader had left, where they are known.
use Rattle.std.proofs.Common.{◌≡◌, ℕ, List, ◌∙◌, subst}
use Rattle.std.specs.Prelude.{Option, None, Some, IfSome}

pub carried : (P : List ℕ → Type 0) (known : Option (List ℕ)) (text slice : List ℕ) → IfSome known (λ bytes. text ≡ bytes) → slice ≡ text → P slice → IfSome known P
carried P None text slice is same p = tt
carried P (Some bytes) text slice is same p = subst P (same ∙ is) p
