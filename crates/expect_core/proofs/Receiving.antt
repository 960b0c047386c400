-- What stands behind a text that was there before.
use Rattle.std.proofs.Common.{◌≡◌, ℕ, List, [], ◌∷◌, ◌++◌, drop, length, refl}

pub put_behind : (text more : List ℕ) → drop (length text) (text ++ more) ≡ more
put_behind [] more = refl
put_behind (b ∷ text) more = put_behind text more
