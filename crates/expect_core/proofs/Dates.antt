-- What is kept of a number tells whether there is one.
use Rattle.std.proofs.Common.{◌≡◌, ℕ, Option, Some, None, refl}
use Rattle.std.specs.Prelude.{is_some, option_map}
use Rattle.expect_core.specs.Sleeping.{kept}

pub kept_some : (n : Option ℕ) → is_some (option_map kept n) ≡ is_some n
kept_some None = refl
kept_some (Some n) = refl
