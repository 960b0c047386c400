-- How the result of a device call changes the count of failures.
use Rattle.std.specs.Prelude.{◌≡◌, ◌≢◌, ℕ, ◌+◌, Result, Ok, Err}
use Rattle.std.specs.IoError.{error_kind}
use Rattle.std.specs.declared.io.Error.{Error}
use Rattle.std.specs.declared.io.ErrorKind.TheVariants.{Interrupted}

-- Every error except `Interrupted` counts as a failure.
abbrev pub CountsFailure : Result ℕ Error → ℕ → ℕ → Type 0
CountsFailure (Ok n) before after = after ≡ before
CountsFailure (Err e) before after = (error_kind e ≡ Interrupted → after ≡ before) × (error_kind e ≢ Interrupted → after ≡ before + 1)
