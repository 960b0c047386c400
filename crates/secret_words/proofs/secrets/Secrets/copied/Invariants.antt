use Rattle.std.proofs.Common.{◌≡◌, take}
use Rattle.secret_words.proofs.secrets.Secrets.copied.Given as goal

abbrev pub invariant-loop-secret : goal.invariant-loop-secret
invariant-loop-secret l = l.made ≡ take l.secret-index l.self
