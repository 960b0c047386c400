use Rattle.std.proofs.Common.{◌≡◌, ◌++◌, take}
use Rattle.expect_prog.specs.Secrets.{pairs_of}
use Rattle.expect_prog.proofs.secrets.push_secrets.Given as goal

abbrev pub invariant-loop-secret : goal.invariant-loop-secret
invariant-loop-secret l = l.vars ≡ l.initial.vars ++ pairs_of (take l.secret-index l.secrets)
