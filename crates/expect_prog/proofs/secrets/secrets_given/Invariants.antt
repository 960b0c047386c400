use Rattle.std.proofs.Common.{take}
use Rattle.expect_prog.specs.Secrets.{AreSecrets}
use Rattle.expect_prog.proofs.secrets.secrets_given.Given as goal

abbrev pub invariant-loop-word : goal.invariant-loop-word
invariant-loop-word g l = AreSecrets g.S.Sources.holds (take l.word-index l.words) l.secrets
