use Rattle.std.proofs.Common.{◌≡◌, drop}
use Rattle.secret_words.specs.Masking.{longest_in, longest}
use Rattle.secret_words.proofs.masking.longest.Given as goal

abbrev pub invariant-loop-i : goal.invariant-loop-i
invariant-loop-i l = longest_in l.text l.found l.i (drop l.i l.secrets) ≡ longest l.secrets l.text
