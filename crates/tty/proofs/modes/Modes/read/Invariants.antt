use Rattle.std.proofs.Common.{◌≡◌, drop}
use Rattle.tty.specs.Modes.{read_words, read}
use Rattle.tty.proofs.modes.Modes.read.Given as goal

-- the modes so far and the words that are left make what all words make
abbrev pub invariant-loop-at : goal.invariant-loop-at
invariant-loop-at l = read_words l.size l.at (drop l.at l.words) l.modes ≡ read l.words
