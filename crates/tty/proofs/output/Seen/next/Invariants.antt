use Rattle.std.proofs.Common.{◌≡◌, length}
use Rattle.tty.specs.Output.{convert}
use Rattle.tty.proofs.output.Seen.next.Given as goal

-- nothing was seen so far
abbrev pub invariant-removed : goal.invariant-removed
invariant-removed l =
    convert l.self-inside.remove l.self-inside.modes l.self-inside.rest.now
    ≡ convert l.initial.self-inside.remove l.initial.self-inside.modes l.initial.self-inside.rest.now

abbrev pub decreases-removed : goal.decreases-removed
decreases-removed l = length l.self-inside.rest.now
