use Rattle.std.proofs.Common.{◌≡◌, drop}
use Rattle.tty.specs.Handed.{received}
use Rattle.tty.specs.Buffer.{run}
use Rattle.tty.proofs.given.put_all.Given as goal

-- the bytes that are left come to the same as all
abbrev pub invariant-loop-b : goal.invariant-loop-b
invariant-loop-b l = (run l.modes.echo (received l.modes (drop l.b-index l.bytes)) l.draft.text l.given ≡ run l.modes.echo (received l.modes l.bytes) l.fn.draft.text l.fn.given) × (l.draft.before ≡ l.fn.draft.before)
