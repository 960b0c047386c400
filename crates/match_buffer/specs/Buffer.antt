-- The buffer after its bytes were lent as one slice.
use Rattle.std.specs.Prelude.{ℕ, List, length}
use Rattle.std.specs.Borrow.{Array, Fml, Lends, MutBor, u8}
use Rattle.std.specs.List.{refill}
use Rattle.circular_buffer.specs.Buffer.{buffer}
use Rattle.match_buffer.specs.declared.Buffer.{Buffer}
use Rattle.match_buffer.specs.contracts.Buffer.{the_row}

-- Bytes written to the slice are the bytes of the buffer. Everything else is unchanged.
abbrev pub LendsBytes : MutBor Buffer → MutBor (List ℕ) → Fml
LendsBytes b r = Lends the_row (Array u8 0) b r (λ ws. record b.now { ring = buffer (refill (length b.now.ring.items) b.now.ring.items ws) b.now.ring.capacity })
