use Rattle.std.proofs.Common.{◌+◌, ◌*◌, ◌<◌, ◌^◌, drop, ap, sym, subst, ◌∙◌, arith}
use Rattle.std.specs.Slice.Scan.{big_endian}
use Rattle.std.proofs.Math.ListN.{drop_of_length-le}
use Rattle.tcl_subst.proofs.Spelt.{below_next, below_all, spelt_next}
use Rattle.tcl_subst.proofs.short.spelt.Goals as goal

pub overflow_mul-number : goal.overflow_mul-number
overflow_mul-number c = record { fits = omega (arith, below_all c.loop-byte.number c.loop-byte.byte-index c.loop-byte.invariant.1 (omega (arith, c.loop-byte-test.true, c.requires))) }

below : (c : goal.After-from) → c.loop-byte.number * 256 + c.from.result < 256 ^ (c.loop-byte.byte-index + 1)
below c = below_next c.loop-byte.number c.loop-byte.byte-index c.from.result c.loop-byte.invariant.1 (subst (λ b. b < 256) (sym c.from.ensures) (c.type_inv.bytes c.loop-byte.byte-index).fits)

pub overflow_add-number : goal.overflow_add-number
overflow_add-number c = record { fits = omega (arith, below_all (c.loop-byte.number * 256 + c.from.result) (c.loop-byte.byte-index + 1) (below c) (omega (arith, c.loop-byte-test.true, c.requires))) }

pub loop-byte-preserved : goal.loop-byte-preserved
loop-byte-preserved c = (
  ap (λ b. big_endian (c.loop-byte.number * 256 + b) (drop (c.loop-byte.byte-index + 1) c.args.bytes.now)) c.from.ensures
      ∙ spelt_next c.loop-byte.number c.loop-byte.byte-index c.args.bytes.now c.loop-byte-test.true
      ∙ c.loop-byte.invariant.0,
  below c,
)

pub returns : goal.returns
returns c = sym (ap (big_endian c.loop-byte.number) (drop_of_length-le c.args.bytes.now c.loop-byte-test.false)) ∙ c.loop-byte.invariant.0
