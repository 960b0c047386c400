use Rattle.std.proofs.Common.{arith}
use Rattle.feed_rings.specs.Ends.{SameOut}
use Rattle.run_records.proofs.Rows.{paired_count}
use Rattle.run_records.proofs.merger.Merger.hand_rest.Goals as goal

pub hand_on-requires : goal.hand_on-requires
hand_on-requires g c = record { few = let n = paired_count (λ w a b. SameOut a.out b.out) 0 c.args.self.now.reels.items c.take_rest.new.self.reels.items c.take_rest.ensures.rings in omega (arith, n, c.requires.few) }
