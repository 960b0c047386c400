use Rattle.std.proofs.Common.{◌≡◌, length, refl, sym, subst, ◌∙◌, arith}
use Rattle.run_records.specs.Merged.{SameRings}
use Rattle.run_records.proofs.Rows.{paired_count}
use Rattle.run_records.proofs.Parting.{rings_same, rings_then}
use Rattle.feed_rings.specs.Ends.{SameOut}
use Rattle.child_serve.proofs.serving.take_records.Goals as goal

pub loop-init : goal.loop-init
loop-init g c = record { rings = rings_same c.args.merger.now.reels.items; keeps = refl; merging = λ first is. is; handed = λ first h. h; unkept = λ h. refl }

pub turn-busy-requires : goal.turn-busy-requires
turn-busy-requires g c = record {
  few =
      let count = paired_count (λ w old new. SameOut old.out new.out) 0 c.args.merger.now.reels.items c.loop.merger.reels.items c.loop.invariant.rings in
      let few = c.requires.few in
      omega (arith, count, few);
}

pub returns-then-are_over-clause-rings : goal.returns-then-are_over-clause-rings
returns-then-are_over-clause-rings g c = rings_then c.args.merger.now.reels.items c.loop.merger.reels.items c.turn-busy.new.self.reels.items c.loop.invariant.rings c.turn-busy.ensures.rings

pub loop-preserved-then-busy : goal.loop-preserved-then-busy
loop-preserved-then-busy g c = record {
  rings = rings_then c.args.merger.now.reels.items c.loop.merger.reels.items c.turn-busy.new.self.reels.items c.loop.invariant.rings c.turn-busy.ensures.rings;
  keeps = c.turn-busy.ensures.keeps ∙ c.loop.invariant.keeps;
  merging = λ first is. c.turn-busy.ensures.merging first (c.loop.invariant.merging first is);
  handed = λ first h. c.turn-busy.ensures.handed first (c.loop.invariant.handed first h);
  unkept = λ not. c.turn-busy.ensures.unkept (c.loop.invariant.keeps ∙ not) ∙ c.loop.invariant.unkept not;
}

pub loop-preserved : goal.loop-preserved
loop-preserved g c = record {
  rings = rings_then c.args.merger.now.reels.items c.loop.merger.reels.items c.turn-busy.new.self.reels.items c.loop.invariant.rings c.turn-busy.ensures.rings;
  keeps = c.turn-busy.ensures.keeps ∙ c.loop.invariant.keeps;
  merging = λ first is. c.turn-busy.ensures.merging first (c.loop.invariant.merging first is);
  handed = λ first h. c.turn-busy.ensures.handed first (c.loop.invariant.handed first h);
  unkept = λ not. c.turn-busy.ensures.unkept (c.loop.invariant.keeps ∙ not) ∙ c.loop.invariant.unkept not;
}

pub returns-then-are_over-clause-keeps : goal.returns-then-are_over-clause-keeps
returns-then-are_over-clause-keeps g c = c.turn-busy.ensures.keeps ∙ c.loop.invariant.keeps

pub returns-then-are_over-clause-merging : goal.returns-then-are_over-clause-merging
returns-then-are_over-clause-merging g c first is = c.turn-busy.ensures.merging first (c.loop.invariant.merging first is)

pub returns-then-are_over-clause-handed : goal.returns-then-are_over-clause-handed
returns-then-are_over-clause-handed g c first h = c.turn-busy.ensures.handed first (c.loop.invariant.handed first h)

pub returns-then-are_over-clause-unkept : goal.returns-then-are_over-clause-unkept
returns-then-are_over-clause-unkept g c not = c.turn-busy.ensures.unkept (c.loop.invariant.keeps ∙ not) ∙ c.loop.invariant.unkept not
