use Rattle.std.proofs.Common.{◌<◌, length, add-one, arith}
use Rattle.report_texts.proofs.Tallying.{put_kind, stopped_at}
use Rattle.report_texts.proofs.tally.write_kinds.Goals as goal

pub returns-in_default : goal.returns-in_default
returns-in_default g c =
    let within : c.loop-i.i < length c.args.kinds.now = grind arith in
    stopped_at c.args.kinds.now c.args.endings.now c.loop-i.i _ within _ _ _ c.loop-i.invariant.put _ _ c.in_default.field-0 c.in_default.ensures

pub loop-i-preserved : goal.loop-i-preserved
loop-i-preserved g c =
    let within : c.loop-i.i < length c.args.kinds.now = grind arith in
    record {
      put = rw add-one (put_kind c.args.kinds.now c.args.endings.now c.loop-i.i _ within _ _ _ c.loop-i.invariant.put c.in-Ok.ensures.0);
      failures = c.in-Ok.ensures.1;
      calls = c.in-Ok.ensures.2;
    }
