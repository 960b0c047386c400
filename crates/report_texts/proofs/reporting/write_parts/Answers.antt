use Rattle.std.proofs.Common.{◌≤◌, ◌<◌, ◌++◌, ◌∷◌, [], length, add-one, arith}
use Rattle.report_texts.proofs.Series.{stopped, stands_more, put_more, well_more, endings_more, as_many_ended}
use Rattle.report_texts.proofs.reporting.write_parts.Goals as goal

pub returns-in_default : goal.returns-in_default
returns-in_default g c =
    let i = c.loop-i.invariant in
    let within : c.loop-i.i < length c.args.reports.now = grind arith in
    stopped c.args.form.now c.args.reports.now c.loop-i.i c.index-reports-i.result within c.index-reports-i.is i.told i.stand _ _ _ i.put _ _ _ c.in_default.field-0 c.in_default.field-0 c.in_default.ensures

pub push_reserved-requires : goal.push_reserved-requires
push_reserved-requires g c =
    let i = c.loop-i.invariant in
    let within : c.loop-i.i < length c.args.reports.now = grind arith in
    let few : c.loop-i.i ≤ length c.args.reports.now = omega (arith, within) in
    omega (arith, as_many_ended c.args.reports.now c.loop-i.i i.told c.loop-i.endings.items few i.stand i.ended, i.room, within, c.loop-i.endings.ok.0)

pub loop-i-preserved : goal.loop-i-preserved
loop-i-preserved g c =
    let i = c.loop-i.invariant in
    let w = c.in-Ok.ensures in
    let within : c.loop-i.i < length c.args.reports.now = grind arith in
    record {
      told = i.told ++ w.told ∷ [];
      stand = rw add-one (stands_more c.args.reports.now c.loop-i.i c.index-reports-i.result i.told w.told within c.index-reports-i.is i.stand w.stands);
      put = put_more c.args.form.now c.args.reports.now c.loop-i.i c.index-reports-i.result within c.index-reports-i.is i.told i.stand _ _ _ i.put w.told w.writes.0;
      done = well_more c.loop-i.well c.is_done.result _ c.in-Ok.ending i.told w.told i.done w.ended c.is_done.ensures c.both-well.ensures;
      ended = endings_more c.push_reserved.new.self.items c.loop-i.endings.items c.in-Ok.ending i.told w.told c.push_reserved.ensures.items i.ended w.ended;
      room = omega (arith, c.push_reserved.ensures.capacity, i.room);
      failures = w.writes.1;
      calls = w.writes.2;
    }
