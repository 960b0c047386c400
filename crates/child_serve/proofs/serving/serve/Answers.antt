use Rattle.std.proofs.Common.{◌≡◌, length, map, [], sym, ap, subst, ◌∙◌, arith}
use Rattle.std.proofs.lemmas.Result.{IfOk-weaker}
use Rattle.dialogue_sched.specs.Hall.{opening_fault as fault_in}
use Rattle.feed_rings.specs.Ends.{SameOut}
use Rattle.run_records.specs.Merged.{ArePairs, SameRings, WasHanded, IsMerging, nothing}
use Rattle.run_records.proofs.Rows.{paired_count}
use Rattle.child_serve.specs.Teams.{AreLogsOf, HaveServed}
use Rattle.child_serve.specs.Whole.{keeping_of, IsServing}
use Rattle.child_serve.proofs.Taking.{pairs_all}
use Rattle.child_serve.proofs.Assembling.{all_gathered, none_started}
use Rattle.child_serve.proofs.serving.serve.Goals as goal

pub returns-in-Some-clause-serves : goal.returns-in-Some-clause-serves
returns-in-Some-clause-serves g c = (sym (c.opening_fault.ensures ∙ ap fault_in c.as_slice.ensures.value) ∙ c.in-Some.is, ([], nothing c.args.recorder))

pub returns-in-Err-clause-serves : goal.returns-in-Err-clause-serves
returns-in-Err-clause-serves g c = ([], nothing c.args.recorder)

pub gathered-requires-clause-few : goal.gathered-requires-clause-few
gathered-requires-clause-few g c =
    let count = paired_count (λ w old new. SameOut old.out new.out) 0 c.new-merger.result.reels.items c.take_records.new.merger.reels.items c.take_records.ensures.rings in
    let same = ap length c.new-merger.ensures.reels in
    let few = c.start_all-started.ensures.count in
    omega (arith, count, same, few)

pub gathered-requires-clause-pairs : goal.gathered-requires-clause-pairs
gathered-requires-clause-pairs g c =
    let now = c.take_records.new.merger.reels.items in
    let rings = subst (λ rs. SameRings rs now) c.new-merger.ensures.reels c.take_records.ensures.rings in
    IfOk-weaker c.join_all-joined.result (λ j. AreLogsOf c.start_all-started.new.handles.items j.logs.items) (λ j. ArePairs j.logs.items now)
    (λ j logs. pairs_all 0 c.start_all-started.new.handles.items c.start_all-started.new.reels.items now j.logs.items c.start_all-started.ensures.rings rings logs) c.join_all-joined.ensures.logs

pub returns-in-Ok-started-clause-serves : goal.returns-in-Ok-started-clause-serves
returns-in-Ok-started-clause-serves g c =
    let teams = c.in-Ok.prepared.teams.items in
    let scripts = c.args.scripts.items in
    let handles = c.start_all-started.new.handles.items in
    let merger = c.take_records.new.merger in
    let first = subst (λ r. WasHanded g.R.Recorder.notes c.args.recorder r) (sym c.new-merger.ensures.recorder) ([], nothing c.args.recorder) in
    let as_many : c.len-count.result ≡ length scripts = (let e = c.len-count.ensures in let f = c.args.scripts.ok.0 in omega (arith, e, f)) in
    all_gathered g.K.Keeper.told g.K.Keeper.gives g.K.Keeper.named g.K.Keeper.made g.R.Recorder.notes c.args.recorder c.gathered.result.1 c.args.keeps (length c.args.clocks.items) teams
    (map (keeping_of g.K.Keeper.named g.K.Keeper.made) c.args.keepers.items) scripts c.len-count.result
    (sym (c.opening_fault.ensures ∙ ap fault_in c.as_slice.ensures.value) ∙ c.in_default.is) as_many c.in-Ok.ensures.count c.requires.workers.0 c.in-Ok.ensures.dealt
    c.join_all-joined.result merger c.gathered.result.0
    (IfOk-weaker c.join_all-joined.result _ (λ j. HaveServed g.K.Keeper.told g.K.Keeper.gives g.K.Keeper.named g.K.Keeper.made (length teams) teams j.parts.items j.logs.items)
    (λ j served. served (length teams) teams c.in-Ok-started.ensures.started) c.join_all-joined.ensures.served)
    (c.take_records.ensures.keeps ∙ c.new-merger.ensures.keeps) (c.take_records.ensures.merging c.args.recorder c.new-merger.ensures.merging)
    (c.gathered.ensures.handed c.args.recorder (c.take_records.ensures.handed c.args.recorder first)) c.gathered.ensures.gathers

pub returns-clause-serves : goal.returns-clause-serves
returns-clause-serves g c =
    let notes = g.R.Recorder.notes in
    let first = subst (λ r. WasHanded notes c.args.recorder r) (sym c.new-merger.ensures.recorder) ([], nothing c.args.recorder) in
    let handed = subst (λ r. WasHanded notes c.args.recorder r) (sym c.into_recorder.ensures) (c.take_records.ensures.handed c.args.recorder first) in
    none_started g.K.Keeper.told g.K.Keeper.gives (length c.args.clocks.items) (map (keeping_of g.K.Keeper.named g.K.Keeper.made) c.args.keepers.items) c.args.scripts.items notes c.args.recorder c.into_recorder.result c.args.keeps
    c.in-Err-started.fault c.into.result c.into.ensures handed
