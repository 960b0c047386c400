use Rattle.std.proofs.Common.{length, map, subst}
use Rattle.child_serve.specs.Whole.{IsServing, keeping_of}
use Rattle.script_runs.specs.Logging.{Notes}
use Rattle.script_runs.proofs.Drives.{unserved_as, were_served}
use Rattle.script_runs.proofs.driving.serve_and_log.Goals as goal

pub returns-in-Err : goal.returns-in-Err
returns-in-Err g c =
    let b = c.serve-outcome.result.1 in
    unserved_as g.L.Write.contents g.K.Keeper.told g.K.Keeper.gives (length c.args.clocks.items) (map (keeping_of g.K.Keeper.named g.K.Keeper.made) c.args.keepers.items) c.args.scripts.items (g.L.Write.contents c.args.log.device) c.begun-writer.result b c.args.recorded c.in-Err.fault c.into.result c.into.ensures c.begun-writer.ensures.put
    (subst (λ r. IsServing g.K.Keeper.told g.K.Keeper.gives (length c.args.clocks.items) (map (keeping_of g.K.Keeper.named g.K.Keeper.made) c.args.keepers.items) c.args.scripts.items (Notes g.L.Write.contents) c.begun-writer.result c.args.recorded r b) c.in-Err.is c.serve-outcome.ensures.serves) c.serve-outcome.ensures.unkept

pub returns : goal.returns
returns g c =
    let b = c.serve-outcome.result.1 in
    were_served g.L.Write.contents g.K.Keeper.told g.K.Keeper.gives (length c.args.clocks.items) (map (keeping_of g.K.Keeper.named g.K.Keeper.made) c.args.keepers.items) c.args.scripts.items (g.L.Write.contents c.args.log.device) c.begun-writer.result b c.end.new.self c.in-Ok.served c.args.recorded c.begun-writer.ensures.put c.begun-writer.ensures.count
    (subst (λ r. IsServing g.K.Keeper.told g.K.Keeper.gives (length c.args.clocks.items) (map (keeping_of g.K.Keeper.named g.K.Keeper.made) c.args.keepers.items) c.args.scripts.items (Notes g.L.Write.contents) c.begun-writer.result c.args.recorded r b) c.in-Ok.is c.serve-outcome.ensures.serves) c.serve-outcome.ensures.unkept c.end.ensures.put c.end.ensures.well c.end.ensures.still
