use Rattle.std.proofs.Common.{◌≡◌, ◌<◌, ◌∙◌, length, map, arith}
use Rattle.std.proofs.lemmas.Result.{IfOk-weaker}
use Rattle.child_serve.specs.Whole.{keeping_of}
use Rattle.child_serve.specs.Teams.{AreTeams, AreDealt, AllTeams}
use Rattle.child_serve.proofs.Formed.{are_dealt, all_teams}
use Rattle.child_serve.proofs.dealing.dealt.Goals as goal

pub returns-clause-dealt : goal.returns-clause-dealt
returns-clause-dealt g c =
    let scripts = c.args.scripts.items in
    let keepers = c.args.keepers.items in
    let few = map (λ v. v.items) c.in_ok-scripts.scripts.items in
    let mine = map (λ v. v.items) c.in_ok-keepers.keepers.items in
    let some : 0 < c.len-count.result = omega arith in
    let as_many : length c.args.clocks.items ≡ c.len-count.result = omega arith in
    IfOk-weaker c.teams_of.result (λ ts. (length ts.items ≡ length c.args.clocks.items) × AreTeams few mine ts.items)
    (λ ts. AreDealt g.K.Keeper.named g.K.Keeper.made (map (keeping_of g.K.Keeper.named g.K.Keeper.made) keepers) scripts ts.items)
    (λ ts h. are_dealt g.K.Keeper.named g.K.Keeper.made c.len-count.result scripts keepers few mine ts.items some (h.0 ∙ as_many) c.requires.keepers c.requires.opens c.in_ok-scripts.ensures.1 c.in_ok-keepers.ensures.1 h.1) c.teams_of.ensures

pub returns-clause-teams : goal.returns-clause-teams
returns-clause-teams g c =
    let scripts = c.args.scripts.items in
    let keepers = c.args.keepers.items in
    let few = map (λ v. v.items) c.in_ok-scripts.scripts.items in
    let mine = map (λ v. v.items) c.in_ok-keepers.keepers.items in
    let some : 0 < c.len-count.result = omega arith in
    let as_many : length c.args.clocks.items ≡ c.len-count.result = omega arith in
    IfOk-weaker c.teams_of.result (λ ts. (length ts.items ≡ length c.args.clocks.items) × AreTeams few mine ts.items) (λ ts. AllTeams ts.items)
    (λ ts h. all_teams g.K.Keeper.named g.K.Keeper.made c.len-count.result scripts keepers few mine ts.items some (h.0 ∙ as_many) c.requires.keepers c.requires.opens c.in_ok-scripts.ensures.1 c.in_ok-keepers.ensures.1 h.1) c.teams_of.ensures
