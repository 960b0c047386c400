use Rattle.std.proofs.Common.{refl}
use Rattle.std.proofs.lemmas.Option.{slice_get_read}
use Rattle.child_serve.proofs.Deals.{pushed_there}
use Rattle.child_serve.proofs.dealing.push_at.Goals as goal

pub returns : goal.returns
returns g c =
    pushed_there (λ p. p.items) c.args.at c.args.x c.args.parts.now.items _ c.index_mut-part.result.now c.push.new.self
    (slice_get_read c.args.parts.now.items c.args.parts.now.len c.args.at c.index_mut-part.result.now c.args.parts.now.ok.0 c.requires c.index_mut-part.ensures.value) refl c.in-Ok.ensures.items
