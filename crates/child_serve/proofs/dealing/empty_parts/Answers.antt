use Rattle.std.proofs.Common.{◌+◌, ap, sym, ◌∙◌, subst, length, List, map, []}
use Rattle.child_serve.specs.Dealt.{AllDealt}
use Rattle.child_serve.proofs.Deals.{all_empty, snoc_count}
use Rattle.child_serve.proofs.dealing.empty_parts.Goals as goal

pub loop-preserved : goal.loop-preserved
loop-preserved g c = (
  ap length c.in-Ok.ensures.items ∙ snoc_count c.loop.parts.items c.new.result ∙ ap (λ n. n + 1) c.loop.invariant.0,
  subst (λ (vs : List _). AllDealt c.args.n [] (map (λ p. p.items) vs)) (sym c.in-Ok.ensures.items) (all_empty (λ p. p.items) c.args.n c.loop.parts.items c.new.result c.new.ensures.items c.loop.invariant.1),
)
