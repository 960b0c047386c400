use Rattle.std.proofs.Common.{◌≡◌, Option, Some, None, false, refl, sym}
use Rattle.std.specs.Prelude.{is_some}
use Rattle.child_serve.proofs.serving.join_one.Goals as goal

none_from : {F : Type 0} (o : Option F) → is_some o ≡ false → o ≡ None
none_from None h = refl
none_from (Some f) h = absurd (cc)

pub returns-in-Ok-join_part : goal.returns-in-Ok-join_part
returns-in-Ok-join_part c = λ none. (none_from c.args.joined.now.fault (sym c.if-is_some.ensures), (c.in-Ok.part, c.in-Ok.is, c.in-Ok-join_part.ensures))
