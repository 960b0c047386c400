use Rattle.std.proofs.Common.{◌≡◌, refl, Option, Some, None, false, sym}
use Rattle.std.specs.Prelude.{is_some}
use Rattle.expect_core.specs.declared.request.Request.{Request}
use Rattle.child_desk.proofs.Kept.{keeps_asked, no_request_left}
use Rattle.child_desk.proofs.Coming.{comes_asked}
use Rattle.child_desk.proofs.line.ask_next.Goals as goal

none_from : (o : Option Request) → is_some o ≡ false → o ≡ None
none_from None h = refl
none_from (Some r) h = absurd (cc)

pub returns-clause-kept : goal.returns-clause-kept
returns-clause-kept c = λ rings.
    keeps_asked rings c.args.at c.args.line.now c.request.result c.args.book.now _ c.requires.0
    (none_from c.args.line.now.awaited (sym (c.if-is_some.ensures))) c.request.ensures refl refl

pub returns-clause-comes : goal.returns-clause-comes
returns-clause-comes c = comes_asked c.args.at c.request.result c.args.book.now _ c.requires.0 c.request.ensures refl refl

pub returns-clause-next : goal.returns-clause-next
returns-clause-next c = λ none. no_request_left c.args.at c.request.result c.args.book.now (record c.args.book.now { hall = c.request.new.self }) c.requires.0 c.request.ensures none
