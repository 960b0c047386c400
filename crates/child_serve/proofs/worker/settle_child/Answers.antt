use Rattle.child_desk.specs.Book.{logged}
use Rattle.std.proofs.lemmas.Result.{on_ok_weaker}
use Rattle.child_desk.proofs.Kept.{no_hand_same}
use Rattle.child_serve.proofs.Settling.{settles_same}
use Rattle.child_serve.proofs.worker.settle_child.Goals as goal

pub returns-then-not-closed-clause-heard : goal.returns-then-not-closed-clause-heard
returns-then-not-closed-clause-heard g c = settles_same c.args.at c.args.index c.args.desk.now.ends.items (logged c.args.desk.now.book)

pub returns-then-not-closed-clause-hands : goal.returns-then-not-closed-clause-hands
returns-then-not-closed-clause-hands g c = no_hand_same c.args.desk.now.ends.items

pub returns-then-not-closed-clause-taken : goal.returns-then-not-closed-clause-taken
returns-then-not-closed-clause-taken g c = on_ok_weaker c.list_child.result (λ has apart. absurd (apart has)) c.list_child.ensures.listed

pub returns-then-not-closed-clause-closed : goal.returns-then-not-closed-clause-closed
returns-then-not-closed-clause-closed g c = on_ok_weaker c.list_child.result (λ has apart. absurd (apart has)) c.list_child.ensures.listed

pub settle-requires-clause-finished : goal.settle-requires-clause-finished
settle-requires-clause-finished g c κs within e here out got = c.in-Some.ensures.0 out (c.requires.left e here out got)

pub returns-in_default-clause-heard : goal.returns-in_default-clause-heard
returns-in_default-clause-heard g c = settles_same c.args.at c.args.index c.args.desk.now.ends.items (logged c.args.desk.now.book)

pub returns-in_default-clause-hands : goal.returns-in_default-clause-hands
returns-in_default-clause-hands g c = no_hand_same c.args.desk.now.ends.items

pub returns-in_default-clause-taken : goal.returns-in_default-clause-taken
returns-in_default-clause-taken g c = on_ok_weaker c.list_child-in_default.result (λ has apart. absurd (apart has)) c.list_child-in_default.ensures.listed

pub returns-in_default-clause-closed : goal.returns-in_default-clause-closed
returns-in_default-clause-closed g c = on_ok_weaker c.list_child-in_default.result (λ has apart. absurd (apart has)) c.list_child-in_default.ensures.listed
