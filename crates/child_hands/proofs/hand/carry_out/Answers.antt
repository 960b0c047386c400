use Rattle.std.proofs.Common.{◌≡◌, ◌∙◌, ap, is_some, true, false, IfSome, subst}
use Rattle.feed_rings.specs.Ends.{put_items}
use Rattle.child_hands.specs.Handed.{starts}
use Rattle.child_hands.proofs.Goings.{places_idle, places_started, going_step}
use Rattle.child_hands.proofs.hand.carry_out.Goals as goal

pub returns-in-Some-clause-going : goal.returns-in-Some-clause-going
returns-in-Some-clause-going g c =
    let a = c.new-answered.result in
    let is = c.new-answered.ensures in
    let asked = c.ask-answer.ensures in
    let name = g.K.Keeper.named c.args.keeper.now in
    let made = g.K.Keeper.made c.args.keeper.now in
    let made' = g.K.Keeper.made c.ask-answer.new.keeper in
    let put = put_items c.args.ends.now.answers in
    let works = c.args.children.now.works.items in
    let readers = c.args.children.now.readers.items in
    let put' = put_items c.put.new.self in
    let works' = c.place.new.self.works.items in
    let readers' = c.place.new.self.readers.items in
    let failed = g.K.Keeper.failed c.args.keeper.now in
    let failed' = g.K.Keeper.failed c.ask-answer.new.keeper in
    let named : a.name ≡ name = cc in
    let called : a.call ≡ made' = cc in
    let start : starts a.request a.answer ≡ true = rw (is.2, is.3) (asked.starts ∙ ap is_some c.in-Some.is) in
    let given = subst (λ o. IfSome o (λ out. g.K.Keeper.gives (g.K.Keeper.named c.ask-answer.new.keeper) made' (g.K.Out.Read.remaining out))) c.in-Some.is asked.gives in
    let fits = places_started c.args.script name c.args.script (g.K.Out.Read.remaining c.in-Some.out) a put works works' readers readers' start (rw is.2 c.place.ensures.works) (rw (called, ← asked.name) given) in
    going_step c.args.script name made made' failed failed' c.args.request a put put' works works' readers readers' c.in-Ok.ensures.ok.0 named called asked.calls is.2 (rw is.3 asked.fails) fits

pub returns-in_default-out-clause-going : goal.returns-in_default-out-clause-going
returns-in_default-out-clause-going g c =
    let a = c.new-answered.result in
    let is = c.new-answered.ensures in
    let asked = c.ask-answer.ensures in
    let name = g.K.Keeper.named c.args.keeper.now in
    let made = g.K.Keeper.made c.args.keeper.now in
    let made' = g.K.Keeper.made c.ask-answer.new.keeper in
    let put = put_items c.args.ends.now.answers in
    let works = c.args.children.now.works.items in
    let readers = c.args.children.now.readers.items in
    let put' = put_items c.put.new.self in
    let failed = g.K.Keeper.failed c.args.keeper.now in
    let failed' = g.K.Keeper.failed c.ask-answer.new.keeper in
    let named : a.name ≡ name = cc in
    let called : a.call ≡ made' = cc in
    let idle : starts a.request a.answer ≡ false = rw (is.2, is.3) (asked.starts ∙ ap is_some c.in_default-out.is) in
    let fits = places_idle c.args.script name c.args.script a put works readers idle in
    going_step c.args.script name made made' failed failed' c.args.request a put put' works works readers readers c.in-Ok.ensures.ok.0 named called asked.calls is.2 (rw is.3 asked.fails) fits
