-- The answers among events, with the children that they name.
use Rattle.std.proofs.Common.{◌≡◌, ℕ, suc, ◌+◌, List, [], ◌∷◌, ◌++◌, length, Bool, true, Some, None, refl, ap, ◌∙◌, arith}
use Rattle.std.specs.Prelude.{◌==◌, if◌then◌else◌}
use Rattle.std.proofs.lemmas.Bool.Decides.{nat_tests}
use Rattle.child_events.specs.declared.event.Answer.{Answer}
use Rattle.child_events.specs.declared.event.Event.{Event}
use Rattle.child_events.specs.declared.event.Event.TheVariants as event
use Rattle.child_events.specs.declared.event.What.TheVariants as what
use Rattle.child_events.specs.declared.event.HallEvent.{HallEvent}
use Rattle.child_events.specs.World.{own, after_own}
use Rattle.child_events.proofs.Worlds.{own-append}
use Rattle.std.proofs.lemmas.Grind.{flat_map-append}
use Rattle.child_desk.specs.Line.{answer_at}
use Rattle.child_desk.specs.Told.{answers_in, reply_in, replies_in}

pub replies_append : (n : ℕ) (es more : List HallEvent) → replies_in (own n (es ++ more)) ≡ replies_in (own n es) ++ replies_in (own n more)
replies_append n es more = ap replies_in (own-append n es more) ∙ flat_map-append reply_in (own n es) (own n more)

not_nothing : (a : Answer) (xs : List Answer) → a ∷ xs ≡ [] → ⊥
not_nothing a xs h = cc

pub no_replies : (es : List Event) → answers_in es ≡ [] → replies_in es ≡ []
no_replies [] none = refl
no_replies (event.Tick m ∷ es) none = no_replies es none
no_replies (event.Child c m (what.Answer a) ∷ es) none = absurd (not_nothing a (answers_in es) none)
no_replies (event.Child c m (what.Out piece) ∷ es) none = no_replies es none
no_replies (event.Child c m what.Eof ∷ es) none = no_replies es none
no_replies (event.Child c m (what.ReadFail cause) ∷ es) none = no_replies es none

-- there are as many
pub replies_counted : (es : List Event) → length (replies_in es) ≡ length (answers_in es)
replies_counted [] = refl
replies_counted (event.Tick m ∷ es) = replies_counted es
replies_counted (event.Child c m (what.Answer a) ∷ es) = ap suc (replies_counted es)
replies_counted (event.Child c m (what.Out piece) ∷ es) = replies_counted es
replies_counted (event.Child c m what.Eof ∷ es) = replies_counted es
replies_counted (event.Child c m (what.ReadFail cause) ∷ es) = replies_counted es

pub own_reply : (at child m : ℕ) (a : Answer) → replies_in (own (at + 1) (answer_at at child m a ∷ [])) ≡ record { child = child; answer = a } ∷ []
own_reply at child m a =
    let e : (at + 1 == at + 1) ≡ true = grind (arith, nat_tests) in
    ap (λ (t : Bool). replies_in (after_own (if t then Some (event.Child child m (what.Answer a)) else None) [])) e
