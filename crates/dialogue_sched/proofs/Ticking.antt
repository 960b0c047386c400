-- Ticks that are put into a script's events.
use Rattle.std.proofs.Common.{◌≡◌, ℕ, ◌≤◌, List, [], ◌∷◌, ◌++◌, max, refl, sym, ap, subst, ◌∙◌, arith}
use Rattle.child_events.specs.declared.event.Event.{Event}
use Rattle.child_events.specs.declared.event.Event.TheVariants as event
use Rattle.child_events.specs.World.{moment_of, horizon_from, horizon_of}
use Rattle.expect_core.specs.declared.settings.Settings.{Settings}
use Rattle.expect_core.specs.declared.dialogue.Dialogue.{Dialogue}
use Rattle.expect_core.specs.Lanes.{arrived, offered, extended}
use Rattle.expect_core.specs.Calls.{fresh}
use Rattle.session.specs.Play.{play, told}
use Rattle.session.specs.Meaning.{steps_of, tree_of, meaning}
use Rattle.session.specs.Growth.{Continues}
use Rattle.session.proofs.Lefts.{extended_append}
use Rattle.session.proofs.Grows.{ending_stays, only_grows}
use Rattle.dialogue_sched.specs.Ticks.{RisesFrom, Rises, WithTicks, none, kept, tick, TicksAreOne, TicksChangeNothing, TicksOnlyAdd}

abbrev at_horizon : ℕ → Dialogue → Dialogue
at_horizon h d = record d { horizon = h }

-- an event that comes no earlier than the greatest moment so far
on_time : (e : Event) (h : ℕ) (d : Dialogue) → h ≤ moment_of e → offered e (at_horizon h d) ≡ at_horizon (moment_of e) (record d { lanes = arrived e (moment_of e) d.lanes })
on_time e h d le =
    let last : max h (moment_of e) ≡ moment_of e = omega (arith, le) in
    ap (λ (n : ℕ). record d { horizon = n; lanes = arrived e n d.lanes }) last

-- ticks raise the greatest moment, and nothing else
with_ticks : (es more : List Event) → WithTicks es more → (h k : ℕ) (d : Dialogue) → h ≤ k → RisesFrom k more → extended more (at_horizon k d) ≡ at_horizon (horizon_from k more) (extended es (at_horizon h d))
with_ticks xs ys none h k d le up = refl
with_ticks xs ys (kept e es more p) h k d le up =
    let m = moment_of e in
    let next : Dialogue = record d { lanes = arrived e m d.lanes } in
    let last : max k m ≡ m = omega (arith, up.0) in
    ap (extended more) (on_time e k d up.0)
    ∙ with_ticks es more p m m next (omega arith) up.1
    ∙ ap (λ (n : ℕ). at_horizon (horizon_from n more) (extended es (at_horizon m next))) (sym last)
    ∙ ap (λ (x : Dialogue). at_horizon (horizon_from (max k m) more) (extended es x)) (sym (on_time e h d (omega (arith, le, up.0))))
with_ticks xs ys (tick m es more p) h k d le up =
    let last : max k m ≡ m = omega (arith, up.0) in
    ap (extended more) (on_time (event.Tick m) k d up.0)
    ∙ with_ticks es more p h m d (omega (arith, le, up.0)) up.1
    ∙ ap (λ (n : ℕ). at_horizon (horizon_from n more) (extended es (at_horizon h d))) (sym last)

extended_horizon : (es : List Event) (d : Dialogue) → (extended es d).horizon ≡ horizon_from d.horizon es
extended_horizon [] d = refl
extended_horizon (e ∷ es) d = extended_horizon es (offered e d)

-- ticks raise it
not_lower : (es more : List Event) → WithTicks es more → (h k : ℕ) → h ≤ k → horizon_from h es ≤ horizon_from k more
not_lower xs ys none h k le = le
not_lower xs ys (kept e es more p) h k le = not_lower es more p (max h (moment_of e)) (max k (moment_of e)) (omega (arith, le))
not_lower xs ys (tick m es more p) h k le = not_lower es more p h (max k m) (omega (arith, le))

-- one tick behind all raises it as far
behind_all : (es more : List Event) → WithTicks es more → Rises more → (settings : Settings) → extended more (fresh settings) ≡ extended (es ++ event.Tick (horizon_of more) ∷ []) (fresh settings)
behind_all es more p up settings =
    let first : Dialogue = fresh settings in
    let h : ℕ = horizon_of more in
    let d : Dialogue = extended es first in
    let below : d.horizon ≤ h = subst (λ (n : ℕ). n ≤ h) (sym (extended_horizon es first)) (not_lower es more p 0 0 (omega arith)) in
    let last : max d.horizon h ≡ h = omega (arith, below) in
    with_ticks es more p 0 0 first (omega arith) up
    ∙ ap (λ (n : ℕ). at_horizon n d) (sym last)
    ∙ extended_append es (event.Tick h ∷ []) first

pub ticks_are_one : TicksAreOne
ticks_are_one source settings events more up p = ap (λ (d : Dialogue). told settings.tells_vars (play (steps_of settings.steps) (tree_of source settings) d)) (behind_all events more p up settings)

pub ticks_change_nothing : TicksChangeNothing
ticks_change_nothing source settings events more up p ends =
    ticks_are_one source settings events more up p ∙ ending_stays source settings events (event.Tick (horizon_of more) ∷ []) ends

pub ticks_only_add : TicksOnlyAdd
ticks_only_add source settings events more up p =
    subst (Continues (meaning source settings events)) (sym (ticks_are_one source settings events more up p)) (only_grows source settings events (event.Tick (horizon_of more) ∷ []))
