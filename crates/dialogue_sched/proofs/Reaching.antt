-- Halls by what came to them.
use Rattle.std.proofs.Common.{◌≡◌, ℕ, zero, suc, ◌+◌, List, [], ◌∷◌, ◌++◌, Bool, refl, sym, ap, ◌∙◌, subst, arith, Option, Some, None}
use Rattle.std.specs.Prelude.{slice_get, slice_set, IsTrue, ◌⊎◌}
use Rattle.std.proofs.lemmas.List.{append-nil, append_assoc}
use Rattle.child_events.specs.declared.event.Event.{Event}
use Rattle.child_events.specs.declared.event.HallEvent.{HallEvent}
use Rattle.child_events.specs.World.{own, own_of, after_own}
use Rattle.expect_core.specs.declared.request.Request.{Request}
use Rattle.session.specs.declared.report.Report.{Report}
use Rattle.session.specs.Meaning.{meaning}
use Rattle.session.specs.Left.{Kept, left, HandsOut}
use Rattle.session.specs.Spent.{memory_report, Reports}
use Rattle.session.proofs.Spending.{reported}
use Rattle.dialogue_sched.specs.declared.script.Script.{Script}
use Rattle.dialogue_sched.specs.Took.{AllTook}
use Rattle.dialogue_sched.specs.Hall.{AllBegin}
use Rattle.dialogue_sched.specs.Reached.{Reached, FromStart, StepsOn, HandsOn, Tells}
use Rattle.dialogue_sched.proofs.Pairing.{no_some, some_of}
use Rattle.dialogue_sched.proofs.Running.{Took_lives, Took_says}

begun : (n : ℕ) (ss : List Script) (ks : List Kept) → AllBegin ss ks → Reached n ss [] ks
begun n [] [] b = tt
begun n [] (k ∷ ks) b = absurd b
begun n (s ∷ ss) [] b = absurd b
begun n (s ∷ ss) (k ∷ ks) b = (λ lives later. b.0.says lives later, begun (n + 1) ss ks b.1)

pub from_start : FromStart
from_start ss ks b = begun 1 ss ks b

after_append : (o : Option Event) (xs ys : List Event) → after_own o (xs ++ ys) ≡ after_own o xs ++ ys
after_append None xs ys = refl
after_append (Some e) xs ys = refl

pub own_append : (n : ℕ) (es fs : List HallEvent) → own n (es ++ fs) ≡ own n es ++ own n fs
own_append n [] fs = refl
own_append n (e ∷ es) fs = ap (after_own (own_of n e)) (own_append n es fs) ∙ after_append (own_of n e) (own n es) (own n fs)

steps : (n : ℕ) (ss : List Script) (es fs : List HallEvent) (ks ks' : List Kept) → Reached n ss es ks → AllTook n fs ks ks' → Reached n ss (es ++ fs) ks'
steps n [] es fs [] [] h t = tt
steps n [] es fs [] (k' ∷ ks') h t = absurd t
steps n [] es fs (k ∷ ks) ks' h t = absurd h
steps n (s ∷ ss) es fs [] ks' h t = absurd h
steps n (s ∷ ss) es fs (k ∷ ks) [] h t = absurd t
steps n (s ∷ ss) es fs (k ∷ ks) (k' ∷ ks') h t = (
  λ lives later.
      Took_says (own n fs) k k' t.0 lives later
      ∙ h.0 (Took_lives (own n fs) k k' t.0 lives) (own n fs ++ later)
      ∙ ap (meaning s.source s.settings) (sym (append_assoc (own n es) (own n fs) later))
      ∙ ap (λ (xs : List Event). meaning s.source s.settings (xs ++ later)) (sym (own_append n es fs)),
  steps (n + 1) ss es fs ks ks' h.1 t.1,
)

pub steps_on : StepsOn
steps_on ss es fs ks ks' h t = steps 1 ss es fs ks ks' h t

hands : (n i : ℕ) (ss : List Script) (es : List HallEvent) (request : Option Request) (ks : List Kept) (k k' : Kept) → Reached n ss es ks → slice_get ks i ≡ Some k → HandsOut k request k' → Reached n ss es (slice_set ks i k')
hands n zero [] es request [] k k' h got out = tt
hands n (suc i) [] es request [] k k' h got out = tt
hands n i [] es request (x ∷ ks) k k' h got out = absurd h
hands n i (s ∷ ss) es request [] k k' h got out = absurd h
hands n zero (s ∷ ss) es request (x ∷ ks) k k' h got out =
    let same : x ≡ k = some_of x k got in
    (λ lives later. out.says later ∙ sym (ap (λ (z : Kept). left z later) same) ∙ h.0 (subst (λ (z : Kept). IsTrue z.lives) (sym same) (subst (λ (b : Bool). IsTrue b) out.lives lives)) later, h.1)
hands n (suc i) (s ∷ ss) es request (x ∷ ks) k k' h got out = (h.0, hands (n + 1) i ss es request ks k k' h.1 got out)

pub hands_on : HandsOn
hands_on ss es i request ks k k' h got out = hands 1 i ss es request ks k k' h got out

told : (n i j : ℕ) (ss : List Script) (es : List HallEvent) (s : Script) (ks : List Kept) (k : Kept) (r : Report) → j ≡ n + i → Reached n ss es ks → slice_get ss i ≡ Some s → slice_get ks i ≡ Some k → Reports k r → (r ≡ meaning s.source s.settings (own j es)) ⊎ (r ≡ memory_report)
told n zero j [] es s ks k r e h here got reports = no_some s here
told n (suc i) j [] es s ks k r e h here got reports = no_some s here
told n i j (x ∷ ss) es s [] k r e h here got reports = absurd h
told n zero j (x ∷ ss) es s (y ∷ ks) k r e h here got reports =
    let number : n ≡ j = omega (arith, e) in
    reported k r (meaning s.source s.settings (own j es)) reports
    (λ lives.
    sym (ap (λ (z : Kept). left z []) (some_of y k got))
    ∙ h.0 (subst (λ (z : Kept). IsTrue z.lives) (sym (some_of y k got)) lives) []
    ∙ ap (meaning x.source x.settings) (append-nil (own n es))
    ∙ ap (λ (z : Script). meaning z.source z.settings (own n es)) (some_of x s here)
    ∙ ap (λ (m : ℕ). meaning s.source s.settings (own m es)) number)
told n (suc i) j (x ∷ ss) es s (y ∷ ks) k r e h here got reports = told (n + 1) i j ss es s ks k r (omega (arith, e)) h.1 here got reports

pub tells : Tells
tells ss es i s ks k r h here got reports = told 1 i (i + 1) ss es s ks k r (omega arith) h here got reports
