-- Sessions over one event, and over a list of events.
use Rattle.std.proofs.Common.{◌≡◌, ℕ, zero, suc, ◌+◌, ◌≤◌, ◌<◌, List, [], ◌∷◌, length, drop, Bool, true, false, refl, sym, ap, subst, ◌∙◌, arith, Some, None}
use Rattle.std.specs.Prelude.{slice_get, slice_set, ◌==◌, if◌then◌else◌}
use Rattle.std.proofs.lemmas.Bool.Decides.{nat_tests}
use Rattle.child_events.specs.declared.event.What.{What}
use Rattle.child_events.specs.declared.event.Event.{Event}
use Rattle.child_events.specs.declared.event.Event.TheVariants as event
use Rattle.child_events.specs.declared.event.HallEvent.{HallEvent}
use Rattle.child_events.specs.declared.event.HallEvent.TheVariants as hall
use Rattle.child_events.specs.World.{own, after_own}
use Rattle.session.specs.Left.{Kept, Fed}
use Rattle.dialogue_sched.specs.Took.{Took, AllTook}
use Rattle.dialogue_sched.specs.Feeding.{AllFed}
use Rattle.dialogue_sched.specs.Shares.{AllTookShare}
use Rattle.dialogue_sched.proofs.Pairing.{no_some, some_of, no_cons, head_of, tail_of}

own_mine : (n s c m : ℕ) (w : What) → s ≡ n → own n (hall.Child s c m w ∷ []) ≡ event.Child c m w ∷ []
own_mine n s c m w e = let same : (s == n) ≡ true = grind (arith, nat_tests) in ap (λ (t : Bool). after_own (if t then Some (event.Child c m w) else None) []) same

own_other : (n s c m : ℕ) (w : What) → (s ≡ n → ⊥) → own n (hall.Child s c m w ∷ []) ≡ []
own_other n s c m w e = let other : (s == n) ≡ false = grind (arith, nat_tests) in ap (λ (t : Bool). after_own (if t then Some (event.Child c m w) else None) []) other

AllTook_same : (n : ℕ) (es : List HallEvent) (ks : List Kept) → ((k : ℕ) → n ≤ k → own k es ≡ []) → AllTook n es ks ks
AllTook_same n es [] h = tt
AllTook_same n es (k ∷ ks) h = (subst (λ z. Took k z k) (sym (h n (omega arith))) refl, AllTook_same (n + 1) es ks (λ j le. h j (omega arith)))

pub AllTook_tick : (n m : ℕ) (olds news : List Kept) → AllFed (event.Tick m) olds news → AllTook n (hall.Tick m ∷ []) olds news
AllTook_tick n m [] [] h = tt
AllTook_tick n m [] (b ∷ news) h = absurd h
AllTook_tick n m (a ∷ olds) [] h = absurd h
AllTook_tick n m (a ∷ olds) (b ∷ news) h = (h.0, AllTook_tick (n + 1) m olds news h.1)

pub AllTook_child : (n i s c m : ℕ) (w : What) (olds : List Kept) (old new : Kept) → s ≡ n + i → slice_get olds i ≡ Some old → Fed old (event.Child c m w ∷ []) new → AllTook n (hall.Child s c m w ∷ []) olds (slice_set olds i new)
AllTook_child n zero s c m w [] old new e got fed = no_some old got
AllTook_child n zero s c m w (a ∷ olds) old new e got fed = (
  subst (λ z. Took a z new) (sym (own_mine n s c m w (omega arith))) (subst (λ z. Took z (event.Child c m w ∷ []) new) (sym (some_of a old got)) (fed)),
  AllTook_same (n + 1) (hall.Child s c m w ∷ []) olds (λ k le. own_other k s c m w (λ same. absurd (omega arith))),
)
AllTook_child n (suc i) s c m w [] old new e got fed = no_some old got
AllTook_child n (suc i) s c m w (a ∷ olds) old new e got fed = (
  subst (λ z. Took a z a) (sym (own_other n s c m w (λ same. absurd (omega arith)))) refl,
  AllTook_child (n + 1) i s c m w olds old new (omega arith) got fed,
)

-- The sessions up to a place took their shares, and those from there on are as they were.
abbrev pub TookTo : ℕ → List (List Event) → List Kept → List Kept → Type 0
TookTo zero shares olds news = news ≡ olds
TookTo (suc i) shares [] news = news ≡ []
TookTo (suc i) [] (old ∷ olds) news = ⊥
TookTo (suc i) (es ∷ shares) (old ∷ olds) [] = ⊥
TookTo (suc i) (es ∷ shares) (old ∷ olds) (new ∷ news) = Took old es new × TookTo i shares olds news

pub took_set : (i : ℕ) (shares rest : List (List Event)) (es : List Event) (olds news : List Kept) (old new : Kept) → drop i shares ≡ es ∷ rest → TookTo i shares olds news → slice_get news i ≡ Some old → Took old es new → TookTo (suc i) shares olds (slice_set news i new)
took_set zero [] rest es olds news old new e h got took = no_cons es rest (sym e)
took_set zero (s ∷ shares) rest es [] [] old new e h got took = no_some old got
took_set zero (s ∷ shares) rest es [] (y ∷ ys) old new e h got took = no_cons y ys h
took_set zero (s ∷ shares) rest es (x ∷ xs) [] old new e h got took = no_some old got
took_set zero (s ∷ shares) rest es (x ∷ xs) (y ∷ ys) old new e h got took =
    (subst (λ z. Took z s new) (sym (some_of y old got) ∙ head_of y x ys xs h) (subst (λ z. Took old z new) (sym (head_of s es shares rest e)) took), tail_of y x ys xs h)
took_set (suc i) [] rest es olds news old new e h got took = no_cons es rest (sym e)
took_set (suc i) (s ∷ shares) rest es [] [] old new e h got took = no_some old got
took_set (suc i) (s ∷ shares) rest es [] (y ∷ ys) old new e h got took = no_cons y ys h
took_set (suc i) (s ∷ shares) rest es (x ∷ xs) [] old new e h got took = absurd h
took_set (suc i) (s ∷ shares) rest es (x ∷ xs) (y ∷ ys) old new e h got took = (h.0, took_set i shares rest es xs ys old new e h.1 got took)

pub took_shares : (i : ℕ) (shares : List (List Event)) (olds news : List Kept) → drop i shares ≡ [] → length shares ≡ length olds → TookTo i shares olds news → AllTookShare shares olds news
took_shares zero [] [] [] e same h = tt
took_shares zero [] [] (y ∷ ys) e same h = no_cons y ys h
took_shares zero [] (x ∷ xs) ys e same h = absurd (omega (arith, same))
took_shares zero (s ∷ shares) olds news e same h = no_cons s shares e
took_shares (suc i) [] [] [] e same h = tt
took_shares (suc i) [] [] (y ∷ ys) e same h = no_cons y ys h
took_shares (suc i) [] (x ∷ xs) ys e same h = absurd h
took_shares (suc i) (s ∷ shares) [] ys e same h = absurd (omega (arith, same))
took_shares (suc i) (s ∷ shares) (x ∷ xs) [] e same h = absurd h
took_shares (suc i) (s ∷ shares) (x ∷ xs) (y ∷ ys) e same h = (h.0, took_shares i shares xs ys e (omega (arith, same)) h.1)

-- a share more was taken from the rest
pub drop_one : (i : ℕ) (shares rest : List (List Event)) (es : List Event) → drop i shares ≡ es ∷ rest → drop (suc i) shares ≡ rest
drop_one zero [] rest es h = no_cons es rest (sym h)
drop_one zero (x ∷ xs) rest es h = tail_of x es xs rest h
drop_one (suc i) [] rest es h = no_cons es rest (sym h)
drop_one (suc i) (x ∷ xs) rest es h = drop_one i xs rest es h

pub drop_some : (i : ℕ) (shares rest : List (List Event)) (es : List Event) → drop i shares ≡ es ∷ rest → i < length shares
drop_some zero [] rest es h = no_cons es rest (sym h)
drop_some zero (x ∷ xs) rest es h = omega arith
drop_some (suc i) [] rest es h = no_cons es rest (sym h)
drop_some (suc i) (x ∷ xs) rest es h = let less = drop_some i xs rest es h in omega (arith, less)

-- where there is a place, a session is there
pub got_at : (i : ℕ) (ks : List Kept) → i < length ks → (k : Kept) × (slice_get ks i ≡ Some k)
got_at i [] lt = absurd (omega (arith, lt))
got_at zero (k ∷ ks) lt = (k, refl)
got_at (suc i) (k ∷ ks) lt = got_at i ks (omega (arith, lt))

-- the session at the place is untouched by an empty share
pub set_same : (i : ℕ) (ks : List Kept) (k : Kept) → slice_get ks i ≡ Some k → ks ≡ slice_set ks i k
set_same zero [] k got = no_some k got
set_same zero (x ∷ ks) k got = ap (λ (z : Kept). z ∷ ks) (some_of x k got)
set_same (suc i) [] k got = no_some k got
set_same (suc i) (x ∷ ks) k got = ap (λ (zs : List Kept). x ∷ zs) (set_same i ks k got)

-- some events were taken
pub took_some : (es : List Event) (old new : Kept) → (es ≡ [] → ⊥) → Fed old es new → Took old es new
took_some [] old new some fed = absurd (some refl)
took_some (e ∷ es) old new some fed = fed
