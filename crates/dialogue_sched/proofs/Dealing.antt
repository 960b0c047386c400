-- Events that are dealt to the scripts that see them.
use Rattle.std.proofs.Common.{◌≡◌, ℕ, zero, suc, ◌+◌, ◌<◌, List, [], ◌∷◌, ◌++◌, length, replicate, Bool, true, false, refl, sym, ap, subst, ◌∙◌, arith, append-nil, Option, Some, None}
use Rattle.std.specs.Prelude.{slice_get, slice_set, ◌==◌, if◌then◌else◌}
use Rattle.std.proofs.lemmas.Bool.Decides.{nat_tests}
use Rattle.std.proofs.lemmas.List.{append_assoc}
use Rattle.child_events.specs.declared.event.What.{What}
use Rattle.child_events.specs.declared.event.Event.{Event}
use Rattle.child_events.specs.declared.event.Event.TheVariants as event
use Rattle.child_events.specs.declared.event.HallEvent.{HallEvent}
use Rattle.child_events.specs.declared.event.HallEvent.TheVariants as hall
use Rattle.child_events.specs.World.{own, own_of, after_own}
use Rattle.session.specs.Left.{Kept}
use Rattle.dialogue_sched.specs.Pairs.{Paired}
use Rattle.dialogue_sched.specs.Took.{AllTook}
use Rattle.dialogue_sched.specs.Shares.{dealt, dealt_all, AllTookShare}
use Rattle.dialogue_sched.proofs.Pairing.{no_some, some_of}

seen_mine : (n s c m : ℕ) (w : What) → s ≡ n → after_own (own_of n (hall.Child s c m w)) [] ≡ event.Child c m w ∷ []
seen_mine n s c m w e = let same : (s == n) ≡ true = grind (arith, nat_tests) in ap (λ (t : Bool). after_own (if t then Some (event.Child c m w) else None) []) same

seen_other : (n s c m : ℕ) (w : What) → (s ≡ n → ⊥) → after_own (own_of n (hall.Child s c m w)) [] ≡ []
seen_other n s c m w e = let other : (s == n) ≡ false = grind (arith, nat_tests) in ap (λ (t : Bool). after_own (if t then Some (event.Child c m w) else None) []) other

-- an event of a script before these, or behind them, is seen by none
pub dealt_none : (n s c m : ℕ) (w : What) (shares : List (List Event)) → ((i : ℕ) → i < length shares → s ≡ n + i → ⊥) → shares ≡ dealt n (hall.Child s c m w) shares
dealt_none n s c m w [] h = refl
dealt_none n s c m w (x ∷ xs) h =
    ap (λ (ys : List (List Event)). x ∷ ys) (dealt_none (n + 1) s c m w xs (λ i lt e. h (suc i) (omega (arith, lt)) (omega (arith, e))))
    ∙ ap (λ (es : List Event). es ∷ dealt (n + 1) (hall.Child s c m w) xs) (sym (append-nil x) ∙ ap (λ (es : List Event). x ++ es) (sym (seen_other n s c m w (λ e. h zero (omega arith) (omega (arith, e))))))

pub dealt_child : (n i s c m : ℕ) (w : What) (shares : List (List Event)) (old : List Event) → s ≡ n + i → slice_get shares i ≡ Some old → slice_set shares i (old ++ event.Child c m w ∷ []) ≡ dealt n (hall.Child s c m w) shares
dealt_child n zero s c m w [] old e got = no_some old got
dealt_child n (suc i) s c m w [] old e got = no_some old got
dealt_child n zero s c m w (x ∷ xs) old e got =
    ap (λ (es : List Event). (es ++ event.Child c m w ∷ []) ∷ xs) (sym (some_of x old got))
    ∙ ap (λ (es : List Event). (x ++ es) ∷ xs) (sym (seen_mine n s c m w (omega (arith, e))))
    ∙ ap (λ (ys : List (List Event)). (x ++ after_own (own_of n (hall.Child s c m w)) []) ∷ ys) (dealt_none (n + 1) s c m w xs (λ j lt same. absurd (omega (arith, e, same))))
dealt_child n (suc i) s c m w (x ∷ xs) old e got =
    ap (λ (ys : List (List Event)). x ∷ ys) (dealt_child (n + 1) i s c m w xs old (omega (arith, e)) got)
    ∙ ap (λ (es : List Event). es ∷ dealt (n + 1) (hall.Child s c m w) xs) (sym (append-nil x) ∙ ap (λ (es : List Event). x ++ es) (sym (seen_other n s c m w (λ same. absurd (omega (arith, e, same))))))

pub dealt_tick : (n m : ℕ) (olds news : List (List Event)) → Paired (λ (old new : List Event). new ≡ old ++ event.Tick m ∷ []) olds news → news ≡ dealt n (hall.Tick m) olds
dealt_tick n m [] [] h = refl
dealt_tick n m [] (y ∷ ys) h = absurd h
dealt_tick n m (x ∷ xs) [] h = absurd h
dealt_tick n m (x ∷ xs) (y ∷ ys) h = ap (λ (es : List Event). es ∷ ys) h.0 ∙ ap (λ (zs : List (List Event)). (x ++ event.Tick m ∷ []) ∷ zs) (dealt_tick (n + 1) m xs ys h.1)

after_more : (o : Option Event) (xs ys : List Event) → (xs ++ after_own o []) ++ ys ≡ xs ++ after_own o ys
after_more None xs ys = ap (λ (zs : List Event). zs ++ ys) (append-nil xs)
after_more (Some e) xs ys = append_assoc xs (e ∷ []) ys

-- the first script has what it saw, and then its own of these
first_dealt : (n : ℕ) (es : List HallEvent) (x : List Event) (xs : List (List Event)) → dealt_all n es (x ∷ xs) ≡ (x ++ own n es) ∷ dealt_all (n + 1) es xs
first_dealt n [] x xs = ap (λ (zs : List Event). zs ∷ xs) (sym (append-nil x))
first_dealt n (e ∷ es) x xs =
    first_dealt n es (x ++ after_own (own_of n e) []) (dealt (n + 1) e xs)
    ∙ ap (λ (zs : List Event). zs ∷ dealt_all (n + 1) es (dealt (n + 1) e xs)) (after_more (own_of n e) x (own n es))

dealt_len : (n k : ℕ) (es : List HallEvent) → length (dealt_all n es (replicate k [])) ≡ k
dealt_len n zero [] = refl
dealt_len n zero (e ∷ es) = dealt_len n zero es
dealt_len n (suc k) es = ap length (first_dealt n es [] (replicate k [])) ∙ ap suc (dealt_len (n + 1) k es)

pub shares_len : (n k : ℕ) (es : List HallEvent) (shares : List (List Event)) → shares ≡ dealt_all n es (replicate k []) → length shares ≡ k
shares_len n k es shares is = ap (λ (xs : List (List Event)). length xs) is ∙ dealt_len n k es

-- who took the shares of events took the events
pub took_dealt : (n k : ℕ) (es : List HallEvent) (olds news : List Kept) → AllTookShare (dealt_all n es (replicate k [])) olds news → AllTook n es olds news
took_dealt n zero [] [] [] h = tt
took_dealt n zero [] [] (y ∷ ys) h = absurd h
took_dealt n zero [] (x ∷ xs) ys h = absurd h
took_dealt n zero (e ∷ es) olds news h = none es olds news h
  where
    none : (fs : List HallEvent) (olds news : List Kept) → AllTookShare (dealt_all n fs []) olds news → AllTook n (e ∷ es) olds news
    none [] [] [] h = tt
    none [] [] (y ∷ ys) h = absurd h
    none [] (x ∷ xs) ys h = absurd h
    none (f ∷ fs) olds news h = none fs olds news h
took_dealt n (suc k) es olds news h = by_first (took_dealt (n + 1) k es) olds news (subst (λ (shares : List (List Event)). AllTookShare shares olds news) (first_dealt n es [] (replicate k [])) h)
  where
    by_first : ((xs ys : List Kept) → AllTookShare (dealt_all (n + 1) es (replicate k [])) xs ys → AllTook (n + 1) es xs ys) → (olds news : List Kept) → AllTookShare (own n es ∷ dealt_all (n + 1) es (replicate k [])) olds news → AllTook n es olds news
    by_first others [] news h = absurd h
    by_first others (x ∷ xs) [] h = absurd h
    by_first others (x ∷ xs) (y ∷ ys) h = (h.0, others xs ys h.1)
