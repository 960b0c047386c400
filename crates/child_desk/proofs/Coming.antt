-- What is recorded in a turn, one thing after another.
use Rattle.std.proofs.Common.{◌≡◌, ◌⊎◌, inl, inr, ℕ, zero, suc, ◌+◌, ◌<◌, ◌≤◌, List, [], ◌∷◌, ◌++◌, length, Bool, true, false, ◌&&◌, Option, Some, None, Result, Ok, Err, refl, sym, ap, subst, ◌∙◌, append_assoc, append-nil, arith}
use Rattle.std.specs.Prelude.{slice_get, slice_set, nat_lt, nat_le, ◌==◌, OnOk, if◌then◌else◌}
use Rattle.std.specs.List.{AllByRecursion}
use Rattle.std.proofs.lemmas.Bool.{cases_eq}
use Rattle.std.proofs.lemmas.Bool.Decides.{nat_tests}
use Rattle.std.proofs.lemmas.Option.{slice_get_within}
use Rattle.std.specs.declared.io.traits.Read.{Ghosts as ReadGhosts}
use Rattle.child_events.specs.declared.event.Event.{Event}
use Rattle.child_events.specs.declared.event.Event.TheVariants as event
use Rattle.child_events.specs.declared.event.What.{What}
use Rattle.child_events.specs.declared.event.HallEvent.{HallEvent}
use Rattle.child_events.specs.declared.event.HallEvent.TheVariants as hall
use Rattle.child_events.specs.World.{own, after_own}
use Rattle.child_events.proofs.Worlds.{own-append}
use Rattle.expect_core.specs.declared.request.Request.{Request}
use Rattle.session.specs.Left.{Kept}
use Rattle.dialogue_sched.specs.Took.{Took, AllTook}
use Rattle.dialogue_sched.specs.Hall.{Requested}
use Rattle.dialogue_sched.specs.declared.script.Script.{Script}
use Rattle.dialogue_sched.specs.Refusal.{refusal_of}
use Rattle.child_hands.specs.declared.keeper.Keeper.{Ghosts}
use Rattle.child_desk.specs.declared.book.Book.{Book}
use Rattle.child_desk.specs.declared.line.ScriptState.{ScriptState}
use Rattle.child_desk.specs.declared.ends.Ends.{Ends}
use Rattle.child_desk.specs.Book.{Enters, logged}
use Rattle.child_desk.specs.Told.{Telling, Reply, replies_in, heard_of_hand, rings_of}
use Rattle.child_desk.specs.Line.{Keeping, answer_at, InLine, Leaves, KeepsAll}
use Rattle.child_desk.specs.Turn as Turn
use Rattle.child_desk.proofs.Places.{one_there, set_here, set_there}
use Rattle.child_desk.proofs.Answering.{replies_append, own_reply}
use Rattle.child_desk.proofs.Lining.{handed_at}

each_then : {X : Type 0} (P : X → Type 0) (xs ys : List X) → AllByRecursion P xs → AllByRecursion P ys → AllByRecursion P (xs ++ ys)
each_then P [] ys f h = h
each_then P (x ∷ xs) ys f h = (f.0, each_then P xs ys f.1 h)

each_weaker : {X : Type 0} (P Q : X → Type 0) → ((x : X) → P x → Q x) → (xs : List X) → AllByRecursion P xs → AllByRecursion Q xs
each_weaker P Q to [] f = tt
each_weaker P Q to (x ∷ xs) f = (to x f.0, each_weaker P Q to xs f.1)

-- what comes to one script is no other's
own_apart : (i at c m : ℕ) (w : What) → (i ≡ at → ⊥) → own (i + 1) (hall.Child (at + 1) c m w ∷ []) ≡ []
own_apart i at c m w other =
    let e : (at + 1 == i + 1) ≡ false = differs (at + 1) (i + 1) (λ h. other (omega (arith, h))) in
    ap (λ (t : Bool). after_own (if t then Some (event.Child c m w) else None) []) e
  where
    differs : (x y : ℕ) → (x ≡ y → ⊥) → (x == y) ≡ false
    differs x y d = grind (arith, nat_tests, d)

took_apart : (n i : ℕ) (e : HallEvent) (olds news : List Kept) → AllTook n (e ∷ []) olds news → own (n + i) (e ∷ []) ≡ [] → slice_get news i ≡ slice_get olds i
took_apart n i e [] [] t none = refl
took_apart n i e [] (y ∷ news) t none = absurd t
took_apart n i e (x ∷ olds) [] t none = absurd t
took_apart n zero e (x ∷ olds) (y ∷ news) t none =
    let number : n + 0 ≡ n = omega arith in
    ap (λ (k : Kept). Some k) (subst (λ (es : List Event). Took x es y) (ap (λ (m : ℕ). own m (e ∷ [])) (sym number) ∙ none) t.0)
took_apart n (suc i) e (x ∷ olds) (y ∷ news) t none = let number : n + 1 + i ≡ n + suc i = omega arith in took_apart (n + 1) i e olds news t.1 (ap (λ (m : ℕ). own m (e ∷ [])) number ∙ none)

pub comes_same : (at : ℕ) (old new : Book) → new.hall ≡ old.hall → logged new ≡ logged old → new.stamp ≡ old.stamp → Turn.Comes at old new
comes_same at old new h l s = record {
  more = [];
  log = l ∙ sym (append-nil (logged old));
  each = tt;
  stamp = s;
  others = λ i other. ap (λ (ks : List Kept). slice_get ks i) h;
}

pub comes_all : (at : ℕ) (book : Book) → Turn.Comes at book book
comes_all at book = comes_same at book book refl refl refl

pub comes_then : (at : ℕ) (a b c : Book) → Turn.Comes at a b → Turn.Comes at b c → Turn.Comes at a c
comes_then at a b c f g = record {
  more = f.more ++ g.more;
  log = g.log ∙ ap (λ (es : List HallEvent). es ++ g.more) f.log ∙ append_assoc (logged a) f.more g.more;
  each = each_then (Turn.CameTo a.stamp at) f.more g.more f.each (subst (λ (s : ℕ). AllByRecursion (Turn.CameTo s at) g.more) f.stamp g.each);
  stamp = g.stamp ∙ f.stamp;
  others = λ i other. g.others i other ∙ f.others i other;
}

pub comes_entered : (at c : ℕ) (w : What) (e : HallEvent) (old new : Book) → Enters e true old new → e ≡ hall.Child (at + 1) c old.stamp w → Turn.Comes at old new
comes_entered at c w e old new t is = record {
  more = e ∷ [];
  log = t.2;
  each = ((c, w, is), tt);
  stamp = t.3;
  others = λ i other. took_apart 1 i e old.hall new.hall t.1 (ap (λ (x : HallEvent). own (1 + i) (x ∷ [])) is ∙ (let number : 1 + i ≡ i + 1 = omega arith in ap (λ (m : ℕ). own m (hall.Child (at + 1) c old.stamp w ∷ [])) number) ∙ own_apart i at c old.stamp w other);
}

pub comes_tried : (at c : ℕ) (w : What) (e : HallEvent) (took : Bool) (old new : Book) → Enters e took old new → e ≡ hall.Child (at + 1) c old.stamp w → Turn.Comes at old new
comes_tried at c w e true old new t is = comes_entered at c w e old new t is
comes_tried at c w e false old new t is = subst (Turn.Comes at old) (sym t.0) (comes_all at old)

pub comes_asked : (at : ℕ) (request : Option Request) (old new : Book) → at < length old.hall → Requested (at + 1) old.hall request new.hall → logged new ≡ logged old → new.stamp ≡ old.stamp → Turn.Comes at old new
comes_asked at request old new lt req log stamp =
    let h = handed_at at request old.hall new.hall lt req in
    record {
      more = [];
      log = log ∙ sym (append-nil (logged old));
      each = tt;
      stamp = stamp;
      others = λ i other. ap (λ (ks : List Kept). slice_get ks i) h.4 ∙ set_there at i old.hall h.1 other;
    }

-- nothing of other scripts
own_each : (i at stamp : ℕ) (es : List HallEvent) → (i ≡ at → ⊥) → AllByRecursion (Turn.CameTo stamp at) es → own (i + 1) es ≡ []
own_each i at stamp [] other f = refl
own_each i at stamp (e ∷ es) other ((c, w, is), f) =
    own-append (i + 1) (e ∷ []) es
    ∙ ap (λ (xs : List Event). xs ++ own (i + 1) es) (ap (λ (x : HallEvent). own (i + 1) (x ∷ [])) is ∙ own_apart i at c stamp w other)
    ∙ own_each i at stamp es other f

pub own_elsewhere : (i at : ℕ) (old new : Book) → (i ≡ at → ⊥) → Turn.Comes at old new → own (i + 1) (logged new) ≡ own (i + 1) (logged old)
own_elsewhere i at old new other f =
    ap (own (i + 1)) f.log ∙ own-append (i + 1) (logged old) f.more ∙ ap (λ (xs : List Event). own (i + 1) (logged old) ++ xs) (own_each i at old.stamp f.more other f.each) ∙ append-nil (own (i + 1) (logged old))

-- a whole turn

pub to_none : (book : Book) → Turn.ComesTo book.stamp (logged book) book
to_none book = record { more = []; log = sym (append-nil (logged book)); each = tt; stamped = refl }

pub to_then : (at stamp : ℕ) (front : List HallEvent) (b c : Book) → Turn.ComesTo stamp front b → Turn.Comes at b c → Turn.ComesTo stamp front c
to_then at stamp front b c f g = record {
  more = f.more ++ g.more;
  log = g.log ∙ ap (λ (es : List HallEvent). es ++ g.more) f.log ∙ append_assoc front f.more g.more;
  each = each_then (Turn.Came stamp) f.more g.more f.each
      (each_weaker (Turn.CameTo b.stamp at) (Turn.Came stamp) (λ e come. (at + 1, come.0, come.1, come.2 ∙ ap (λ (s : ℕ). hall.Child (at + 1) come.0 s come.1) f.stamped)) g.more g.each);
  stamped = g.stamp ∙ f.stamped;
}

pub turns : (now : ℕ) (a b c : Book) → Turn.Ticks now a b → Turn.ComesTo b.stamp (logged b) c → Turn.Turns now a c
turns now a b c tick f = subst (λ (s : ℕ). Turn.ComesTo s (logged a ++ Turn.ticks a.stamp now) c) tick.1 (subst (λ (es : List HallEvent). Turn.ComesTo b.stamp es c) tick.0 f)

pub ok_too : {T E P : Type 0} (o : Result T E) → P → OnOk o P
ok_too (Ok x) p = p
ok_too (Err e) p = tt

-- a tick

and_true : (p q : Bool) → (p && q) ≡ true → (p ≡ true) × (q ≡ true)
and_true true true h = (refl, refl)
and_true true false h = absurd (let e : false ≡ true = h in cc)
and_true false q h = absurd (let e : false ≡ true = h in cc)

lt_said : (a b : ℕ) → nat_lt a b ≡ true → a < b
lt_said a b h = grind (arith, nat_tests)

pub later : (stamp now : ℕ) → Turn.goes_on stamp now ≡ true → stamp ≤ now
later stamp now h = let lt = lt_said stamp now (and_true (nat_lt stamp now) (nat_le now 9000000000000000) h).0 in omega (arith, lt)

pub tick_taken : (scripts stamp now : ℕ) → Turn.goes_on stamp now ≡ true → refusal_of scripts (hall.Tick now) ≡ None
tick_taken scripts stamp now h = rw ((and_true (nat_lt stamp now) (nat_le now 9000000000000000) h).1)

pub ticked : (now : ℕ) (old mid new : Book) → Turn.goes_on old.stamp now ≡ true → logged mid ≡ logged old → mid.stamp ≡ now → Enters (hall.Tick now) true mid new → Turn.Ticks now old new
ticked now old mid new h log stamp t = (
  t.2 ∙ ap (λ (es : List HallEvent). es ++ hall.Tick now ∷ []) log ∙ ap (λ (b : Bool). logged old ++ (if b then hall.Tick now ∷ [] else [])) (sym h),
  t.3 ∙ stamp ∙ ap (λ (b : Bool). if b then now else old.stamp) (sym h),
)

pub not_ticked : (now : ℕ) (book : Book) → Turn.goes_on book.stamp now ≡ false → Turn.Ticks now book book
not_ticked now book h = (
  sym (append-nil (logged book)) ∙ ap (λ (b : Bool). logged book ++ (if b then hall.Tick now ∷ [] else [])) (sym h),
  ap (λ (b : Bool). if b then now else book.stamp) (sym h),
)

-- answers that are heard

no_more : (at : ℕ) (es es' : List HallEvent) → replies_in (own (at + 1) es') ≡ replies_in (own (at + 1) es) → Turn.Replies at es [] es'
no_more at es es' same = same ∙ sym (append-nil (replies_in (own (at + 1) es)))

pub told_passed : (at : ℕ) (line : ScriptState) (t : Telling) (book : Book) → (Turn.IsAwaited line t → ⊥) → Turn.IsTold at line t book book
told_passed at line t book not = ([], no_more at (logged book) (logged book) refl, inr (not, refl))

pub told_awaited : (at : ℕ) (line : ScriptState) (t : Telling) (e : HallEvent) (old new : Book) → Turn.IsAwaited line t → e ≡ answer_at at t.request.child old.stamp t.answer → Enters e true old new → Turn.IsTold at line t old new
told_awaited at line t e old new awaited is entered = (
  record { child = t.request.child; answer = t.answer } ∷ [],
  ap (λ (es : List HallEvent). replies_in (own (at + 1) es)) entered.2 ∙ replies_append (at + 1) (logged old) (e ∷ [])
      ∙ ap (λ (xs : List Reply). replies_in (own (at + 1) (logged old)) ++ xs) (ap (λ (x : HallEvent). replies_in (own (at + 1) (x ∷ []))) is ∙ own_reply at t.request.child old.stamp t.answer),
  inl (awaited, refl),
)

pub hand_silent : (at : ℕ) (line : ScriptState) (told told' : List Telling) (es es' : List HallEvent) → told' ≡ told → replies_in (own (at + 1) es') ≡ replies_in (own (at + 1) es) → Turn.HearsHand at line told es told' es'
hand_silent at line told told' es es' same silent = record { more = []; heard = same ∙ sym (append-nil told); replies = []; recorded = no_more at es es' silent; entered = refl }

pub hand_told : (at : ℕ) (line : ScriptState) (t : Telling) (told told' : List Telling) (old mid new : Book) → told' ≡ told ++ t ∷ [] → logged mid ≡ logged old → Turn.IsTold at line t mid new → Turn.HearsHand at line told (logged old) told' (logged new)
hand_told at line t told told' old mid new is log (replies, recorded, entered) = record {
  more = t ∷ [];
  heard = is;
  replies = replies;
  recorded = subst (λ (es : List HallEvent). Turn.Replies at es replies (logged new)) log recorded;
  entered = entered;
}

pub hand_on : (at : ℕ) (line : ScriptState) (told told' told'' : List Telling) (x y z : List HallEvent) → Turn.HearsHand at line told x told' y → told'' ≡ told' → replies_in (own (at + 1) z) ≡ replies_in (own (at + 1) y) → Turn.HearsHand at line told x told'' z
hand_on at line told told' told'' x y z f same silent = record { more = f.more; heard = same ∙ f.heard; replies = f.replies; recorded = silent ∙ f.recorded; entered = f.entered }

pub hand_behind : (at : ℕ) (line : ScriptState) (told told' : List Telling) (x y z : List HallEvent) → replies_in (own (at + 1) y) ≡ replies_in (own (at + 1) x) → Turn.HearsHand at line told y told' z → Turn.HearsHand at line told x told' z
hand_behind at line told told' x y z silent f = record { more = f.more; heard = f.heard; replies = f.replies; recorded = f.recorded ∙ ap (λ (rs : List Reply). rs ++ f.replies) silent; entered = f.entered }

module _ {K O : Type 0} {g : Ghosts K O} {r : ReadGhosts O} where
  -- the script at a place of a desk

  pub elsewhere_set : (at : ℕ) (lines : List ScriptState) (ends : List (Ends K O g r)) (line' : ScriptState) (e' : Ends K O g r) → Turn.SameElsewhere at lines ends (slice_set lines at line') (slice_set ends at e')
  elsewhere_set at lines ends line' e' i other = (set_there at i lines line' other, set_there at i ends e' other)

  pub elsewhere_same : (at : ℕ) (lines : List ScriptState) (ends : List (Ends K O g r)) → Turn.SameElsewhere at lines ends lines ends
  elsewhere_same at lines ends i other = (refl, refl)

  pub hand_in : (at : ℕ) (lines : List ScriptState) (ends : List (Ends K O g r)) (line : ScriptState) (e e' : Ends K O g r) (old new : Book) → slice_get lines at ≡ Some line → slice_get ends at ≡ Some e →
      ((keeper : Keeping) (script : Script) → InLine (rings_of e) keeper script at line old → Turn.HearsHand at line (heard_of_hand e.answers) (logged old) (heard_of_hand e'.answers) (logged new)) → Turn.HearsHandIn at lines ends old (slice_set ends at e') new
  hand_in at lines ends line e e' old new here there hears keeper script l x got at_x is =
      let one : l ≡ line = one_there l line (sym got ∙ here) in
      let same : x ≡ e = one_there x e (sym at_x ∙ there) in
      let f = hears keeper script (subst (λ (y : Ends K O g r). InLine (rings_of y) keeper script at line old) same (subst (λ (m : ScriptState). InLine (rings_of x) keeper script at m old) one is)) in (
        e',
        set_here at ends e e' there,
        subst (λ (m : ScriptState). Turn.HearsHand at m (heard_of_hand x.answers) (logged old) (heard_of_hand e'.answers) (logged new)) (sym one)
            (subst (λ (y : Ends K O g r). Turn.HearsHand at line (heard_of_hand y.answers) (logged old) (heard_of_hand e'.answers) (logged new)) (sym same) f),
      )

  pub none_in : (at : ℕ) (lines : List ScriptState) (ends : List (Ends K O g r)) (book : Book) → Turn.HearsHandIn at lines ends book ends book
  none_in at lines ends book keeper script line e here there is =
      (e, there, hand_silent at line (heard_of_hand e.answers) (heard_of_hand e.answers) (logged book) (logged book) refl refl)

  pub asked_in : (at : ℕ) (lines : List ScriptState) (ends : List (Ends K O g r)) (line line' : ScriptState) (e e' : Ends K O g r) (new : Book) → slice_get lines at ≡ Some line → slice_get ends at ≡ Some e →
      Turn.HasAsked at line' e' new → Turn.HasAskedIn at (slice_set lines at line') (slice_set ends at e') new
  asked_in at lines ends line line' e e' new here there f l x got at_x =
      subst (λ (y : Ends K O g r). Turn.HasAsked at l y new) (one_there e' x (sym (set_here at ends e e' there) ∙ at_x))
      (subst (λ (m : ScriptState). Turn.HasAsked at m e' new) (one_there line' l (sym (set_here at lines line line' here) ∙ got)) f)

  -- nothing is there
  pub not_asked_in : (at : ℕ) (lines : List ScriptState) (ends : List (Ends K O g r)) (new : Book) → ((e : Ends K O g r) → slice_get ends at ≡ Some e → ⊥) → Turn.HasAskedIn at lines ends new
  not_asked_in at lines ends new none l x got at_x = absurd (none x at_x)

  -- each script in its turn

  abbrev pub AllHeard : List ScriptState → List (Ends K O g r) → Book → List (Ends K O g r) → Book → Type 0
  AllHeard lines ends old ends' new = (i : ℕ) → Turn.HearsHandIn i lines ends old ends' new

  -- from a place on nothing changed
  abbrev pub Behind : ℕ → List ScriptState → List (Ends K O g r) → Book → List ScriptState → List (Ends K O g r) → Book → Type 0
  Behind n lines ends old lines' ends' new = (i : ℕ) → n ≤ i → (slice_get lines' i ≡ slice_get lines i) × (slice_get ends' i ≡ slice_get ends i) × (own (i + 1) (logged new) ≡ own (i + 1) (logged old))

  abbrev pub AskedTo : ℕ → List ScriptState → List (Ends K O g r) → Book → Type 0
  AskedTo n lines ends book = (i : ℕ) → i < n → Turn.HasAskedIn i lines ends book

  pub behind_none : (lines : List ScriptState) (ends : List (Ends K O g r)) (book : Book) → Behind 0 lines ends book lines ends book
  behind_none lines ends book i le = (refl, refl, refl)

  pub asked_none : (lines : List ScriptState) (ends : List (Ends K O g r)) (book : Book) → AskedTo 0 lines ends book
  asked_none lines ends book i lt = absurd (omega (arith, lt))

  pub behind_step : (n : ℕ) (xs ys zs : List ScriptState) (ds es fs : List (Ends K O g r)) (a b c : Book) → Behind n xs ds a ys es b → Turn.SameElsewhere n ys es zs fs → Turn.Comes n b c → Behind (n + 1) xs ds a zs fs c
  behind_step n xs ys zs ds es fs a b c behind same come i le =
      let apart : i ≡ n → ⊥ = λ e. omega (arith, le, e) in
      let was = behind i (omega (arith, le)) in
      let now = same i apart in
      (now.0 ∙ was.0, now.1 ∙ was.1, own_elsewhere i n b c apart come ∙ was.2)

  pub heard_step : (n : ℕ) (xs ys zs : List ScriptState) (ds es fs : List (Ends K O g r)) (a b c : Book) → KeepsAll xs ds a ys es b → AllHeard xs ds a es b → Behind n xs ds a ys es b → Turn.SameElsewhere n ys es zs fs → Turn.Comes n b c →
      Turn.HearsHandIn n ys es b fs c → AllHeard xs ds a fs c
  heard_step n xs ys zs ds es fs a b c kept heard behind same come here i keeper script line e got there is = by_place (cases_eq i n)
    where
      elsewhere : (i ≡ n → ⊥) → (e' : Ends K O g r) × (slice_get fs i ≡ Some e') × Turn.HearsHand i line (heard_of_hand e.answers) (logged a) (heard_of_hand e'.answers) (logged c)
      elsewhere apart =
          let w = heard i keeper script line e got there is in
          (w.0, (same i apart).1 ∙ w.1, hand_on i line (heard_of_hand e.answers) (heard_of_hand w.0.answers) (heard_of_hand w.0.answers) (logged a) (logged b) (logged c) w.2 refl (ap replies_in (own_elsewhere i n b c apart come)))

      at_place : i ≡ n → (e' : Ends K O g r) × (slice_get fs i ≡ Some e') × Turn.HearsHand i line (heard_of_hand e.answers) (logged a) (heard_of_hand e'.answers) (logged c)
      at_place one =
          let was = behind i (omega (arith, one)) in
          let k = kept.each keeper script i line e got there is in
          let same_line : k.0 ≡ line = one_there k.0 line (sym k.2 ∙ was.0 ∙ got) in
          let same_end : k.1 ≡ e = one_there k.1 e (sym k.3 ∙ was.1 ∙ there) in
          let f = subst (λ (m : ℕ). Turn.HearsHandIn m ys es b fs c) (sym one) here keeper script line e (was.0 ∙ got) (was.1 ∙ there)
          (subst (λ (m : ScriptState). InLine (rings_of e) keeper script i m b) same_line (subst (λ (x : Ends K O g r). InLine (rings_of x) keeper script i k.0 b) same_end k.4)) in
          (f.0, f.1, hand_behind i line (heard_of_hand e.answers) (heard_of_hand f.0.answers) (logged a) (logged b) (logged c) (ap replies_in was.2) f.2)

      by_place : (i ≡ n) ⊎ (i ≡ n → ⊥) → (e' : Ends K O g r) × (slice_get fs i ≡ Some e') × Turn.HearsHand i line (heard_of_hand e.answers) (logged a) (heard_of_hand e'.answers) (logged c)
      by_place (inl one) = at_place one
      by_place (inr apart) = elsewhere apart

  asked_on : (i : ℕ) (line : ScriptState) (e : Ends K O g r) (b c : Book) → slice_get c.hall i ≡ slice_get b.hall i → Turn.HasAsked i line e b → Turn.HasAsked i line e c
  asked_on i line e b c same (inl waits) = inl waits
  asked_on i line e b c same (inr (inl over)) = inr (inl over)
  asked_on i line e b c same (inr (inr (inl sent))) = inr (inr (inl sent))
  asked_on i line e b c same (inr (inr (inr (waits, none)))) = inr (inr (inr ((λ k got. waits k (sym same ∙ got)), (λ k got. none k (sym same ∙ got)))))

  pub asked_step : (n : ℕ) (ys zs : List ScriptState) (es fs : List (Ends K O g r)) (b c : Book) → AskedTo n ys es b → Turn.SameElsewhere n ys es zs fs → Turn.Comes n b c → Turn.HasAskedIn n zs fs c → AskedTo (n + 1) zs fs c
  asked_step n ys zs es fs b c asked same come here i lt = by_place (cases_eq i n)
    where
      by_place : (i ≡ n) ⊎ (i ≡ n → ⊥) → Turn.HasAskedIn i zs fs c
      by_place (inl one) = subst (λ (m : ℕ). Turn.HasAskedIn m zs fs c) (sym one) here
      by_place (inr apart) = λ line e got there. asked_on i line e b c (come.others i apart) (asked i (omega (arith, lt, apart)) line e (sym (same i apart).0 ∙ got) (sym (same i apart).1 ∙ there))

  pub asked_all : (n : ℕ) (lines : List ScriptState) (ends : List (Ends K O g r)) (book : Book) → length lines ≤ n → AskedTo n lines ends book → (i : ℕ) → Turn.HasAskedIn i lines ends book
  asked_all n lines ends book all asked i line e got there = let within = slice_get_within lines i line got in asked i (omega (arith, within, all)) line e got there

  -- behind a tick
  pub heard_behind : (lines : List ScriptState) (ends ends' : List (Ends K O g r)) (a b c : Book) → Leaves a b → AllHeard lines ends b ends' c → AllHeard lines ends a ends' c
  heard_behind lines ends ends' a b c f heard i keeper script line e got there is =
      let w = heard i keeper script line e got there (f.lines (rings_of e) keeper script i line is) in
      (w.0, w.1, hand_behind i line (heard_of_hand e.answers) (heard_of_hand w.0.answers) (logged a) (logged b) (logged c) (f.answers (i + 1)) w.2)

  pub heard_left : (lines : List ScriptState) (ends : List (Ends K O g r)) (a b : Book) → Leaves a b → AllHeard lines ends a ends b
  heard_left lines ends a b f i keeper script line e got there is =
      (e, there, hand_silent i line (heard_of_hand e.answers) (heard_of_hand e.answers) (logged a) (logged b) refl (f.answers (i + 1)))
