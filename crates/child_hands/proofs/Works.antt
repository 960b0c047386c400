-- The places of the children, as answers are put and readers started.
use Rattle.std.proofs.Common.{◌≡◌, ◌≢◌, ℕ, zero, suc, ◌+◌, ◌<◌, List, [], ◌∷◌, ◌++◌, length, set, refl, sym, ◌∙◌, ap, arith, Option, None, Some, IfSome, subst, ◌⊎◌, inl, inr, append-nil}
use Rattle.std.proofs.lemmas.Bool.{cases_eq}
use Rattle.std.specs.List.{slice_get}
use Rattle.std.specs.declared.io.traits.Read.{Ghosts as ReadGhosts}
use Rattle.child_hands.specs.declared.keeper.Keeper.{Ghosts}
use Rattle.child_hands.specs.declared.items.RingItem.{RingItem}
use Rattle.feed_rings.specs.declared.feed.FeedIn.{FeedIn}
use Rattle.feed_rings.specs.declared.feed.Finished.{Finished}
use Rattle.feed_rings.specs.Ends.{SameIn, EndsRingOf, all_put, put_items}
use Rattle.child_hands.specs.declared.work.Work.{Work}
use Rattle.child_hands.specs.declared.work.Work.TheVariants.{Free, Ended}
use Rattle.child_hands.specs.declared.work.Fresh.{Fresh}
use Rattle.child_hands.specs.declared.work.Reader.{Reader}
use Rattle.child_hands.specs.declared.reader.Started.TheVariants.{Running}
use Rattle.child_hands.specs.Pumped.{IsRead}
use Rattle.child_hands.specs.Started.{IsStarted}
use Rattle.child_hands.specs.Handed.{PutsAt, spawn_call, IsWork, IsReader, AreReaders, ArePlaces, StartsAt, TakesPlace, KeepsWorks, KeepsPlaces, EndsReader}

-- a list after a write
slice_get-set_same : {X : Type 0} (xs : List X) (i : ℕ) (x : X) → i < length xs → slice_get (set xs i x) i ≡ Some x
slice_get-set_same [] i x within = absurd (omega arith)
slice_get-set_same (y ∷ xs) zero x within = refl
slice_get-set_same (y ∷ xs) (suc i) x within = slice_get-set_same xs i x (omega arith)

slice_get-set_other : {X : Type 0} (xs : List X) (i j : ℕ) (x : X) → j ≢ i → slice_get (set xs i x) j ≡ slice_get xs j
slice_get-set_other [] i j x other = refl
slice_get-set_other (y ∷ xs) zero zero x other = absurd (other refl)
slice_get-set_other (y ∷ xs) zero (suc j) x other = refl
slice_get-set_other (y ∷ xs) (suc i) zero x other = refl
slice_get-set_other (y ∷ xs) (suc i) (suc j) x other = slice_get-set_other xs i j x (λ e. other (ap suc e))

pub puts_set : {X : Type 0} (xs : List X) (i : ℕ) (x : X) → i < length xs → PutsAt i x xs (set xs i x)
puts_set xs i x within = record { here = slice_get-set_same xs i x within; others = λ j other. slice_get-set_other xs i j x other }

pub puts_again : {X : Type 0} (i : ℕ) (x y : X) (xs ys zs : List X) → PutsAt i x xs ys → PutsAt i y ys zs → PutsAt i y xs zs
puts_again i x y xs ys zs first then = record { here = then.here; others = λ j other. then.others j other ∙ first.others j other }

module _ {K O : Type 0} {g : Ghosts K O} {r : ReadGhosts O} where
  -- a place stays as long as its child's first start does
  pub work_moved : (s c n : ℕ) (put put' : List (RingItem K O g r)) (was : FeedIn (RingItem K O g r)) (work : Work K O g r)
      → spawn_call c put' ≡ spawn_call c put → IsWork s c n put was work → IsWork s c n put' was work
  work_moved s c n put put' was (Free fresh) same is = (is.0, same ∙ is.1)
  work_moved s c n put put' was (Ended None) same is = tt
  work_moved s c n put put' was (Ended (Some f)) same is = (is.0, (is.1.0, is.1.1, same ∙ is.1.2, is.1.3, is.1.4))

  -- what started stays started
  abbrev pub Grows : List (RingItem K O g r) → List (RingItem K O g r) → Type 0
  Grows put put' = (c k : ℕ) → spawn_call c put ≡ Some k → spawn_call c put' ≡ Some k

  grows_starting : (child call : ℕ) (put put' : List (RingItem K O g r)) → StartsAt child call put put' → Grows put put'
  grows_starting child call put put' starts c k is =
      elim (cases_eq c child) [
        | inl same ↦ let P : ℕ → Type 0 = λ m. spawn_call m put ≡ Some k in let Q : ℕ → Type 0 = λ m. spawn_call m put' ≡ Some k in subst Q (sym same) (starts.later k (subst P same is))
        | inr other ↦ starts.others c other ∙ is
      ]

  pub readers_moved : (s n : ℕ) (put put' : List (RingItem K O g r)) (feeds : List (FeedIn (RingItem K O g r))) (readers : List (Reader K O g r))
      → Grows put put' → AreReaders s n put feeds readers → AreReaders s n put' feeds readers
  readers_moved s n put put' feeds [] grows are = tt
  readers_moved s n put put' feeds (x ∷ xs) grows are =
      (λ was at. let is = are.0 was at in (is.0, grows (x.index + 1) is.0 is.1, is.2, is.3, is.4, is.5), readers_moved s n put put' feeds xs grows are.1)

  readers_more : (s n : ℕ) (put : List (RingItem K O g r)) (feeds : List (FeedIn (RingItem K O g r))) (readers : List (Reader K O g r)) (x : Reader K O g r)
      → AreReaders s n put feeds readers → IsReader s n put feeds x → AreReaders s n put feeds (readers ++ x ∷ [])
  readers_more s n put feeds [] x are is = (is, tt)
  readers_more s n put feeds (y ∷ readers) x are is = (are.0, readers_more s n put feeds readers x are.1 is)

  readers_less : (s n : ℕ) (put : List (RingItem K O g r)) (feeds : List (FeedIn (RingItem K O g r))) (readers : List (Reader K O g r)) (x : Reader K O g r)
      → AreReaders s n put feeds (readers ++ x ∷ []) → AreReaders s n put feeds readers × IsReader s n put feeds x
  readers_less s n put feeds [] x are = (tt, are.0)
  readers_less s n put feeds (y ∷ readers) x are = let rest = readers_less s n put feeds readers x are.1 in ((are.0, rest.0), rest.1)

  -- a reader for a child that has no place, or has had one
  pub works_without : (s child : ℕ) (bytes : Option (List ℕ)) (works : List (Work K O g r)) (readers : List (Reader K O g r))
      → ((i : ℕ) (work : Work K O g r) → slice_get works i ≡ Some work → i + 1 ≡ child → (fresh : Fresh K O g r) → work ≡ Free fresh → ⊥) → KeepsWorks s child bytes works readers works readers
  works_without s child bytes works readers away name call put put' feeds gives starts are = record {
    free = λ i was work at here. go i was work at here (cases_eq (i + 1) child) (are.free i was work at here);
    busy = readers_moved s name put put' feeds readers (grows_starting child call put put' starts) are.busy;
  }
    where
      go : (i : ℕ) (was : FeedIn (RingItem K O g r)) (work : Work K O g r) → slice_get feeds i ≡ Some was → slice_get works i ≡ Some work
          → (i + 1 ≡ child) ⊎ (i + 1 ≡ child → ⊥) → IsWork s (i + 1) name put was work → IsWork s (i + 1) name put' was work
      go i was (Free fresh) at here (inl same) is = absurd (away i (Free fresh) here same fresh refl)
      go i was (Ended None) at here (inl same) is = tt
      go i was (Ended (Some f)) at here (inl same) is = (is.0, (is.1.0, is.1.1, grows_starting child call put put' starts (i + 1) is.1.0 is.1.2, is.1.3, is.1.4))
      go i was work at here (inr other) is = work_moved s (i + 1) name put put' was work (starts.others (i + 1) other) is

  -- what was read into a child's ring, where the child was started by this call
  read_of : (s c name call : ℕ) (bytes : Option (List ℕ)) (put : List (RingItem K O g r)) (was feed : FeedIn (RingItem K O g r)) (finished : Option (Finished (RingItem K O g r)))
      → SameIn was feed → spawn_call c put ≡ Some call → g.gives name call bytes → IsRead s c bytes feed finished → IsWork s c name put was (Ended finished)
  read_of s c name call bytes put was feed None same started gives is = tt
  read_of s c name call bytes put was feed (Some f) same started gives is =
      let last : EndsRingOf feed f = is.0 in (
        (last.0 ∙ same.0, last.1 ∙ same.1, last.2 ∙ same.2, last.3 ∙ same.3),
        (call, bytes, started, gives, is.1),
      )

  -- a child's free place was taken, and all that can be read was put into its ring
  pub works_read : (s child index : ℕ) (bytes : Option (List ℕ)) (works works' : List (Work K O g r)) (readers : List (Reader K O g r)) (fresh : Fresh K O g r) (finished : Option (Finished (RingItem K O g r)))
      → child ≡ index + 1 → slice_get works index ≡ Some (Free fresh) → PutsAt index (Ended finished) works works' → IsRead s child bytes fresh.feed finished
      → KeepsWorks s child bytes works readers works' readers
  works_read s child index bytes works works' readers fresh finished number free puts is_read name call put put' feeds gives starts are = record {
    free = λ i was work at here. go i was work at here (cases_eq i index);
    busy = readers_moved s name put put' feeds readers (grows_starting child call put put' starts) are.busy;
  }
    where
      go : (i : ℕ) (was : FeedIn (RingItem K O g r)) (work : Work K O g r) → slice_get feeds i ≡ Some was → slice_get works' i ≡ Some work → (i ≡ index) ⊎ (i ≡ index → ⊥) → IsWork s (i + 1) name put' was work
      go i was work at here (inl same) =
          let P : ℕ → Type 0 = λ k. slice_get works' k ≡ Some work in
          let F : ℕ → Type 0 = λ k. slice_get feeds k ≡ Some was in
          let new : Some (Ended finished) ≡ Some work = sym puts.here ∙ subst P same here in
          let e : Ended finished ≡ work = cc in
          let old : IsWork s (index + 1) name put was (Free fresh) = are.free index was (Free fresh) (subst F same at) free in
          let none : spawn_call child put ≡ None = rw number old.1 in
          let W : Work K O g r → Type 0 = λ k. IsWork s (i + 1) name put' was k in
          let C : ℕ → Type 0 = λ k. IsWork s k name put' was (Ended finished) in
          let here_is : child ≡ i + 1 = omega (arith, number, same) in
          subst W e (subst C here_is (read_of s child name call bytes put' was fresh.feed finished old.0 (starts.first none) gives is_read))
      go i was work at here (inr other) =
          let old : slice_get works i ≡ Some work = sym (puts.others i other) ∙ here in
          work_moved s (i + 1) name put put' was work (starts.others (i + 1) (λ e. other (omega arith))) (are.free i was work at old)

  -- a child's free place was taken, and a reader was started
  pub works_placed : (s child index : ℕ) (works works' : List (Work K O g r)) (readers : List (Reader K O g r)) (fresh : Fresh K O g r) (out : O) (x : Reader K O g r)
      → child ≡ index + 1 → TakesPlace index fresh works works' → x.index ≡ index → IsStarted s child fresh.feed out (Running x.handle)
      → KeepsWorks s child (r.remaining out) works readers works' (readers ++ x ∷ [])
  works_placed s child index works works' readers fresh out x number takes at_index started name call put put' feeds gives starts are =
      let lost = works_read s child index (r.remaining out) works works' readers fresh None number takes.0 takes.1 tt name call put put' feeds gives starts are in record {
        free = lost.free;
        busy = readers_more s name put' feeds readers x lost.busy (λ was at.
            let F : ℕ → Type 0 = λ k. slice_get feeds k ≡ Some was in
            let free : IsWork s (index + 1) name put was (Free fresh) = are.free index was (Free fresh) (subst F at_index at) takes.0 in
            let none : spawn_call child put ≡ None = rw number free.1 in
            let C : ℕ → Type 0 = λ k. spawn_call k put' ≡ Some call in
            let G : O → Type 0 = λ k. g.gives name call (r.remaining k) in
            let S : FeedIn (RingItem K O g r) → Type 0 = λ k. SameIn was k in (
              call,
              subst C (number ∙ ap (λ k. k + 1) (sym at_index)) (starts.first none),
              subst G (sym started.3) gives,
              subst S (sym started.2) free.0,
              started.0,
              started.1 ∙ (number ∙ ap (λ k. k + 1) (sym at_index)),
            ));
      }

  -- what a reader's thread promised of its result
  abbrev pub Promised : Reader K O g r → Option (Finished (RingItem K O g r)) → Type 0
  Promised reader finished =
      IsRead reader.handle.promise.script reader.handle.promise.child (r.remaining reader.handle.promise.out.value) reader.handle.promise.feed.value finished

  pub ends_set : (reader : Reader K O g r) (works works' : List (Work K O g r)) (finished : Option (Finished (RingItem K O g r)))
      → Promised reader finished → PutsAt reader.index (Ended finished) works works' → EndsReader reader works works'
  ends_set reader works works' finished promised puts readers s name put feeds are =
      let split = readers_less s name put feeds readers reader are.busy in record {
        free = λ i was work at here. go i was work at here (cases_eq i reader.index);
        busy = split.0;
      }
    where
      go : (i : ℕ) (was : FeedIn (RingItem K O g r)) (work : Work K O g r) → slice_get feeds i ≡ Some was → slice_get works' i ≡ Some work
          → (i ≡ reader.index) ⊎ (i ≡ reader.index → ⊥) → IsWork s (i + 1) name put was work
      go i was work at here (inl same) =
          let P : ℕ → Type 0 = λ k. slice_get works' k ≡ Some work in
          let F : ℕ → Type 0 = λ k. slice_get feeds k ≡ Some was in
          let N : ℕ → Type 0 = λ k. IsWork s (k + 1) name put was (Ended finished) in
          let W : Work K O g r → Type 0 = λ k. IsWork s (i + 1) name put was k in
          let B : ℕ → Type 0 = λ k. IsRead k (reader.index + 1) (r.remaining reader.handle.promise.out.value) reader.handle.promise.feed.value finished in
          let C : ℕ → Type 0 = λ k. IsRead reader.handle.promise.script k (r.remaining reader.handle.promise.out.value) reader.handle.promise.feed.value finished in
          let new : Some (Ended finished) ≡ Some work = sym puts.here ∙ subst P same here in
          let e : Ended finished ≡ work = cc in
          let is = (readers_less s name put feeds readers reader are.busy).1 was (subst F same at) in
          let read : IsRead s (reader.index + 1) (r.remaining reader.handle.promise.out.value) reader.handle.promise.feed.value finished = subst B is.4 (subst C is.5 promised) in
          subst W e (subst N (sym same) (read_of s (reader.index + 1) name is.0 (r.remaining reader.handle.promise.out.value) put was reader.handle.promise.feed.value finished is.3 is.1 is.2 read))
      go i was work at here (inr other) = are.free i was work at (sym (puts.others i other) ∙ here)

  pub ends_none : (reader : Reader K O g r) (works : List (Work K O g r)) → EndsReader reader works works
  ends_none reader works readers s name put feeds are = record { free = are.free; busy = (readers_less s name put feeds readers reader are.busy).0 }

  pub ends_more : (w0 w w' : List (Work K O g r)) (r0 rs rs' : List (Reader K O g r)) (reader : Reader K O g r)
      → KeepsPlaces w0 r0 w rs → rs ≡ rs' ++ reader ∷ [] → EndsReader reader w w' → KeepsPlaces w0 r0 w' rs'
  ends_more w0 w w' r0 rs rs' reader kept split ends s name put feeds are =
      let P : List (Reader K O g r) → Type 0 = λ k. ArePlaces s name put feeds w k in
      ends rs' s name put feeds (subst P split (kept s name put feeds are))

  pub ends_empty : (w0 w : List (Work K O g r)) (r0 rs rs' : List (Reader K O g r)) → KeepsPlaces w0 r0 w rs → rs ≡ rs' ++ [] → KeepsPlaces w0 r0 w rs'
  ends_empty w0 w r0 rs rs' kept split s name put feeds are =
      let P : List (Reader K O g r) → Type 0 = λ k. ArePlaces s name put feeds w k in
      subst P (split ∙ append-nil rs') (kept s name put feeds are)

  -- a finished end is one of the ring as it was
  pub finished_from : (a b q : FeedIn (RingItem K O g r)) (finished : Option (Finished (RingItem K O g r))) → SameIn a b → q ≡ b
      → IfSome finished (λ f. EndsRingOf b f) → IfSome finished (λ f. all_put f ≡ put_items b) → IfSome finished (λ f. EndsRingOf a f × (all_put f ≡ put_items q))
  finished_from a b q None same is ring put = tt
  finished_from a b q (Some f) same is ring put =
      ((ring.0 ∙ same.0, ring.1 ∙ same.1, ring.2 ∙ same.2, ring.3 ∙ same.3), put ∙ ap (λ k. put_items k) (sym is))
