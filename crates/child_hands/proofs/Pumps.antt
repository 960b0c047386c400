-- Lists of pieces that grow, and what a ring's end that has finished tells of them.
use Rattle.std.proofs.Common.{◌≡◌, ℕ, List, [], ◌∷◌, ◌++◌, refl, sym, ◌∙◌, ap, append_assoc, append-nil, Option, None, Some, IfSome, subst, inr}
use Rattle.std.proofs.lemmas.List.{map-append}
use Rattle.std.proofs.lemmas.List.Folds.{concat-append}
use Rattle.std.specs.List.{concat}
use Rattle.std.specs.Io.KnownBytes.{Consumes}
use Rattle.std.specs.declared.io.traits.Read.{Ghosts as ReadGhosts}
use Rattle.child_events.specs.declared.event.Cause.{Cause}
use Rattle.child_hands.specs.declared.keeper.Keeper.{Ghosts}
use Rattle.child_hands.specs.declared.items.RingItem.{RingItem}
use Rattle.child_hands.specs.declared.items.RingItem.TheVariants.{Out, ReadFail}
use Rattle.feed_rings.specs.declared.feed.FeedIn.{FeedIn}
use Rattle.feed_rings.specs.declared.feed.Finished.{Finished}
use Rattle.feed_rings.specs.Ends.{all_put, put_items, SameIn, EndsRingOf}
use Rattle.child_hands.specs.Pumped.{AllPieces, outs_of, PumpsSoFar, IsPumpList, IsRead}

pub consumes_more : (a b c : Option (List ℕ)) (xs ys : List ℕ) → Consumes a b xs → Consumes b c ys → Consumes a c (xs ++ ys)
consumes_more None b c xs ys p q = tt
consumes_more (Some as') None c xs ys p q = absurd p
consumes_more (Some as') (Some bs) None xs ys p q = absurd q
consumes_more (Some as') (Some bs) (Some cs) xs ys p q = p ∙ (ap (λ w. xs ++ w) q ∙ sym (append_assoc xs ys cs))

pub consumes_none : (a : Option (List ℕ)) → Consumes a a []
consumes_none None = tt
consumes_none (Some as') = refl

concat-snoc : (ps : List (List ℕ)) (p : List ℕ) → concat (ps ++ p ∷ []) ≡ concat ps ++ p
concat-snoc ps p = concat-append ps (p ∷ []) ∙ ap (λ w. concat ps ++ w) (append-nil p)

AllPieces-snoc : (ps : List (List ℕ)) (p : List ℕ) → AllPieces ps → AllPieces (p ∷ []) → AllPieces (ps ++ p ∷ [])
AllPieces-snoc [] p all is = is
AllPieces-snoc (x ∷ ps) p all is = (all.0, AllPieces-snoc ps p all.1 is)

module _ {K O : Type 0} {g : Ghosts K O} {r : ReadGhosts O} where
  -- one piece more, where the piece and the list are known by equations
  pub pumps_put : {s c : ℕ} {was mid : Option (List ℕ)} (rest : Option (List ℕ)) {before items : List (RingItem K O g r)} (items' : List (RingItem K O g r)) (p q : List ℕ)
      → PumpsSoFar s c was mid before items → Consumes mid rest q → p ≡ q → AllPieces (p ∷ []) → items' ≡ items ++ Out s c p ∷ [] → PumpsSoFar s c was rest before items'
  pumps_put {s} {c} {was} {mid} rest {before} {items} items' p q so more same is put = record {
    pieces = so.pieces ++ p ∷ [];
    sizes = AllPieces-snoc so.pieces p so.sizes is;
    begins = rw (concat-snoc so.pieces p, same) (consumes_more was mid rest (concat so.pieces) q so.begins more);
    put =
        put
        ∙ (ap (λ w. w ++ Out s c p ∷ []) so.put
        ∙ (append_assoc before (outs_of s c so.pieces) (Out s c p ∷ []) ∙ ap (λ w. before ++ w) (sym (map-append (λ q. Out s c q) so.pieces (p ∷ [])))));
  }

  -- a read failure alone
  given_up : (s c : ℕ) (bytes : Option (List ℕ)) (cause : Cause) → IsPumpList {K = K} {O = O} {g = g} {r = r} s c bytes (ReadFail s c cause ∷ [])
  given_up s c bytes cause = record { pieces = []; sizes = tt; rest = bytes; begins = consumes_none bytes; last = inr (cause, refl) }

  -- a ring's end that has finished behind a read failure alone
  pub read_given_up : (s c : ℕ) (cause : Cause) (was put : FeedIn (RingItem K O g r)) (finished : Option (Finished (RingItem K O g r)))
      → SameIn was put → put_items put ≡ ReadFail s c cause ∷ [] → IfSome finished (λ f. EndsRingOf put f) → IfSome finished (λ f. all_put f ≡ put_items put)
      → (bytes : Option (List ℕ)) → IsRead s c bytes was finished
  read_given_up s c cause was put None same items ring all bytes = tt
  read_given_up s c cause was put (Some f) same items ring all bytes =
      let P : List (RingItem K O g r) → Type 0 = λ xs. IsPumpList s c bytes xs in
      ((ring.0 ∙ same.0, ring.1 ∙ same.1, ring.2 ∙ same.2, ring.3 ∙ same.3), subst P (sym (all ∙ items)) (given_up s c bytes cause))
