-- The items that a child's reader puts into its ring.
use Rattle.std.specs.Prelude.{◌≡◌, ◌⊎◌, ℕ, ◌^◌, ◌≤◌, ◌<◌, List, [], ◌∷◌, ◌++◌, length, map, Option, IfSome}
use Rattle.std.specs.List.{concat, AllByRecursion}
use Rattle.std.specs.Io.KnownBytes.{Consumes, IsAtEnd}
use Rattle.std.specs.declared.io.traits.Read.{Ghosts as ReadGhosts}
use Rattle.child_events.specs.declared.counted.Counted.{Counted}
use Rattle.child_events.specs.declared.event.Cause.{Cause}
use Rattle.child_events.specs.declared.event.Cause.TheVariants.{Memory, Other}
use Rattle.child_hands.specs.declared.keeper.Keeper.{Ghosts}
use Rattle.child_hands.specs.declared.items.RingItem.{RingItem}
use Rattle.child_hands.specs.declared.items.RingItem.TheVariants.{Out, End, ReadFail}
use Rattle.feed_rings.specs.declared.feed.FeedIn.{FeedIn}
use Rattle.feed_rings.specs.declared.feed.Finished.{Finished}
use Rattle.feed_rings.specs.Ends.{all_put, EndsRingOf}

-- Each piece has 1 to 4,096 bytes.
abbrev pub AllPieces : List (List ℕ) → Type 0
AllPieces pieces = AllByRecursion (λ p. (1 ≤ length p) × (length p ≤ 4096)) pieces

-- The possible causes of a read failure: a read failed, memory was refused, or the limit on reads was reached.
abbrev pub FailsFor : {T : Type 0} → Counted T → Cause → Type 0
FailsFor device cause = ((cause ≡ Other) × (0 < device.failures)) ⊎ (cause ≡ Memory) ⊎ ((cause ≡ Other) × (2 ^ 40 ≤ device.calls))

module _ {K O : Type 0} {g : Ghosts K O} {r : ReadGhosts O} where
  -- Pieces as items of a script's child.
  abbrev pub outs_of : ℕ → ℕ → List (List ℕ) → List (RingItem K O g r)
  outs_of script child pieces = map (λ p. Out script child p) pieces

  -- The items put so far by a reader whose known bytes were `was`, with `rest` left.
  pub record PumpsSoFar (script child : ℕ) (was rest : Option (List ℕ)) (before items : List (RingItem K O g r)) : Type 0 where
    pub pieces : List (List ℕ)
    pub sizes : AllPieces pieces
    pub begins : Consumes was rest (concat pieces)
    pub put : items ≡ before ++ outs_of script child pieces

  -- The last item: the end if no byte is left, or a read failure.
  abbrev pub IsLast : {T : Type 0} → ℕ → ℕ → Option (List ℕ) → Counted T → RingItem K O g r → Type 0
  IsLast script child rest device x =
      ((x ≡ End script child) × IsAtEnd rest) ⊎ ((cause : Cause) × (x ≡ ReadFail script child cause) × FailsFor device cause)

  -- All items of a child, except the last one, x.
  abbrev pub PumpsAllBut : {T : Type 0} → ℕ → ℕ → Option (List ℕ) → Counted T → List (RingItem K O g r) → List (RingItem K O g r) → RingItem K O g r → Type 0
  PumpsAllBut script child bytes device before items x =
      (rest : Option (List ℕ)) × PumpsSoFar script child bytes rest before items × IsLast script child rest device x

  -- The pieces, joined, are the first bytes of the reader. The end follows if they are all of its bytes. Otherwise a
  -- read failure follows.
  pub record IsPumpList (script child : ℕ) (bytes : Option (List ℕ)) (items : List (RingItem K O g r)) : Type 0 where
    pub pieces : List (List ℕ)
    pub sizes : AllPieces pieces
    pub rest : Option (List ℕ)
    pub begins : Consumes bytes rest (concat pieces)
    pub last :
        ((items ≡ outs_of script child pieces ++ End script child ∷ []) × IsAtEnd rest)
        ⊎ ((cause : Cause) × (items ≡ outs_of script child pieces ++ ReadFail script child cause ∷ []))

  -- A read failure at the end has one of these causes.
  abbrev pub FailsOnlyFor : {T : Type 0} → Counted T → List (RingItem K O g r) → Type 0
  FailsOnlyFor device items =
      (put : List (RingItem K O g r)) (script child : ℕ) (cause : Cause) → items ≡ put ++ ReadFail script child cause ∷ [] → FailsFor device cause

  -- The items put into the ring, if they are available, are all of a child's output of these bytes.
  abbrev pub IsRead : ℕ → ℕ → Option (List ℕ) → FeedIn (RingItem K O g r) → Option (Finished (RingItem K O g r)) → Type 0
  IsRead script child bytes was finished = IfSome finished (λ f. EndsRingOf was f × IsPumpList script child bytes (all_put f))
