-- The result of starting a reader.
use Rattle.std.specs.Prelude.{◌≡◌, ℕ}
use Rattle.std.specs.declared.io.traits.Read.{Ghosts as ReadGhosts}
use Rattle.child_hands.specs.declared.keeper.Keeper.{Ghosts}
use Rattle.child_hands.specs.declared.items.RingItem.{RingItem}
use Rattle.feed_rings.specs.declared.feed.FeedIn.{FeedIn}
use Rattle.child_hands.specs.declared.reader.Started.{Started}
use Rattle.child_hands.specs.declared.reader.Started.TheVariants.{Running, Refused}
use Rattle.child_hands.specs.Pumped.{IsRead}

module _ {K O : Type 0} {g : Ghosts K O} {r : ReadGhosts O} where
  -- A reader of the device runs for the child's ring, or the ring is finished.
  abbrev pub IsStarted : ℕ → ℕ → FeedIn (RingItem K O g r) → O → Started K O g r → Type 0
  IsStarted script child was out (Running handle) =
      (handle.promise.script ≡ script) × (handle.promise.child ≡ child) × (handle.promise.feed.value ≡ was) × (handle.promise.out.value ≡ out)
  IsStarted script child was out (Refused finished) = IsRead script child (r.remaining out) was finished
