-- The output of children, as their keepers gave it.
use Rattle.std.specs.Prelude.{◌≡◌, ◌⊎◌, ◌<◌, ℕ, ◌+◌, List, [], ◌∷◌, ◌++◌, map, Option, None, Some, ◌==◌, ◌&&◌, if◌then◌else◌}
use Rattle.std.specs.List.{concat}
use Rattle.std.specs.Io.KnownBytes.{Consumes, IsAtEnd}
use Rattle.std.specs.declared.io.traits.Read.{Ghosts as ReadGhosts}
use Rattle.child_events.specs.declared.event.Answer.{Answer}
use Rattle.child_events.specs.declared.event.Answer.TheVariants.{Ok}
use Rattle.child_events.specs.declared.event.Cause.{Cause}
use Rattle.child_events.specs.declared.event.What.{What}
use Rattle.child_events.specs.declared.event.What.TheVariants.{Out, Eof, ReadFail}
use Rattle.expect_core.specs.declared.request.Act.TheVariants.{Spawn}
use Rattle.expect_core.specs.declared.request.Request.{Request}
use Rattle.child_hands.specs.declared.items.RingItem.{RingItem}
use Rattle.child_hands.specs.declared.keeper.Keeper.{Ghosts}
use Rattle.child_hands.specs.Handed.{starts, spawn_call}
use Rattle.child_hands.specs.Pumped.{AllPieces, IsPumpList}

-- Pieces of 1 to 4,096 bytes, and then the end or a read failure. The pieces together are a prefix of these bytes, and
-- all of them at the end.
pub record IsOutputOf (bytes : Option (List ℕ)) (said : List What) : Type 0 where
  pub pieces : List (List ℕ)
  pub sizes : AllPieces pieces
  pub rest : Option (List ℕ)
  pub begins : Consumes bytes rest (concat pieces)
  pub last : ((said ≡ map (λ p. Out p) pieces ++ Eof ∷ []) × IsAtEnd rest) ⊎ ((cause : Cause) × (said ≡ map (λ p. Out p) pieces ++ ReadFail cause ∷ []))

-- The number of the call that first started a child. A keeper's calls after the first `n` gave these answers to these
-- requests.
abbrev pub started_by : ℕ → ℕ → List Answer → List Request → Option ℕ
started_by child n [] qs = None
started_by child n (a ∷ xs) [] = None
started_by child n (a ∷ xs) (q ∷ qs) = if (q.child == child) && starts q a then Some (n + 1) else started_by child (n + 1) xs qs

module _ (told : ℕ → ℕ → Request → Answer → Type 0) (gives : ℕ → ℕ → Option (List ℕ) → Type 0) where
  -- The keeper with this name gave these bytes in a call after the first `made`. It told that this call started the
  -- child.
  abbrev pub StartsWith : ℕ → ℕ → ℕ → Option (List ℕ) → Type 0
  StartsWith name made child bytes =
      (call : ℕ) × (words : List (List ℕ)) × (made < call) × ∥ told name call (record { child = child; act = Spawn words }) Ok ∥₁ × gives name call bytes

  -- The output `said` of a child, by the answers to its script's requests. If an answer started the child, it is output
  -- of the bytes that the keeper gave in that call. In any case it is empty, or output of bytes that the keeper gave
  -- when it started the child.
  pub record IsGiven (name made child : ℕ) (answers : List Answer) (requests : List Request) (said : List What) : Type 0 where
    pub started : (call : ℕ) → started_by child made answers requests ≡ Some call → (bytes : Option (List ℕ)) × gives name call bytes × IsOutputOf bytes said
    pub any : (said ≡ []) ⊎ ((bytes : Option (List ℕ)) × StartsWith name made child bytes × IsOutputOf bytes said)

module _ {K O : Type 0} {g : Ghosts K O} {r : ReadGhosts O} where
  -- The items that a child's reader put, by the answers that its hand put. If no answer started the child, there are
  -- none. Otherwise they are output of the bytes that the keeper gave in the call that first did.
  abbrev pub IsPut : ℕ → ℕ → ℕ → List (RingItem K O g r) → List (RingItem K O g r) → Type 0
  IsPut script name child put items =
      ((spawn_call child put ≡ None) × (items ≡ []))
      ⊎ ((call : ℕ) × (bytes : Option (List ℕ)) × (spawn_call child put ≡ Some call) × g.gives name call bytes × IsPumpList script child bytes items)
