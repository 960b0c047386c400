-- What is left in rings is taken, place by place.
use Rattle.std.proofs.Common.{◌≡◌, ℕ, ◌+◌, ◌≤◌, ◌<◌, List, length, get_or, Some, refl, sym, ap, subst, ◌∙◌, arith}
use Rattle.std.specs.Prelude.{slice_get, slice_set}
use Rattle.child_hands.specs.declared.log_item.LogItem.{LogItem}
use Rattle.feed_rings.specs.Ends.{put_items, IsPair, LooksOn, SameOut}
use Rattle.feed_rings.specs.declared.feed.FeedIn.{FeedIn}
use Rattle.feed_rings.specs.declared.feed.FeedOut.{FeedOut}
use Rattle.run_records.specs.declared.reel.Reel.{Reel}
use Rattle.run_records.specs.Merged.{AllPaired, SameRings, ArePairs, AllTaken, taken_of}
use Rattle.run_records.proofs.Rows.{read_at, paired_same, paired_count, paired_at, paired_map, paired_put, paired_upto}

same_log : (a b : FeedIn LogItem) → Some a ≡ Some b → a ≡ b
same_log a b h = cc

looks_same : (l : FeedIn LogItem) → LooksOn l l
looks_same l = record { ring = (refl, refl, refl, refl); items = refl; places = omega arith }

looks_then : (a b c : FeedIn LogItem) → LooksOn a b → LooksOn b c → LooksOn a c
looks_then a b c f g = record {
  ring = (g.ring.0 ∙ f.ring.0, g.ring.1 ∙ f.ring.1, g.ring.2 ∙ f.ring.2, g.ring.3 ∙ f.ring.3);
  items = g.items ∙ f.items;
  places = let p = f.places in let q = g.places in omega (arith, p, q);
}

abbrev pub AllLookOn : List (FeedIn LogItem) → List (FeedIn LogItem) → Type 0
AllLookOn olds news = AllPaired (λ w old new. LooksOn old new) 0 olds news

pub look_same : (logs : List (FeedIn LogItem)) → AllLookOn logs logs
look_same = paired_same (λ w old new. LooksOn old new) (λ w l. looks_same l) 0

pub look_put : (olds news : List (FeedIn LogItem)) (i : ℕ) (x y : FeedIn LogItem) → slice_get news i ≡ Some x → LooksOn x y → AllLookOn olds news → AllLookOn olds (slice_set news i y)
look_put olds news i x y got goes = paired_put (λ w old new. LooksOn old new) (λ w old new. LooksOn old new) 0 i olds news x y (λ v a u d r. r) (λ a there r. looks_then a x y r goes) got

pair_of : (a b : FeedIn LogItem) (o p : FeedOut LogItem) → IsPair a o → LooksOn a b → SameOut o p → IsPair b p
pair_of a b o p pair looks out = (out.0 ∙ pair.0 ∙ sym looks.ring.0, out.1 ∙ pair.1 ∙ sym looks.ring.1, out.2 ∙ pair.2 ∙ sym looks.ring.2, out.3 ∙ pair.3 ∙ sym looks.ring.3)

module _ (logs₀ logs : List (FeedIn LogItem)) (reels₀ reels : List Reel) (pairs : ArePairs logs₀ reels₀) (looks : AllLookOn logs₀ logs) (rings : SameRings reels₀ reels) where
  -- as many of one as of the other
  pub as_many : (length logs ≡ length reels₀) × (length reels ≡ length reels₀)
  as_many =
      let a = paired_count (λ w log reel. IsPair log reel.out) 0 logs₀ reels₀ pairs in
      let b = paired_count (λ w old new. LooksOn old new) 0 logs₀ logs looks in
      (b ∙ sym a, paired_count (λ w a b. SameOut a.out b.out) 0 reels₀ reels rings)

  -- at each place they are of one ring, and what was put is what had been
  pub pair_at : (i : ℕ) (l : FeedIn LogItem) (r : Reel) → slice_get logs i ≡ Some l → slice_get reels i ≡ Some r → IsPair l r.out
  pair_at i l r got here =
      let a = paired_at (λ w old new. LooksOn old new) 0 i logs₀ logs l got looks in
      let b = paired_at (λ w x y. SameOut x.out y.out) 0 i reels₀ reels r here rings in
      let c = paired_at (λ w log reel. IsPair log reel.out) 0 i logs₀ reels₀ b.0 b.1 pairs in
      pair_of a.0 l b.0.out r.out (subst (λ (f : FeedIn LogItem). IsPair f b.0.out) (same_log c.0 a.0 (sym c.1 ∙ a.1)) c.2) a.2 b.2

  pub put_at : (i : ℕ) (l l₀ : FeedIn LogItem) → slice_get logs i ≡ Some l → slice_get logs₀ i ≡ Some l₀ → put_items l ≡ put_items l₀
  put_at i l l₀ got first =
      let a = paired_at (λ w old new. LooksOn old new) 0 i logs₀ logs l got looks in
      a.2.items ∙ ap (λ (f : FeedIn LogItem). put_items f) (same_log a.0 l₀ (sym a.1 ∙ first))

-- those before a place are taken to their end
abbrev pub TakenTo : ℕ → List (FeedIn LogItem) → List Reel → Type 0
TakenTo at logs reels = AllPaired (λ w log reel. w < at → taken_of reel ≡ put_items log) 0 logs reels

pub taken_first : (logs : List (FeedIn LogItem)) (reels : List Reel) → ArePairs logs reels → TakenTo 0 logs reels
taken_first logs reels pairs = paired_map (λ w log reel. IsPair log reel.out) (λ w log reel. w < 0 → taken_of reel ≡ put_items log) 0 logs reels (λ v a b le p lt. absurd (omega (arith, lt))) pairs

pub taken_next : (at : ℕ) (logs : List (FeedIn LogItem)) (reels : List Reel) (x y : Reel) → slice_get reels at ≡ Some x → ((l : FeedIn LogItem) → slice_get logs at ≡ Some l → taken_of y ≡ put_items l) → TakenTo at logs reels → TakenTo (at + 1) logs (slice_set reels at y)
taken_next at logs reels x y got all = paired_put (λ w log reel. w < at → taken_of reel ≡ put_items log) (λ w log reel. w < at + 1 → taken_of reel ≡ put_items log) 0 at logs reels x y
    (λ v a u d r lt. r (before v d lt)) (λ l there r lt. all l there) got
  where
    before : (v : ℕ) → (v ≡ 0 + at → ⊥) → v < at + 1 → v < at
    before v d lt = omega (arith, d, lt)

pub taken_last : (at : ℕ) (logs : List (FeedIn LogItem)) (reels : List Reel) → length logs ≤ at → TakenTo at logs reels → AllTaken logs reels
taken_last at logs reels le = paired_upto (λ log reel. taken_of reel ≡ put_items log) at 0 logs reels (omega (arith, le))
