-- Workers whose records are taken.
use Rattle.std.proofs.Common.{◌≡◌, ℕ, suc, ◌+◌, List, [], ◌∷◌, ◌++◌, length, refl, sym, ap, subst, ◌∙◌, append_assoc, append-nil, arith}
use Rattle.feed_rings.specs.Ends.{IsPair, SameIn, SameOut}
use Rattle.feed_rings.specs.declared.feed.FeedIn.{FeedIn}
use Rattle.feed_rings.specs.declared.feed.FeedOut.{FeedOut}
use Rattle.child_hands.specs.declared.log_item.LogItem.{LogItem}
use Rattle.run_records.specs.declared.reel.Reel.{Reel}
use Rattle.run_records.specs.Merged.{AllPaired, SameRings, ArePairs}
use Rattle.child_serve.specs.Teams.{Handle, IsRingOf, AreRingsOf, AreLogsOf}
use Rattle.child_serve.proofs.Pairs.{paired_more}

pub then_in : (a b c : FeedIn LogItem) → SameIn a b → SameIn b c → SameIn a c
then_in a b c f h = (h.0 ∙ f.0, h.1 ∙ f.1, h.2 ∙ f.2, h.3 ∙ f.3)

-- the ring of a worker's record, from where it was handed in to where it is handed on
pub kept_in : (seat was now : FeedIn LogItem) (log : FeedIn LogItem) → was ≡ seat → SameIn was now → log ≡ now → SameIn seat log
kept_in seat was now log first same last = subst (λ (f : FeedIn LogItem). SameIn f log) first (subst (SameIn was) (sym last) same)

pair_on : (f h : FeedIn LogItem) (a b : FeedOut LogItem) → IsPair f a → SameOut a b → SameIn f h → IsPair h b
pair_on f h a b p s t = (s.0 ∙ p.0 ∙ sym t.0, s.1 ∙ p.1 ∙ sym t.1, s.2 ∙ p.2 ∙ sym t.2, s.3 ∙ p.3 ∙ sym t.3)

module _ {K C : Type 0} where
  -- where the ring of each worker stays what it was, at both ends, the ends are still pairs
  pub pairs_all : (w : ℕ) (hs : List (Handle K C)) (was now : List Reel) (logs : List (FeedIn LogItem)) → AllPaired (λ v h r. IsRingOf h r) w hs was → AllPaired (λ v r s. SameOut r.out s.out) w was now →
      AllPaired (λ v h log. SameIn h.promise.log.value log) w hs logs → AllPaired (λ v log r. IsPair log r.out) w logs now
  pairs_all w [] [] [] [] rings same kept = tt
  pairs_all w [] [] [] (l ∷ logs) rings same kept = absurd kept
  pairs_all w [] [] (s ∷ now) logs rings same kept = absurd same
  pairs_all w [] (r ∷ was) now logs rings same kept = absurd rings
  pairs_all w (h ∷ hs) [] now logs rings same kept = absurd rings
  pairs_all w (h ∷ hs) (r ∷ was) [] logs rings same kept = absurd same
  pairs_all w (h ∷ hs) (r ∷ was) (s ∷ now) [] rings same kept = absurd kept
  pairs_all w (h ∷ hs) (r ∷ was) (s ∷ now) (l ∷ logs) rings same kept =
      (pair_on h.promise.log.value l r.out s.out rings.0 same.0 kept.0, pairs_all (w + 1) hs was now logs rings.1 same.1 kept.1)

  -- the rings of those that were joined
  abbrev pub LogsTo : List (Handle K C) → List (FeedIn LogItem) → List (Handle K C) → Type 0
  LogsTo hs logs rest = (before : List (Handle K C)) × (hs ≡ before ++ rest) × AreLogsOf before logs

  pub logs_next : (hs rest rest' : List (Handle K C)) (logs logs' : List (FeedIn LogItem)) (h : Handle K C) (log : FeedIn LogItem) → rest ≡ h ∷ rest' → logs' ≡ logs ++ log ∷ [] → SameIn h.promise.log.value log → LogsTo hs logs rest → LogsTo hs logs' rest'
  logs_next hs rest rest' logs logs' h log step more same (before, is, are) = (
    before ++ h ∷ [],
    is ∙ ap (λ (xs : List (Handle K C)). before ++ xs) step ∙ sym (append_assoc before (h ∷ []) rest'),
    subst (AreLogsOf (before ++ h ∷ [])) (sym more) (paired_more (λ w x l. SameIn x.promise.log.value l) 0 before logs h log are same),
  )

  pub logs_all : (hs rest : List (Handle K C)) (logs : List (FeedIn LogItem)) → length rest ≡ 0 → LogsTo hs logs rest → AreLogsOf hs logs
  logs_all hs [] logs none (before, is, are) = subst (λ (xs : List (Handle K C)). AreLogsOf xs logs) (sym (is ∙ append-nil before)) are
  logs_all hs (h ∷ rest) logs none to = absurd (omega (arith, none))
