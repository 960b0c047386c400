-- What a contract sees of the two ends of a ring, and of a putting end that has finished.
use Rattle.std.specs.Prelude.{◌≡◌, ◌≤◌, ℕ, List}
use Rattle.rtrb.specs.Ends.{SameRing}
use Rattle.rtrb.specs.Ring.{sent, known_free, received, known_items, all_sent}
use Rattle.feed_rings.specs.declared.feed.FeedIn.{FeedIn}
use Rattle.feed_rings.specs.declared.feed.FeedOut.{FeedOut}
use Rattle.feed_rings.specs.declared.feed.Finished.{Finished}

module _ {T : Type 0} where
  -- The items put so far, oldest first.
  abbrev pub put_items : FeedIn T → List T
  put_items f = sent f.producer

  -- The number of puts that are sure to succeed.
  abbrev pub room : FeedIn T → ℕ
  room f = known_free f.producer

  -- The items taken so far, oldest first.
  abbrev pub taken_items : FeedOut T → List T
  taken_items f = received f.consumer

  -- The items that the next takes are sure to return.
  abbrev pub seen_items : FeedOut T → List T
  seen_items f = known_items f.consumer

  -- All items that were ever put.
  abbrev pub all_put : Finished T → List T
  all_put f = all_sent f.ring

  -- The two ends belong to one ring.
  abbrev pub IsPair : FeedIn T → FeedOut T → Type 0
  IsPair i o = SameRing i.producer.end o.consumer.end

  -- Both are putting ends of the same ring.
  abbrev pub SameIn : FeedIn T → FeedIn T → Type 0
  SameIn a b = SameRing a.producer.end b.producer.end

  -- Both are taking ends of the same ring.
  abbrev pub SameOut : FeedOut T → FeedOut T → Type 0
  SameOut a b = SameRing a.consumer.end b.consumer.end

  -- The finished end belongs to the ring of this putting end.
  abbrev pub EndsRingOf : FeedIn T → Finished T → Type 0
  EndsRingOf i f = SameRing i.producer.end f.ring.end

  -- The finished end belongs to the ring of this taking end.
  abbrev pub IsFinishedOf : Finished T → FeedOut T → Type 0
  IsFinishedOf f o = SameRing f.ring.end o.consumer.end

  -- Nothing was put, and no place known to be free was lost.
  pub record LooksOn (a b : FeedIn T) : Type 0 where
    pub ring : SameIn a b
    pub items : put_items b ≡ put_items a
    pub places : room a ≤ room b
