-- A hall, and the record of what it took.
use Rattle.std.specs.Prelude.{◌≡◌, ◌≢◌, ℕ, ◌≤◌, ◌<◌, nat_lt, List, [], ◌∷◌, ◌++◌, length, Bool, true, false, Option, None, Some}
use Rattle.std.specs.List.{AllByRecursion}
use Rattle.child_events.specs.declared.event.HallEvent.{HallEvent}
use Rattle.child_events.specs.declared.event.HallEvent.TheVariants as hall
use Rattle.dialogue_sched.specs.Refusal.{refusal_of}
use Rattle.dialogue_sched.specs.Took.{AllTook}
use Rattle.feed_rings.specs.Ends.{put_items, room, SameIn}
use Rattle.feed_rings.specs.declared.feed.FeedIn.{FeedIn}
use Rattle.child_desk.specs.declared.book.Book.{Book}
use Rattle.child_hands.specs.declared.log_item.LogItem.{LogItem}
use Rattle.child_hands.specs.declared.log_item.LogItem.TheVariants as item
use Rattle.child_hands.specs.Record.{moment_in, moment_at, events_in, ItemsAscendFrom}

-- The events that were put into the ring of a record, in order.
abbrev pub ring_log : FeedIn LogItem → List HallEvent
ring_log ring = events_in (put_items ring)

-- The record.
abbrev pub logged : Book → List HallEvent
logged book = ring_log book.log

-- There is room for an entry.
abbrev pub HasRoom : Book → Type 0
HasRoom book = 0 < room book.log

-- Only what is known about the room changed.
pub record Looks (old new : Book) : Type 0 where
  pub hall : new.hall ≡ old.hall
  pub ring : SameIn old.log new.log
  pub items : put_items new.log ≡ put_items old.log
  pub stamp : new.stamp ≡ old.stamp

-- A hall with this number of scripts takes each event, and no moment is after `last`.
abbrev pub AllTaken : ℕ → ℕ → List HallEvent → Type 0
AllTaken scripts last es = AllByRecursion (λ e. (refusal_of scripts e ≡ None) × (moment_in e ≤ last)) es

-- No moment is after `last`.
abbrev pub AllUntil : ℕ → List LogItem → Type 0
AllUntil last xs = AllByRecursion (λ x. moment_at x ≤ last) xs

-- The hall takes each recorded event. Moments in the ring don't decrease, and none is after the stamp.
pub record IsRecord (book : Book) : Type 0 where
  pub rises : ItemsAscendFrom 0 (put_items book.log)
  pub until : AllUntil book.stamp (put_items book.log)
  pub taken : AllTaken (length book.hall) book.stamp (logged book)

-- The hall took the event and it was recorded. Or the hall refuses it and nothing changed.
abbrev pub Enters : HallEvent → Bool → Book → Book → Type 0
Enters e true old new = (refusal_of (length old.hall) e ≡ None) × AllTook 1 (e ∷ []) old.hall new.hall × (logged new ≡ logged old ++ e ∷ []) × (new.stamp ≡ old.stamp) × SameIn old.log new.log × (put_items new.log ≡ put_items old.log ++ item.Event e ∷ [])
Enters e false old new = (new ≡ old) × (refusal_of (length old.hall) e ≢ None)

-- Whether a moment is after `last`, if there is one.
abbrev pub is_behind : ℕ → Option ℕ → Bool
is_behind moment None = false
is_behind moment (Some last) = nat_lt last moment
