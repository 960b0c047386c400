-- What calls at a desk keep, one after another.
use Rattle.std.proofs.Common.{◌≡◌, ◌≢◌, ◌⊎◌, inl, inr, ℕ, zero, suc, ◌+◌, ◌≤◌, ◌<◌, List, [], ◌∷◌, ◌++◌, length, Bool, true, false, Option, Some, None, refl, sym, ap, subst, ◌∙◌, append-nil, arith}
use Rattle.std.specs.Prelude.{slice_get, slice_set, ◌==◌, IsTrue, Contains, MatchOption, is_some, if◌then◌else◌}
use Rattle.std.proofs.lemmas.Bool.{cases_eq}
use Rattle.child_events.specs.declared.event.Answer.{Answer}
use Rattle.child_events.specs.declared.event.HallEvent.{HallEvent}
use Rattle.child_events.specs.World.{own}
use Rattle.expect_core.specs.declared.request.Request.{Request}
use Rattle.session.specs.Left.{Kept}
use Rattle.dialogue_sched.specs.declared.script.Script.{Script}
use Rattle.dialogue_sched.specs.Took.{AllTook}
use Rattle.dialogue_sched.specs.Refusal.{refusal_of}
use Rattle.std.specs.declared.io.traits.Read.{Ghosts as ReadGhosts}
use Rattle.child_hands.specs.declared.keeper.Keeper.{Ghosts}
use Rattle.child_hands.specs.declared.items.RingItem.{RingItem}
use Rattle.feed_rings.specs.Ends.{put_items, taken_items, SameIn, SameOut}
use Rattle.feed_rings.specs.declared.feed.FeedIn.{FeedIn}
use Rattle.feed_rings.specs.declared.feed.FeedOut.{FeedOut}
use Rattle.child_desk.specs.declared.ends.Ends.{Ends as HandEnds}
use Rattle.child_desk.specs.Told.{Telling, Reply, Put, Asks, Stops, Rings, telling, asking, answers_in, replies_in, all_told, asked_of_hand, heard_of_hand, rings_of}
use Rattle.child_desk.specs.Turn.{HasNoRequest, Waits}
use Rattle.child_desk.specs.declared.book.Book.{Book}
use Rattle.child_hands.specs.declared.log_item.LogItem.{LogItem}
use Rattle.child_hands.specs.declared.log_item.LogItem.TheVariants as item
use Rattle.child_desk.specs.declared.line.ScriptState.{ScriptState}
use Rattle.child_desk.specs.Book.{Enters, IsRecord, AllUntil, AllTaken, Looks, logged, ring_log}
use Rattle.child_hands.specs.Record.{ItemsAscendFrom, moment_in, moment_at, events_in}
use Rattle.child_desk.specs.Line.{Keeping, IsInLine, InLine, Leaves, Keeps, SameRings, HearsNoHand, KeepsAll}
use Rattle.child_events.specs.declared.event.What.{What}
use Rattle.child_events.specs.declared.event.What.TheVariants as what
use Rattle.child_events.specs.declared.event.Event.TheVariants as event
use Rattle.child_events.specs.declared.event.HallEvent.TheVariants as hall
use Rattle.child_events.specs.World.{after_own}
use Rattle.tcl_host.specs.declared.ending.Ending.{Ending}
use Rattle.tcl_host.specs.declared.ending.Ending.TheVariants.{Waiting, Memory}
use Rattle.session.specs.declared.report.Report.{Report}
use Rattle.session.specs.Left.{left, HandsOut}
use Rattle.dialogue_sched.specs.Hall.{Requested, EndsAt, Ends}
use Rattle.child_desk.specs.Ends.{IsOutput, output_at}
use Rattle.child_desk.specs.Line.{answer_at, Goes, AllOver}
use Rattle.child_desk.proofs.Places.{nothing_there, one_there, set_here, set_there, set_length}
use Rattle.child_desk.proofs.Telling.{IsWithin}
use Rattle.child_desk.proofs.Answering.{own_reply, replies_append, no_replies}
use Rattle.child_desk.proofs.Hears.{same_out, then_out}
use Rattle.child_desk.proofs.Lining.{numbered, handed_at, more_told, answers_own, answers_other, asked_line, passed_line, answered_line, sent_line, ended_line, passes_all}

-- an item with the book's stamp makes no moment go back
rises_on : (least last : ℕ) (x : LogItem) (xs : List LogItem) → least ≤ last → ItemsAscendFrom least xs → AllUntil last xs → moment_at x ≡ last → ItemsAscendFrom least (xs ++ x ∷ [])
rises_on least last x [] le a u m = (subst (λ (n : ℕ). least ≤ n) (sym m) le, tt)
rises_on least last x (y ∷ xs) le a u m = (a.0, rises_on (moment_at y) last x xs u.0 a.1 u.1 m)

until_on : (last : ℕ) (x : LogItem) (xs : List LogItem) → AllUntil last xs → moment_at x ≡ last → AllUntil last (xs ++ x ∷ [])
until_on last x [] u m = (subst (λ (n : ℕ). n ≤ last) (sym m) (let le : last ≤ last = omega arith in le), tt)
until_on last x (y ∷ xs) u m = (u.0, until_on last x xs u.1 m)

pub until_later : (last later : ℕ) (xs : List LogItem) → last ≤ later → AllUntil last xs → AllUntil later xs
until_later last later [] le u = tt
until_later last later (x ∷ xs) le u = ((let m = u.0 in omega (arith, le, m)), until_later last later xs le u.1)

taken_on : (scripts last : ℕ) (e : HallEvent) (es : List HallEvent) → AllTaken scripts last es → refusal_of scripts e ≡ None → moment_in e ≡ last → AllTaken scripts last (es ++ e ∷ [])
taken_on scripts last e [] t r m = ((r, subst (λ (n : ℕ). n ≤ last) (sym m) (let le : last ≤ last = omega arith in le)), tt)
taken_on scripts last e (x ∷ es) t r m = (t.0, taken_on scripts last e es t.1 r m)

pub taken_later : (scripts last later : ℕ) (es : List HallEvent) → last ≤ later → AllTaken scripts last es → AllTaken scripts later es
taken_later scripts last later [] le t = tt
taken_later scripts last later (x ∷ es) le t = ((t.0.0, let m = t.0.1 in omega (arith, le, m)), taken_later scripts last later es le t.1)

took_length : (n : ℕ) (es : List HallEvent) (olds news : List Kept) → AllTook n es olds news → length news ≡ length olds
took_length n es [] [] t = refl
took_length n es [] (y ∷ news) t = absurd t
took_length n es (x ∷ olds) [] t = absurd t
took_length n es (x ∷ olds) (y ∷ news) t = ap suc (took_length (n + 1) es olds news t.1)

-- a ring stays what it is
pub same_ring : (f : FeedIn LogItem) → SameIn f f
same_ring f = (refl, refl, refl, refl)

pub then_ring : (a b c : FeedIn LogItem) → SameIn a b → SameIn b c → SameIn a c
then_ring a b c f g = (g.0 ∙ f.0, g.1 ∙ f.1, g.2 ∙ f.2, g.3 ∙ f.3)

entered_ring : (e : HallEvent) (took : Bool) (old new : Book) → Enters e took old new → SameIn old.log new.log
entered_ring e true old new t = t.4
entered_ring e false old new t = subst (λ (b : Book). SameIn old.log b.log) (sym t.0) (same_ring old.log)

pub entered_halls : (e : HallEvent) (took : Bool) (old new : Book) → Enters e took old new → length new.hall ≡ length old.hall
entered_halls e true old new t = took_length 1 (e ∷ []) old.hall new.hall t.1
entered_halls e false old new t = ap (λ (b : Book). length b.hall) t.0

pub entered_record : (e : HallEvent) (took : Bool) (old new : Book) → Enters e took old new → moment_in e ≡ old.stamp → IsRecord old → IsRecord new
entered_record e false old new t m r = subst IsRecord (sym t.0) r
entered_record e true old new t m r = record {
  rises = subst (ItemsAscendFrom 0) (sym t.5) (rises_on 0 old.stamp (item.Event e) (put_items old.log) (let z : 0 ≤ old.stamp = omega arith in z) r.rises r.until m);
  until = subst (λ (n : ℕ). AllUntil n (put_items new.log)) (sym t.3) (subst (AllUntil old.stamp) (sym t.5) (until_on old.stamp (item.Event e) (put_items old.log) r.until m));
  taken = subst (λ (n : ℕ). AllTaken (length new.hall) n (logged new)) (sym t.3)
      (subst (λ (n : ℕ). AllTaken n old.stamp (logged new)) (sym (took_length 1 (e ∷ []) old.hall new.hall t.1))
      (subst (AllTaken (length old.hall) old.stamp) (sym t.2) (taken_on (length old.hall) old.stamp e (logged old) r.taken t.0 m)));
}

pub leaves_same : (old new : Book) → Looks old new → Leaves old new
leaves_same old new f = record {
  lines = λ rings keeper script at line is. in_line_same rings keeper script at line is;
  answers = λ n. ap (λ (es : List HallEvent). replies_in (own n es)) (ap events_in f.items);
  book = λ r. record {
    rises = subst (ItemsAscendFrom 0) (sym f.items) r.rises;
    until = subst (λ (n : ℕ). AllUntil n (put_items new.log)) (sym f.stamp) (subst (AllUntil old.stamp) (sym f.items) r.until);
    taken = subst (λ (n : ℕ). AllTaken (length new.hall) n (logged new)) (sym f.stamp) (subst (λ (ks : List Kept). AllTaken (length ks) old.stamp (logged new)) (sym f.hall) (subst (AllTaken (length old.hall) old.stamp) (sym (ap events_in f.items)) r.taken));
  };
  halls = ap length f.hall;
  log = f.ring;
}
  where
    in_line_same : (rings : Rings) (keeper : Keeping) (script : Script) (at : ℕ) (line : ScriptState) → InLine rings keeper script at line old → InLine rings keeper script at line new
    in_line_same rings keeper script at line (k, here, is) =
        (k, ap (λ (ks : List Kept). slice_get ks at) f.hall ∙ here, subst (λ (es : List HallEvent). IsInLine rings keeper script line k (own (at + 1) es)) (sym (ap events_in f.items)) is)

pub leaves_then : (a b c : Book) → Leaves a b → Leaves b c → Leaves a c
leaves_then a b c f g = record {
  lines = λ rings keeper script at line is. g.lines rings keeper script at line (f.lines rings keeper script at line is);
  answers = λ n. g.answers n ∙ f.answers n;
  book = λ r. g.book (f.book r);
  halls = g.halls ∙ f.halls;
  log = then_ring a.log b.log c.log f.log g.log;
}

entered_silent : (e : HallEvent) (took : Bool) (old new : Book) → Enters e took old new → ((n : ℕ) → answers_in (own n (e ∷ [])) ≡ []) → (n : ℕ) → replies_in (own n (logged new)) ≡ replies_in (own n (logged old))
entered_silent e false old new t none n = ap (λ (b : Book). replies_in (own n (logged b))) t.0
entered_silent e true old new t none n =
    ap (λ (es : List HallEvent). replies_in (own n es)) t.2
    ∙ replies_append n (logged old) (e ∷ [])
    ∙ ap (λ (xs : List Reply). replies_in (own n (logged old)) ++ xs) (no_replies (own n (e ∷ [])) (none n))
    ∙ append-nil (replies_in (own n (logged old)))

-- an event that answers nothing
pub leaves_entered : (e : HallEvent) (took : Bool) (old new : Book) → Enters e took old new → ((n : ℕ) → answers_in (own n (e ∷ [])) ≡ []) → moment_in e ≡ old.stamp → Leaves old new
leaves_entered e took old new t none m = record {
  lines = λ rings keeper script at line is. passes_all e took old new t rings keeper script at line (none (at + 1)) is;
  answers = entered_silent e took old new t none;
  book = entered_record e took old new t m;
  halls = entered_halls e took old new t;
  log = entered_ring e took old new t;
}

pub keeps_left : (rings : Rings) (at : ℕ) (line : ScriptState) (old new : Book) → Leaves old new → Keeps rings rings at line old line new
keeps_left rings at line old new f = record {
  here = λ keeper script is. f.lines rings keeper script at line is;
  others = λ theirs keeper script i other differs is. f.lines theirs keeper script i other is;
  book = f.book;
  halls = f.halls;
  log = f.log;
}

pub keeps_then : (rs ss ts : Rings) (at : ℕ) (x y z : ScriptState) (a b c : Book) → Keeps rs ss at x a y b → Keeps ss ts at y b z c → Keeps rs ts at x a z c
keeps_then rs ss ts at x y z a b c f g = record {
  here = λ keeper script is. g.here keeper script (f.here keeper script is);
  others = λ theirs keeper script i other differs is. g.others theirs keeper script i other differs (f.others theirs keeper script i other differs is);
  book = λ r. g.book (f.book r);
  halls = g.halls ∙ f.halls;
  log = then_ring a.log b.log c.log f.log g.log;
}

module _ {K O : Type 0} {g : Ghosts K O} {r : ReadGhosts O} where
  -- more was told in a script's rings, or put
  pub rings_told : (e e' : HandEnds K O g r) (more : List Telling) → heard_of_hand e'.answers ≡ heard_of_hand e.answers ++ more → asked_of_hand e' ≡ asked_of_hand e → rings_of e' ≡ telling (rings_of e) more
  rings_told e e' more told asked = ap (λ (ts : List Telling). record { told = ts; asked = asked_of_hand e' }) told ∙ ap (λ (ps : List Put). record { told = heard_of_hand e.answers ++ more; asked = ps }) asked

  pub rings_asked : (e e' : HandEnds K O g r) (more : List Put) → e'.answers ≡ e.answers → asked_of_hand e' ≡ asked_of_hand e ++ more → rings_of e' ≡ asking (rings_of e) more
  rings_asked e e' more same asked = ap (λ (o : FeedOut (RingItem K O g r)). record { told = heard_of_hand o; asked = asked_of_hand e' }) same ∙ ap (λ (ps : List Put). record { told = heard_of_hand e.answers; asked = ps }) asked

  pub rings_kept : (e e' : HandEnds K O g r) → heard_of_hand e'.answers ≡ heard_of_hand e.answers → asked_of_hand e' ≡ asked_of_hand e → rings_of e' ≡ rings_of e
  rings_kept e e' told asked = ap (λ (ts : List Telling). record { told = ts; asked = asked_of_hand e' }) told ∙ ap (λ (ps : List Put). record { told = heard_of_hand e.answers; asked = ps }) asked

  rings_same : (ends : List (HandEnds K O g r)) → SameRings ends ends
  rings_same ends at e here = (e, here, same_out e.answers)

  rings_then : (a b c : List (HandEnds K O g r)) → SameRings a b → SameRings b c → SameRings a c
  rings_then a b c f h at e here =
      let p = f at e here in
      let q = h at p.0 p.1 in
      (q.0, q.1, then_out e.answers p.0.answers q.0.answers p.2 q.2)

  rings_set : (at : ℕ) (ends : List (HandEnds K O g r)) (e e' : HandEnds K O g r) → slice_get ends at ≡ Some e → SameOut e.answers e'.answers → SameRings ends (slice_set ends at e')
  rings_set at ends e e' here ring n x got = by_place (cases_eq n at)
    where
      by_place : (n ≡ at) ⊎ (n ≡ at → ⊥) → (x' : HandEnds K O g r) × (slice_get (slice_set ends at e') n ≡ Some x') × SameOut x.answers x'.answers
      by_place (inl same) =
          let one : e ≡ x = one_there e x (sym here ∙ subst (λ (k : ℕ). slice_get ends k ≡ Some x) same got) in
          (e', subst (λ (k : ℕ). slice_get (slice_set ends at e') k ≡ Some e') (sym same) (set_here at ends e e' here), subst (λ (y : HandEnds K O g r). SameOut y.answers e'.answers) one ring)
      by_place (inr other) = (x, set_there at n ends e' other ∙ got, same_out x.answers)

  pub all_left : (lines : List ScriptState) (ends : List (HandEnds K O g r)) (old new : Book) → Leaves old new → KeepsAll lines ends old lines ends new
  all_left lines ends old new f = record {
    each = λ keeper script at line e here there is. (line, e, here, there, f.lines (rings_of e) keeper script at line is);
    rings = rings_same ends;
    book = f.book;
    halls = f.halls;
    log = f.log;
    count = refl;
  }

  pub all_same : (lines : List ScriptState) (ends : List (HandEnds K O g r)) (book : Book) → KeepsAll lines ends book lines ends book
  all_same lines ends book = record {
    each = λ keeper script at line e here there is. (line, e, here, there, is);
    rings = rings_same ends;
    book = λ b. b;
    halls = refl;
    log = same_ring book.log;
    count = refl;
  }

  pub all_then : (xs ys zs : List ScriptState) (ds es fs : List (HandEnds K O g r)) (a b c : Book) → KeepsAll xs ds a ys es b → KeepsAll ys es b zs fs c → KeepsAll xs ds a zs fs c
  all_then xs ys zs ds es fs a b c f h = record {
    each = λ keeper script at line e here there is.
        let p = f.each keeper script at line e here there is in
        h.each keeper script at p.0 p.1 p.2 p.3 p.4;
    rings = rings_then ds es fs f.rings h.rings;
    book = λ b. h.book (f.book b);
    halls = h.halls ∙ f.halls;
    log = then_ring a.log b.log c.log f.log h.log;
    count = h.count ∙ f.count;
  }

  -- nothing more was taken from the rings from hands

  pub no_hand_same : (ends : List (HandEnds K O g r)) → HearsNoHand ends ends
  no_hand_same ends = record { each = λ at e here. (e, here, same_out e.answers, refl, refl); count = refl }

  pub no_hand_then : (a b c : List (HandEnds K O g r)) → HearsNoHand a b → HearsNoHand b c → HearsNoHand a c
  no_hand_then a b c f h = record {
    each = λ at e here.
        let p = f.each at e here in
        let q = h.each at p.0 p.1 in
        (q.0, q.1, then_out e.answers p.0.answers q.0.answers p.2 q.2, q.3 ∙ p.3, q.4 ∙ p.4);
    count = h.count ∙ f.count;
  }

  pub no_hand_set : (at : ℕ) (ends : List (HandEnds K O g r)) (e e' : HandEnds K O g r) → slice_get ends at ≡ Some e → SameOut e.answers e'.answers → taken_items e'.answers ≡ taken_items e.answers → asked_of_hand e' ≡ asked_of_hand e → HearsNoHand ends (slice_set ends at e')
  no_hand_set at ends e e' here ring taken asked = record {
    each = λ n x got. by_place n x got (cases_eq n at);
    count = set_length at ends e';
  }
    where
      by_place : (n : ℕ) (x : HandEnds K O g r) → slice_get ends n ≡ Some x → (n ≡ at) ⊎ (n ≡ at → ⊥) → (x' : HandEnds K O g r) × (slice_get (slice_set ends at e') n ≡ Some x') × SameOut x.answers x'.answers × (taken_items x'.answers ≡ taken_items x.answers) × (asked_of_hand x' ≡ asked_of_hand x)
      by_place n x got (inl same) =
          let one : e ≡ x = one_there e x (sym here ∙ subst (λ (k : ℕ). slice_get ends k ≡ Some x) same got) in (
            e',
            subst (λ (k : ℕ). slice_get (slice_set ends at e') k ≡ Some e') (sym same) (set_here at ends e e' here),
            subst (λ (y : HandEnds K O g r). SameOut y.answers e'.answers) one ring,
            subst (λ (y : HandEnds K O g r). taken_items e'.answers ≡ taken_items y.answers) one taken,
            subst (λ (y : HandEnds K O g r). asked_of_hand e' ≡ asked_of_hand y) one asked,
          )
      by_place n x got (inr other) = (x, set_there at n ends e' other ∙ got, same_out x.answers, refl, refl)

  pub same_rings : (ends ends' : List (HandEnds K O g r)) → HearsNoHand ends ends' → SameRings ends ends'
  same_rings ends ends' h at e here = let p = h.each at e here in (p.0, p.1, p.2)

  -- scripts stay in their lines where nothing is taken from those rings
  pub all_still : (lines : List ScriptState) (a b : List (HandEnds K O g r)) (old new : Book) → Leaves old new → HearsNoHand a b → KeepsAll lines a old lines b new
  all_still lines a b old new f h = record {
    each = λ keeper script at line e here there is.
        let p = h.each at e there in (
          line,
          p.0,
          here,
          p.1,
          subst (λ (xs : List (RingItem K O g r)). InLine (record { told = all_told xs; asked = asked_of_hand p.0 }) keeper script at line new) (sym p.3)
              (subst (λ (ps : List Put). InLine (record { told = heard_of_hand e.answers; asked = ps }) keeper script at line new) (sym p.4) (f.lines (rings_of e) keeper script at line is)),
        );
    rings = same_rings a b h;
    book = f.book;
    halls = f.halls;
    log = f.log;
    count = refl;
  }

  -- the script at a place went on
  pub all_kept : (at : ℕ) (lines : List ScriptState) (ends : List (HandEnds K O g r)) (line line' : ScriptState) (e e' : HandEnds K O g r) (old new : Book) → slice_get lines at ≡ Some line → slice_get ends at ≡ Some e → SameOut e.answers e'.answers →
      Keeps (rings_of e) (rings_of e') at line old line' new → KeepsAll lines ends old (slice_set lines at line') (slice_set ends at e') new
  all_kept at lines ends line line' e e' old new here end ring f = record {
    each = λ keeper script i other x there got is. by_place i other x there got is (cases_eq i at);
    rings = rings_set at ends e e' end ring;
    book = f.book;
    halls = f.halls;
    log = f.log;
    count = set_length at lines line';
  }
    where
      -- what a script is in, at a place
      Goes : Keeping → Script → ℕ → Type 0
      Goes keeper script i = (l : ScriptState) × (y : HandEnds K O g r) × (slice_get (slice_set lines at line') i ≡ Some l) × (slice_get (slice_set ends at e') i ≡ Some y) × InLine (rings_of y) keeper script i l new

      by_place : {keeper : Keeping} {script : Script} (i : ℕ) (other : ScriptState) (x : HandEnds K O g r) → slice_get lines i ≡ Some other → slice_get ends i ≡ Some x → InLine (rings_of x) keeper script i other old → (i ≡ at) ⊎ (i ≡ at → ⊥) → Goes keeper script i
      by_place {keeper} {script} i other x there got is (inl same) =
          let one = one_there line other (sym here ∙ subst (λ (k : ℕ). slice_get lines k ≡ Some other) same there) in
          let other_end = one_there e x (sym end ∙ subst (λ (k : ℕ). slice_get ends k ≡ Some x) same got) in
          let was = subst (λ (y : HandEnds K O g r). InLine (rings_of y) keeper script at line old) (sym other_end)
          (subst (λ (l : ScriptState). InLine (rings_of x) keeper script at l old) (sym one) (subst (λ (k : ℕ). InLine (rings_of x) keeper script k other old) same is)) in
          subst (Goes keeper script) (sym same) (line', e', set_here at lines line line' here, set_here at ends e e' end, f.here keeper script was)
      by_place {keeper} {script} i line x there got is (inr other) =
          (line, x, set_there at i lines line' other ∙ there, set_there at i ends e' other ∙ got, f.others (rings_of x) keeper script i line other is)

-- a tick answers nothing
pub tick_silent : (m n : ℕ) → answers_in (own n (hall.Tick m ∷ [])) ≡ []
tick_silent m n = refl

-- what comes from a child answers nothing
pub output_silent : (s c m : ℕ) (w : What) → IsOutput w → (n : ℕ) → answers_in (own n (hall.Child s c m w ∷ [])) ≡ []
output_silent s c m w out n = by_script (s == n) w out
  where
    by_script : (t : Bool) (w : What) → IsOutput w → answers_in (after_own (if t then Some (event.Child c m w) else None) []) ≡ []
    by_script false w out = refl
    by_script true (what.Out piece) out = refl
    by_script true what.Eof out = refl
    by_script true (what.ReadFail cause) out = refl
    by_script true (what.Answer a) out = absurd out

-- a tick, in a book that was stamped for it
pub leaves_ticked : (now : ℕ) (old mid new : Book) → mid.hall ≡ old.hall → mid.log ≡ old.log → mid.stamp ≡ now → old.stamp ≤ now → Enters (hall.Tick now) true mid new → Leaves old new
leaves_ticked now old mid new h l s le t = leaves_then old mid new stamped (leaves_entered (hall.Tick now) true mid new t (tick_silent now) (sym s))
  where
    stamped : Leaves old mid
    stamped = record {
      lines = λ rings keeper script at line is. (is.0, ap (λ (ks : List Kept). slice_get ks at) h ∙ is.1, subst (λ (es : List HallEvent). IsInLine rings keeper script line is.0 (own (at + 1) es)) (sym (ap ring_log l)) is.2);
      answers = λ n. ap (λ (es : List HallEvent). replies_in (own n es)) (ap ring_log l);
      book = λ r. record {
        rises = subst (ItemsAscendFrom 0) (sym (ap put_items l)) r.rises;
        until = subst (λ (n : ℕ). AllUntil n (put_items mid.log)) (sym s) (until_later old.stamp now (put_items mid.log) le (subst (AllUntil old.stamp) (sym (ap put_items l)) r.until));
        taken = subst (λ (ks : List Kept). AllTaken (length ks) mid.stamp (logged mid)) (sym h) (subst (AllTaken (length old.hall) mid.stamp) (sym (ap ring_log l))
            (subst (λ (n : ℕ). AllTaken (length old.hall) n (logged old)) (sym s) (taken_later (length old.hall) old.stamp now (logged old) le r.taken)));
      };
      halls = ap length h;
      log = subst (SameIn old.log) (sym l) (same_ring old.log);
    }

pub events_event : (xs : List LogItem) (e : HallEvent) → events_in (xs ++ item.Event e ∷ []) ≡ events_in xs ++ e ∷ []
events_event [] e = refl
events_event (item.Event x ∷ xs) e = ap (λ (es : List HallEvent). x ∷ es) (events_event xs e)
events_event (item.Still m ∷ xs) e = events_event xs e

pub events_still : (xs : List LogItem) (m : ℕ) → events_in (xs ++ item.Still m ∷ []) ≡ events_in xs
events_still [] m = refl
events_still (item.Event x ∷ xs) m = ap (λ (es : List HallEvent). x ∷ es) (events_still xs m)
events_still (item.Still n ∷ xs) m = events_still xs m

-- nothing but that nothing earlier comes, in a book that was stamped for it
pub leaves_still : (now : ℕ) (old mid new : Book) → mid.hall ≡ old.hall → mid.log ≡ old.log → mid.stamp ≡ now → old.stamp ≤ now →
    new.hall ≡ mid.hall → new.stamp ≡ mid.stamp → SameIn mid.log new.log → put_items new.log ≡ put_items mid.log ++ item.Still now ∷ [] → Leaves old new
leaves_still now old mid new h l s le hall stamp ring put = record {
  lines = λ rings keeper script at line is. (is.0, ap (λ (ks : List Kept). slice_get ks at) (hall ∙ h) ∙ is.1, subst (λ (es : List HallEvent). IsInLine rings keeper script line is.0 (own (at + 1) es)) (sym same) is.2);
  answers = λ n. ap (λ (es : List HallEvent). replies_in (own n es)) same;
  book = λ r. record {
    rises = subst (ItemsAscendFrom 0) (sym items) (rises_on 0 now (item.Still now) (put_items old.log) (let z : 0 ≤ now = omega arith in z) r.rises (until_later old.stamp now (put_items old.log) le r.until) refl);
    until = subst (λ (n : ℕ). AllUntil n (put_items new.log)) (sym (stamp ∙ s)) (subst (AllUntil now) (sym items) (until_on now (item.Still now) (put_items old.log) (until_later old.stamp now (put_items old.log) le r.until) refl));
    taken = subst (λ (ks : List Kept). AllTaken (length ks) new.stamp (logged new)) (sym (hall ∙ h)) (subst (AllTaken (length old.hall) new.stamp) (sym same)
        (subst (λ (n : ℕ). AllTaken (length old.hall) n (logged old)) (sym (stamp ∙ s)) (taken_later (length old.hall) old.stamp now (logged old) le r.taken)));
  };
  halls = ap length (hall ∙ h);
  log = subst (λ (f : FeedIn LogItem). SameIn f new.log) l ring;
}
  where
    items : put_items new.log ≡ put_items old.log ++ item.Still now ∷ []
    items = put ∙ ap (λ (f : FeedIn LogItem). put_items f ++ item.Still now ∷ []) l

    same : logged new ≡ logged old
    same = ap events_in items ∙ events_still (put_items old.log) now

-- the hall's next request waits
pub keeps_asked : (rings : Rings) (at : ℕ) (line : ScriptState) (request : Option Request) (old new : Book) → at < length old.hall → line.awaited ≡ None → Requested (at + 1) old.hall request new.hall → new.log ≡ old.log → new.stamp ≡ old.stamp →
    Keeps rings rings at line old (record line { awaited = request }) new
keeps_asked rings at line request old new lt free req log stamp = record {
  here = λ keeper script is. asked_line rings keeper script at line request old new lt free req (ap ring_log log) is;
  others = λ us keeper script i other differs is. (
    is.0,
    ap (λ (ks : List Kept). slice_get ks i) h.4 ∙ set_there at i old.hall h.1 differs ∙ is.1,
    subst (λ (es : List HallEvent). IsInLine us keeper script other is.0 (own (i + 1) es)) (sym (ap ring_log log)) is.2,
  );
  book = λ r. record {
    rises = subst (ItemsAscendFrom 0) (sym (ap put_items log)) r.rises;
    until = subst (λ (n : ℕ). AllUntil n (put_items new.log)) (sym stamp) (subst (AllUntil old.stamp) (sym (ap put_items log)) r.until);
    taken = subst (λ (n : ℕ). AllTaken n new.stamp (logged new)) (sym size) (subst (λ (n : ℕ). AllTaken (length old.hall) n (logged new)) (sym stamp) (subst (AllTaken (length old.hall) old.stamp) (sym (ap ring_log log)) r.taken));
  };
  halls = size;
  log = subst (SameIn old.log) (sym log) (same_ring old.log);
}
  where
    h : (k : Kept) × (k' : Kept) × (slice_get old.hall at ≡ Some k) × HandsOut k request k' × (new.hall ≡ slice_set old.hall at k')
    h = handed_at at request old.hall new.hall lt req

    size : length new.hall ≡ length old.hall
    size = ap length h.4 ∙ set_length at old.hall h.1

-- the answer comes that is awaited
pub keeps_answered : (rings : Rings) (us : List Telling) (at : ℕ) (line : ScriptState) (e : HallEvent) (old new : Book) (r : Request) (a : Answer) → Enters e true old new → e ≡ answer_at at r.child old.stamp a → IsTrue line.sent → line.awaited ≡ Some r → IsWithin rings.told us →
    Contains us (record { name = line.name; call = line.last + 1; request = r; answer = a }) → Keeps rings (record rings { told = us }) at line old (record line { last = line.last + 1; awaited = None; sent = false }) new
keeps_answered rings us at line e old new r a t is sent waits within telling = record {
  here = λ keeper script l.
      answered_line rings keeper script us within at line e old new r a t.1 t.2 (ap (λ (x : HallEvent). answers_in (own (at + 1) (x ∷ []))) is ∙ answers_own at r.child old.stamp a)
      (ap (λ (x : HallEvent). replies_in (own (at + 1) (x ∷ []))) is ∙ own_reply at r.child old.stamp a) sent waits telling l;
  others = λ theirs keeper script i other differs l. passed_line theirs keeper script i other e old new t.1 t.2 (ap (λ (x : HallEvent). answers_in (own (i + 1) (x ∷ []))) is ∙ answers_other at i r.child old.stamp a differs) l;
  book = entered_record e true old new t (ap moment_in is);
  halls = entered_halls e true old new t;
  log = entered_ring e true old new t;
}

-- the request that waits is put to the hand
pub keeps_sent : (rings : Rings) (at : ℕ) (line : ScriptState) (r : Request) (book : Book) → line.over ≡ false → line.sent ≡ false → line.awaited ≡ Some r → Keeps rings (asking rings (Asks r ∷ [])) at line book (record line { sent = true }) book
keeps_sent rings at line r book still unsent waits = record {
  here = λ keeper script l. sent_line rings keeper script at line r book still unsent waits l;
  others = λ theirs keeper script i other differs l. l;
  book = λ b. b;
  halls = refl;
  log = same_ring book.log;
}

-- the script at a place has ended
pub keeps_ended : (rings : Rings) (at : ℕ) (line : ScriptState) (book : Book) (ending : Option Ending) → line.over ≡ false → EndsAt (at + 1) book.hall ending → Goes ending false → Keeps rings (asking rings (Stops ∷ [])) at line book (record line { over = true }) book
keeps_ended rings at line book ending still ends (e, is, over) = record {
  here = λ keeper script l. ended_line rings keeper script at line book still ended l;
  others = λ theirs keeper script i other differs l. l;
  book = λ r. r;
  halls = refl;
  log = same_ring book.log;
}
  where
    at_e : EndsAt (at + 1) book.hall (Some e)
    at_e = subst (EndsAt (at + 1) book.hall) is ends

    ended : (k : Kept) → slice_get book.hall at ≡ Some k → IsTrue k.lives → (left k []).ending ≢ Waiting
    ended k here lives =
        let of_k : Ends k e = subst (λ (o : Option Kept). MatchOption o ⊥ (λ (x : Kept). Ends x e)) (numbered at book.hall ∙ here) at_e in
        subst (λ (x : Ending). x ≢ Waiting) (of_k.lives lives) over

-- a script that goes on waits, and its session lives
pub waits_on : (at : ℕ) (book : Book) (ending : Option Ending) → EndsAt (at + 1) book.hall ending → Goes ending true → Waits at book
waits_on at book ending ends (inl none) k here =
    absurd (nothing_there k (sym (subst (EndsAt (at + 1) book.hall) none ends) ∙ numbered at book.hall ∙ here))
waits_on at book ending ends (inr waiting) k here = by_life k.lives refl
  where
    of_k : Ends k Waiting
    of_k = subst (λ (o : Option Kept). MatchOption o ⊥ (λ (x : Kept). Ends x Waiting)) (numbered at book.hall ∙ here) (subst (EndsAt (at + 1) book.hall) waiting ends)

    by_life : (b : Bool) → k.lives ≡ b → IsTrue k.lives × ((left k []).ending ≡ Waiting)
    by_life true lives = (lives, sym (of_k.lives lives))
    by_life false spent = absurd (let e : ◌≡◌ {A = Ending} Waiting Memory = of_k.spent spent in cc)

-- a session that handed out no request has none
pub no_request_left : (at : ℕ) (request : Option Request) (old new : Book) → at < length old.hall → Requested (at + 1) old.hall request new.hall → request ≡ None → HasNoRequest at new
no_request_left at request old new lt req none k here lives =
    let h = handed_at at request old.hall new.hall lt req in
    let one : h.1 ≡ k = one_there h.1 k (sym (ap (λ (ks : List Kept). slice_get ks at) h.4 ∙ set_here at old.hall h.0 h.1 h.2) ∙ here) in
    let count : h.1.handed ≡ h.0.handed = h.3.counted ∙ ap (λ (o : Option Request). if is_some o then h.0.handed + 1 else h.0.handed) none in
    subst (λ (x : Kept). slice_get (left x []).requests x.handed ≡ None) one
    (ap (λ (x : Report). slice_get x.requests h.1.handed) (h.3.says []) ∙ ap (slice_get (left h.0 []).requests) count ∙ sym (h.3.next (subst IsTrue h.3.lives (subst (λ (x : Kept). IsTrue x.lives) (sym one) lives))) ∙ none)

-- scripts that are over, one after another
pub one_over : (line : ScriptState) (lines : List ScriptState) → IsTrue line.over → AllOver lines → AllOver (line ∷ lines)
one_over line lines o all zero l got = subst (λ (x : ScriptState). IsTrue x.over) (one_there line l got) o
one_over line lines o all (suc at) l got = all at l got

pub none_over : AllOver []
none_over at l got = absurd (nothing_there l got)

pub leaves_all : (book : Book) → Leaves book book
leaves_all book = leaves_same book book (record { hall = refl; ring = same_ring book.log; items = refl; stamp = refl })

-- what is known to have been told may be more than before
pub keeps_more : (rings : Rings) (us : List Telling) (at : ℕ) (line : ScriptState) (book : Book) → IsWithin rings.told us → Keeps rings (record rings { told = us }) at line book line book
keeps_more rings us at line book within = record {
  here = λ keeper script l. more_told rings keeper script us within at line book l;
  others = λ theirs keeper script i other differs l. l;
  book = λ b. b;
  halls = refl;
  log = same_ring book.log;
}

-- an entry that is refused
pub keeps_refused : (rings : Rings) (us : List Telling) (at : ℕ) (line : ScriptState) (e : HallEvent) (old new : Book) → Enters e false old new → IsWithin rings.told us → Keeps rings (record rings { told = us }) at line old line new
keeps_refused rings us at line e old new same within = subst (λ (b : Book). Keeps rings (record rings { told = us }) at line old line b) (sym same.0) (keeps_more rings us at line old within)

-- behind a book's room was made
pub keeps_behind : (rs ss ts : Rings) (at : ℕ) (x y : ScriptState) (a b c : Book) → ts ≡ ss → Leaves a b → Keeps rs ss at x b y c → Keeps rs ts at x a y c
keeps_behind rs ss ts at x y a b c is f g = subst (λ (us : Rings). Keeps rs us at x a y c) (sym is) (keeps_then rs rs ss at x x y a b c (keeps_left rs at x a b f) g)

-- and in front of calls that leave the lines
pub keeps_then_left : (rs ss ts : Rings) (at : ℕ) (x y : ScriptState) (a b c : Book) → ts ≡ ss → Keeps rs ss at x a y b → Leaves b c → Keeps rs ts at x a y c
keeps_then_left rs ss ts at x y a b c same f g = subst (λ (us : Rings). Keeps rs us at x a y c) (sym same) (keeps_then rs ss ss at x y y a b c f (keeps_left ss at y b c g))

-- rings that stay as they are
pub keeps_rings : (rs ss : Rings) (at : ℕ) (line : ScriptState) (a b : Book) → ss ≡ rs → Leaves a b → Keeps rs ss at line a line b
keeps_rings rs ss at line a b same f = subst (λ (us : Rings). Keeps rs us at line a line b) (sym same) (keeps_left rs at line a b f)

-- one after another
pub keeps_three : (rs ss us ts : Rings) (at : ℕ) (x y z : ScriptState) (a b c d : Book) → us ≡ ss → Keeps rs ss at x a y b → Leaves b c → Keeps us ts at y c z d → Keeps rs ts at x a z d
keeps_three rs ss us ts at x y z a b c d same f g h = keeps_then rs us ts at x y z a c d (keeps_then_left rs ss us at x y a b c same f g) h

pub leaves_output : (at child : ℕ) (w : What) (e : HallEvent) (took : Bool) (old new : Book) → Enters e took old new → e ≡ output_at at child old.stamp w → IsOutput w → Leaves old new
leaves_output at child w e took old new t is out =
    leaves_entered e took old new t (λ n. ap (λ (x : HallEvent). answers_in (own n (x ∷ []))) is ∙ output_silent (at + 1) child old.stamp w out n) (ap moment_in is)
