-- The first turn of a call is about the children that the call speaks to.
use Rattle.std.proofs.Common.{◌≡◌, ℕ, ◌+◌, List, [], ◌∷◌, ◌++◌, length, Bool, true, false, Option, Some, None, Ok, Err, ◌⊎◌, inl, inr, refl, sym, ap, subst, ◌∙◌}
use Rattle.std.specs.Prelude.{◌==◌, nat_lt, slice_get, codes, if◌then◌else◌}
use Rattle.std.specs.Str.{bytes_eq}
use Rattle.exp_match.specs.declared.list.PatternList.{PatternList}
use Rattle.exp_match.specs.Arguments.{patterns_of}
use Rattle.tcl_subst.specs.Variables.{Variables}
use Rattle.tcl_results.specs.declared.code.Code.{Code}
use Rattle.tcl_results.specs.declared.code.Code.TheVariants as code
use Rattle.tcl_results.specs.Given.{arg}
use Rattle.tcl_results.specs.Said.{Said, ◌>>=◌}
use Rattle.tcl_host.specs.Calls.{Call, Begin, Resume, AfterWords, AfterBody, Knows}
use Rattle.command_table.specs.declared.commands.ExpectCommand.{ExpectCommand}
use Rattle.command_table.specs.declared.commands.ExpectCommand.TheVariants as command
use Rattle.command_table.specs.Commands.{expect_command}
use Rattle.command_table.specs.Flags.{begins_with_minus}
use Rattle.expect_core.specs.declared.tool.Tool.{Tool}
use Rattle.expect_core.specs.declared.tool.Stride.TheVariants as stride
use Rattle.expect_core.specs.declared.channels.Channel.{Channel}
use Rattle.expect_core.specs.declared.effect.Effect.{Effect}
use Rattle.expect_core.specs.declared.effect.Effect.TheVariants.{Shut, Before, After}
use Rattle.expect_core.specs.Opened.{channel_of}
use Rattle.expect_core.specs.Channels.{Read, channel_named, read_from, written_to, line_in, second, gets_by, count_of, reads_all, reads_some, reads_by, end_reply, ends_writing, is_standard, putting_to, putting}
use Rattle.expect_core.specs.Tools.{run_of, starting}
use Rattle.command_table.specs.declared.options.ClockOption.{ClockOption}
use Rattle.command_table.specs.declared.options.ClockOption.TheVariants as unit
use Rattle.command_table.specs.Counts.{fits}
use Rattle.command_table.specs.Options.{clock_option, clock_count}
use Rattle.expect_core.specs.declared.day.Stamp.{Stamp}
use Rattle.expect_core.specs.TimeOfDay.{Known}
use Rattle.expect_core.specs.Times.{telling_by, clock_by, plain_stamp, stamp_of, stamped}
use Rattle.expect_core.specs.Programs.{behind_option, running, complaining, executing, by_system, by_source, by_file, by_pwd, by_pid, by_open}
use Rattle.expect_core.specs.declared.body.Body.{Body}
use Rattle.expect_core.specs.declared.body.Body.TheVariants.{Action, Source}
use Rattle.expect_core.specs.declared.plan.Plan.{Plan}
use Rattle.expect_core.specs.declared.order.SpawnOrder.{SpawnOrder}
use Rattle.expect_core.specs.declared.turn.Purpose.TheVariants as purpose
use Rattle.expect_core.specs.declared.turn.Next.TheVariants.{Await}
use Rattle.expect_core.specs.declared.turn.Deed.{Deed}
use Rattle.expect_core.specs.declared.turn.Deed.TheVariants.{Alone, To, Expect}
use Rattle.expect_core.specs.declared.own.Own.{Own}
use Rattle.expect_core.specs.declared.dialogue.Dialogue.{Dialogue}
use Rattle.expect_core.specs.Flags.{bad_flag, arguments}
use Rattle.expect_core.specs.Ids.{is_open, spoken_to, open_to, if_open}
use Rattle.expect_core.specs.Owned.{child_of}
use Rattle.expect_core.specs.Heard.{Watch, places_of, IsWatched, about, deadline_from}
use Rattle.expect_core.specs.Among.{IsAmong}
use Rattle.expect_core.specs.Sides.{Served, takes_current, asked_by, children_of, sides_of, still_open}
use Rattle.expect_core.specs.Standing.{ids_with, planned, own_ids}
use Rattle.expect_core.specs.Turns.{react, done}
use Rattle.expect_core.specs.Texts.{too_many}
use Rattle.expect_core.specs.Spawning.{order_of, ordering}
use Rattle.expect_core.specs.Sending.{send_of}
use Rattle.expect_core.specs.declared.spread.Pace.{Pace}
use Rattle.expect_core.specs.Spread.{pace_if}
use Rattle.expect_core.specs.Pauses.{nothing_until}
use Rattle.expect_core.specs.Sleeping.{digits, signed, or_expected, until, sleeping_by}
use Rattle.expect_core.specs.Expecting.{patterns_by, span_in, plan_at, plan_by, plan_of, expecting, standing_of, again, behind}
use Rattle.expect_core.specs.Again.{continued}
use Rattle.expect_core.specs.Ends.{closing_by, closed_child, wait_of}
use Rattle.expect_core.specs.Transcript.{put_of, complain, complained_to, complaint_of, to_user, log_word}
use Rattle.expect_core.specs.Options.{whose, option_of, size_of, sizing_at, removal_of, removing_at}
use Rattle.expect_core.specs.Calls.{named, named_by as deed_named, outer}
use Rattle.expect_core.specs.Apart.{by_id, by_option, by_patterns, one as single, each, named_by, back_to, on_top, speaks_to}
use Rattle.expect_core.proofs.Stepping.{Sees, TurnOf, PhaseOf}
use Rattle.expect_core.proofs.Calling.{DeedOf, SaidOf, NamedOf, Opens, doing_of, pick}
use Rattle.expect_core.proofs.Opening.{sides_among}

-- what a command reads names the child that it speaks to

abbrev inside : {X : Type 0} → X → Said X → X
inside d (Ok x) = x
inside d (Err text) = d

-- both go on from the same
along : {X Y Z : Type 0} (r : Said X) (f : X → Said Y) (g : X → Said Z) (y : Y) (z : Z) → ((x : X) → f x ≡ Ok y → g x ≡ Ok z) → (r >>= f) ≡ Ok y → (r >>= g) ≡ Ok z
along (Ok x) f g y z go e = go x e
along (Err text) f g y z go e = absurd (cc)

past : {X Y P : Type 0} (r : Said X) (f : X → Said Y) (y : Y) → ((x : X) → f x ≡ Ok y → P) → (r >>= f) ≡ Ok y → P
past (Ok x) f y go e = go x e
past (Err text) f y go e = absurd (cc)

first : {X Y : Type 0} (r : Said X) (f : X → Said Y) (y : Y) (z : X) → ((x : X) → f x ≡ Ok y → x ≡ z) → (r >>= f) ≡ Ok y → r ≡ Ok z
first (Ok x) f y z go e = ap Ok (go x e)
first (Err text) f y z go e = absurd (cc)

if_same : (b : Bool) (k i : ℕ) (text : List ℕ) → (let r : Said ℕ = (if b then Ok k else Err text) in r ≡ Ok i) → k ≡ i
if_same true k i text e = ap (inside k) e
if_same false k i text e = absurd (cc)

open_speaks : (id : Option (List ℕ)) (vars : Variables) (o : Own) (i : ℕ) → open_to id vars o ≡ Ok i → spoken_to id vars o ≡ Ok i
open_speaks id vars o i e = first (spoken_to id vars o) (λ k. if_open k o) i i (λ k e. if_same (is_open (child_of k o).standing) k i _ e) e

send_speaks : (word : List ℕ) (args : List (List ℕ)) (vars : Variables) (o : Own) (s : ℕ × List ℕ × Option Pace) → send_of word args vars o ≡ Ok s → by_id command.Send word args vars o ≡ Ok s.0
send_speaks word args vars o s e =
    along (arguments command.Send word args) _ _ s s.0
    (λ f e. past (pace_if f.0.choice vars) _ s
    (λ pace e. open_speaks f.0.id vars o s.0 (first (open_to f.0.id vars o) _ s s.0 (λ i e. ap (λ (r : Said (ℕ × List ℕ × Option Pace)). (inside (i, arg 0 f.1, pace) r).0) e) e)) e) e

-- what follows what was read
behind_ok : {X Y : Type 0} (r : Said X) (f : X → Said Y) (x : X) (y : Y) → r ≡ Ok x → f x ≡ Ok y → (r >>= f) ≡ Ok y
behind_ok r f x y e at = ap (λ r. r >>= f) e ∙ at

once_same : (b : Bool) (k : ℕ) (text : List ℕ) (on : Bool) (w : Bool × ℕ) → (let r : Said ℕ = (if b then Err text else Ok k) in (r >>= λ i. Ok (on, i)) ≡ Ok w) → k ≡ w.1
once_same true k text on w e = absurd (cc)
once_same false k text on w e = ap (λ (r : Said (Bool × ℕ)). (inside (on, k) r).1) e

wait_speaks : (word : List ℕ) (args : List (List ℕ)) (vars : Variables) (o : Own) (w : Bool × ℕ) → wait_of word args vars o ≡ Ok w → by_id command.Wait word args vars o ≡ Ok w.1
wait_speaks word args vars o w e =
    along (arguments command.Wait word args) _ _ w w.1 (λ f e. first (spoken_to f.0.id vars o) _ w w.1 (λ k e. once_same (child_of k o).waited k _ f.0.on w e) e) e

abbrev inside_some : ℕ → Option ℕ → ℕ
inside_some d (Some i) = i
inside_some d None = d

whose_speaks : (on : Bool) (id : Option (List ℕ)) (vars : Variables) (o : Own) (i : ℕ)
    → (let r : Said (Option ℕ) = (if on then Ok None else (open_to id vars o >>= λ k. Ok (Some k))) in r ≡ Ok (Some i))
    → (let r : Said ℕ = (if on then Err [] else spoken_to id vars o) in r ≡ Ok i)
whose_speaks true id vars o i e = absurd (cc)
whose_speaks false id vars o i e = open_speaks id vars o i (first (open_to id vars o) _ (Some i) i (λ k e. ap (λ (r : Said (Option ℕ)). inside_some k (inside None r)) e) e)

option_speaks : (c : ExpectCommand) (word : List ℕ) (args : List (List ℕ)) (vars : Variables) (o : Own) (s : Option ℕ × Option (List ℕ)) (i : ℕ) → option_of c word args vars o ≡ Ok s → s.0 ≡ Some i → by_option c word args vars o ≡ Ok i
option_speaks c word args vars o s i e at =
    along (arguments c word args) _ _ s i
    (λ f e. whose_speaks f.0.on f.0.id vars o i (first (whose f.0 vars o) _ s s.0 (λ k e. ap (λ (r : Said (Option ℕ × Option (List ℕ))). (inside (k, slice_get f.1 0) r).0) e) e ∙ ap Ok at)) e

alone : (r : Said ℕ) (i : ℕ) → r ≡ Ok i → IsAmong i (single r)
alone r i e = subst (λ (r : Said ℕ). IsAmong i (single r)) (sym e) (inl refl)

-- those that take part are those that are named, and those of standing patterns
module _ (vars : Variables) (o : Own) (p : Plan) (j : ℕ) (part : IsAmong j (about p)) where
  by_asked : (list : PatternList) (r : Said (List Served)) → (r >>= λ groups. span_in list.timeout vars >>= λ span. Ok (plan_at groups list span o)) ≡ Ok p → IsAmong j (each (r >>= λ groups. Ok (children_of (ids_with groups o))))
  by_asked list (Ok groups) e =
      let same : places_of (sides_of (ids_with groups o)) ≡ about p =
      past (span_in list.timeout vars) (λ span. Ok (plan_at groups list span o)) p (λ span e. ap (λ (r : Said Plan). about (inside (plan_at groups list span o) r)) e) e in
      sides_among (ids_with groups o) j (subst (IsAmong j) (sym same) part)
  by_asked list (Err text) e = absurd (cc)

  by_list : (r : Said PatternList) → (r >>= λ list. plan_by list vars o) ≡ Ok p → IsAmong j (each (r >>= λ list. asked_by (takes_current list) list vars o >>= λ groups. Ok (children_of (ids_with groups o))))
  by_list (Ok list) e = by_asked list (asked_by (takes_current list) list vars o) e
  by_list (Err text) e = absurd (cc)

plan_speaks : (args : List (List ℕ)) (vars : Variables) (o : Own) (p : Plan) → plan_of args vars o ≡ Ok p → (j : ℕ) → IsAmong j (about p) → IsAmong j (each (by_patterns args vars o))
plan_speaks args vars o p e j part = by_list vars o p j part (patterns_by args (patterns_of args)) e

module _ (A : ℕ → Type 0) (B : ℕ → Plan → Type 0) where
  each_said : {X : Type 0} (r : Said X) (f : X → Said Deed) → ((x : X) → r ≡ Ok x → SaidOf A B (f x)) → SaidOf A B (r >>= f)
  each_said (Ok x) f of = of x refl
  each_said (Err text) f of = tt

  -- a child more is about nobody that was there before
  spawn_speaks : (order : SpawnOrder) (o : Own) (b : Bool) → nat_lt (length o.children) 16 ≡ b → (nat_lt (length o.children) 16 ≡ true → A (length o.children)) →
      SaidOf A B (if b then Ok (To (length o.children) (react (ordering order) (Await (purpose.Spawn order.terminal order.words)))) else Err too_many)
  spawn_speaks order o true room new = new room
  spawn_speaks order o false room new = tt

  -- so is one that a command runs
  tool_speaks : (t : Tool) (o : Own) (b : Bool) → nat_lt (length o.children) 16 ≡ b → (nat_lt (length o.children) 16 ≡ true → A (length o.children)) →
      SaidOf A B (if b then Ok (To (length o.children) (react (starting t.words) (Await (purpose.Tool stride.Start (run_of t))))) else Err too_many)
  tool_speaks t o true room new = new room
  tool_speaks t o false room new = tt

  running_speaks : (said : Said Tool) (o : Own) → (nat_lt (length o.children) 16 ≡ true → A (length o.children)) → SaidOf A B (running said o)
  running_speaks said o new = each_said said _ (λ t e. tool_speaks t o (nat_lt (length o.children) 16) refl new)

  -- what reads a channel is for no child
  read_all_speaks : (whole : Bool) (name : List ℕ) (o : Own) → SaidOf A B (reads_all whole name o)
  read_all_speaks whole name o = each_said (read_from name o) _ (λ n e. tt)

  read_some_speaks : (name text : List ℕ) (o : Own) → SaidOf A B (reads_some name text o)
  read_some_speaks name text o = each_said (count_of text) _ (λ count e. each_said (read_from name o) _ (λ n e. tt))

  either_read : (b : Bool) (first other : List ℕ) (o : Own) → SaidOf A B (if b then reads_all false other o else reads_some first other o)
  either_read true first other o = read_all_speaks false other o
  either_read false first other o = read_some_speaks first other o

  read_speaks : (args : List (List ℕ)) (o : Own) → SaidOf A B (reads_by args o)
  read_speaks [] o = read_all_speaks true [] o
  read_speaks (channel ∷ []) o = read_all_speaks true channel o
  read_speaks (first ∷ other ∷ more) o = either_read (bytes_eq first (codes "-nonewline")) first other o

  gets_speaks : (n : ℕ) (rest : List ℕ) (r : Read) (name : Option (List ℕ)) → DeedOf A B (gets_by n rest r name)
  gets_speaks n rest r None = tt
  gets_speaks n rest r (Some name) = tt

  -- what writes to a channel is for its child
  text_speaks : (i : ℕ) (text : List ℕ) → A i → DeedOf A B (putting_to i text)
  text_speaks i text a = pick (DeedOf A B) (length text == 0) _ _ tt a

  putting_speaks : (channel text : List ℕ) (o : Own) → ((i : ℕ) → (written_to channel o >>= λ n. Ok (channel_of n o).child) ≡ Ok i → A i) → SaidOf A B (putting channel text o)
  putting_speaks channel text o of =
      each_said (written_to channel o) _ (λ n e. text_speaks (channel_of n o).child text (of (channel_of n o).child (behind_ok (written_to channel o) _ n _ e refl)))

  -- that of standard error is there, or is one more
  complain_speaks : (errors : Option ℕ) (text : List ℕ) (o : Own) → ((i : ℕ) → errors ≡ Some i → A i) → (nat_lt (length o.children) 16 ≡ true → A (length o.children)) → SaidOf A B (complain errors text o)
  complain_speaks None text o of new = pick (SaidOf A B) (length text == 0) _ _ tt (tool_speaks (complaining text) o (nat_lt (length o.children) 16) refl new)
  complain_speaks (Some i) text o of new = text_speaks i text (of i refl)

  put_speaks : (b : Bool) (channel text : List ℕ) (o : Own)
      → ((i : ℕ) → (let r : Said ℕ = (if b then complained_to o.errors else (written_to channel o >>= λ n. Ok (channel_of n o).child)) in r ≡ Ok i) → A i)
      → (nat_lt (length o.children) 16 ≡ true → A (length o.children))
      → (let d : Said Deed = (if b then complain o.errors text o else if begins_with_minus channel then Err (bad_flag channel) else putting channel text o) in SaidOf A B d)
  put_speaks true channel text o of new = complain_speaks o.errors text o (λ i e. of i (ap complained_to e)) new
  put_speaks false channel text o of new = pick (SaidOf A B) (begins_with_minus channel) (Err (bad_flag channel)) (putting channel text o) tt (putting_speaks channel text o of)

  -- a channel that was written is closed by its child
  shut_speaks : (b : Bool) (n : ℕ) (c : Channel) → A c.child → (let d : Deed = (if b then Alone (Shut n ∷ []) (end_reply c.ended) else To c.child (ends_writing n)) in DeedOf A B d)
  shut_speaks true n c a = tt
  shut_speaks false n c a = a

  close_speaks : (word : List ℕ) (id : Option (List ℕ)) (args : List (List ℕ)) (vars : Variables) (o : Own) → ((i : ℕ) → closed_child id args vars o ≡ Ok i → A i) → SaidOf A B (closing_by word id args vars o)
  close_speaks word id [] vars o of = each_said (open_to id vars o) _ (λ i e. of i (open_speaks id vars o i e))
  close_speaks word None (channel ∷ more) vars o of =
      each_said (channel_named channel o) _
      (λ n e. let c = channel_of n o in shut_speaks c.reads n c (of c.child (behind_ok (channel_named channel o) _ n _ e refl)))
  close_speaks word (Some id) (channel ∷ more) vars o of = tt

  flush_speaks : (b : Bool) (name : List ℕ) (o : Own) → (let d : Said Deed = (if b then Ok (Alone [] (done [])) else (written_to name o >>= λ n. Ok (Alone [] (done [])))) in SaidOf A B d)
  flush_speaks true name o = tt
  flush_speaks false name o = each_said (written_to name o) _ (λ n e. tt)

  sizing_speaks : (at : Option ℕ) (text : Option (List ℕ)) (o : Own) → ((i : ℕ) → at ≡ Some i → A i) → SaidOf A B (sizing_at at text o)
  sizing_speaks None None o of = tt
  sizing_speaks None (Some text) o of = each_said (size_of text) _ (λ n e. tt)
  sizing_speaks (Some i) None o of = of i refl
  sizing_speaks (Some i) (Some text) o of = each_said (size_of text) _ (λ n e. of i refl)

  removing_speaks : (at : Option ℕ) (text : Option (List ℕ)) (o : Own) → ((i : ℕ) → at ≡ Some i → A i) → SaidOf A B (removing_at at text o)
  removing_speaks None None o of = tt
  removing_speaks None (Some text) o of = each_said (removal_of text) _ (λ on e. tt)
  removing_speaks (Some i) None o of = of i refl
  removing_speaks (Some i) (Some text) o of = each_said (removal_of text) _ (λ on e. of i refl)

  expect_speaks : (args : List (List ℕ)) (vars : Variables) (o : Own) → ((i : ℕ) → IsAmong i (each (by_patterns args vars o)) → A i) → SaidOf A B (expecting args vars o)
  expect_speaks args vars o all = each_said (plan_of args vars o) _ (λ p e i part. all i (plan_speaks args vars o p e i part))

  -- standing patterns are for no child yet
  stand_speaks : {X : Type 0} (r : Said X) (f : X → List Effect) → SaidOf A B (r >>= λ x. Ok (Alone (f x) (done [])))
  stand_speaks r f = each_said r _ (λ x e. tt)

  -- no child takes part in a wait for time
  time_speaks : (b : Bool) (last : Option ℕ) → SaidOf A B (Ok (if b then Alone [] (done []) else Expect (nothing_until last None)))
  time_speaks true last = tt
  time_speaks false last = λ i none. absurd none

  slept_speaks : (c : ExpectCommand) (time : List ℕ → Option ℕ) (word : List ℕ) (args : List (List ℕ)) (o : Own) → SaidOf A B (sleeping_by c time word args o)
  slept_speaks c time word args o = each_said (arguments c word args) _ (λ f e. each_said (or_expected (arg 0 f.1) (time (arg 0 f.1))) _ (λ ms e. time_speaks (ms == 0) (until o.clock ms)))

  -- the time of day is known, or a program is asked for it
  telling_speaks : (u : ClockOption) (d : Option Known) (o : Own) → (nat_lt (length o.children) 16 ≡ true → A (length o.children)) → SaidOf A B (telling_by u d o)
  telling_speaks u None o new = tool_speaks _ o (nat_lt (length o.children) 16) refl new
  telling_speaks u (Some d) o new = tt

  clock_speaks : (name word : List ℕ) (u : Option ClockOption) (args : List (List ℕ)) (o : Own) → (nat_lt (length o.children) 16 ≡ true → A (length o.children)) → SaidOf A B (clock_by name word u args o)
  clock_speaks name word None args o new = tt
  clock_speaks name word (Some u) args o new = pick (SaidOf A B) (fits (clock_count u) (length args)) _ _ (telling_speaks u o.day o new) tt

  plain_speaks : (seconds : Option (List ℕ)) (o : Own) → (nat_lt (length o.children) 16 ≡ true → A (length o.children)) → SaidOf A B (plain_stamp seconds o)
  plain_speaks None o new = telling_speaks unit.Seconds o.day o new
  plain_speaks (Some n) o new = tt

  stamp_speaks : (format : Option (List ℕ)) (s : Stamp) (o : Own) → (nat_lt (length o.children) 16 ≡ true → A (length o.children)) → SaidOf A B (stamped format s o)
  stamp_speaks None s o new = plain_speaks s.seconds o new
  stamp_speaks (Some f) s o new = tool_speaks _ o (nat_lt (length o.children) 16) refl new

  named_speaks : (c : ExpectCommand) (word : List ℕ) (args : List (List ℕ)) (vars : Variables) (o : Own) → ((i : ℕ) → IsAmong i (named_by (Some c) word args vars o) → A i) → (nat_lt (length o.children) 16 ≡ true → A (length o.children)) → SaidOf A B (named c word args vars o)
  named_speaks command.Spawn word args vars o all new = each_said (order_of word args vars o.host) _ (λ order e. spawn_speaks order o (nat_lt (length o.children) 16) refl new)
  named_speaks command.Send word args vars o all new = each_said (send_of word args vars o) _ (λ s e. all s.0 (alone _ s.0 (send_speaks word args vars o s e)))
  named_speaks command.SendUser word args vars o all new = each_said (to_user word args) _ (λ text e. tt)
  named_speaks command.Expect word args vars o all new = expect_speaks args vars o all
  named_speaks command.ExpectBefore word args vars o all new = stand_speaks (standing_of args vars o) (λ s. Before s.0 s.1 ∷ [])
  named_speaks command.ExpectAfter word args vars o all new = stand_speaks (standing_of args vars o) (λ s. After s.0 s.1 ∷ [])
  named_speaks command.ExpContinue word args vars o all new = each_said (continued word args) _ (λ c e. tt)
  named_speaks command.Close word args vars o all new =
      each_said (arguments command.Close word args) _
      (λ f e. close_speaks word f.0.id f.1 vars o (λ i at. all i (alone _ i (behind_ok (arguments command.Close word args) _ f i e at))))
  named_speaks command.SendError word args vars o all new =
      each_said (complaint_of word args) _ (λ text e. complain_speaks o.errors text o (λ i at. all i (alone _ i (behind_ok (complaint_of word args) _ text i e (ap complained_to at)))) new)
  named_speaks command.Wait word args vars o all new = each_said (wait_of word args vars o) _ (λ w e. all w.1 (alone _ w.1 (wait_speaks word args vars o w e)))
  named_speaks command.ExpPid word args vars o all new = each_said (arguments command.ExpPid word args) _ (λ f e. each_said (spoken_to f.0.id vars o) _ (λ i e. tt))
  named_speaks command.MatchMax word args vars o all new = each_said (option_of command.MatchMax word args vars o) _ (λ s e. sizing_speaks s.0 s.1 o (λ i at. all i (alone _ i (option_speaks command.MatchMax word args vars o s i e at))))
  named_speaks command.RemoveNulls word args vars o all new = each_said (option_of command.RemoveNulls word args vars o) _ (λ s e. removing_speaks s.0 s.1 o (λ i at. all i (alone _ i (option_speaks command.RemoveNulls word args vars o s i e at))))
  named_speaks command.LogUser word args vars o all new = each_said (arguments command.LogUser word args) _ (λ f e. each_said (log_word (arg 0 f.1)) _ (λ on e. tt))
  named_speaks command.Puts word args vars o all new =
      each_said (put_of word args) _
      (λ p e. pick (SaidOf A B) (bytes_eq p.0 (codes "stdout")) _ _ tt
      (put_speaks (bytes_eq p.0 (codes "stderr")) p.0 p.1 o (λ i at. all i (alone _ i (behind_ok (put_of word args) _ p i e at))) new))
  named_speaks command.Exec word args vars o all new = running_speaks (executing word args) o new
  named_speaks command.System word args vars o all new = running_speaks (by_system word args) o new
  named_speaks command.Source word args vars o all new = running_speaks (by_source word args vars) o new
  named_speaks command.File word args vars o all new = running_speaks (by_file word args vars) o new
  named_speaks command.Pwd word args vars o all new = running_speaks (by_pwd word args) o new
  named_speaks command.Pid word args vars o all new = running_speaks (by_pid word args) o new
  named_speaks command.Open word args vars o all new = running_speaks (by_open word args vars) o new
  named_speaks command.Gets word args vars o all new = each_said (arguments command.Gets word args) _ (λ f e. each_said (read_from (arg 0 f.1) o) _ (λ n e. gets_speaks n (channel_of n o).rest (line_in (channel_of n o).rest) (second f.1)))
  named_speaks command.Read word args vars o all new = each_said (arguments command.Read word args) _ (λ f e. read_speaks f.1 o)
  named_speaks command.Eof word args vars o all new = each_said (arguments command.Eof word args) _ (λ f e. each_said (read_from (arg 0 f.1) o) _ (λ n e. tt))
  named_speaks command.Flush word args vars o all new = each_said (arguments command.Flush word args) _ (λ f e. flush_speaks (is_standard (arg 0 f.1)) (arg 0 f.1) o)
  named_speaks command.Sleep word args vars o all new = slept_speaks command.Sleep signed word args o
  named_speaks command.After word args vars o all new = slept_speaks command.After digits word args o
  named_speaks command.Clock word args vars o all new = each_said (arguments command.Clock word args) _ (λ f e. clock_speaks word (arg 0 f.1) (clock_option (arg 0 f.1)) (behind_option f.1) o new)
  named_speaks command.Timestamp word args vars o all new = each_said (stamp_of word args) _ (λ s e. stamp_speaks s.format s o new)

  begun_speaks : (n : Option ExpectCommand) (word : List ℕ) (args : List (List ℕ)) (vars : Variables) (o : Own) → ((i : ℕ) → IsAmong i (named_by n word args vars o) → A i) → (nat_lt (length o.children) 16 ≡ true → A (length o.children)) → NamedOf A B n word args vars o
  begun_speaks None word args vars o all new = tt
  begun_speaks (Some n) word args vars o all new = named_speaks n word args vars o all new

  worded_speaks : (n : Option ExpectCommand) (word : List ℕ) (args : List (List ℕ)) (vars : Variables) (o : Own) → ((i : ℕ) → IsAmong i (named_by n word args vars o) → A i) → (nat_lt (length o.children) 16 ≡ true → A (length o.children)) → SaidOf A B (deed_named n word args vars o)
  worded_speaks None word args vars o all new = tt
  worded_speaks (Some n) word args vars o all new = named_speaks n word args vars o all new

  again_speaks : (p : Plan) (deadline : Option ℕ) (o : Own) → ((i : ℕ) → IsAmong i (each (back_to p o)) → A i) → TurnOf A B (again p deadline o)
  again_speaks p deadline o all =
      doing_of A B _
      (each_said (still_open (children_of (own_ids p)) o) (λ k. Ok (Expect (planned p.list (own_ids p) p.span deadline o)))
      (λ k e i part. all i
      (subst (λ (r : Said (List ℕ)). IsAmong i (each r)) (sym (behind_ok (still_open (children_of (own_ids p)) o) (λ k. Ok (children_of (ids_with (own_ids p) o))) k _ e refl))
      (sides_among (ids_with (own_ids p) o) i part))))

  behind_speaks : (c : Code) (value : List ℕ) (bodies : List Body) (o : Own) → ((i : ℕ) → IsAmong i (on_top c bodies o) → A i) → TurnOf A B (behind c value bodies o)
  behind_speaks c value [] o all = (tt, tt)
  behind_speaks c value (Source ∷ bodies) o all = (tt, tt)
  behind_speaks code.Again value (Action p ∷ bodies) o all = again_speaks p (deadline_from o.clock p.span) o all
  behind_speaks code.AgainLater value (Action p ∷ bodies) o all = again_speaks p p.deadline o all
  behind_speaks _ value (Action p ∷ bodies) o all = (tt, tt)

  -- what is under way counts where a call goes on with it, or leaves it
  abbrev pub LeavesPhase : Call → Type 0
  LeavesPhase (Resume vars) = Unit {0}
  LeavesPhase (Knows word) = Unit {0}
  LeavesPhase call = ⊥

  pub opens : (call : Call) (st : Dialogue) → ((i : ℕ) → IsAmong i (speaks_to call st) → A i) → (nat_lt (length st.own.children) 16 ≡ true → A (length st.own.children)) → (LeavesPhase call → PhaseOf A B st.phase) → Opens A B call st
  opens (Begin [] vars) st all new under = tt
  opens (Begin (word ∷ args) vars) st all new under = begun_speaks (expect_command word) word args vars st.own all new
  opens (Resume vars) st all new under = under tt
  opens (AfterWords [] vars) st all new under = tt
  opens (AfterWords (word ∷ args) vars) st all new under = worded_speaks (expect_command word) word args vars st.own all new
  opens (AfterBody c value vars) st all new under = behind_speaks c value st.own.bodies (record st.own { bodies = outer st.own.bodies }) all
  opens (Knows word) st all new under = under tt
