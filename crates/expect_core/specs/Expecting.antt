-- `expect`: its arguments, its wait for patterns, and what follows (expect(1)).
use Rattle.std.specs.Prelude.{ℕ, zero, suc, ◌+◌, ◌-◌, ◌==◌, List, [], ◌∷◌, ◌++◌, length, take, drop, codes, Bool, true, false, slice_index_or, position, if◌then◌else◌, Option, Some, None, Result, Ok, Err}
use Rattle.std.specs.Fmt.{decimal}
use Rattle.child_events.specs.declared.event.Cause.{Cause}
use Rattle.exp_match.specs.declared.faults.PatternFault.{PatternFault}
use Rattle.exp_match.specs.declared.faults.PatternFault.TheVariants as fault
use Rattle.exp_match.specs.declared.list.PatternList.{PatternList}
use Rattle.exp_match.specs.declared.entry.Entry.{Entry}
use Rattle.exp_match.specs.declared.entry.Keyword.TheVariants as keyword
use Rattle.exp_match.specs.declared.entry.Want.TheVariants as want
use Rattle.exp_match.specs.Arguments.{patterns_of}
use Rattle.exp_match.specs.Choice.{Found, waits_for_end, waits_for_full, waits_for_time, first_in}
use Rattle.tcl_words.specs.Bytes as ascii
use Rattle.tcl_words.specs.Lists.{is_white}
use Rattle.tcl_subst.specs.Variables.{Variables}
use Rattle.tcl_results.specs.Codes.{script_code}
use Rattle.tcl_results.specs.declared.code.Code.{Code}
use Rattle.tcl_results.specs.declared.code.Code.TheVariants as code
use Rattle.tcl_results.specs.Said.{Said, ◌>>=◌, as_number}
use Rattle.expect_core.specs.declared.request.Act.TheVariants as act
use Rattle.expect_core.specs.declared.child.Standing.TheVariants as standing
use Rattle.expect_core.specs.declared.child.Change.TheVariants.{Stand, Take}
use Rattle.expect_core.specs.declared.plan.Span.{Span}
use Rattle.expect_core.specs.declared.plan.Span.TheVariants.{Seconds}
use Rattle.expect_core.specs.declared.plan.Plan.{Plan}
use Rattle.expect_core.specs.declared.standing.StandingEntry.{StandingEntry}
use Rattle.expect_core.specs.declared.body.Body.{Body}
use Rattle.expect_core.specs.declared.body.Body.TheVariants.{Action, Source}
use Rattle.expect_core.specs.declared.effect.Effect.TheVariants.{Ask, Alter, Store, Before, After}
use Rattle.expect_core.specs.declared.turn.Reply.TheVariants.{Done, Fail}
use Rattle.expect_core.specs.declared.turn.Purpose.TheVariants as purpose
use Rattle.expect_core.specs.declared.turn.Next.TheVariants.{Await}
use Rattle.expect_core.specs.declared.turn.Deed.{Deed}
use Rattle.expect_core.specs.declared.turn.Deed.TheVariants.{Alone, Expect}
use Rattle.expect_core.specs.declared.turn.Want.TheVariants.{End}
use Rattle.expect_core.specs.declared.turn.Stage.{Stage}
use Rattle.expect_core.specs.declared.turn.Stage.TheVariants.{Act, Wait}
use Rattle.expect_core.specs.declared.turn.Turn.{Turn}
use Rattle.expect_core.specs.declared.own.Own.{Own}
use Rattle.expect_core.specs.Owned.{child_of, bytes_of}
use Rattle.expect_core.specs.Texts.{bad_expect_flag, bad_regular, with_cause}
use Rattle.expect_core.specs.Scoped.{optional}
use Rattle.expect_core.specs.declared.spread.Spread.{Spread}
use Rattle.expect_core.specs.Spread.{sent_on}
use Rattle.expect_core.specs.Heard.{span_of, deadline_from, groups_at}
use Rattle.expect_core.specs.Sides.{Served, takes_current, asked_by, children_of, still_open}
use Rattle.expect_core.specs.Standing.{is_for_current, as_standing, all_ids, planned, own_ids}
use Rattle.expect_core.specs.Turns.{react, done, turn, over, at, doing}

-- The arguments.

-- A newline comes before the first byte that is not white space.
abbrev pub is_list : List ℕ → Bool
is_list [] = false
is_list (b ∷ bs) = if b == ascii.newline then true else if is_white b then is_list bs else false

-- The only argument, if it is a list of all arguments.
abbrev pub listed : List (List ℕ) → Option (List ℕ)
listed [] = None
listed (text ∷ []) = if is_list text then Some text else None
listed (text ∷ other ∷ more) = None

abbrev pub patterns_by : List (List ℕ) → Result PatternList PatternFault → Said PatternList
patterns_by args (Ok list) = Ok list
patterns_by args (Err (fault.BadFlag at)) = Err (bad_expect_flag (slice_index_or args at []))
patterns_by args (Err (fault.BadRegex at)) = Err (bad_regular (slice_index_or args at []))
patterns_by args (Err fault.Refused) = Err []
patterns_by args (Err fault.Memory) = Err []

abbrev pub span_by : List ℕ → Said Span
span_by text = as_number text >>= λ z. Ok (span_of z)

-- The timeout is ten seconds if nothing sets it.
abbrev pub span_or_ten : Option (List ℕ) → Said Span
span_or_ten None = Ok (Seconds 10)
span_or_ten (Some text) = span_by text

-- The timeout: that of `-timeout`, or else of the variable `timeout`.
abbrev pub span_in : Option (List ℕ) → Variables → Said Span
span_in (Some text) vars = span_by text
span_in None vars = optional (codes "timeout") vars >>= span_or_ten

abbrev pub plan_at : List Served → PatternList → Span → Own → Plan
plan_at groups list span o = planned list groups span (deadline_from o.clock span) o

abbrev pub plan_by : PatternList → Variables → Own → Said Plan
plan_by list vars o =
    asked_by (takes_current list) list vars o >>= λ groups. span_in list.timeout vars >>= λ span. Ok (plan_at groups list span o)

-- What an `expect` with these arguments waits for.
abbrev pub plan_of : List (List ℕ) → Variables → Own → Said Plan
plan_of args vars o = patterns_by args (patterns_of args) >>= λ list. plan_by list vars o

abbrev pub expecting : List (List ℕ) → Variables → Own → Said Deed
expecting args vars o = plan_of args vars o >>= λ p. Ok (Expect p)

-- `expect_before` and `expect_after` have the same arguments. A timeout counts for nothing. The ids that are named leave
-- the entries of the list, and then these entries are appended.

-- The ids that are named, and the entries.
abbrev pub standing_by : PatternList → Variables → Own → Said (Served × List StandingEntry)
standing_by list vars o = asked_by (is_for_current list) list vars o >>= λ groups. Ok (all_ids groups, as_standing groups list.entries)

abbrev pub standing_of : List (List ℕ) → Variables → Own → Said (Served × List StandingEntry)
standing_of args vars o = patterns_by args (patterns_of args) >>= λ list. standing_by list vars o

abbrev pub standing_before : List (List ℕ) → Variables → Own → Said Deed
standing_before args vars o = standing_of args vars o >>= λ s. Ok (Alone (Before s.0 s.1 ∷ []) (done []))

abbrev pub standing_after : List (List ℕ) → Variables → Own → Said Deed
standing_after args vars o = standing_of args vars o >>= λ s. Ok (Alone (After s.0 s.1 ∷ []) (done []))

-- The variables that are set.

abbrev pub with_index : List ℕ → List ℕ
with_index index = codes "expect_out(" ++ index ++ codes ")"

-- The index before an exclusive end.
abbrev pub before : ℕ → List ℕ
before zero = codes "-1"
before (suc n) = decimal n

abbrev pub Pairs : Type 0
Pairs = List (List ℕ × List ℕ)

abbrev pub places : ℕ → ℕ × ℕ → Pairs
places x s = (with_index (decimal x ++ codes ",start"), decimal s.0) ∷ (with_index (decimal x ++ codes ",end"), before s.1) ∷ []

abbrev pub places_if : Bool → ℕ → ℕ × ℕ → Pairs
places_if true x s = places x s
places_if false x s = []

-- The bytes of a group.
abbrev pub text_pair : List ℕ → ℕ → ℕ × ℕ → List ℕ × List ℕ
text_pair bytes x s = (with_index (decimal x ++ codes ",string"), take (s.1 - s.0) (drop s.0 bytes))

abbrev pub group_pairs : Bool → List ℕ → ℕ → Option (ℕ × ℕ) → Pairs
group_pairs indices bytes x None = []
group_pairs indices bytes x (Some s) = places_if indices x s ++ text_pair bytes x s ∷ []

-- The elements for each group that took part in the match, from group x on.
abbrev pub groups_from : Bool → List ℕ → ℕ → Found → Pairs
groups_from indices bytes x [] = []
groups_from indices bytes x (s ∷ ss) = group_pairs indices bytes x s ++ groups_from indices bytes (x + 1) ss

-- The spawn id, and the bytes up to the end of the match.
abbrev pub met_pairs : List ℕ → List ℕ → Pairs
met_pairs id bytes = (with_index (codes "spawn_id"), id) ∷ (with_index (codes "buffer"), bytes) ∷ []

-- What follows.

abbrev pub no_entry : Entry
no_entry = record { want = want.Keyword keyword.Eof; indices = false; notransfer = false; action = []; group = 0 }

abbrev pub entry_of : ℕ → Plan → Entry
entry_of n p = slice_index_or p.list.entries n no_entry

-- The action of the entry that was met is evaluated.
abbrev pub acting : Plan → ℕ → Option ℕ → Stage
acting p n at = Act p (record { entry = n; child = at })

-- The action of `timeout` or `default`, if one is listed.
abbrev pub late_at : Plan → Option ℕ → Turn
late_at p None = over (done [])
late_at p (Some n) = turn None [] (acting p n None)

-- What is pending is sent, or the timeout is met.
abbrev pub late_by : Plan → Option (ℕ × Spread) → Turn
late_by p None = late_at p (position (λ e. waits_for_time e.want) p.list.entries)
late_by p (Some s) = at s.0 (react [] (sent_on s.1))

abbrev pub late : Plan → Turn
late p = late_by p p.pending

-- The variables are set, and this many bytes leave the child's match buffer.
abbrev pub meeting : Plan → ℕ → ℕ → Pairs → ℕ → Turn
meeting p i n pairs count = turn (Some i) (Store pairs ∷ Alter (Take count) ∷ []) (acting p n (Some i))

abbrev pub end_in : Option (ℕ × ℕ) → ℕ
end_in None = 0
end_in (Some s) = s.1

-- The end of a match.
abbrev pub end_of : Found → ℕ
end_of spans = end_in (slice_index_or spans 0 None)

-- A pattern matches the bytes of the child at place i.
abbrev pub matched : Plan → ℕ → ℕ → Found → Own → Turn
matched p i n spans o =
    let bytes = bytes_of i o in
    let entry = entry_of n p in
    meeting p i n (groups_from entry.indices bytes 0 spans ++ met_pairs (child_of i o).id (take (end_of spans) bytes))
    (if entry.notransfer then 0 else end_of spans)

-- A keyword meets all bytes in the match buffer of the child at place i, if it is listed.
abbrev pub all_met : Plan → ℕ → Option ℕ → Own → Turn
all_met p i None o = over (done [])
all_met p i (Some n) o = meeting p i n (met_pairs (child_of i o).id (bytes_of i o)) (length (bytes_of i o))

abbrev pub full : Plan → ℕ → Own → Turn
full p i o = all_met p i (first_in waits_for_full (groups_at i p.sides) p.list.entries) o

-- At the end of a child's output, the child is closed.
abbrev pub ending : Plan → ℕ → Turn
ending p i = turn (Some i) (Ask act.Close ∷ []) (Wait (End i p))

-- The same after a failed read.
abbrev pub failing : ℕ → Cause → Turn
failing i c = at i (react (Ask act.Close ∷ []) (Await (purpose.Fail c)))

-- The child is closed, and then its `eof` or `default` is met.
abbrev pub shut : ℕ → Turn → Turn
shut i t = turn (Some i) (Alter (Stand standing.Closed) ∷ t.effects) t.stage

abbrev pub ended : Plan → ℕ → Option Cause → Own → Turn
ended p i None o = shut i (all_met p i (first_in waits_for_end (groups_at i p.sides) p.list.entries) o)
ended p i (Some c) o = shut i (over (Fail (with_cause (codes "close failed") c)))

-- The `expect` goes on with this deadline, if all its own children are still open. It reads the standing patterns anew.
abbrev pub again : Plan → Option ℕ → Own → Turn
again p deadline o = doing (still_open (children_of (own_ids p)) o >>= λ all. Ok (Expect (planned p.list (own_ids p) p.span deadline o)))

-- After an action, `exp_continue` goes back to the `expect`, with a new deadline or with the old one.
abbrev pub behind : Code → List ℕ → List Body → Own → Turn
behind c value [] o = over (Done c value)
behind c value (Source ∷ bodies) o = over (Done (script_code c) value)
behind code.Again value (Action p ∷ bodies) o = again p (deadline_from o.clock p.span) o
behind code.AgainLater value (Action p ∷ bodies) o = again p p.deadline o
behind c value (Action p ∷ bodies) o = over (Done c value)
