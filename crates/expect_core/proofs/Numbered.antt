-- After each call a script has at most 16 children, and each request names a child from 1 to 16.
use Rattle.std.proofs.Common.{◌≡◌, ℕ, zero, suc, List, [], ◌∷◌, ◌++◌, length, Bool, true, false, Option, Some, None, Ok, Err, inl, inr, refl, subst, arith}
use Rattle.std.proofs.lemmas.Bool.Decides.{nat_tests}
use Rattle.std.proofs.lemmas.List.{length-append, length-set}
use Rattle.std.proofs.lemmas.List.Elements.{All-nil, All-push, All-set, All-append, All-take, All-drop, All-head, All-tail}
use Rattle.std.proofs.lemmas.List.Quantifiers.{position-Some}
use Rattle.std.specs.Prelude.{nat_lt, position, take, drop, remove, codes, All, ⊤, if◌then◌else◌}
use Rattle.std.specs.Str.{bytes_eq}
use Rattle.exp_match.specs.declared.list.PatternList.{PatternList}
use Rattle.exp_match.specs.Arguments.{patterns_of}
use Rattle.tty.specs.declared.modes.Modes.{Modes}
use Rattle.tcl_subst.specs.Variables.{Variables}
use Rattle.tcl_results.specs.declared.code.Code.{Code}
use Rattle.tcl_results.specs.declared.code.Code.TheVariants as code
use Rattle.tcl_results.specs.Said.{Said, ◌>>=◌}
use Rattle.tcl_host.specs.Calls.{Call, Begin, Resume, AfterWords, AfterBody, Knows}
use Rattle.command_table.specs.declared.commands.ExpectCommand.{ExpectCommand}
use Rattle.command_table.specs.declared.commands.ExpectCommand.TheVariants as command
use Rattle.command_table.specs.Commands.{expect_command}
use Rattle.expect_core.specs.declared.request.Act.{Act}
use Rattle.expect_core.specs.declared.body.Body.{Body}
use Rattle.expect_core.specs.declared.body.Body.TheVariants.{Action, Source}
use Rattle.expect_core.specs.declared.channels.Channel.{Channel}
use Rattle.expect_core.specs.declared.plan.Plan.{Plan}
use Rattle.expect_core.specs.declared.phase.Phase.{Phase}
use Rattle.expect_core.specs.declared.phase.Phase.TheVariants.{Idle, At}
use Rattle.expect_core.specs.declared.effect.Effect.{Effect}
use Rattle.expect_core.specs.declared.effect.Effect.TheVariants.{Tell, Log, LogUser, Add, Store, Set, Ask, Receive, Reader, Writer, Move, Shut, Errors, Day, Before, After}
use Rattle.expect_core.specs.declared.turn.Want.TheVariants.{Answer, Item, Output, End}
use Rattle.expect_core.specs.declared.child.Child.{Child}
use Rattle.expect_core.specs.declared.own.Own.{Own}
use Rattle.expect_core.specs.declared.settings.Settings.{Settings}
use Rattle.expect_core.specs.declared.dialogue.Dialogue.{Dialogue}
use Rattle.expect_core.specs.Owned.{nobody, child_as, with_child, asked, told, logged, seen, received}
use Rattle.expect_core.specs.Opened.{channel_in, reading, writing, opened, with_moved}
use Rattle.expect_core.specs.Flags.{arguments}
use Rattle.expect_core.specs.Ids.{has_id, id_of, or_no_such, spoken_to}
use Rattle.expect_core.specs.Among.{IsAmong}
use Rattle.expect_core.specs.Sides.{Served, takes_current, asked_by, children_of, still_open}
use Rattle.expect_core.specs.Standing.{ids_with, own_ids}
use Rattle.expect_core.specs.Expecting.{patterns_by}
use Rattle.expect_core.specs.Texts.{id_at}
use Rattle.expect_core.specs.Channels.{channel_named, written_to}
use Rattle.expect_core.specs.Ends.{closed_child}
use Rattle.expect_core.specs.Transcript.{put_of, complaint_of, complained_to, put_child}
use Rattle.expect_core.specs.Answered.{Outcome, idle}
use Rattle.expect_core.specs.Effects.{changed}
use Rattle.expect_core.specs.Calls.{outer, outcome, fresh}
use Rattle.expect_core.specs.Apart.{by_id, by_option, by_patterns, one, each, named_by, named_in, under_way, speaks_to, back_to, on_top}
use Rattle.expect_core.specs.Numbered.{IsPlace, NamesAChild, AreOfPlaces, HasPlace, HasPlaceIf, IsOfPlaces, OwnNumbered, Numbered}
use Rattle.expect_core.proofs.Stepping.{PhaseOf, ChildOf, Kept}
use Rattle.expect_core.proofs.Calling.{pick, outcome_keeps}
use Rattle.expect_core.proofs.Speaking.{opens}
use Rattle.expect_core.proofs.Steady.{AnyEnd}
use Rattle.expect_core.proofs.Opening.{AreOpen, AsksOpen, asked_open, all_open, still_opens, open_within}

abbrev pub NumberedAfter : Outcome → Type 0
NumberedAfter (step, vars, st) = Numbered st

-- a child that a command speaks to stands at such a place

-- what is read, if it can be, is such
abbrev Gives : {X : Type 0} → (X → Type 0) → Said X → Type 0
Gives P (Ok x) = P x
Gives P (Err text) = Unit {0}

along : {X Y : Type 0} (P : X → Type 0) (Q : Y → Type 0) (r : Said X) (f : X → Said Y) → Gives P r → ((x : X) → P x → Gives Q (f x)) → Gives Q (r >>= f)
along P Q (Ok x) f gives go = go x gives
along P Q (Err text) f gives go = tt

past : {X Y : Type 0} (Q : Y → Type 0) (r : Said X) (f : X → Said Y) → ((x : X) → Gives Q (f x)) → Gives Q (r >>= f)
past Q (Ok x) f go = go x
past Q (Err text) f go = tt

found_place : (id : List ℕ) (r : Option ℕ) → ((i : ℕ) → r ≡ Some i → IsPlace i) → Gives IsPlace (or_no_such id r)
found_place id None at = tt
found_place id (Some i) at = at i refl

spoken_place : (id : Option (List ℕ)) (vars : Variables) (o : Own) → OwnNumbered o → Gives IsPlace (spoken_to id vars o)
spoken_place id vars o k =
    past IsPlace (id_of id vars) _ (λ name. found_place name (position (has_id name) o.children)
    (λ i e. let at = position-Some (has_id name) o.children i nobody e in let few = k.few in omega (arith, at.0, few)))

abbrev AreAll : List ℕ → Type 0
AreAll is = (i : ℕ) → IsAmong i is → IsPlace i

none_place : AreAll []
none_place i among = absurd among

one_place : (r : Said ℕ) → Gives IsPlace r → AreAll (one r)
one_place (Ok k) at i among = elim among [ inl same ↦ subst IsPlace same at | inr none ↦ absurd none ]
one_place (Err text) at i among = absurd among

each_place : (r : Said (List ℕ)) → Gives AreAll r → AreAll (each r)
each_place (Ok is) are = are
each_place (Err text) are = none_place

one_more : (is : List ℕ) (i : ℕ) → AreAll is → IsPlace i → AreAll (is ++ i ∷ [])
one_more [] k are at i among = elim among [ inl same ↦ subst IsPlace same at | inr none ↦ absurd none ]
one_more (x ∷ is) k are at i among = elim among [ inl same ↦ are i (inl same) | inr more ↦ one_more is k (λ i among. are i (inr among)) at i more ]

-- so does an open one
open_places : (o : Own) (groups : List Served) → OwnNumbered o → AreOpen o groups → AreAll (children_of (ids_with groups o))
open_places o groups k are i among =
    let within = open_within i o.children (all_open groups o are i among) in
    let few = k.few in
    omega (arith, within, few)

asked_places : (list : PatternList) (o : Own) → OwnNumbered o → (r : Said (List Served)) → AsksOpen o r → Gives AreAll (r >>= λ groups. Ok (children_of (ids_with groups o)))
asked_places list o k (Ok groups) are = open_places o groups k are
asked_places list o k (Err text) are = tt

by_list : (list : PatternList) (vars : Variables) (o : Own) → OwnNumbered o → Gives AreAll (asked_by (takes_current list) list vars o >>= λ groups. Ok (children_of (ids_with groups o)))
by_list list vars o k = asked_places list o k (asked_by (takes_current list) list vars o) (asked_open (takes_current list) list vars o)

id_place : (c : ExpectCommand) (word : List ℕ) (args : List (List ℕ)) (vars : Variables) (o : Own) → OwnNumbered o → AreAll (one (by_id c word args vars o))
id_place c word args vars o k = one_place _ (past IsPlace (arguments c word args) _ (λ f. spoken_place f.0.id vars o k))

option_place : (c : ExpectCommand) (word : List ℕ) (args : List (List ℕ)) (vars : Variables) (o : Own) → OwnNumbered o → AreAll (one (by_option c word args vars o))
option_place c word args vars o k = one_place _ (past IsPlace (arguments c word args) _ (λ f. pick (Gives IsPlace) f.0.on _ _ tt (spoken_place f.0.id vars o k)))

patterns_place : (args : List (List ℕ)) (vars : Variables) (o : Own) → OwnNumbered o → AreAll (each (by_patterns args vars o))
patterns_place args vars o k = each_place _ (past AreAll (patterns_by args (patterns_of args)) _ (λ list. by_list list vars o k))

channel_place : (n : ℕ) (cs : List Channel) → All HasPlace cs → IsPlace (channel_in n cs).child
channel_place n [] all = let least : IsPlace 0 = omega arith in least
channel_place zero (c ∷ cs) all = All-head HasPlace c cs all
channel_place (suc n) (c ∷ cs) all = channel_place n cs (All-tail HasPlace c cs all)

closed_place : (id : Option (List ℕ)) (args : List (List ℕ)) (vars : Variables) (o : Own) → OwnNumbered o → Gives IsPlace (closed_child id args vars o)
closed_place id [] vars o k = spoken_place id vars o k
closed_place id (channel ∷ more) vars o k = past IsPlace (channel_named channel o) _ (λ n. channel_place n o.channels k.opened)

errors_place : (errors : Option ℕ) → HasPlaceIf errors → Gives IsPlace (complained_to errors)
errors_place None at = tt
errors_place (Some i) at = at

put_place : (channel : List ℕ) (o : Own) → OwnNumbered o → Gives IsPlace (put_child channel o)
put_place channel o k =
    pick (Gives IsPlace) (bytes_eq channel (codes "stderr")) _ _ (errors_place o.errors k.complains)
    (past IsPlace (written_to channel o) _ (λ n. channel_place n o.channels k.opened))

named_places : (c : Option ExpectCommand) (word : List ℕ) (args : List (List ℕ)) (vars : Variables) (o : Own) → OwnNumbered o → AreAll (named_by c word args vars o)
named_places (Some command.Send) word args vars o k = id_place command.Send word args vars o k
named_places (Some command.Expect) word args vars o k = patterns_place args vars o k
named_places (Some command.Close) word args vars o k = one_place _ (past IsPlace (arguments command.Close word args) _ (λ f. closed_place f.0.id f.1 vars o k))
named_places (Some command.Puts) word args vars o k = one_place _ (past IsPlace (put_of word args) _ (λ p. put_place p.0 o k))
named_places (Some command.SendError) word args vars o k = one_place _ (past IsPlace (complaint_of word args) _ (λ text. errors_place o.errors k.complains))
named_places (Some command.Wait) word args vars o k = id_place command.Wait word args vars o k
named_places (Some command.MatchMax) word args vars o k = option_place command.MatchMax word args vars o k
named_places (Some command.RemoveNulls) word args vars o k = option_place command.RemoveNulls word args vars o k
named_places _ word args vars o k = none_place

back_by : (p : Plan) (o : Own) → OwnNumbered o → (r : Said ⊤) → still_open (children_of (own_ids p)) o ≡ r → Gives AreAll (r >>= λ all. Ok (children_of (ids_with (own_ids p) o)))
back_by p o k (Ok all) e = open_places o (own_ids p) k (still_opens (children_of (own_ids p)) o all e)
back_by p o k (Err text) e = tt

back_places : (p : Plan) (o : Own) → OwnNumbered o → AreAll (each (back_to p o))
back_places p o k = each_place (back_to p o) (back_by p o k (still_open (children_of (own_ids p)) o) refl)

on_top_places : (c : Code) (bodies : List Body) (o : Own) → OwnNumbered o → AreAll (on_top c bodies o)
on_top_places code.Again (Action p ∷ bodies) o k = back_places p o k
on_top_places code.AgainLater (Action p ∷ bodies) o k = back_places p o k
on_top_places _ _ o k = none_place

among_places : (f : Phase) → IsOfPlaces f → AreAll (under_way f)
among_places Idle at = none_place
among_places (At n (Answer i why)) at = one_more [] i none_place at
among_places (At n (Item i why)) at = one_more [] i none_place at
among_places (At n (Output p)) at = at
among_places (At n (End i p)) at = λ k among. elim among [ inl same ↦ subst IsPlace same at.0 | inr part ↦ at.1 k part ]

under_places : (f : Phase) → IsOfPlaces f → PhaseOf IsPlace AnyEnd f
under_places Idle at = tt
under_places (At n (Answer i why)) at = at
under_places (At n (Item i why)) at = at
under_places (At n (Output p)) at = at
under_places (At n (End i p)) at = (at.0, at.1, tt)

places_under : (f : Phase) → PhaseOf IsPlace AnyEnd f → IsOfPlaces f
places_under Idle at = tt
places_under (At n (Answer i why)) at = at
places_under (At n (Item i why)) at = at
places_under (At n (Output p)) at = at
places_under (At n (End i p)) at = (at.0, at.1)

-- what commands change

child_numbered : (i : ℕ) (x : Child) (o : Own) → OwnNumbered o → OwnNumbered (with_child i x o)
child_numbered i x o k = record { few = let few = k.few in omega (arith, length-set o.children i x, few); placed = k.placed; opened = k.opened; complains = k.complains; asked = k.asked }

asked_numbered : (i : ℕ) (x : Act) (o : Own) → IsPlace i → OwnNumbered o → OwnNumbered (asked i x o)
asked_numbered i x o at k = record { few = k.few; placed = k.placed; opened = k.opened; complains = k.complains; asked = All-push NamesAChild o.requests _ k.asked (omega arith, omega (arith, at)) }

logged_numbered : (text : List ℕ) (o : Own) (b : Bool) → OwnNumbered o → OwnNumbered (if b then told text o else o)
logged_numbered text o true k = k
logged_numbered text o false k = k

outer_places : (bodies : List Body) → AreOfPlaces bodies → AreOfPlaces (outer bodies)
outer_places [] are = tt
outer_places (Action p ∷ bodies) are = are.1
outer_places (Source ∷ bodies) are = are

within : (n : ℕ) → nat_lt n 16 ≡ true → IsPlace n
within n room = grind (arith, nat_tests)

-- there is room for a child more
added_numbered : (modes : Modes) (o : Own) (b : Bool) → nat_lt (length o.children) 16 ≡ b → OwnNumbered o →
    OwnNumbered (if b then record o { children = o.children ++ child_as (id_at (length o.children)) modes o.size o.remove_nulls ∷ [] } else o)
added_numbered modes o true room k =
    let at = within (length o.children) room in
    record { few = omega (arith, length-append o.children (child_as (id_at (length o.children)) modes o.size o.remove_nulls ∷ []), at); placed = k.placed; opened = k.opened; complains = k.complains; asked = k.asked }
added_numbered modes o false room k = k

received_numbered : (i : ℕ) (piece : List ℕ) (o : Own) → OwnNumbered o → OwnNumbered (received i piece o)
received_numbered i piece o k = child_numbered i _ (logged (seen i piece o) o) (logged_numbered (seen i piece o) o o.log_user k)

opened_numbered : (c : Channel) (o : Own) → IsPlace c.child → OwnNumbered o → OwnNumbered (opened c o)
opened_numbered c o at k = record { few = k.few; placed = k.placed; opened = All-push HasPlace o.channels c k.opened at; complains = k.complains; asked = k.asked }

moved_places : (n count : ℕ) (met : Bool) (cs : List Channel) → All HasPlace cs → All HasPlace (with_moved n count met cs)
moved_places n count met cs all = let c = channel_in n cs in All-set HasPlace cs n (record c { rest = drop count c.rest; met = met }) (channel_place n cs all) all

removed_places : (n : ℕ) (cs : List Channel) → All HasPlace cs → All HasPlace (remove cs n)
removed_places n cs all = All-append HasPlace (take n cs) (drop (suc n) cs) (All-take HasPlace n cs all) (All-drop HasPlace (suc n) cs all)

does_numbered : (at : Option ℕ) (x : Effect) (o : Own) → ChildOf IsPlace AnyEnd at → OwnNumbered o → OwnNumbered (changed at x o)
does_numbered at (Tell text) o a k = k
does_numbered at (Log text) o a k = logged_numbered text o o.log_user k
does_numbered at (LogUser on) o a k = k
does_numbered at (Add modes) o a k = added_numbered modes o (nat_lt (length o.children) 16) refl k
does_numbered at (Store pairs) o a k = k
does_numbered at (Set name value) o a k = k
does_numbered (Some i) (Reader bytes ended) o a k = opened_numbered (reading i bytes ended) o a k
does_numbered (Some i) Writer o a k = opened_numbered (writing i) o a k
does_numbered at (Move n count met) o a k = record { few = k.few; placed = k.placed; opened = moved_places n count met o.channels k.opened; complains = k.complains; asked = k.asked }
does_numbered at (Shut n) o a k = record { few = k.few; placed = k.placed; opened = removed_places n o.channels k.opened; complains = k.complains; asked = k.asked }
does_numbered at (Day time) o a k = k
does_numbered at (Before ids more) o a k = k
does_numbered at (After ids more) o a k = k
does_numbered (Some i) Errors o a k = record { few = k.few; placed = k.placed; opened = k.opened; complains = a; asked = k.asked }
does_numbered (Some i) (Ask act) o a k = asked_numbered i act o a k
does_numbered (Some i) (Receive piece) o a k = received_numbered i piece o k
does_numbered None _ o a k = k
does_numbered (Some i) _ o a k = child_numbered i _ o k

numbered : Kept IsPlace (λ st. OwnNumbered st.own)
numbered = record {
  does = λ at x st a k. does_numbered at x st.own a k;
  holds = λ p st sees k. record { few = k.few; placed = (sees, k.placed); opened = k.opened; complains = k.complains; asked = k.asked };
  reads = λ st k. record { few = k.few; placed = k.placed; opened = k.opened; complains = k.complains; asked = k.asked };
  pops = λ st k. record { few = k.few; placed = outer_places st.own.bodies k.placed; opened = k.opened; complains = k.complains; asked = k.asked };
  types = λ i text st a k. child_numbered i _ st.own k;
  trims = λ i st a k. child_numbered i _ st.own k;
  receives = λ i piece st a k. received_numbered i piece st.own k;
  takes = λ i q qs st a is k. k;
  answers = λ i x l st a is k. k;
  times = λ d st le k. k;
}

worded_places : (words : List (List ℕ)) (vars : Variables) (o : Own) → OwnNumbered o → AreAll (named_in words vars o)
worded_places [] vars o k = none_place
worded_places (word ∷ args) vars o k = named_places (expect_command word) word args vars o k

-- all that a call speaks to
speaks_places : (call : Call) (st : Dialogue) → OwnNumbered st.own → IsOfPlaces st.phase → AreAll (speaks_to call st)
speaks_places (Begin words vars) st k at = worded_places words vars st.own k
speaks_places (Resume vars) st k at = among_places st.phase at
speaks_places (AfterWords words vars) st k at = worded_places words vars st.own k
speaks_places (AfterBody c value vars) st k at = on_top_places c st.own.bodies (record st.own { bodies = outer st.own.bodies }) (numbered.pops (idle st) k)
speaks_places (Knows word) st k at = none_place

pub outcome_numbered : (call : Call) (st : Dialogue) → Numbered st → NumberedAfter (outcome call st)
outcome_numbered call st k =
    let new = outcome_keeps IsPlace AnyEnd (λ i p w. tt) (λ st. OwnNumbered st.own) numbered call st (opens IsPlace AnyEnd call st (speaks_places call st k.0 k.1) (λ room. within (length st.own.children) room) (λ leaves. under_places st.phase k.1)) k.0 in
    (new.0, places_under (outcome call st).2.phase new.1)

pub numbered_fresh : (settings : Settings) → Numbered (fresh settings)
numbered_fresh settings = (record { few = omega arith; placed = tt; opened = All-nil HasPlace; complains = tt; asked = All-nil NamesAChild }, tt)
