-- `close`, `wait` and `exp_pid` (expect(1)).
use Rattle.std.specs.Prelude.{ℕ, ◌+◌, List, [], ◌∷◌, ◌++◌, codes, Bool, true, false, if◌then◌else◌, Option, Some, None, Ok, Err}
use Rattle.std.specs.Fmt.{decimal}
use Rattle.tcl_words.specs.Bytes as ascii
use Rattle.command_table.specs.declared.commands.ExpectCommand.TheVariants as command
use Rattle.child_events.specs.declared.event.Answer.{Answer}
use Rattle.child_events.specs.declared.event.Answer.TheVariants as answer
use Rattle.child_events.specs.declared.event.Cause.{Cause}
use Rattle.child_events.specs.declared.event.Cause.TheVariants as cause
use Rattle.tcl_subst.specs.Variables.{Variables}
use Rattle.tcl_results.specs.Said.{Said, ◌>>=◌}
use Rattle.expect_core.specs.declared.request.Act.TheVariants as act
use Rattle.expect_core.specs.declared.child.Standing.TheVariants as standing
use Rattle.expect_core.specs.declared.child.Change.TheVariants.{Stand, Waited}
use Rattle.expect_core.specs.declared.effect.Effect.TheVariants.{Ask, Alter}
use Rattle.expect_core.specs.declared.turn.Purpose.TheVariants as purpose
use Rattle.expect_core.specs.declared.turn.Next.TheVariants.{Finish, Await}
use Rattle.expect_core.specs.declared.turn.Reaction.{Reaction}
use Rattle.expect_core.specs.declared.turn.Deed.{Deed}
use Rattle.expect_core.specs.declared.turn.Deed.TheVariants.{Alone, To}
use Rattle.expect_core.specs.declared.own.Own.{Own}
use Rattle.expect_core.specs.Flags.{arguments}
use Rattle.expect_core.specs.Owned.{child_of}
use Rattle.expect_core.specs.Ids.{open_to, spoken_to}
use Rattle.expect_core.specs.Opened.{channel_of}
use Rattle.expect_core.specs.Channels.{channel_named, closing_channel}
use Rattle.tcl_results.specs.Texts.{wrong_args}
use Rattle.expect_core.specs.Texts.{with_cause, waited_for, number_of_cause}
use Rattle.expect_core.specs.Turns.{react, done, well, badly}

-- close ?-i spawn_id?, close channelId, wait ?-nowait? ?-i spawn_id?, exp_pid ?-i spawn_id?

abbrev pub closing_child : Option (List ℕ) → Variables → Own → Said Deed
closing_child id vars o = open_to id vars o >>= λ i. Ok (To i (react (Ask act.Close ∷ []) (Await purpose.Close)))

-- A word is a channel, beside which there is no spawn id.
abbrev pub closing_by : List ℕ → Option (List ℕ) → List (List ℕ) → Variables → Own → Said Deed
closing_by name id [] vars o = closing_child id vars o
closing_by name None (channel ∷ more) vars o = closing_channel channel o
closing_by name (Some id) (channel ∷ more) vars o = Err (wrong_args name)

abbrev pub closing : List ℕ → List (List ℕ) → Variables → Own → Said Deed
closing name args vars o = arguments command.Close name args >>= λ f. closing_by name f.0.id f.1 vars o

-- The child that is closed.
abbrev pub closed_child : Option (List ℕ) → List (List ℕ) → Variables → Own → Said ℕ
closed_child id [] vars o = spoken_to id vars o
closed_child id (channel ∷ more) vars o = channel_named channel o >>= λ n. Ok (channel_of n o).child

abbrev pub close_of : List ℕ → List (List ℕ) → Variables → Own → Said ℕ
close_of name args vars o = arguments command.Close name args >>= λ f. closed_child f.0.id f.1 vars o

-- The child is closed even if the request failed.
abbrev pub closed : Option Cause → Reaction
closed None = well (Alter (Stand standing.Closed) ∷ [])
closed (Some c) = badly (Alter (Stand standing.Closed) ∷ []) (with_cause (codes "close failed") c)

-- Reading its output failed, and the child is closed.
abbrev pub broken : Cause → Reaction
broken c = badly (Alter (Stand standing.Closed) ∷ []) (with_cause (codes "read failed") c)

-- A child can be waited for once.
abbrev pub if_unwaited : ℕ → Own → Said ℕ
if_unwaited i o = if (child_of i o).waited then Err (waited_for (child_of i o).id) else Ok i

-- Whether there is `-nowait`, and the child.
abbrev pub wait_of : List ℕ → List (List ℕ) → Variables → Own → Said (Bool × ℕ)
wait_of name args vars o = arguments command.Wait name args >>= λ f. spoken_to f.0.id vars o >>= λ i. if_unwaited i o >>= λ i. Ok (f.0.on, i)

abbrev pub failed_by : Cause → List ℕ
failed_by c = codes "-1 " ++ decimal (number_of_cause c)

-- How a child ended.
abbrev pub end_text : Answer → List ℕ
end_text (answer.Exit n) = codes "0 " ++ decimal n
end_text answer.Killed = codes "0 -1 CHILDKILLED unknown unknown"
end_text (answer.Fail c) = failed_by c
end_text answer.Ok = failed_by cause.Other

-- The child's number, its spawn id and how it ended.
abbrev pub waited_text : ℕ → Answer → Own → List ℕ
waited_text i a o = decimal (i + 1) ++ ascii.space ∷ (child_of i o).id ++ ascii.space ∷ end_text a

abbrev pub waited : ℕ → Answer → Own → Reaction
waited i a o = react [] (Finish (done (waited_text i a o)))

-- With -nowait the child's end is not awaited, and its status is 0.
abbrev pub waiting_on : Bool → ℕ → Own → Reaction
waiting_on true i o = react (Alter Waited ∷ []) (Finish (done (waited_text i (answer.Exit 0) o)))
waiting_on false i o = react (Alter Waited ∷ Ask act.Wait ∷ []) (Await purpose.Wait)

abbrev pub waiting : List ℕ → List (List ℕ) → Variables → Own → Said Deed
waiting name args vars o = wait_of name args vars o >>= λ w. Ok (To w.1 (waiting_on w.0 w.1 o))

-- The child's number.
abbrev pub numbering : List ℕ → List (List ℕ) → Variables → Own → Said Deed
numbering name args vars o = arguments command.ExpPid name args >>= λ f. spoken_to f.0.id vars o >>= λ i. Ok (Alone [] (done (decimal (i + 1))))
