-- Each request of a report names a child from 1 to 16.
use Rattle.std.proofs.Common.{◌≡◌, ℕ, ◌-◌, List, [], ◌∷◌, ◌++◌, Bool, true, false, Option, Some, None, refl, sym, subst}
use Rattle.std.proofs.lemmas.Option.{slice_get_within, get_or_from_slice_get}
use Rattle.std.specs.Prelude.{All, IsTrue, IfSome, slice_get}
use Rattle.child_events.specs.declared.event.Event.{Event}
use Rattle.tcl_host.specs.declared.host.HostStep.TheVariants.{Done, Fail, Body, Words, Wait, Stop, Unknown, Memory}
use Rattle.tcl_host.specs.Calls.{Begin, Resume, AfterWords, AfterBody, Knows, Reply, Stepped, Known}
use Rattle.tcl_eval.specs.Tree.{Tree, Over, Ask}
use Rattle.expect_core.specs.declared.dialogue.Dialogue.{Dialogue}
use Rattle.expect_core.specs.declared.request.Request.{Request}
use Rattle.expect_core.specs.declared.settings.Settings.{Settings}
use Rattle.expect_core.specs.Lanes.{offered, extended}
use Rattle.expect_core.specs.Answered.{Outcome}
use Rattle.expect_core.specs.Calls.{knows, fresh}
use Rattle.expect_core.specs.Numbered.{NamesAChild, Numbered}
use Rattle.expect_core.proofs.Numbered.{NumberedAfter, outcome_numbered, numbered_fresh}
use Rattle.session.specs.declared.report.Report.{Report}
use Rattle.session.specs.Play.{behind, play}
use Rattle.session.specs.Meaning.{steps_of, tree_of, meaning}
use Rattle.session.specs.Left.{Kept, left, Fed, HandsOut}
use Rattle.session.specs.Requests.{AllNameAChild, AsksChildren}

abbrev NamesChildren : Report → Type 0
NamesChildren r = All NamesAChild r.requests

behind_names : (steps : ℕ) (more : Reply → Dialogue → Report) (x : Outcome) → NumberedAfter x → ((r : Reply) (d : Dialogue) → Numbered d → NamesChildren (more r d)) → NamesChildren (behind steps more x)
behind_names steps more (Wait, vars, st) k names = k.0.asked
behind_names steps more (Done c v, vars, st) k names = names (Stepped (Done c v) vars) st k
behind_names steps more (Fail t, vars, st) k names = names (Stepped (Fail t) vars) st k
behind_names steps more (Body t, vars, st) k names = names (Stepped (Body t) vars) st k
behind_names steps more (Words t, vars, st) k names = names (Stepped (Words t) vars) st k
behind_names steps more (Stop e, vars, st) k names = names (Stepped (Stop e) vars) st k
behind_names steps more (Unknown, vars, st) k names = names (Stepped Unknown vars) st k
behind_names steps more (Memory, vars, st) k names = names (Stepped Memory vars) st k

play_names : (bound : ℕ) (t : Tree) (d : Dialogue) → Numbered d → NamesChildren (play bound t d)
play_names bound (Over e s) d k = k.0.asked
play_names bound (Ask (Knows word) left go) d k = play_names bound (go (Known (knows word))) d k
play_names bound (Ask (Begin words vars) left go) d k = behind_names (bound - left) (λ r. play bound (go r)) _ (outcome_numbered (Begin words vars) d k) (λ r. play_names bound (go r))
play_names bound (Ask (Resume vars) left go) d k = behind_names (bound - left) (λ r. play bound (go r)) _ (outcome_numbered (Resume vars) d k) (λ r. play_names bound (go r))
play_names bound (Ask (AfterWords words vars) left go) d k = behind_names (bound - left) (λ r. play bound (go r)) _ (outcome_numbered (AfterWords words vars) d k) (λ r. play_names bound (go r))
play_names bound (Ask (AfterBody c v vars) left go) d k = behind_names (bound - left) (λ r. play bound (go r)) _ (outcome_numbered (AfterBody c v vars) d k) (λ r. play_names bound (go r))

-- an event changes nothing that has a child's number
numbered_extended : (es : List Event) (d : Dialogue) → Numbered d → Numbered (extended es d)
numbered_extended [] d k = k
numbered_extended (e ∷ es) d k = numbered_extended es (offered e d) k

pub all_name_a_child : AllNameAChild
all_name_a_child source settings events =
    play_names (steps_of settings.steps) (tree_of source settings) (extended events (fresh settings)) (numbered_extended events (fresh settings) (numbered_fresh settings))

pub begins_asking : (source : List ℕ) (settings : Settings) (k : Kept) → (IsTrue k.lives → (later : List Event) → left k later ≡ meaning source settings later) → AsksChildren k
begins_asking source settings k says = λ lives later. subst NamesChildren (sym (says lives later)) (all_name_a_child source settings later)

pub fed_asking : (old new : Kept) (events : List Event) → Fed old events new → AsksChildren old → AsksChildren new
fed_asking old new events f asks = λ lives later. subst NamesChildren (sym (f.says lives later)) (asks (f.lived lives) (events ++ later))

named_at : (rs : List Request) (n : ℕ) (r : Request) → All NamesAChild rs → slice_get rs n ≡ Some r → NamesAChild r
named_at rs n r all at = subst NamesAChild (get_or_from_slice_get rs n r r at) (all n r (slice_get_within rs n r at))

-- one that doesn't live hands out nothing
handed_name : (old new : Kept) (r : Request) → HandsOut old (Some r) new → AsksChildren old → (b : Bool) → old.lives ≡ b → NamesAChild r
handed_name old new r out asks true lives = named_at (left old []).requests old.handed r (asks lives []) (sym (out.next lives))
handed_name old new r out asks false spent = let none : Some r ≡ None = out.spent spent in absurd (cc)

some_handed : (old new : Kept) (request : Option Request) → HandsOut old request new → AsksChildren old → IfSome request NamesAChild
some_handed old new None out asks = tt
some_handed old new (Some r) out asks = handed_name old new r out asks old.lives refl

pub handed_asking : (old new : Kept) (request : Option Request) → HandsOut old request new → AsksChildren old → AsksChildren new × IfSome request NamesAChild
handed_asking old new request out asks =
    (λ lives later. subst NamesChildren (sym (out.says later)) (asks (subst (λ (b : Bool). IsTrue b) out.lives lives) later), some_handed old new request out asks)
