-- What the rules give is what is read.
use Rattle.std.proofs.Common.{◌≡◌, ℕ, ◌+◌, Bool, true, List, [], ◌∷◌, ◌++◌, length, Option, Some, None, Ok, refl, sym, ap, ◌∙◌, append_assoc, append-nil, length-append, chars, codes, arith}
use Rattle.exp_glob.specs.Elements.{glob_of}
use Rattle.exp_match.specs.Arguments.{no_marks, with_entry, with_id, with_timeout, role_of, by_role, read_on, read_more, patterns_of}
use Rattle.exp_match.specs.Grammar.{RePattern}
use Rattle.exp_match.specs.Scan.{is_pattern}
use Rattle.exp_match.specs.declared.entry.Want.{Want}
use Rattle.exp_match.specs.declared.entry.Want.TheVariants as want
use Rattle.exp_match.specs.declared.list.PatternList.{PatternList}
use Rattle.exp_match.specs.declared.pending.Marks.{Marks}
use Rattle.exp_match.specs.declared.pending.Pending.TheVariants as pending
use Rattle.exp_match.specs.declared.pending.Reader.{Reader}
use Rattle.exp_match.specs.declared.pending.Role.{Role}
use Rattle.exp_match.proofs.Accepting.{pattern_parts, a_pattern}
use Rattle.exp_match.proofs.Derived.{derived}
use Rattle.exp_match.proofs.Followed.{followed}
use Rattle.exp_match.proofs.Meant.{token_means}
use Rattle.expect_grammar.specs.ArgumentRules.{Pattern, Action, Arguments, Write, no_patterns, before, entry, unless}
use Rattle.expect_grammar.proofs.Words.{way_is, keyword_is, mark_is, id_is, timeout_is, plain_is}

-- ---- Lists, one behind another

abbrev pub later : Option (List ℕ) → Option (List ℕ) → Option (List ℕ)
later None t = t
later (Some u) t = Some u

-- a list behind what was read before it
abbrev pub joined : PatternList → PatternList → PatternList
joined front list = record { entries = front.entries ++ list.entries; ids = front.ids ++ list.ids; timeout = later list.timeout front.timeout }

with_none : (front : PatternList) → joined front no_patterns ≡ front
with_none front = rw (append-nil front.entries, append-nil front.ids) refl

with_one : (front list : PatternList) (m : Marks) (w : Want) (action : List ℕ)
    → joined (with_entry front m w action) list ≡ joined front (before (entry w m action (length front.ids)) list)
with_one front list m w action =
    ap (λ es. record { entries = es; ids = front.ids ++ list.ids; timeout = later list.timeout front.timeout })
    (append_assoc front.entries (entry w m action (length front.ids) ∷ []) list.entries)

with_process : (front list : PatternList) (id : List ℕ) → joined (with_id front id) list ≡ joined front (record list { ids = id ∷ list.ids })
with_process front list id =
    ap (λ is. record { entries = front.entries ++ list.entries; ids = is; timeout = later list.timeout front.timeout }) (append_assoc front.ids (id ∷ []) list.ids)

with_time : (front list : PatternList) (time : List ℕ)
    → joined (with_timeout front time) list ≡ joined front (record list { timeout = Some (unless list.timeout time) })
with_time front list time =
    ap (λ t. record { entries = front.entries ++ list.entries; ids = front.ids ++ list.ids; timeout = t }) (by list.timeout)
  where
    by : (t : Option (List ℕ)) → later t (Some time) ≡ Some (unless t time)
    by None = refl
    by (Some u) = refl

-- ---- Reading

-- where a pattern may stand
abbrev pub from : PatternList → Marks → Reader
from list m = record { list = list; marks = m; pending = pending.Front }

-- where an action may stand
abbrev pub awaiting : PatternList → Marks → Want → Reader
awaiting list m w = record { list = list; marks = m; pending = pending.Action w }

pub reads : (word : List ℕ) (rest : List (List ℕ)) (at : ℕ) (list : PatternList) (m : Marks) (r : Role) → role_of word ≡ r
    → read_on (word ∷ rest) at (from list m) ≡ read_more (read_on rest (at + 1)) (by_role list m at word r)
reads word rest at list m r e = ap (λ x. read_more (read_on rest (at + 1)) (by_role list m at word x)) e

pub is_regular : (word : List ℕ) → RePattern word → is_pattern word ≡ true
is_regular word r = a_pattern word r.0 r.1 (followed (chars word) r.2)

pub regular_is : (word : List ℕ) → is_pattern word ≡ true → RePattern word
regular_is word e = let p = pattern_parts word e in (p.0, p.1, derived token_means (chars word) p.2)

-- what is read at the front leaves the rest to be read from some place on
pub record Leads (args : List (List ℕ)) (at : ℕ) (r : Reader) (rest : List (List ℕ)) (next : Reader) : Type 0 where
  pub n : ℕ
  pub is : read_on args at r ≡ read_on rest n next
  pub place : n + length rest ≡ at + length args

pub pattern_leads : (nocase : Bool) (args behind : List (List ℕ)) (w : Want) → Pattern nocase args w behind → (at : ℕ) (list : PatternList) (m : Marks) → nocase ≡ m.nocase
    → Leads args at (from list m) behind (awaiting list m w)
pattern_leads nocase args behind w (Pattern.exact flag word rest f) at list m e =
    record { n = at + 1 + 1; is = reads flag (word ∷ rest) at list m _ (way_is flag _ f) ∙ ap (λ (c : Bool). read_on behind (at + 1 + 1) (awaiting list m (want.Exact word c))) (sym e); place = omega arith }
pattern_leads nocase args behind w (Pattern.glob flag word rest f) at list m e =
    record { n = at + 1 + 1; is = reads flag (word ∷ rest) at list m _ (way_is flag _ f) ∙ ap (λ (c : Bool). read_on behind (at + 1 + 1) (awaiting list m (want.Glob (glob_of word) c))) (sym e); place = omega arith }
pattern_leads nocase args behind w (Pattern.regular flag word rest f p) at list m e =
    record { n = at + 1 + 1; is = reads flag (word ∷ rest) at list m _ (way_is flag _ f) ∙ rw (is_regular word p, sym e) refl; place = omega arith }
pattern_leads nocase args behind w (Pattern.plain word rest p) at list m e =
    record { n = at + 1; is = reads word rest at list m _ (plain_is word p) ∙ ap (λ (c : Bool). read_on behind (at + 1) (awaiting list m (want.Glob (glob_of word) c))) (sym e); place = omega arith }

pub action_leads : (behind rest : List (List ℕ)) (action : List ℕ) → Action behind action rest → (at : ℕ) (list : PatternList) (m : Marks) (w : Want)
    → Leads behind at (awaiting list m w) rest (from (with_entry list m w action) no_marks)
action_leads behind rest action (Action.given a s) at list m w = record { n = at + 1; is = refl; place = omega arith }
action_leads behind rest action Action.absent at list m w = record { n = at; is = refl; place = omega arith }

pub written : (group : ℕ) (m : Marks) (args : List (List ℕ)) (list : PatternList) → Arguments group m args list → (at : ℕ) (front : PatternList) → group ≡ length front.ids
    → read_on args at (from front m) ≡ Ok (joined front list)
written group m args list (Arguments.end g f) at front e = ap (λ x. Ok x) (sym (with_none front))
written group m args list (Arguments.mark g f n flag word rest l p h) at front e =
    let k = mark_is flag m n p in
    reads flag (word ∷ rest) at front m _ k.is ∙ ap (λ (x : Marks). read_on (word ∷ rest) (at + 1) (from front x)) k.flags ∙ written group n (word ∷ rest) list h (at + 1) front e
written group m args list (Arguments.id g f id rest l h) at front e =
    let more : group + 1 ≡ length (front.ids ++ id ∷ []) = omega (arith, e, length-append front.ids (id ∷ [])) in
    reads (codes "-i") (id ∷ rest) at front m _ id_is ∙ written (group + 1) m rest l h (at + 1 + 1) (with_id front id) more ∙ ap (λ x. Ok x) (with_process front l id)
written group m args list (Arguments.timeout g f time rest l h) at front e =
    reads (codes "-timeout") (time ∷ rest) at front m _ timeout_is ∙ written group m rest l h (at + 1 + 1) (with_timeout front time) e ∙ ap (λ x. Ok x) (with_time front l time)
written group m args list (Arguments.pattern g f s behind rest w action l p a h) at front e =
    let q = pattern_leads m.nocase args behind w p at front m refl in
    let b = action_leads behind rest action a q.n front m w in
    q.is ∙ b.is ∙ written group no_marks rest l h b.n (with_entry front m w action) e
    ∙ ap (λ x. Ok x) (with_one front l m w action) ∙ ap (λ (i : ℕ). Ok (joined front (before (entry w m action i) l))) (sym e)
written group m args list (Arguments.keyword g f word behind rest k action l p a h) at front e =
    let w : Want = want.Keyword k in
    let b = action_leads behind rest action a (at + 1) front no_marks w in
    reads word behind at front m _ (keyword_is word k p) ∙ b.is ∙ written group no_marks rest l h b.n (with_entry front no_marks w action) e
    ∙ ap (λ x. Ok x) (with_one front l no_marks w action) ∙ ap (λ (i : ℕ). Ok (joined front (before (entry w no_marks action i) l))) (sym e)

pub nothing_before : (list : PatternList) → joined no_patterns list ≡ list
nothing_before list = ap (λ t. record { entries = list.entries; ids = list.ids; timeout = t }) (by list.timeout)
  where
    by : (t : Option (List ℕ)) → later t None ≡ t
    by None = refl
    by (Some u) = refl

pub write_is : (args : List (List ℕ)) (list : PatternList) → Write args list → patterns_of args ≡ Ok list
unfolding patterns_of
write_is args list h = written 0 no_marks args list h 0 no_patterns refl ∙ ap (λ x. Ok x) (nothing_before list)
