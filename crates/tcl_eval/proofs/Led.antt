-- Lists of replies that lead from one tree to another.
use Rattle.std.proofs.Common.{◌≡◌, ℕ, List, [], ◌∷◌, ◌++◌, Result, Ok, Err, IfOk, true, false, refl, sym, ap, ◌∙◌, subst}
use Rattle.tcl_host.specs.Calls.{Call, Reply}
use Rattle.tcl_eval.specs.Tree.{Tree, Answers, follow, Leads}
use Rattle.tcl_eval.specs.Asked.{EndsInWait, IsWait, WaitsAt, IsOverOrAsking, PausesAt, IsAskingOnPause, OnPause}
use Rattle.tcl_eval.specs.declared.frame.Asked.{Asked}
use Rattle.tcl_eval.specs.declared.frame.Mode.{Mode}
use Rattle.tcl_eval.specs.declared.frame.Mode.TheVariants.{Give, Run, Call as CallHost, Define, Ended}

-- the tree that is reached, by another name
pub leads_along : {H : Type 0} (answers : H → Call → Reply → H → Type 0) (rs : List Reply) (tree : Tree) (h : H) (mid to : Tree) (h' : H) → Leads answers rs tree h mid h' → mid ≡ to → Leads answers rs tree h to h'
leads_along answers rs tree h mid to h' l e = subst (λ (t : Tree). Leads answers rs tree h t h') e l

-- one reply, to the call of what is next
pub leads_reply : {H : Type 0} (answers : H → Call → Reply → H → Type 0) (rest : Mode → Tree) (mode mode' : Mode) (h : H) (r : Reply) (to : Tree) (h' : H) → mode ≡ mode' → Answers answers (rest mode') h r h' → to ≡ follow (rest mode') r → Leads answers (r ∷ []) (rest mode) h to h'
leads_reply answers rest mode mode' h r to h' e a f =
    subst (λ (m : Mode). Leads answers (r ∷ []) (rest m) h to h') (sym e) (h', a, (sym f, refl))

-- two lists of replies, one behind the other
pub leads_append : {H : Type 0} (answers : H → Call → Reply → H → Type 0) (rs ss : List Reply) (tree : Tree) (h : H) (mid : Tree) (h' : H) (to : Tree) (h'' : H) → Leads answers rs tree h mid h' → Leads answers ss mid h' to h'' → Leads answers (rs ++ ss) tree h to h''
leads_append answers [] ss tree h mid h' to h'' l m = subst (λ (t : Tree). Leads answers ss t h to h'') (sym l.0) (subst (λ (s : _). Leads answers ss mid s to h'') (sym l.1) m)
leads_append answers (r ∷ rs) ss tree h mid h' to h'' l m = (l.0, l.1, leads_append answers rs ss (follow tree r) l.0 mid h' to h'' l.2 m)

ends_in_wait-append : (rs ss : List Reply) → EndsInWait ss → EndsInWait (rs ++ ss)
ends_in_wait-append [] ss e = e
ends_in_wait-append (r ∷ []) [] e = absurd e
ends_in_wait-append (r ∷ []) (s ∷ ss) e = e
ends_in_wait-append (r ∷ q ∷ rs) ss e = ends_in_wait-append (q ∷ rs) ss e

-- a call that is waited for
pub pauses_waiting : (mode : Mode) (r : Reply) → IsOverOrAsking mode → IsWait r → PausesAt mode (r ∷ [])
pauses_waiting (Ended end) r o e = tt
pauses_waiting (Give c v) r o e = absurd o
pauses_waiting (Run script depth) r o e = absurd o
pauses_waiting (CallHost call depth resumed) r o e = (e, o)
pauses_waiting (Define name formals body) r o e = absurd o

pub pauses_append : (mode : Mode) (rs ss : List Reply) → PausesAt mode ss → PausesAt mode (rs ++ ss)
pauses_append (Ended end) rs ss e = tt
pauses_append (Give c v) rs ss e = (ends_in_wait-append rs ss e.0, e.1)
pauses_append (Run script depth) rs ss e = (ends_in_wait-append rs ss e.0, e.1)
pauses_append (CallHost call depth resumed) rs ss e = (ends_in_wait-append rs ss e.0, e.1)
pauses_append (Define name formals body) rs ss e = (ends_in_wait-append rs ss e.0, e.1)

-- what goes on doesn't pause
pub pauses_never : (a : Asked) (mode : Mode) (rs : List Reply) → a ≡ record { mode = mode; paused = false } → OnPause a rs
pauses_never a mode rs e p = let q : false ≡ true = sym (ap (λ (x : Asked). x.paused) e) ∙ p in absurd (cc)
