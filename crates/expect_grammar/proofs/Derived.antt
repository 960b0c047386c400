-- The rules give a list for all arguments, or find a bad one. What is read is therefore what they give.
use Rattle.std.proofs.Common.{◌≡◌, ℕ, ◌+◌, Bool, true, false, List, [], ◌∷◌, Result, Ok, Err, refl, sym, ◌∙◌, subst, codes}
use Rattle.exp_match.specs.Arguments.{role_of, with_mark, patterns_of}
use Rattle.exp_match.specs.Scan.{is_pattern}
use Rattle.exp_match.specs.declared.entry.Want.{Want}
use Rattle.exp_match.specs.declared.faults.PatternFault.{PatternFault}
use Rattle.exp_match.specs.declared.list.PatternList.{PatternList}
use Rattle.exp_match.specs.declared.pending.Marks.{Marks}
use Rattle.exp_match.specs.declared.pending.Role.{Role}
use Rattle.exp_match.specs.declared.pending.Way.{Way}
use Rattle.exp_match.specs.declared.pending.Way.TheVariants as way
use Rattle.expect_grammar.specs.ArgumentRules.{IsMark, IsWay, IsFlag, Pattern, Action, Arguments, Write, Bad, AreBad, no_patterns, no_flags}
use Rattle.expect_grammar.proofs.Words.{RoleIs, role_is}
use Rattle.expect_grammar.proofs.Written.{regular_is, is_regular, write_is}
use Rattle.expect_grammar.proofs.Faulted.{bad_is}

-- what the rules say of arguments
data Outcome (all : List (List ℕ)) (group : ℕ) (m : Marks) (args : List (List ℕ)) : Type 0 where
  good : (list : PatternList) → Arguments group m args list → Outcome all group m args
  bad : (f : PatternFault) → Bad all args f → Outcome all group m args

module _ (all : List (List ℕ)) where
  abbrev Outcomes : List (List ℕ) → Type 0
  Outcomes args = (group : ℕ) (m : Marks) → Outcome all group m args

  -- what they say of arguments, and of all that stand behind one of these
  abbrev Each : List (List ℕ) → Type 0
  Each [] = Outcomes []
  Each (word ∷ rest) = Outcomes (word ∷ rest) × Each rest

  here : (args : List (List ℕ)) → Each args → Outcomes args
  here [] e = e
  here (word ∷ rest) e = e.0

  -- a pattern or keyword with its action
  with_action : (group : ℕ) (m : Marks) (args behind : List (List ℕ)) → Each behind
      → ((action : List ℕ) (rest : List (List ℕ)) → Action behind action rest → Outcome all group no_flags rest → Outcome all group m args) → Outcome all group m args
  with_action group m args [] e rule = rule [] [] Action.absent (here [] e group no_flags)
  with_action group m args (action ∷ rest) e rule = rule action rest (Action.given action rest) (here rest e.1 group no_flags)

  with_pattern : (group : ℕ) (m : Marks) (args behind : List (List ℕ)) (w : Want) → Pattern m.nocase args w behind → Each behind → Outcome all group m args
  with_pattern group m args behind w p e = with_action group m args behind e by
    where
      by : (action : List ℕ) (rest : List (List ℕ)) → Action behind action rest → Outcome all group no_flags rest → Outcome all group m args
      by action rest a (Outcome.good l h) = Outcome.good _ (Arguments.pattern group m args behind rest w action l p a h)
      by action rest a (Outcome.bad f h) = Outcome.bad f (Bad.pattern m.nocase args behind rest w action f p a h)

  -- a flag with nothing behind it
  at_end : (group : ℕ) (m : Marks) (flag : List ℕ) → IsFlag flag → Outcome all group m (flag ∷ [])
  at_end group m flag h = Outcome.bad _ (Bad.last flag h)

  marked : (group : ℕ) (m n : Marks) (flag : List ℕ) (rest : List (List ℕ)) → IsMark flag m n → Each rest → Outcome all group m (flag ∷ rest)
  marked group m n flag [] p e = at_end group m flag (IsFlag.mark flag m n p)
  marked group m n flag (word ∷ rest) p e = by (e.0 group n)
    where
      by : Outcome all group n (word ∷ rest) → Outcome all group m (flag ∷ word ∷ rest)
      by (Outcome.good l h) = Outcome.good l (Arguments.mark group m n flag word rest l p h)
      by (Outcome.bad f h) = Outcome.bad f (Bad.mark m n flag word rest f p h)

  identified : (group : ℕ) (m : Marks) (rest : List (List ℕ)) → Each rest → Outcome all group m (codes "-i" ∷ rest)
  identified group m [] e = at_end group m (codes "-i") IsFlag.id
  identified group m (id ∷ rest) e = by (here rest e.1 (group + 1) m)
    where
      by : Outcome all (group + 1) m rest → Outcome all group m (codes "-i" ∷ id ∷ rest)
      by (Outcome.good l h) = Outcome.good _ (Arguments.id group m id rest l h)
      by (Outcome.bad f h) = Outcome.bad f (Bad.id id rest f h)

  timed : (group : ℕ) (m : Marks) (rest : List (List ℕ)) → Each rest → Outcome all group m (codes "-timeout" ∷ rest)
  timed group m [] e = at_end group m (codes "-timeout") IsFlag.timeout
  timed group m (time ∷ rest) e = by (here rest e.1 group m)
    where
      by : Outcome all group m rest → Outcome all group m (codes "-timeout" ∷ time ∷ rest)
      by (Outcome.good l h) = Outcome.good _ (Arguments.timeout group m time rest l h)
      by (Outcome.bad f h) = Outcome.bad f (Bad.timeout time rest f h)

  written : (group : ℕ) (m : Marks) (flag word : List ℕ) (rest : List (List ℕ)) (w : Way) → IsWay flag w → Each rest → Outcome all group m (flag ∷ word ∷ rest)
  written group m flag word rest way.Exact p e = with_pattern group m (flag ∷ word ∷ rest) rest _ (Pattern.exact flag word rest p) e
  written group m flag word rest way.Glob p e = with_pattern group m (flag ∷ word ∷ rest) rest _ (Pattern.glob flag word rest p) e
  written group m flag word rest way.Regular p e = by (is_pattern word) refl
    where
      by : (b : Bool) → is_pattern word ≡ b → Outcome all group m (flag ∷ word ∷ rest)
      by true is = with_pattern group m (flag ∷ word ∷ rest) rest _ (Pattern.regular flag word rest p (regular_is word is)) e
      by false is = Outcome.bad _ (Bad.regular flag word rest p (λ r. let yes = is_regular word r in cc))

  front : (group : ℕ) (m : Marks) (word : List ℕ) (rest : List (List ℕ)) (r : Role) → RoleIs word r → Each rest → Outcome all group m (word ∷ rest)
  front group m word rest r (RoleIs.mark v k p) e = marked group m (with_mark m k) word rest (p m) e
  front group m word rest r RoleIs.id e = identified group m rest e
  front group m word rest r RoleIs.timeout e = timed group m rest e
  front group m word [] r (RoleIs.written v w p) e = at_end group m word (IsFlag.written word w p)
  front group m word (pattern ∷ rest) r (RoleIs.written v w p) e = written group m word pattern rest w p e.1
  front group m word rest r (RoleIs.keyword v k p) e = with_action group m (word ∷ rest) rest e by
    where
      by : (action : List ℕ) (behind : List (List ℕ)) → Action rest action behind → Outcome all group no_flags behind → Outcome all group m (word ∷ rest)
      by action behind a (Outcome.good l h) = Outcome.good _ (Arguments.keyword group m word rest behind k action l p a h)
      by action behind a (Outcome.bad f h) = Outcome.bad f (Bad.keyword word rest behind k action f p a h)
  front group m word rest r (RoleIs.plain v p) e = with_pattern group m (word ∷ rest) rest _ (Pattern.plain word rest p) e
  front group m word rest r (RoleIs.unknown v u) e = Outcome.bad _ (Bad.unknown word rest u)

  each : (args : List (List ℕ)) → Each args
  each [] = λ group m. Outcome.good no_patterns (Arguments.end group m)
  each (word ∷ rest) = let e = each rest in (λ group m. front group m word rest (role_of word) (role_is word) e, e)

outcome : (args : List (List ℕ)) → Outcome args 0 no_flags args
outcome args = here args args (each args args) 0 no_flags

-- ---- What is read

same_list : (v w : PatternList) → ◌≡◌ {A = Result PatternList PatternFault} (Ok v) (Ok w) → v ≡ w
same_list v w e = cc

same_fault : (f g : PatternFault) → ◌≡◌ {A = Result PatternList PatternFault} (Err f) (Err g) → f ≡ g
same_fault f g e = cc

pub never_both : (args : List (List ℕ)) (list : PatternList) (f : PatternFault) → Write args list → ¬ AreBad args f
never_both args list f h b = let read = sym (write_is args list h) ∙ bad_is args f b in cc

pub one_list : (args : List (List ℕ)) (v w : PatternList) → Write args v → Write args w → v ≡ w
one_list args v w g h = same_list v w (sym (write_is args v g) ∙ write_is args w h)

pub one_bad : (args : List (List ℕ)) (f g : PatternFault) → AreBad args f → AreBad args g → f ≡ g
one_bad args f g h i = same_fault f g (sym (bad_is args f h) ∙ bad_is args g i)

pub is_written : (args : List (List ℕ)) (list : PatternList) → patterns_of args ≡ Ok list → Write args list
is_written args list is = by (outcome args)
  where
    by : Outcome args 0 no_flags args → Write args list
    by (Outcome.good l h) = subst (λ x. Write args x) (same_list l list (sym (write_is args l h) ∙ is)) h
    by (Outcome.bad f h) = absurd (let read = sym (bad_is args f h) ∙ is in cc)

pub is_bad : (args : List (List ℕ)) (f : PatternFault) → patterns_of args ≡ Err f → AreBad args f
is_bad args f is = by (outcome args)
  where
    by : Outcome args 0 no_flags args → AreBad args f
    by (Outcome.good l h) = absurd (let read = sym (write_is args l h) ∙ is in cc)
    by (Outcome.bad g h) = subst (λ x. AreBad args x) (same_fault g f (sym (bad_is args g h) ∙ is)) h
