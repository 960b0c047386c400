-- The first bad argument that the rules find is the one that is told.
use Rattle.std.proofs.Common.{◌≡◌, ℕ, ◌+◌, Bool, true, false, List, [], ◌∷◌, length, Result, Err, refl, ap, ◌∙◌, codes, arith}
use Rattle.exp_match.specs.Arguments.{no_marks, with_entry, with_id, with_timeout, read_on, patterns_of}
use Rattle.exp_match.specs.Grammar.{RePattern}
use Rattle.exp_match.specs.Scan.{is_pattern}
use Rattle.exp_match.specs.declared.entry.Want.{Want}
use Rattle.exp_match.specs.declared.entry.Want.TheVariants as want
use Rattle.exp_match.specs.declared.faults.PatternFault.{PatternFault}
use Rattle.exp_match.specs.declared.faults.PatternFault.TheVariants as fault
use Rattle.exp_match.specs.declared.list.PatternList.{PatternList}
use Rattle.exp_match.specs.declared.pending.Marks.{Marks}
use Rattle.expect_grammar.specs.ArgumentRules.{IsFlag, Pattern, Bad, AreBad, place, no_patterns}
use Rattle.expect_grammar.proofs.Words.{mark_is, way_is, keyword_is, id_is, timeout_is, unknown_is}
use Rattle.expect_grammar.proofs.Written.{from, reads, regular_is, pattern_leads, action_leads}

not_regular : (word : List ℕ) → ¬ RePattern word → is_pattern word ≡ false
not_regular word other = by (is_pattern word) refl
  where
    by : (b : Bool) → is_pattern word ≡ b → b ≡ false
    by true e = absurd (other (regular_is word e))
    by false e = refl

-- where a pattern stands, one stands that regards case or doesn't
record Stands (nocase : Bool) (args behind : List (List ℕ)) : Type 0 where
  want : Want
  is : Pattern nocase args want behind

in_case : (nocase c : Bool) (args behind : List (List ℕ)) (w : Want) → Pattern nocase args w behind → Stands c args behind
in_case nocase c args behind w (Pattern.exact flag word rest f) = record { want = _; is = Pattern.exact flag word rest f }
in_case nocase c args behind w (Pattern.glob flag word rest f) = record { want = _; is = Pattern.glob flag word rest f }
in_case nocase c args behind w (Pattern.regular flag word rest f p) = record { want = _; is = Pattern.regular flag word rest f p }
in_case nocase c args behind w (Pattern.plain word rest p) = record { want = _; is = Pattern.plain word rest p }

module _ (all : List (List ℕ)) where
  -- the index of the first of these arguments
  abbrev At : ℕ → List (List ℕ) → Type 0
  At at args = at + length args ≡ length all

  index_is : (at : ℕ) (args : List (List ℕ)) → At at args → at ≡ place all args
  index_is at args e = omega (arith, e)

  bad_flag : (at : ℕ) (args : List (List ℕ)) → At at args → ◌≡◌ {A = Result PatternList PatternFault} (Err (fault.BadFlag at)) (Err (fault.BadFlag (place all args)))
  bad_flag at args e = ap (λ (i : ℕ). Err (fault.BadFlag i)) (index_is at args e)

  next : (at : ℕ) (word : List ℕ) (rest : List (List ℕ)) → At at (word ∷ rest) → At (at + 1) rest
  next at word rest e = omega (arith, e)

  -- a flag at the end
  last_is : (flag : List ℕ) → IsFlag flag → (at : ℕ) (front : PatternList) (m : Marks) → read_on (flag ∷ []) at (from front m) ≡ Err (fault.BadFlag at)
  last_is flag (IsFlag.mark v before behind p) at front m = reads flag [] at front m _ ((mark_is flag before behind p).is)
  last_is flag (IsFlag.written v w p) at front m = reads flag [] at front m _ (way_is flag w p)
  last_is flag IsFlag.id at front m = reads flag [] at front m _ id_is
  last_is flag IsFlag.timeout at front m = reads flag [] at front m _ timeout_is

  pub faulted : (args : List (List ℕ)) (f : PatternFault) → Bad all args f → (at : ℕ) (front : PatternList) (m : Marks) → At at args → read_on args at (from front m) ≡ Err f
  faulted args f (Bad.unknown word rest u) at front m e = reads word rest at front m _ (unknown_is word u) ∙ bad_flag at args e
  faulted args f (Bad.last flag h) at front m e = last_is flag h at front m ∙ bad_flag at args e
  faulted args f (Bad.regular flag word rest w other) at front m e =
      reads flag (word ∷ rest) at front m _ (way_is flag _ w) ∙ rw (not_regular word other) refl
      ∙ ap (λ (i : ℕ). Err (fault.BadRegex i)) (index_is (at + 1) (word ∷ rest) (next at flag (word ∷ rest) e))
  faulted args f (Bad.mark before behind flag word rest g p h) at front m e =
      let k = mark_is flag before behind p in
      reads flag (word ∷ rest) at front m _ k.is ∙ faulted (word ∷ rest) f h (at + 1) front _ (next at flag (word ∷ rest) e)
  faulted args f (Bad.id id rest g h) at front m e =
      reads (codes "-i") (id ∷ rest) at front m _ id_is ∙ faulted rest f h (at + 1 + 1) (with_id front id) m (next (at + 1) id rest (next at (codes "-i") (id ∷ rest) e))
  faulted args f (Bad.timeout time rest g h) at front m e =
      reads (codes "-timeout") (time ∷ rest) at front m _ timeout_is
      ∙ faulted rest f h (at + 1 + 1) (with_timeout front time) m (next (at + 1) time rest (next at (codes "-timeout") (time ∷ rest) e))
  faulted args f (Bad.pattern nocase s behind rest w action g p a h) at front m e =
      let s = in_case nocase m.nocase args behind w p in
      let q = pattern_leads m.nocase args behind s.want s.is at front m refl in
      let b = action_leads behind rest action a q.n front m s.want in
      q.is ∙ b.is ∙ faulted rest f h b.n (with_entry front m s.want action) no_marks (b.place ∙ q.place ∙ e)
  faulted args f (Bad.keyword word behind rest k action g p a h) at front m e =
      let b = action_leads behind rest action a (at + 1) front no_marks (want.Keyword k) in
      reads word behind at front m _ (keyword_is word k p) ∙ b.is
      ∙ faulted rest f h b.n (with_entry front no_marks (want.Keyword k) action) no_marks (b.place ∙ next at word behind e)

pub bad_is : (args : List (List ℕ)) (f : PatternFault) → AreBad args f → patterns_of args ≡ Err f
unfolding patterns_of
bad_is args f h = faulted args args f h 0 no_patterns no_marks (omega arith)
