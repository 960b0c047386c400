-- What isn't found in some bytes isn't found in the last of them.
use Rattle.std.proofs.Common.{◌≡◌, ℕ, ◌+◌, ◌-◌, ◌<◌, ◌≤◌, Bool, true, false, List, length, length-drop, drop, drop-drop, take, get_or, get_or-drop, get_or-take, Option, None, Some, option_map, refl, sym, ap, subst, ◌∙◌, ⊎_elim, arith}
use Rattle.std.proofs.lemmas.Bool.{cases_lt}
use Rattle.std.proofs.lemmas.List.{drop_all, length-take}
use Rattle.std.proofs.lemmas.Option.{slice_get_within}
use Rattle.exp_glob.specs.Spans.{FindsFirst}
use Rattle.exp_glob.specs.declared.pattern.Glob.{Glob}
use Rattle.exp_glob.proofs.Endings.{of_rest}
use Rattle.exp_match.specs.Choice.{Finds, NoneBefore, HasNone, Lasts, alone}
use Rattle.exp_match.specs.Exact.{alike, StandsAt, FindsExact}
use Rattle.exp_match.specs.Reach.{IsBounded}
use Rattle.exp_match.specs.Written.{Written, FindsAsWritten}
use Rattle.exp_match.proofs.Reaching.{AreBytes, bounded_in_rest}
use Rattle.exp_match.specs.declared.entry.Entry.{Entry}
use Rattle.exp_match.specs.declared.entry.Want.{Want}
use Rattle.exp_match.specs.declared.entry.Want.TheVariants as want

module _ (nocase : Bool) (text bytes : List ℕ) where
  -- a text in the bytes behind a place
  pub of_rest_stands : (d k : ℕ) → d ≤ length bytes → StandsAt nocase text (drop d bytes) k → StandsAt nocase text bytes (d + k)
  of_rest_stands d k le s = (
    omega (arith, s.0, length-drop d bytes),
    λ j lt. subst (λ c. alike nocase c (get_or text j 0) ≡ true) (get_or-drop d bytes (k + j) 0 ∙ ap (λ i. get_or bytes i 0) (omega arith)) (s.1 j lt),
  )

  pub rest_stands : (d k : ℕ) → d ≤ length bytes → StandsAt nocase text bytes (d + k) → StandsAt nocase text (drop d bytes) k
  rest_stands d k le s = (
    omega (arith, s.0, length-drop d bytes),
    λ j lt. subst (λ c. alike nocase c (get_or text j 0) ≡ true) (sym (get_or-drop d bytes (k + j) 0 ∙ ap (λ i. get_or bytes i 0) (omega arith))) (s.1 j lt),
  )

  -- a text in the first bytes
  pub front_stands : (n k : ℕ) → k + length text ≤ n → StandsAt nocase text bytes k → StandsAt nocase text (take n bytes) k
  front_stands n k le s = (
    omega (arith, s.0, length-take n bytes),
    λ j lt. subst (λ c. alike nocase c (get_or text j 0) ≡ true) (sym (get_or-take n bytes (k + j) 0 (omega arith))) (s.1 j lt),
  )

-- What stands nowhere in the first n bytes stands behind their first ones alone.
module _ (nocase : Bool) (text bytes : List ℕ) (n from : ℕ) (unfound : 0 < n → FindsExact nocase text (take n bytes) None) (is : from ≡ n - length text) where
  pub none_before : (k : ℕ) → StandsAt nocase text bytes k → from ≤ k
  none_before k s =
      ⊎_elim
      (λ (before : k < from). absurd (unfound (omega arith) k (front_stands nocase text bytes n k (omega arith) s)))
      (λ (behind : from ≤ k). behind)
      (cases_lt k from)

  pub none_past : length bytes < from → FindsExact nocase text bytes None
  none_past past k s = omega (arith, s.0, none_before k s)

  at_rest : from ≤ length bytes → (k : ℕ) → StandsAt nocase text bytes k → StandsAt nocase text (drop from bytes) (k - from)
  at_rest le k s = rest_stands nocase text bytes from (k - from) le (subst (λ i. StandsAt nocase text bytes i) (omega (arith, none_before k s)) s)

  pub none_behind : from ≤ length bytes → FindsExact nocase text (drop from bytes) None → FindsExact nocase text bytes None
  none_behind le none k s = none (k - from) (at_rest le k s)

  pub some_behind : from ≤ length bytes → (start end : ℕ) → FindsExact nocase text (drop from bytes) (Some (start, end)) → FindsExact nocase text bytes (Some (from + start, from + end))
  some_behind le start end some = (
    of_rest_stands nocase text bytes from start le some.0,
    omega (arith, some.1),
    λ k s. let least = some.2 (k - from) (at_rest le k s) in omega (arith, least, none_before k s),
  )

-- nothing found is no span
pub no_span : (span : Option (ℕ × ℕ)) → None ≡ option_map alone span → span ≡ None
no_span None e = refl
no_span (Some s) e = absurd (cc)

rest_within : (w : Want) (bytes : List ℕ) → AreBytes bytes → (d : ℕ) → d ≤ length bytes → Lasts w → Finds w bytes None → Finds w (drop d bytes) None
rest_within (want.Exact text nocase) bytes are d le lasting f =
    let none : FindsExact nocase text bytes None = subst (λ (o : Option (ℕ × ℕ)). FindsExact nocase text bytes o) (no_span f.0 f.2) f.1 in
    (None, (λ k s. none (d + k) (of_rest_stands nocase text bytes d k le s)), refl)
rest_within (want.Glob glob nocase) bytes are d le free f =
    let none : FindsFirst glob nocase bytes None = subst (λ (o : Option (ℕ × ℕ)). FindsFirst glob nocase bytes o) (no_span f.0 f.2) f.1 in (
      None,
      (λ a b h. none (d + a) (d + b)
          (omega (arith, h.0, length-drop d bytes), (λ anchored. absurd (cc)), of_rest nocase bytes glob.elements d a b le h.2)),
      refl,
    )
rest_within (want.Regular written) bytes are d le bound f = bounded_in_rest written bound bytes are d f
rest_within (want.Keyword k) bytes are d le lasting f = refl

-- what lasts and finds nothing finds nothing in the last of the bytes
pub none_in_rest : (w : Want) (bytes : List ℕ) → AreBytes bytes → (d : ℕ) → Lasts w → Finds w bytes None → Finds w (drop d bytes) None
none_in_rest w bytes are d lasting f =
    ⊎_elim
    (λ (past : length bytes < d).
    let same : drop d bytes ≡ drop (length bytes) bytes = drop_all d bytes (omega arith) ∙ sym (drop_all (length bytes) bytes (omega arith)) in
    subst (λ (l : List ℕ). Finds w l None) (sym same) (rest_within w bytes are (length bytes) (omega arith) lasting f))
    (λ (within : d ≤ length bytes). rest_within w bytes are d within lasting f)
    (cases_lt (length bytes) d)

-- what is said of an exact text, of a glob, or of a regular pattern
module _ (w : Want) (bytes : List ℕ) (none : Lasts w → Finds w bytes None) where
  pub exact_none : (nocase : Bool) (text : List ℕ) → w ≡ want.Exact text nocase → FindsExact nocase text bytes None
  exact_none nocase text is =
      let f = subst (λ (x : Want). Lasts x → Finds x bytes None) is none tt in
      subst (λ (o : Option (ℕ × ℕ)). FindsExact nocase text bytes o) (no_span f.0 f.2) f.1

  pub glob_none : (nocase : Bool) (glob : Glob) → w ≡ want.Glob glob nocase → glob.anchored ≡ false → FindsFirst glob nocase bytes None
  glob_none nocase glob is free =
      let f = subst (λ (x : Want). Lasts x → Finds x bytes None) is none free in
      subst (λ (o : Option (ℕ × ℕ)). FindsFirst glob nocase bytes o) (no_span f.0 f.2) f.1

  pub regular_none : (written : Written) → w ≡ want.Regular written → IsBounded written → FindsAsWritten written bytes None
  regular_none written is = subst (λ (x : Want). Lasts x → Finds x bytes None) is none

pub has_none_in_rest : (entries : List Entry) (groups bytes : List ℕ) (d : ℕ) → d ≤ length bytes → HasNone entries groups bytes → HasNone entries groups (drop d bytes)
has_none_in_rest entries groups bytes d le none k e at here lasting more =
    subst (λ (l : List ℕ). Finds e.want l None) (sym (drop-drop more d bytes)) (none k e at here lasting (d + more))

-- where no entry found anything
pub has_none : (entries : List Entry) (groups bytes : List ℕ) → AreBytes bytes → NoneBefore entries groups bytes (length entries) → HasNone entries groups bytes
has_none entries groups bytes are before k e at here lasting d = none_in_rest e.want bytes are d lasting (before k e (slice_get_within entries k e at) at here)
