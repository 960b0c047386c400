-- Lists that are gone over by value, while another is made of what came of each member.
use Rattle.std.proofs.Common.{◌≡◌, ℕ, zero, suc, ◌+◌, ◌-◌, ◌≤◌, List, [], ◌∷◌, ◌++◌, length, take, drop, add-one, sym, ap, ◌∙◌, arith, length-drop, Some, None, Err}
use Rattle.std.proofs.lemmas.List.{drop-drop}
use Rattle.std.specs.Prelude.{Option, nat_lt, if◌then◌else◌, Bool, true, false}
use Rattle.dialogue_sched.specs.declared.script.Script.{Script}
use Rattle.dialogue_sched.specs.declared.hall.HallFault.{HallFault}
use Rattle.dialogue_sched.specs.declared.hall.HallFault.TheVariants as halls
use Rattle.dialogue_sched.specs.Pairs.{Paired}
use Rattle.dialogue_sched.specs.Hall.{Opens, opening_fault, too_long}
use Rattle.dialogue_sched.proofs.Pairing.{Paired-push, head_of, no_cons}

-- so many of the members were taken, and each is paired with what came of it
pub record Through {X Y : Type 0} (R : X → Y → Type 0) (xs rest : List X) (ys : List Y) (k : ℕ) : Type 0 where
  pub left : rest ≡ drop k xs
  pub within : k ≤ length xs
  pub paired : Paired R (take k xs) ys

take_one : {X : Type 0} (k : ℕ) (xs : List X) (x : X) (rest : List X) → drop k xs ≡ x ∷ rest → take (suc k) xs ≡ take k xs ++ x ∷ []
take_one zero [] x rest h = no_cons x rest (sym h)
take_one zero (y ∷ ys) x rest h = ap (λ z. z ∷ []) (head_of y x ys rest h)
take_one (suc k) [] x rest h = no_cons x rest (sym h)
take_one (suc k) (y ∷ ys) x rest h = ap (λ zs. y ∷ zs) (take_one k ys x rest h)

longer : {X : Type 0} (k : ℕ) (xs : List X) (x : X) (rest : List X) → drop k xs ≡ x ∷ rest → length xs - k ≡ suc (length rest)
longer k xs x rest h = sym (length-drop k xs) ∙ ap length h

pub one_left : {X Y : Type 0} (R : X → Y → Type 0) (xs rest more : List X) (ys : List Y) (k : ℕ) (x : X) → Through R xs rest ys k → rest ≡ x ∷ more → k + 1 ≤ length xs
one_left R xs rest more ys k x o is = let l = longer k xs x more (sym o.left ∙ is) in omega (arith, l)

pub through_more : {X Y : Type 0} (R : X → Y → Type 0) (xs rest more : List X) (ys : List Y) (k : ℕ) (x : X) (y : Y) → Through R xs rest ys k → rest ≡ x ∷ more → R x y → Through R xs more (ys ++ y ∷ []) (k + 1)
through_more R xs rest more ys k x y o is r =
    let split : drop k xs ≡ x ∷ more = sym o.left ∙ is in
    record {
      left = ap (λ zs. drop 1 zs) (sym split) ∙ drop-drop 1 k xs;
      within = one_left R xs rest more ys k x o is;
      paired = rw (add-one, take_one k xs x more split) (Paired-push R (take k xs) ys x y o.paired r);
    }

-- why there is no hall, for another reason than memory
no_memory : {A : Type 0} → ◌≡◌ {A = Option HallFault} None (Some halls.Memory) → A
no_memory h = absurd (cc)

not_too_long : {A : Type 0} (n : ℕ) (ss : List Script) → too_long n ss ≡ Some halls.Memory → A
not_too_long n [] h = no_memory h
not_too_long n (s ∷ ss) h = by_length (nat_lt 1048576 (length s.source)) h (not_too_long (n + 1) ss)
  where
    by_length : {A : Type 0} (b : Bool) → (if b then Some (halls.SourceTooLong n) else too_long (n + 1) ss) ≡ Some halls.Memory → (too_long (n + 1) ss ≡ Some halls.Memory → A) → A
    by_length true h others = absurd (cc)
    by_length false h others = others h

pub opens_not : (ss : List Script) (f : HallFault) → opening_fault ss ≡ Some f → Opens ss (Err f)
opens_not ss halls.TooManyScripts h = h
opens_not ss (halls.SourceTooLong n) h = h
opens_not ss halls.Memory h = by_count (nat_lt 64 (length ss)) h
  where
    by_count : (b : Bool) → (if b then Some halls.TooManyScripts else too_long 1 ss) ≡ Some halls.Memory → opening_fault ss ≡ None
    by_count true h = absurd (cc)
    by_count false h = not_too_long 1 ss h
