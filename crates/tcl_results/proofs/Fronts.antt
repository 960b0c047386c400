-- Flags at the front, a word more.
use Rattle.std.proofs.Common.{◌≡◌, ℕ, suc, ◌+◌, ◌-◌, ◌<◌, ◌≤◌, Bool, true, false, ◌&&◌, List, [], ◌∷◌, ◌++◌, length, length-drop, take, drop, get_or, Option, Some, None, Ok, Err, sym, ap, ◌∙◌, arith, append_assoc, append-nil, refl, if◌then◌else◌}
use Rattle.std.specs.Prelude.{nat_lt}
use Rattle.std.proofs.lemmas.Bool.Decides.{nat_tests}
use Rattle.std.proofs.Math.Seq.{drop-cons, take-suc}
use Rattle.std.proofs.Math.ListN.{drop_of_length-le}
use Rattle.command_table.specs.declared.switches.Switch.{Switch}
use Rattle.command_table.specs.declared.switches.Switches.{Switches}
use Rattle.command_table.specs.Flags.{begins_with_minus}
use Rattle.command_table.specs.Switches.{switch_of, takes_value, is_end}
use Rattle.tcl_results.specs.Texts.{bad_flag}
use Rattle.tcl_results.specs.Front.{Front, front_from, at_flag, with_flag}
use Rattle.tcl_results.specs.Said.{Said, ◌>>=◌}

-- flags before a front
abbrev pub with_flags : List (List ℕ) → Said Front → Said Front
with_flags flags said = said >>= λ p. Ok (flags ++ p.0, p.1)

one_flag : (flags : List (List ℕ)) (w : List ℕ) (said : Said Front) → with_flags flags (said >>= λ p. Ok (with_flag w p)) ≡ with_flags (flags ++ w ∷ []) said
one_flag flags w (Ok p) = ap (λ (l : List (List ℕ)). Ok (l, p.1)) (sym (append_assoc flags (w ∷ []) p.0))
one_flag flags w (Err text) = refl

is_more : (n m : ℕ) → n < m → nat_lt n m ≡ true
is_more n m lt = grind (arith, nat_tests, lt)

is_none : (n m : ℕ) → m ≤ n → nat_lt n m ≡ false
is_none n m le = grind (arith, nat_tests, le)

module _ (args : List (List ℕ)) (s : Switches) (tail at : ℕ) (due : Bool) (whole : Said Front) (was : with_flags (take at args) (front_from s tail due (drop at args)) ≡ whole) where
  -- no word from here on is a flag
  ends : front_from s tail due (drop at args) ≡ Ok ([], drop at args) → whole ≡ Ok (take at args, drop at args)
  ends is =
      sym was ∙ ap (with_flags (take at args)) is
      ∙ ap (λ (l : List (List ℕ)). Ok (l, drop at args)) (append-nil (take at args))

  pub front_out : length args ≤ at → whole ≡ Ok (take at args, drop at args)
  front_out all = ends (ap (front_from s tail due) none ∙ ap (λ (l : List (List ℕ)). Ok ([], l)) (sym none))
    where
      none : drop at args ≡ []
      none = drop_of_length-le args all

  module _ (some : at < length args) where
    abbrev word : List ℕ
    word = get_or args at []

    abbrev others : List (List ℕ)
    others = drop (at + 1) args

    here : drop at args ≡ word ∷ others
    here = let next : suc at ≡ at + 1 = omega arith in drop-cons args at [] some ∙ ap (λ (n : ℕ). get_or args at [] ∷ drop n args) next

    -- the word is a flag or the value of one
    passed : (b : Bool) → front_from s tail due (drop at args) ≡ (front_from s tail b others >>= λ p. Ok (with_flag word p)) → with_flags (take (at + 1) args) (front_from s tail b (drop (at + 1) args)) ≡ whole
    passed b is =
        let next : at + 1 ≡ suc at = omega arith in
        ap (λ (flags : List (List ℕ)). with_flags flags (front_from s tail b others)) (ap (λ (n : ℕ). take n args) next ∙ take-suc args at [] some)
        ∙ sym (one_flag (take at args) word (front_from s tail b others))
        ∙ ap (with_flags (take at args)) (sym is)
        ∙ was

    pub front_value : due ≡ true → with_flags (take (at + 1) args) (front_from s tail false (drop (at + 1) args)) ≡ whole
    front_value is = passed false (ap (λ (b : Bool). front_from s tail b (drop at args)) is ∙ ap (front_from s tail true) here)

    module _ (not_due : due ≡ false) where
      step_is : (more minus : Bool) (o : Option Switch) → nat_lt tail (length args - at) ≡ more → begins_with_minus (get_or args at []) ≡ minus → switch_of s (get_or args at []) ≡ o
          → front_from s tail due (drop at args) ≡ (if more && minus then at_flag word o others (λ b. front_from s tail b others) else Ok ([], word ∷ others))
      step_is more minus o is_so is_minus is =
          ap (λ (b : Bool). front_from s tail b (drop at args)) not_due
          ∙ ap (front_from s tail false) here
          ∙ ap (λ (n : ℕ). if nat_lt tail n && begins_with_minus word then at_flag word (switch_of s word) others (λ b. front_from s tail b others) else Ok ([], word ∷ others)) (ap (λ (l : List (List ℕ)). length l) (sym here) ∙ length-drop at args)
          ∙ ap (λ (b : Bool). if b && begins_with_minus word then at_flag word (switch_of s word) others (λ b. front_from s tail b others) else Ok ([], word ∷ others)) is_so
          ∙ ap (λ (b : Bool). if more && b then at_flag word (switch_of s word) others (λ b. front_from s tail b others) else Ok ([], word ∷ others)) is_minus
          ∙ ap (λ (o : Option Switch). if more && minus then at_flag word o others (λ b. front_from s tail b others) else Ok ([], word ∷ others)) is

      back : ◌≡◌ {A = Said Front} (Ok ([], word ∷ others)) (Ok ([], drop at args))
      back = ap (λ (l : List (List ℕ)). Ok ([], l)) (sym here)

      pub front_short : length args - at ≤ tail → whole ≡ Ok (take at args, drop at args)
      front_short few = ends (step_is false (begins_with_minus word) (switch_of s word) (is_none tail (length args - at) few) refl refl ∙ back)

      module _ (enough : tail < length args - at) where
        pub front_plain : begins_with_minus (get_or args at []) ≡ false → whole ≡ Ok (take at args, drop at args)
        front_plain is = ends (step_is true false (switch_of s word) (is_more tail (length args - at) enough) is refl ∙ back)

        module _ (minus : begins_with_minus (get_or args at []) ≡ true) where
          pub front_bad : switch_of s (get_or args at []) ≡ None → whole ≡ Err (bad_flag (get_or args at []))
          front_bad is = sym was ∙ ap (with_flags (take at args)) (step_is true true None (is_more tail (length args - at) enough) minus is)

          module _ (x : Switch) (is : switch_of s (get_or args at []) ≡ Some x) where
            at_end : (b : Bool) → is_end x ≡ b → front_from s tail due (drop at args) ≡ (if b then Ok ([], others) else (front_from s tail (takes_value x) others >>= λ p. Ok (with_flag word p)))
            at_end b so =
                step_is true true (Some x) (is_more tail (length args - at) enough) minus is
                ∙ ap (λ (b : Bool). if b then Ok ([], others) else (front_from s tail (takes_value x) others >>= λ p. Ok (with_flag word p))) so

            pub front_stop : is_end x ≡ true → whole ≡ Ok (take at args, drop (at + 1) args)
            front_stop so =
                sym was ∙ ap (with_flags (take at args)) (at_end true so)
                ∙ ap (λ (l : List (List ℕ)). Ok (l, others)) (append-nil (take at args))

            pub front_on : (value : Bool) → is_end x ≡ false → value ≡ takes_value x → with_flags (take (at + 1) args) (front_from s tail value (drop (at + 1) args)) ≡ whole
            front_on value so is_value = ap (λ (b : Bool). with_flags (take (at + 1) args) (front_from s tail b (drop (at + 1) args))) is_value ∙ passed (takes_value x) (at_end false so)
