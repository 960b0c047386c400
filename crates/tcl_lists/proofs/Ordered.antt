-- Elements by what they are ordered by, one more; and those that are left out.
use Rattle.std.proofs.Common.{◌≡◌, ℕ, suc, ◌+◌, ◌<◌, ◌≤◌, Bool, true, false, List, [], ◌∷◌, ◌++◌, length, drop, get_or, Ok, Err, if◌then◌else◌, refl, sym, ap, ◌∙◌, arith, append_assoc, append-nil}
use Rattle.std.specs.Cmp.{IsStrictWeakOrder}
use Rattle.std.specs.Cmp.Lexicographic.{slice_cmp}
use Rattle.std.specs.Ordering.{nat_cmp, int_cmp, is_lt}
use Rattle.std.proofs.Math.Seq.{drop-cons}
use Rattle.std.proofs.Math.ListN.{drop_of_length-le}
use Rattle.std.proofs.lemmas.Cmp.{int_cmp_total, nat_list_cmp_total}
use Rattle.std.proofs.lemmas.List.Sorted.{ranks_by, IsStrictWeakOrder-flip}
use Rattle.tcl_lists.specs.declared.sorting.Entry.{Entry}
use Rattle.tcl_results.specs.declared.switches.Given.{Given}
use Rattle.tcl_results.specs.Said.{Said, ◌>>=◌}
use Rattle.tcl_lists.specs.Sorting.{is_lower, comes_before, is_left_out, chosen, entry_of, entries_from, elements_at}

-- entries behind those that were made already
abbrev pub onto : List Entry → Said (List Entry) → Said (List Entry)
onto made r = r >>= λ xs. Ok (made ++ xs)

onto_pushed : (made : List Entry) (x : Entry) (r : Said (List Entry)) → onto (made ++ x ∷ []) r ≡ onto made (r >>= λ xs. Ok (x ∷ xs))
onto_pushed made x (Ok xs) = ap Ok (append_assoc made (x ∷ []) xs)
onto_pushed made x (Err text) = refl

pub entries_start : (r : Said (List Entry)) → onto [] r ≡ r
entries_start (Ok xs) = refl
entries_start (Err text) = refl

module _ (g : Given) (args es : List (List ℕ)) (n : ℕ) (made : List Entry) where
  module _ (some : n < length es) where
    entries_is : entries_from g args n (drop n es) ≡ (entry_of g args n (get_or es n []) >>= λ x. entries_from g args (n + 1) (drop (n + 1) es) >>= λ xs. Ok (x ∷ xs))
    entries_is =
        let next : suc n ≡ n + 1 = omega arith in
        ap (λ (l : List (List ℕ)). entries_from g args n l) (drop-cons es n [] some ∙ ap (λ (m : ℕ). get_or es n [] ∷ drop m es) next)

    pub entries_on : (x : Entry) → entry_of g args n (get_or es n []) ≡ Ok x → onto (made ++ x ∷ []) (entries_from g args (n + 1) (drop (n + 1) es)) ≡ onto made (entries_from g args n (drop n es))
    entries_on x is =
        onto_pushed made x (entries_from g args (n + 1) (drop (n + 1) es))
        ∙ ap (onto made) (sym (entries_is ∙ ap (λ (r : Said Entry). r >>= λ x. entries_from g args (n + 1) (drop (n + 1) es) >>= λ xs. Ok (x ∷ xs)) is))

    pub entries_fail : (text : List ℕ) → entry_of g args n (get_or es n []) ≡ Err text → onto made (entries_from g args n (drop n es)) ≡ Err text
    entries_fail text is = ap (onto made) (entries_is ∙ ap (λ (r : Said Entry). r >>= λ x. entries_from g args (n + 1) (drop (n + 1) es) >>= λ xs. Ok (x ∷ xs)) is)

  pub entries_end : length es ≤ n → onto made (entries_from g args n (drop n es)) ≡ Ok made
  entries_end all = ap (λ (l : List (List ℕ)). onto made (entries_from g args n l)) (drop_of_length-le es all) ∙ ap Ok (append-nil made)

either : (t : Bool) (a b : Entry → Entry → Bool) → IsStrictWeakOrder a → IsStrictWeakOrder b → IsStrictWeakOrder (λ x y. if t then a x y else b x y)
either true a b p q = p
either false a b p q = q

lower_order : (g : Given) → IsStrictWeakOrder (is_lower g)
lower_order g =
    either g.integer (λ x y. is_lt (int_cmp x.number y.number)) (λ x y. is_lt (slice_cmp nat_cmp x.key y.key))
    (ranks_by int_cmp_total (λ (e : Entry). e.number)) (ranks_by nat_list_cmp_total (λ (e : Entry). e.key))

-- entries are ordered
pub before_order : (g : Given) → IsStrictWeakOrder (comes_before g)
before_order g = either g.decreasing (λ x y. is_lower g y x) (is_lower g) (IsStrictWeakOrder-flip (is_lower g) (lower_order g)) (lower_order g)

module _ (g : Given) (es made whole : List (List ℕ)) (x : Entry) (xs : List Entry) where
  pub chosen_on : is_left_out g x xs ≡ true → made ++ elements_at es (chosen g (x ∷ xs)) ≡ whole → made ++ elements_at es (chosen g xs) ≡ whole
  chosen_on out was = sym (ap (λ (b : Bool). made ++ elements_at es (if b then chosen g xs else x ∷ chosen g xs)) out) ∙ was

  pub chosen_at : is_left_out g x xs ≡ false → made ++ elements_at es (chosen g (x ∷ xs)) ≡ whole → (made ++ get_or es x.place [] ∷ []) ++ elements_at es (chosen g xs) ≡ whole
  chosen_at stays was =
      append_assoc made (get_or es x.place [] ∷ []) (elements_at es (chosen g xs))
      ∙ sym (ap (λ (b : Bool). made ++ elements_at es (if b then chosen g xs else x ∷ chosen g xs)) stays) ∙ was
