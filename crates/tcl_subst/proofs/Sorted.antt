-- Entries in byte order of names are the same where they answer alike.
use Rattle.std.proofs.Common.{◌≡◌, ℕ, Bool, true, false, not, cond, List, [], ◌∷◌, ◌++◌, Option, Some, None, refl, sym, ap, subst, ◌∙◌}
use Rattle.std.specs.Prelude.{T, ◌&&◌, ◌≤◌, ◌<◌, length}
use Rattle.std.proofs.Common.{arith}
use Rattle.std.proofs.lemmas.Bool.Decides.{nat_tests}
use Rattle.std.specs.Map.{keys_of}
use Rattle.std.specs.List.{AllByRecursion}
use Rattle.std.specs.List.Sorted.{IsStrictlySortedBy}
use Rattle.tcl_subst.proofs.Named.{named}
use Rattle.std.specs.Ordering.{is_eq, is_lt, match_ordering}
use Rattle.std.specs.declared.cmp.Ordering.{Ordering}
use Rattle.std.specs.declared.cmp.Ordering.TheVariants.{Less, Equal, Greater}
use Rattle.std.specs.Option.{option_map}
use Rattle.std.specs.Cmp.Lexicographic.{nat_list_cmp_total}
use Rattle.std.specs.BTreeMap.{insert_entry}
use Rattle.std.specs.FinMap.{nat_cmp-IsAntisymmetric, slice_cmp-IsAntisymmetric}
use Rattle.std.specs.FinMap.Entries as fin
use Rattle.tcl_subst.specs.Entries.{Entries, order, is_name, find, without, changed}
use Rattle.tcl_subst.specs.declared.short.Short.{Short}
use Rattle.tcl_subst.specs.Shorts.{text_of}
use Rattle.tcl_subst.specs.Both.{is_short, in_order, both, Sorted}

equal : (o : Ordering) → is_eq o ≡ true → o ≡ Equal
equal Less e = absurd cc
equal Equal e = refl
equal Greater e = absurd cc

less : (o : Ordering) → T (is_lt o) → o ≡ Less
less Less t = refl
less Equal t = absurd t
less Greater t = absurd t

-- names that are told for the same are
one_name : (q name : List ℕ) → is_name q name ≡ true → q ≡ name
one_name q name e = slice_cmp-IsAntisymmetric nat_cmp-IsAntisymmetric q name (equal _ e)

both_so : (a b : Bool) → T a → T b → T (a && b)
both_so true b p q = q
both_so false b p q = p

first_so : (a b : Bool) → T (a && b) → T a
first_so true b p = tt
first_so false b p = p

second_so : (a b : Bool) → T (a && b) → T b
second_so true b p = p
second_so false b p = absurd p

is_less : (o : Ordering) → o ≡ Less → T (is_lt o)
is_less o e = subst (λ r. T (is_lt r)) (sym e) tt

pub short_so : (name : List ℕ) → length name ≤ 15 → is_short name ≡ true
short_so name few = grind (arith, nat_tests)

pub long_so : (name : List ℕ) → 15 < length name → is_short name ≡ false
long_so name many = grind (arith, nat_tests)

module _ {X : Type 0} where
  put_is : (k : List ℕ) (v : X) (es : Entries X) → fin.put order k v es ≡ insert_entry order es k v
  put_is k v [] = refl
  put_is k v (e ∷ es) =
      elim (order k e.0) as (λ o. fin.by_order o ((k, v) ∷ e ∷ es) ((e.0, v) ∷ es) (e ∷ fin.put order k v es) ≡ match_ordering o ((k, v) ∷ e ∷ es) ((e.0, v) ∷ es) (e ∷ insert_entry order es k v)) [
        | Less ↦ refl
        | Equal ↦ refl
        | Greater ↦ ap (λ r. e ∷ r) (put_is k v es)
      ]

  find_is : (q : List ℕ) (es : Entries X) → fin.find order q es ≡ find q es
  find_is q [] = refl
  find_is q (e ∷ es) = ap (λ r. cond (is_name q e.0) (Some e.1) r) (find_is q es)

  pub sorted_put : (k : List ℕ) (v : X) (es : Entries X) → Sorted es → Sorted (insert_entry order es k v)
  sorted_put k v es s = subst Sorted (put_is k v es) (fin.is_sorted-put order nat_list_cmp_total k v es s)

  pub find_put : (q k : List ℕ) (v : X) (es : Entries X) → find q (insert_entry order es k v) ≡ cond (is_name q k) (Some v) (find q es)
  find_put q k v es =
      ap (find q) (sym (put_is k v es)) ∙ sym (find_is q (fin.put order k v es)) ∙ fin.find-put order nat_list_cmp_total q k v es
      ∙ ap (λ r. cond (is_name q k) (Some v) r) (find_is q es)

  pub same : (es fs : Entries X) → Sorted es → Sorted fs → ((q : List ℕ) → find q es ≡ find q fs) → es ≡ fs
  same es fs s t each =
      fin.same_entries order nat_list_cmp_total (slice_cmp-IsAntisymmetric nat_cmp-IsAntisymmetric) es fs s t (λ q. find_is q es ∙ each q ∙ sym (find_is q fs))

  pub sorted_in : (es : Entries X) → Sorted (in_order es)
  sorted_in [] = tt
  sorted_in (e ∷ es) = sorted_put e.0 e.1 (in_order es) (sorted_in es)

  sorted_both : (short long : Entries X) → Sorted (both short long)
  sorted_both short long = sorted_in (fin.where_key order is_short short ++ fin.where_key order (λ name. not (is_short name)) long)

  find_in : (q : List ℕ) (es : Entries X) → find q (in_order es) ≡ find q es
  find_in q [] = refl
  find_in q (e ∷ es) = find_put q e.0 e.1 (in_order es) ∙ ap (λ r. cond (is_name q e.0) (Some e.1) r) (find_in q es)

  find_where : (p : List ℕ → Bool) (q : List ℕ) (es : Entries X) → find q (fin.where_key order p es) ≡ cond (p q) (find q es) None
  find_where p q es =
      sym (find_is q (fin.where_key order p es))
      ∙ fin.find-where_key order p q (λ x e. ap p (sym (slice_cmp-IsAntisymmetric nat_cmp-IsAntisymmetric q x e))) es
      ∙ ap (λ r. cond (p q) r None) (find_is q es)

  or_else : Option X → Option X → Option X
  or_else (Some x) o = Some x
  or_else None o = o

  find_append : (q : List ℕ) (es fs : Entries X) → find q (es ++ fs) ≡ or_else (find q es) (find q fs)
  unfolding or_else
  find_append q [] fs = refl
  find_append q (e ∷ es) fs =
      elim (is_name q e.0) as (λ b. cond b (Some e.1) (find q (es ++ fs)) ≡ or_else (cond b (Some e.1) (find q es)) (find q fs)) [ true ↦ refl | false ↦ find_append q es fs ]

  one_of : (s : Bool) (a b : Option X) → or_else (cond s a None) (cond (not s) b None) ≡ cond s a b
  unfolding or_else
  one_of true (Some x) b = refl
  one_of true None b = refl
  one_of false a b = refl

  pub find_both : (q : List ℕ) (short long : Entries X) → find q (both short long) ≡ cond (is_short q) (find q short) (find q long)
  find_both q short long =
      find_in q (fin.where_key order is_short short ++ fin.where_key order (λ name. not (is_short name)) long)
      ∙ find_append q (fin.where_key order is_short short) (fin.where_key order (λ name. not (is_short name)) long)
      ∙ (λ i. or_else (find_where is_short q short i) (find_where (λ name. not (is_short name)) q long i))
      ∙ one_of (is_short q) (find q short) (find q long)

  in_short : (h : Option X → Option X) (c s : Bool) (a b : Option X) → (c ≡ true → s ≡ true) → cond c (h (cond s a b)) (cond s a b) ≡ cond s (cond c (h a) a) b
  in_short h true true a b t = refl
  in_short h false true a b t = refl
  in_short h true false a b t = let e : false ≡ true = t refl in absurd cc
  in_short h false false a b t = refl

  in_long : (h : Option X → Option X) (c s : Bool) (a b : Option X) → (c ≡ true → s ≡ false) → cond c (h (cond s a b)) (cond s a b) ≡ cond s a (cond c (h b) b)
  in_long h true true a b t = let e : true ≡ false = t refl in absurd cc
  in_long h false true a b t = refl
  in_long h true false a b t = refl
  in_long h false false a b t = refl

  -- what changes the answer for a name alone
  module _ (name : List ℕ) (h : Option X → Option X) (op : Entries X → Entries X) (keeps : (es : Entries X) → Sorted es → Sorted (op es)) where
    abbrev Answers : Entries X → Type 0
    Answers es = (q : List ℕ) → find q (op es) ≡ cond (is_name q name) (h (find q es)) (find q es)

    on_short : (short long : Entries X) → is_short name ≡ true → Answers (both short long) → Answers short → op (both short long) ≡ both (op short) long
    on_short short long is all one = same _ _ (keeps (both short long) (sorted_both short long)) (sorted_both (op short) long) (λ q.
        all q
        ∙ ap (λ r. cond (is_name q name) (h r) r) (find_both q short long)
        ∙ in_short h (is_name q name) (is_short q) (find q short) (find q long) (λ e. ap is_short (one_name q name e) ∙ is)
        ∙ ap (λ r. cond (is_short q) r (find q long)) (sym (one q))
        ∙ sym (find_both q (op short) long))

    on_long : (short long : Entries X) → is_short name ≡ false → Answers (both short long) → Answers long → op (both short long) ≡ both short (op long)
    on_long short long is all one = same _ _ (keeps (both short long) (sorted_both short long)) (sorted_both short (op long)) (λ q.
        all q
        ∙ ap (λ r. cond (is_name q name) (h r) r) (find_both q short long)
        ∙ in_long h (is_name q name) (is_short q) (find q short) (find q long) (λ e. ap is_short (one_name q name e) ∙ is)
        ∙ ap (λ r. cond (is_short q) (find q short) r) (sym (one q))
        ∙ sym (find_both q short (op long)))

  pub put_short : (name : List ℕ) (x : X) (short long : Entries X) → is_short name ≡ true → insert_entry order (both short long) name x ≡ both (insert_entry order short name x) long
  put_short name x short long is =
      on_short name (λ _. Some x) (λ es. insert_entry order es name x) (λ es. sorted_put name x es) short long is (λ q. find_put q name x (both short long)) (λ q. find_put q name x short)

  pub put_long : (name : List ℕ) (x : X) (short long : Entries X) → is_short name ≡ false → insert_entry order (both short long) name x ≡ both short (insert_entry order long name x)
  put_long name x short long is =
      on_long name (λ _. Some x) (λ es. insert_entry order es name x) (λ es. sorted_put name x es) short long is (λ q. find_put q name x (both short long)) (λ q. find_put q name x long)

  change_step : (x v : X) (f : Option X) (a b c : Bool) → (b ≡ true → c ≡ a) → (c ≡ true → a ≡ b) → cond b (cond a (Some x) f) (cond a (Some v) (cond c (option_map (λ _. x) f) f)) ≡ cond c (option_map (λ _. x) (cond a (Some v) f)) (cond a (Some v) f)
  change_step x v f true true true p q = refl
  change_step x v f false true false p q = refl
  change_step x v f true true false p q = let e : false ≡ true = p refl in absurd cc
  change_step x v f false true true p q = let e : true ≡ false = p refl in absurd cc
  change_step x v f true false true p q = let e : true ≡ false = q refl in absurd cc
  change_step x v f true false false p q = refl
  change_step x v f false false true p q = refl
  change_step x v f false false false p q = refl

  no_choice : (c : Bool) (f : Option X) → f ≡ cond c f f
  no_choice true f = refl
  no_choice false f = refl

  find_choice : (q : List ℕ) (t : Bool) (es fs : Entries X) → find q (cond t es fs) ≡ cond t (find q es) (find q fs)
  find_choice q true es fs = refl
  find_choice q false es fs = refl

  find_changed : (name : List ℕ) (x : X) (es : Entries X) (q : List ℕ) → find q (changed name x es) ≡ cond (is_name q name) (option_map (λ _. x) (find q es)) (find q es)
  find_changed name x [] q = no_choice (is_name q name) None
  find_changed name x (e ∷ es) q =
      find_choice q (is_name name e.0) ((e.0, x) ∷ es) (e ∷ changed name x es)
      ∙ ap (λ r. cond (is_name name e.0) (cond (is_name q e.0) (Some x) (find q es)) (cond (is_name q e.0) (Some e.1) r)) (find_changed name x es q)
      ∙ change_step x e.1 (find q es) (is_name q e.0) (is_name name e.0) (is_name q name) (λ t. ap (is_name q) (one_name name e.0 t)) (λ t. ap (λ n. is_name n e.0) (one_name q name t))

  below_changed : (y name : List ℕ) (x : X) (es : Entries X) → fin.below_all order y (changed name x es) ≡ fin.below_all order y es
  below_changed y name x [] = refl
  below_changed y name x (e ∷ es) =
      elim (is_name name e.0) as (λ t. fin.below_all order y (cond t ((e.0, x) ∷ es) (e ∷ changed name x es)) ≡ fin.below_all order y (e ∷ es)) [
        | true ↦ refl
        | false ↦ ap (λ b. is_lt (order y e.0) && b) (below_changed y name x es)
      ]

  order_changed : (name : List ℕ) (x : X) (es : Entries X) → fin.is_sorted order (changed name x es) ≡ fin.is_sorted order es
  order_changed name x [] = refl
  order_changed name x (e ∷ es) =
      elim (is_name name e.0) as (λ t. fin.is_sorted order (cond t ((e.0, x) ∷ es) (e ∷ changed name x es)) ≡ fin.is_sorted order (e ∷ es)) [
        | true ↦ refl
        | false ↦ λ i. below_changed e.0 name x es i && order_changed name x es i
      ]

  pub change_short : (name : List ℕ) (x : X) (short long : Entries X) → is_short name ≡ true → changed name x (both short long) ≡ both (changed name x short) long
  change_short name x short long is =
      on_short name (option_map (λ _. x)) (λ es. changed name x es) (λ es s. subst T (sym (order_changed name x es)) s) short long is (find_changed name x (both short long)) (find_changed name x short)

  pub change_long : (name : List ℕ) (x : X) (short long : Entries X) → is_short name ≡ false → changed name x (both short long) ≡ both short (changed name x long)
  change_long name x short long is =
      on_long name (option_map (λ _. x)) (λ es. changed name x es) (λ es s. subst T (sym (order_changed name x es)) s) short long is (find_changed name x (both short long)) (find_changed name x long)

  remove_step : (v : X) (f : Option X) (a b c : Bool) → (b ≡ true → c ≡ a) → (c ≡ true → a ≡ b) → (a ≡ true → f ≡ None) → cond b f (cond a (Some v) (cond c None f)) ≡ cond c None (cond a (Some v) f)
  remove_step v f true true true p q n = n refl
  remove_step v f false true false p q n = refl
  remove_step v f true true false p q n = let e : false ≡ true = p refl in absurd cc
  remove_step v f false true true p q n = let e : true ≡ false = p refl in absurd cc
  remove_step v f true false true p q n = let e : true ≡ false = q refl in absurd cc
  remove_step v f true false false p q n = refl
  remove_step v f false false true p q n = refl
  remove_step v f false false false p q n = refl

  find_below : (y : List ℕ) (es : Entries X) → T (fin.below_all order y es) → find y es ≡ None
  find_below y [] t = refl
  find_below y (e ∷ es) t =
      ap (λ o. cond (is_eq o) (Some e.1) (find y es)) (less (order y e.0) (first_so _ _ t)) ∙ find_below y es (second_so _ _ t)

  find_without : (name : List ℕ) (es : Entries X) → Sorted es → (q : List ℕ) → find q (without name es) ≡ cond (is_name q name) None (find q es)
  find_without name [] s q = no_choice (is_name q name) None
  find_without name (e ∷ es) s q =
      find_choice q (is_name name e.0) es (e ∷ without name es)
      ∙ ap (λ r. cond (is_name name e.0) (find q es) (cond (is_name q e.0) (Some e.1) r)) (find_without name es (second_so _ _ s) q)
      ∙ remove_step e.1 (find q es) (is_name q e.0) (is_name name e.0) (is_name q name) (λ t. ap (is_name q) (one_name name e.0 t)) (λ t. ap (λ n. is_name n e.0) (one_name q name t))
      (λ t. ap (λ n. find n es) (one_name q e.0 t) ∙ find_below e.0 es (first_so _ _ s))

  below_without : (y name : List ℕ) (es : Entries X) → T (fin.below_all order y es) → T (fin.below_all order y (without name es))
  below_without y name [] t = tt
  below_without y name (e ∷ es) t =
      elim (is_name name e.0) as (λ b. T (fin.below_all order y (cond b es (e ∷ without name es)))) [
        | true ↦ second_so _ _ t
        | false ↦ both_so _ _ (first_so _ _ t) (below_without y name es (second_so _ _ t))
      ]

  sorted_without : (name : List ℕ) (es : Entries X) → Sorted es → Sorted (without name es)
  sorted_without name [] s = tt
  sorted_without name (e ∷ es) s =
      elim (is_name name e.0) as (λ b. Sorted (cond b es (e ∷ without name es))) [
        | true ↦ second_so _ _ s
        | false ↦ both_so _ _ (below_without e.0 name es (first_so _ _ s)) (sorted_without name es (second_so _ _ s))
      ]

  pub remove_short : (name : List ℕ) (short long : Entries X) → is_short name ≡ true → Sorted short → without name (both short long) ≡ both (without name short) long
  remove_short name short long is s =
      on_short name (λ _. None) (λ es. without name es) (sorted_without name) short long is (find_without name (both short long) (sorted_both short long)) (find_without name short s)

  pub remove_long : (name : List ℕ) (short long : Entries X) → is_short name ≡ false → Sorted long → without name (both short long) ≡ both short (without name long)
  remove_long name short long is s =
      on_long name (λ _. None) (λ es. without name es) (sorted_without name) short long is (find_without name (both short long) (sorted_both short long)) (find_without name long s)

  pub find_short : (name : List ℕ) (short long : Entries X) → is_short name ≡ true → find name short ≡ find name (both short long)
  find_short name short long is = sym (find_both name short long ∙ ap (λ s. cond s (find name short) (find name long)) is)

  pub find_long : (name : List ℕ) (short long : Entries X) → is_short name ≡ false → find name long ≡ find name (both short long)
  find_long name short long is = sym (find_both name short long ∙ ap (λ s. cond s (find name short) (find name long)) is)

module _ {X : Type 0} where
  -- entries put in one by one
  abbrev pub puts : Entries X → Entries X → Entries X
  puts acc [] = acc
  puts acc (e ∷ es) = puts (insert_entry order acc e.0 e.1) es

  abbrev pub long_ones : Entries X → Entries X
  long_ones es = fin.where_key order (λ name. not (is_short name)) es

  pub long_first : (name : List ℕ) (x : X) (es : Entries X) → 15 < length name → long_ones ((name, x) ∷ es) ≡ (name, x) ∷ long_ones es
  long_first name x es many = ap (λ b. cond (not b) ((name, x) ∷ long_ones es) (long_ones es)) (long_so name many)

  sorted_puts : (acc es : Entries X) → Sorted acc → Sorted (puts acc es)
  sorted_puts acc [] s = s
  sorted_puts acc (e ∷ es) s = sorted_puts (insert_entry order acc e.0 e.1) es (sorted_put e.0 e.1 acc s)

  later : (a : Bool) (v : X) (f g : Option X) → (a ≡ true → f ≡ None) → or_else f (cond a (Some v) g) ≡ or_else (cond a (Some v) f) g
  unfolding or_else
  later true v f g n = ap (λ r. or_else r (Some v)) (n refl)
  later false v f g n = refl

  find_puts : (q : List ℕ) (acc es : Entries X) → Sorted es → find q (puts acc es) ≡ or_else (find q es) (find q acc)
  unfolding or_else
  find_puts q acc [] s = refl
  find_puts q acc (e ∷ es) s =
      find_puts q (insert_entry order acc e.0 e.1) es (second_so _ _ s)
      ∙ ap (or_else (find q es)) (find_put q e.0 e.1 acc)
      ∙ later (is_name q e.0) e.1 (find q es) (find q acc) (λ t. ap (λ n. find n es) (one_name q e.0 t) ∙ find_below e.0 es (first_so _ _ s))

  listed : (s : Bool) (a b : Option X) → a ≡ cond s a None → or_else a (or_else (cond (not s) b None) None) ≡ cond s a b
  unfolding or_else
  listed true (Some x) b e = refl
  listed true None b e = refl
  listed false (Some x) b e = absurd cc
  listed false None (Some y) e = refl
  listed false None None e = refl

  pub puts_both : (short long : Entries X) → fin.where_key order is_short short ≡ short → Sorted short → Sorted long → puts (puts [] (long_ones long)) short ≡ both short long
  puts_both short long are s t =
      same (puts (puts [] (long_ones long)) short) (both short long) (sorted_puts (puts [] (long_ones long)) short (sorted_puts [] (long_ones long) tt)) (sorted_both short long) (λ q.
      find_puts q (puts [] (long_ones long)) short s
      ∙ ap (or_else (find q short)) (find_puts q [] (long_ones long) (fin.is_sorted-where_key order (λ name. not (is_short name)) long t) ∙ ap (λ r. or_else r None) (find_where (λ name. not (is_short name)) q long))
      ∙ listed (is_short q) (find q short) (find q long) (ap (find q) (sym are) ∙ find_where is_short q short)
      ∙ sym (find_both q short long))

  pub all_short : (es : List (Short × X)) → fin.where_key order is_short (named (λ k. text_of k.key) es) ≡ named (λ k. text_of k.key) es
  all_short [] = refl
  all_short (e ∷ es) =
      ap (λ b. cond b ((text_of e.0.key, e.1) ∷ fin.where_key order is_short (named (λ k. text_of k.key) es)) (fin.where_key order is_short (named (λ k. text_of k.key) es))) (short_so (text_of e.0.key) e.0.is_key.few)
      ∙ ap (λ r. (text_of e.0.key, e.1) ∷ r) (all_short es)

module _ {K X : Type 0} (name_of : K → List ℕ) where
  below_named : (k : K) (es : List (K × X)) → AllByRecursion (λ y. order (name_of k) (name_of y) ≡ Less) (keys_of es) → T (fin.below_all order (name_of k) (named name_of es))
  below_named k [] a = tt
  below_named k (e ∷ es) a = both_so _ _ (is_less _ (a.0)) (below_named k es (a.1))

  -- the keys of a tree rise
  pub sorted_named : (es : List (K × X)) → IsStrictlySortedBy (λ a b. order (name_of a) (name_of b)) (keys_of es) → Sorted (named name_of es)
  unfolding IsStrictlySortedBy
  sorted_named [] s = tt
  sorted_named (e ∷ es) s = both_so _ _ (below_named e.0 es (s.0)) (sorted_named es (s.1))
