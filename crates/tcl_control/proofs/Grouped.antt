-- The iterations of a loop over lists, one by one.
use Rattle.std.proofs.Common.{◌≡◌, ◌≢◌, ℕ, zero, suc, ◌+◌, ◌*◌, ◌-◌, ◌%◌, ◌<◌, ◌≤◌, min, max, Bool, true, false, if◌then◌else◌, nat_le, ◌==◌, List, [], ◌∷◌, ◌++◌, length, take, drop, map, replicate, Option, Some, None, Ok, Err, option_map, refl, ap, sym, ◌∙◌, arith, length-drop, length-append, drop-drop, append_assoc, append-nil, get_or, ⊎_elim}
use Rattle.std.specs.Prelude.{Result}
use Rattle.std.specs.List.{range_with_len}
use Rattle.std.proofs.lemmas.List.FromFn.{length-map-range_with_len, get_or-map-range_with_len}
use Rattle.std.proofs.lemmas.List.{length-take, length-replicate}
use Rattle.std.proofs.lemmas.Bool.Decides.{leb_tells, nat_tests}
use Rattle.std.proofs.Math.ListN.{drop_of_length-le}
use Rattle.std.proofs.Math.Seq.{drop-cons, take-length}
use Rattle.tcl_subst.specs.declared.faults.SubstFault.{SubstFault}
use Rattle.tcl_subst.specs.Variables.{Variables, with_value}
use Rattle.tcl_subst.specs.Writes.{set_to}
use Rattle.tcl_results.specs.declared.code.Code.TheVariants as code
use Rattle.tcl_control.specs.declared.groups.Pair.{Pair}
use Rattle.tcl_results.specs.Said.{Said, Outcome, ◌>>=◌, on_changed}
use Rattle.tcl_results.specs.Texts.{not_set, wrong_args}
use Rattle.tcl_control.specs.Groups.{padded, taken_in, values_in, turns_for, turn_count, all_turns, all_names, Turns, turns, turned, turned_by, behind, is_set, pair_of, pairs_of, Lists, with_list, lists_in, or_wrong, each_of}
use Rattle.tcl_results.specs.Setting.{assigned, first}

-- ---- the elements of an iteration

changed_same : (old : Variables) (text : SubstFault → List ℕ) (r : Result Variables SubstFault) (f g : Variables → Outcome)
    → ((v : Variables) → f v ≡ g v) → on_changed old text r f ≡ on_changed old text r g
changed_same old text (Ok v) f g same = same v
changed_same old text (Err e) f g same = refl

-- padding changes nothing, since a missing element is empty
padded_on : (names es : List (List ℕ)) (k : ℕ) (vars : Variables) → length names ≤ k → assigned names (take (length names) (es ++ replicate k [])) vars ≡ assigned names es vars
padded_on [] es k vars enough = refl
padded_on (name ∷ names) [] zero vars enough = absurd (omega arith)
padded_on (name ∷ names) [] (suc k) vars enough =
    changed_same vars (not_set name) (with_value (set_to []) name vars) (λ v. assigned names (take (length names) (replicate k [])) v) (λ v. assigned names [] v)
    (λ v. padded_on names [] k v (omega arith))
padded_on (name ∷ names) (e ∷ es) k vars enough =
    changed_same vars (not_set name) (with_value (set_to e) name vars) (λ v. assigned names (take (length names) (es ++ replicate k [])) v) (λ v. assigned names es v)
    (λ v. padded_on names es k v (omega arith))

pub assigned_padded : (names es : List (List ℕ)) (vars : Variables) → assigned names (padded (length names) es) vars ≡ assigned names es vars
assigned_padded names es vars = padded_on names es (length names) vars (omega arith)

length-padded : (n : ℕ) (es : List (List ℕ)) → length (padded n es) ≡ n
length-padded n es = omega (arith, length-take n (es ++ replicate n []), length-append es (replicate n []), length-replicate {A = List ℕ} n [])

-- names of one list after those of another
abbrev go_on : Outcome → (Variables → Outcome) → Outcome
go_on o more = if is_set o.0 then more o.2 else o

changed_on : (old : Variables) (text : SubstFault → List ℕ) (r : Result Variables SubstFault) (f g : Variables → Outcome) (more : Variables → Outcome)
    → ((v : Variables) → f v ≡ go_on (g v) more) → on_changed old text r f ≡ go_on (on_changed old text r g) more
changed_on old text (Ok v) f g more same = same v
changed_on old text (Err e) f g more same = refl

assigned_seam : (names es ms fs : List (List ℕ)) (vars : Variables) → length es ≡ length names → assigned (names ++ ms) (es ++ fs) vars ≡ go_on (assigned names es vars) (assigned ms fs)
assigned_seam [] [] ms fs vars same = refl
assigned_seam [] (e ∷ es) ms fs vars same = absurd (omega arith)
assigned_seam (name ∷ names) [] ms fs vars same = absurd (omega arith)
assigned_seam (name ∷ names) (e ∷ es) ms fs vars same =
    changed_on vars (not_set name) (with_value (set_to e) name vars) (assigned (names ++ ms) (es ++ fs)) (assigned names es) (assigned ms fs)
    (λ v. assigned_seam names es ms fs v (omega arith))

-- a list, and the lists after it
pairs_seam : (p : Pair) (ps : List Pair) (turn : ℕ) (vars : Variables) → assigned (all_names (p ∷ ps)) (values_in (p ∷ ps) turn) vars ≡ go_on (assigned p.names (taken_in turn p) vars) (assigned (all_names ps) (values_in ps turn))
pairs_seam p ps turn vars = assigned_seam p.names (taken_in turn p) (all_names ps) (values_in ps turn) vars (length-padded (length p.names) (drop (turn * length p.names) p.elements))

pub pair_set : (p : Pair) (ps : List Pair) (turn : ℕ) (vars : Variables) (o : Outcome) → assigned p.names (taken_in turn p) vars ≡ o → is_set o.0 ≡ true
    → assigned (all_names (p ∷ ps)) (values_in (p ∷ ps) turn) vars ≡ assigned (all_names ps) (values_in ps turn) o.2
pair_set p ps turn vars o is all =
    pairs_seam p ps turn vars ∙ ap (λ (o : Outcome). go_on o (assigned (all_names ps) (values_in ps turn))) is
    ∙ ap (λ (b : Bool). if b then assigned (all_names ps) (values_in ps turn) o.2 else o) all

pub pair_not_set : (p : Pair) (ps : List Pair) (turn : ℕ) (vars : Variables) (o : Outcome) → assigned p.names (taken_in turn p) vars ≡ o → is_set o.0 ≡ false
    → assigned (all_names (p ∷ ps)) (values_in (p ∷ ps) turn) vars ≡ o
pair_not_set p ps turn vars o is some =
    pairs_seam p ps turn vars ∙ ap (λ (o : Outcome). go_on o (assigned (all_names ps) (values_in ps turn))) is
    ∙ ap (λ (b : Bool). if b then assigned (all_names ps) (values_in ps turn) o.2 else o) some

-- a list was assigned, and others are left
pub pair_next : (p : Pair) (rest : List Pair) (turn : ℕ) (vars : Variables) (o whole : Outcome) → p ≡ get_or rest 0 p → 1 ≤ length rest → assigned p.names (taken_in turn p) vars ≡ o → is_set o.0 ≡ true
    → assigned (all_names rest) (values_in rest turn) vars ≡ whole
    → assigned (all_names (take (length rest - 1) (drop 1 rest))) (values_in (take (length rest - 1) (drop 1 rest)) turn) o.2 ≡ whole
pair_next p [] turn vars o whole at some is all was = absurd (omega arith)
pair_next p (q ∷ ps) turn vars o whole at some is all was =
    let count : length (q ∷ ps) - 1 ≡ length ps = omega arith in
    let left : take (length (q ∷ ps) - 1) ps ≡ ps = ap (λ (n : ℕ). take n ps) count ∙ take-length ps in
    let first : assigned q.names (taken_in turn q) vars ≡ o = ap (λ (p : Pair). assigned p.names (taken_in turn p) vars) (sym at) ∙ is in
    ap (λ (l : List Pair). assigned (all_names l) (values_in l turn) o.2) left ∙ sym (pair_set q ps turn vars o first all) ∙ was

pub cut_at : (n most : ℕ) (es : List (List ℕ)) → length es ≤ most → drop (min n most) es ≡ drop n es
cut_at n most es within =
    ⊎_elim
    (λ p. let all : min n most ≡ n = omega (arith, p.1) in ap (λ (k : ℕ). drop k es) all)
    (λ p. let cut : length es ≤ min n most = omega (arith, p.1) in let over : length es ≤ n = omega (arith, p.1) in drop_of_length-le es cut ∙ sym (drop_of_length-le es over))
    (leb_tells n most)

-- the elements that a list's names take
pub taken_is : (p : Pair) (turn size : ℕ) (rest : List (List ℕ)) (vars : Variables) → size ≡ length p.names → rest ≡ drop (turn * size) p.elements
    → assigned p.names rest vars ≡ assigned p.names (taken_in turn p) vars
taken_is p turn size rest vars is from =
    ap (λ (l : List (List ℕ)). assigned p.names l vars) (from ∙ ap (λ (n : ℕ). drop (turn * n) p.elements) is)
    ∙ sym (assigned_padded p.names (drop (turn * length p.names) p.elements) vars)

-- ---- the iterations that are left

pub turns_none : (ps : List Pair) (begun : ℕ) → turn_count ps ≤ begun → drop begun (all_turns ps) ≡ []
unfolding all_turns
turns_none ps begun over = drop_of_length-le (map (values_in ps) (range_with_len 0 (turn_count ps))) (omega (arith, length-map-range_with_len (values_in ps) 0 (turn_count ps)))

pub turns_some : (ps : List Pair) (begun : ℕ) → begun < turn_count ps → drop begun (all_turns ps) ≡ values_in ps begun ∷ drop (begun + 1) (all_turns ps)
unfolding all_turns
turns_some ps begun more =
    let all = map (values_in ps) (range_with_len 0 (turn_count ps)) in
    let next : suc begun ≡ begun + 1 = omega arith in
    drop-cons all begun [] (omega (arith, length-map-range_with_len (values_in ps) 0 (turn_count ps)))
    ∙ ap (λ (v : List (List ℕ)). v ∷ drop (suc begun) all) (get_or-map-range_with_len (values_in ps) 0 (turn_count ps) begun begun [] more (omega arith))
    ∙ ap (λ (n : ℕ). values_in ps begun ∷ drop n all) next

length_left : (ps : List Pair) (begun : ℕ) → length (drop begun (all_turns ps)) ≡ turn_count ps - begun
unfolding all_turns
length_left ps begun = length-drop begun (map (values_in ps) (range_with_len 0 (turn_count ps))) ∙ ap (λ (n : ℕ). n - begun) (length-map-range_with_len (values_in ps) 0 (turn_count ps))

pub done_is : (ps : List Pair) (count begun : ℕ) → count ≡ turn_count ps → nat_le count begun ≡ (length (drop begun (all_turns ps)) == 0)
done_is ps count begun is = let left = length_left ps begun in grind (arith, nat_tests)

pub turned_none : (t : Turns) (vars : Variables) → t.left ≡ [] → turned t vars ≡ (code.Ok, [], vars)
turned_none t vars e = ap (λ l. turned_by t.names l vars) e

pub behind_none : (t : Turns) → t.left ≡ [] → t ≡ behind t
behind_none t e = ap (λ l. record { names = t.names; left = l }) (e ∙ sym (ap (drop 1) e))

pub turned_some : (ps : List Pair) (begun : ℕ) (t : Turns) (vars : Variables) → record { names = all_names ps; left = drop begun (all_turns ps) } ≡ t → begun < turn_count ps
    → turned t vars ≡ assigned (all_names ps) (values_in ps begun) vars
turned_some ps begun t vars is more =
    ap (λ (t : Turns). turned t vars) (sym is) ∙ ap (λ (l : List (List (List ℕ))). turned_by (all_names ps) l vars) (turns_some ps begun more)

pub behind_next : (ps : List Pair) (begun : ℕ) (t : Turns) → record { names = all_names ps; left = drop begun (all_turns ps) } ≡ t
    → record { names = all_names ps; left = drop (begun + 1) (all_turns ps) } ≡ behind t
behind_next ps begun t is =
    ap (λ (l : List (List (List ℕ))). record { names = all_names ps; left = l }) (sym (drop-drop 1 begun (all_turns ps))) ∙ ap behind is

-- ---- the lists

-- the number of iterations of some lists and one more
pub count_more : (ps : List Pair) (p : Pair) → turn_count (ps ++ p ∷ []) ≡ max (turn_count ps) (turns_for p)
count_more [] p = omega arith
count_more (q ∷ ps) p = let one_more = count_more ps p in omega (arith, one_more)

-- The lists and the body, read from the left.
abbrev pub on_pair : Said Pair → Said (List Pair × List ℕ) → Said (List Pair × List ℕ)
on_pair p more = p >>= λ p. more >>= λ r. Ok (p ∷ r.0, r.1)

abbrev pub read : List (List ℕ) → Said (List Pair × List ℕ)
read [] = Err []
read (body ∷ []) = Ok ([], body)
read (names ∷ l ∷ more) = on_pair (pair_of names l) (read more)

abbrev pub read_onto : List Pair → Said (List Pair × List ℕ) → Said (List Pair × List ℕ)
read_onto ps s = s >>= λ r. Ok (ps ++ r.0, r.1)

onto_more : (ps : List Pair) (p : Pair) (s : Said (List Pair × List ℕ)) → read_onto ps (on_pair (Ok p) s) ≡ read_onto (ps ++ p ∷ []) s
onto_more ps p (Ok r) = ap (λ (l : List Pair). Ok (l, r.1)) (sym (append_assoc ps (p ∷ []) r.0))
onto_more ps p (Err e) = refl

abbrev pub as_turns : Said (List Pair × List ℕ) → Said (Turns × List ℕ)
as_turns s = s >>= λ r. Ok (turns r.0, r.1)

abbrev parsed : Said Lists → Said (List Pair × List ℕ)
parsed s = s >>= λ lists. pairs_of lists.0 >>= λ ps. Ok (ps, lists.1)

parsed_more : (command names l : List ℕ) (o : Option Lists) (more : Said (List Pair × List ℕ)) → o ≢ None → parsed (or_wrong command o) ≡ more
    → parsed (or_wrong command (option_map (with_list names l) o)) ≡ on_pair (pair_of names l) more
parsed_more command names l None more some same = absurd (some refl)
parsed_more command names l (Some lists) more some same = by_pair (pair_of names l) (pairs_of lists.0) more same
  where
    by_pair : (p : Said Pair) (ps : Said (List Pair)) (more : Said (List Pair × List ℕ)) → (ps >>= λ ps. Ok (ps, lists.1)) ≡ more
        → ((p >>= λ p. ps >>= λ ps. Ok (p ∷ ps)) >>= λ ps. Ok (ps, lists.1)) ≡ on_pair p more
    by_pair (Err e) ps more same = refl
    by_pair (Ok p) (Err e) more same = ap (λ (s : Said (List Pair × List ℕ)). on_pair (Ok p) s) same
    by_pair (Ok p) (Ok ps) more same = ap (λ (s : Said (List Pair × List ℕ)). on_pair (Ok p) s) same

-- an odd number of arguments but 1
abbrev IsOdd : List (List ℕ) → Type 0
IsOdd [] = ⊥
IsOdd (body ∷ []) = Unit {0}
IsOdd (names ∷ l ∷ more) = IsOdd more

odd_is : (args : List (List ℕ)) → length args % 2 ≡ 1 → IsOdd args
odd_is [] odd = absurd (omega arith)
odd_is (body ∷ []) odd = tt
odd_is (names ∷ l ∷ more) odd = odd_is more (omega arith)

are_lists : (names l : List ℕ) (args : List (List ℕ)) → IsOdd args → lists_in (names ∷ l ∷ args) ≢ None
are_lists names l [] odd = absurd odd
are_lists names l (body ∷ []) odd = λ e. cc
are_lists names l (names' ∷ l' ∷ args) odd = some_mapped (lists_in (names' ∷ l' ∷ args)) (are_lists names' l' args odd)
  where
    some_mapped : (o : Option Lists) → o ≢ None → option_map (with_list names l) o ≢ None
    some_mapped None some = some
    some_mapped (Some x) some = λ e. cc

parsed_is : (command names l : List ℕ) (args : List (List ℕ)) → IsOdd args → parsed (or_wrong command (lists_in (names ∷ l ∷ args))) ≡ read (names ∷ l ∷ args)
parsed_is command names l [] odd = absurd odd
parsed_is command names l (body ∷ []) odd = one_pair (pair_of names l)
  where
    one_pair : (p : Said Pair) → ((p >>= λ p. Ok (p ∷ [])) >>= λ ps. Ok (ps, body)) ≡ on_pair p (Ok ([], body))
    one_pair (Ok p) = refl
    one_pair (Err e) = refl
parsed_is command names l (names' ∷ l' ∷ args) odd =
    parsed_more command names l (lists_in (names' ∷ l' ∷ args)) (read (names' ∷ l' ∷ args)) (are_lists names' l' args odd) (parsed_is command names' l' args odd)

as_turns_is : (s : Said Lists) → (s >>= λ lists. pairs_of lists.0 >>= λ ps. Ok (turns ps, lists.1)) ≡ as_turns (parsed s)
as_turns_is (Err e) = refl
as_turns_is (Ok lists) = by_pairs (pairs_of lists.0)
  where
    by_pairs : (ps : Said (List Pair)) → (ps >>= λ ps. Ok (turns ps, lists.1)) ≡ as_turns (ps >>= λ ps. Ok (ps, lists.1))
    by_pairs (Ok ps) = refl
    by_pairs (Err e) = refl

-- the iterations, if the number of arguments is right
each_is : (command names l : List ℕ) (args : List (List ℕ)) → length (names ∷ l ∷ args) % 2 ≡ 1 → each_of command (names ∷ l ∷ args) ≡ as_turns (read (names ∷ l ∷ args))
each_is command names l args odd =
    as_turns_is (or_wrong command (lists_in (names ∷ l ∷ args))) ∙ ap as_turns (parsed_is command names l args (odd_is args (omega arith)))

-- a wrong number of arguments
pub each_even : (command : List ℕ) (args : List (List ℕ)) → length args % 2 ≡ 0 → each_of command args ≡ Err (wrong_args command)
each_even command args even = ap (λ (o : Option Lists). or_wrong command o >>= λ lists. pairs_of lists.0 >>= λ ps. Ok (turns ps, lists.1)) (none_even args even)
  where
    none_even : (args : List (List ℕ)) → length args % 2 ≡ 0 → lists_in args ≡ None
    none_even [] even = refl
    none_even (a ∷ []) even = refl
    none_even (a ∷ b ∷ []) even = refl
    none_even (a ∷ b ∷ c ∷ []) even = absurd (omega arith)
    none_even (a ∷ b ∷ c ∷ d ∷ more) even = ap (option_map (with_list a b)) (none_even (c ∷ d ∷ more) (omega arith))

module _ (command names l : List ℕ) (words args : List (List ℕ)) (are : args ≡ names ∷ l ∷ words) (odd : length args % 2 ≡ 1) where
  args_are : each_of command args ≡ as_turns (read (names ∷ l ∷ words))
  args_are = ap (each_of command) are ∙ each_is command names l words (ap (λ (l : List (List ℕ)). length l % 2) (sym are) ∙ odd)

  -- the first list was read
  pub first_read : (p : Pair) → pair_of names l ≡ Ok p → as_turns (read_onto (p ∷ []) (read words)) ≡ each_of command args
  first_read p is = sym (args_are ∙ ap (λ (s : Said Pair). as_turns (on_pair s (read words))) is)

  -- the first list can't be parsed
  pub first_fails : (text : List ℕ) → pair_of names l ≡ Err text → each_of command args ≡ Err text
  first_fails text is = args_are ∙ ap (λ (s : Said Pair). as_turns (on_pair s (read words))) is

module _ (names l : List ℕ) (more rest : List (List ℕ)) (ps : List Pair) (whole : Said (Turns × List ℕ)) (are : rest ≡ names ∷ l ∷ more) (was : as_turns (read_onto ps (read rest)) ≡ whole) where
  rest_are : as_turns (read_onto ps (on_pair (pair_of names l) (read more))) ≡ whole
  rest_are = sym (ap (λ (l : List (List ℕ)). as_turns (read_onto ps (read l))) are) ∙ was

  -- another list was read
  pub list_read : (p : Pair) → pair_of names l ≡ Ok p → as_turns (read_onto (ps ++ p ∷ []) (read more)) ≡ whole
  list_read p is = sym (ap as_turns (ap (λ (s : Said Pair). read_onto ps (on_pair s (read more))) is ∙ onto_more ps p (read more))) ∙ rest_are

  -- another list can't be parsed
  pub list_fails : (text : List ℕ) → pair_of names l ≡ Err text → whole ≡ Err text
  list_fails text is = sym rest_are ∙ ap (λ (s : Said Pair). as_turns (read_onto ps (on_pair s (read more)))) is

-- only the body is left
pub lists_end : (body : List ℕ) (rest : List (List ℕ)) (ps : List Pair) (whole : Said (Turns × List ℕ)) → as_turns (read_onto ps (read rest)) ≡ whole → length rest % 2 ≡ 1 → length rest < 2 → body ≡ get_or rest 0 body
    → whole ≡ Ok (turns ps, body)
lists_end body [] ps whole was odd short at = absurd (omega arith)
lists_end body (b ∷ []) ps whole was odd short at = sym was ∙ ap (λ (l : List Pair). Ok (turns l, b)) (append-nil ps) ∙ ap (λ (w : List ℕ). Ok (turns ps, w)) (sym at)
lists_end body (b ∷ other ∷ more) ps whole was odd short at = absurd (omega arith)
