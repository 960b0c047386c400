-- Standing entries among those of an expect: one more entry, and none that no id has.
use Rattle.std.proofs.Common.{◌≡◌, ℕ, suc, ◌+◌, List, [], ◌∷◌, ◌++◌, length, refl, sym, ap, ◌∙◌, arith}
use Rattle.std.proofs.lemmas.List.{append_assoc, append-nil, length-append}
use Rattle.exp_match.specs.declared.entry.Entry.{Entry}
use Rattle.expect_core.specs.declared.standing.StandingEntry.{StandingEntry}
use Rattle.expect_core.specs.Sides.{Served}
use Rattle.expect_core.specs.Standing.{with_ids, ids_of_each, in_groups}

-- an entry before others is one entry, and then these
pub one_first : (ids : Served) (s : StandingEntry) (ss : List StandingEntry) → with_ids ids s [] ++ ss ≡ with_ids ids s ss
one_first [] s ss = refl
one_first (id ∷ ids) s ss = refl

-- their groups follow its own
one_in_groups : (groups : List Served) (ids : Served) (s : StandingEntry) (ss : List StandingEntry) →
    in_groups (length groups) (with_ids ids s []) ++ in_groups (length (groups ++ ids_of_each (with_ids ids s []))) ss ≡ in_groups (length groups) (with_ids ids s ss)
one_in_groups groups [] s ss = ap (λ (gs : List Served). in_groups (length gs) ss) (append-nil groups)
one_in_groups groups (id ∷ ids) s ss =
    ap (λ (n : ℕ). record s.entry { group = length groups } ∷ in_groups n ss) (longer groups (id ∷ ids))
  where
    longer : (groups : List Served) (ids : Served) → length (groups ++ ids ∷ []) ≡ length groups + 1
    longer groups ids = omega (arith, length-append groups (ids ∷ []))

one_of_each : (ids : Served) (s : StandingEntry) (ss : List StandingEntry) → ids_of_each (with_ids ids s []) ++ ids_of_each ss ≡ ids_of_each (with_ids ids s ss)
one_of_each [] s ss = refl
one_of_each (id ∷ ids) s ss = refl

pub entries_joined : (entries new : List Entry) (groups more : List Served) (ids : Served) (s : StandingEntry) (ss : List StandingEntry)
    → new ≡ entries ++ in_groups (length groups) (with_ids ids s []) → more ≡ groups ++ ids_of_each (with_ids ids s [])
    → new ++ in_groups (length more) ss ≡ entries ++ in_groups (length groups) (with_ids ids s ss)
entries_joined entries new groups more ids s ss is are =
    ap (λ (gs : List Served). new ++ in_groups (length gs) ss) are
    ∙ ap (λ (es : List Entry). es ++ in_groups (length (groups ++ ids_of_each (with_ids ids s []))) ss) is
    ∙ append_assoc entries (in_groups (length groups) (with_ids ids s [])) (in_groups (length (groups ++ ids_of_each (with_ids ids s []))) ss)
    ∙ ap (λ (es : List Entry). entries ++ es) (one_in_groups groups ids s ss)

pub groups_joined : (groups more : List Served) (ids : Served) (s : StandingEntry) (ss : List StandingEntry)
    → more ≡ groups ++ ids_of_each (with_ids ids s []) → more ++ ids_of_each ss ≡ groups ++ ids_of_each (with_ids ids s ss)
groups_joined groups more ids s ss are =
    ap (λ (gs : List Served). gs ++ ids_of_each ss) are
    ∙ append_assoc groups (ids_of_each (with_ids ids s [])) (ids_of_each ss)
    ∙ ap (λ (gs : List Served). groups ++ gs) (one_of_each ids s ss)

-- one more entry was looked at
pub left_more : (left new : List StandingEntry) (ids : Served) (s : StandingEntry) (ss : List StandingEntry)
    → new ≡ left ++ with_ids ids s [] → new ++ ss ≡ left ++ with_ids ids s ss
left_more left new ids s ss is =
    ap (λ (l : List StandingEntry). l ++ ss) is
    ∙ append_assoc left (with_ids ids s []) ss
    ∙ ap (λ (l : List StandingEntry). left ++ l) (one_first ids s ss)
