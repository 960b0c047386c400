-- The children that take part in an expect are those that ids name. All are open.
use Rattle.std.proofs.Common.{◌≡◌, ℕ, zero, suc, ◌<◌, List, [], ◌∷◌, ◌++◌, length, map, Bool, true, false, Option, None, Ok, Err, ◌⊎◌, inl, inr, refl, sym, ap, subst, ◌∙◌, arith}
use Rattle.std.specs.Prelude.{◌==◌, nat_lt, not, ◌&&◌, filter, codes, bytes_eq, ⊤, if◌then◌else◌}
use Rattle.std.specs.List.{list_any}
use Rattle.exp_match.specs.declared.list.PatternList.{PatternList}
use Rattle.tcl_subst.specs.Variables.{Variables}
use Rattle.tcl_results.specs.Said.{Said, ◌>>=◌, list_of}
use Rattle.expect_core.specs.declared.child.Child.{Child}
use Rattle.expect_core.specs.declared.served.Id.{Id}
use Rattle.expect_core.specs.declared.served.Id.TheVariants.{Any, One}
use Rattle.expect_core.specs.declared.standing.StandingEntry.{StandingEntry}
use Rattle.expect_core.specs.declared.own.Own.{Own}
use Rattle.expect_core.specs.Owned.{child_in, child_of}
use Rattle.expect_core.specs.Ids.{is_open, known, spoken_to, if_open, open_to}
use Rattle.expect_core.specs.Among.{IsAmong}
use Rattle.expect_core.specs.Heard.{places_of, IsWatched}
use Rattle.expect_core.specs.Sides.{Served, id_named, ids_named, some_named, ids_in, ids_in_each, current_ids, asked_by, children_in, children_of, with_place, with_places, serving, sides_of, still_open}
use Rattle.expect_core.specs.Standing.{is_same, stands, stays, with_ids, left_by, before, after, ids_of_each, ids_before, ids_with}

-- ---- Who is named

among_append : (xs ys : List ℕ) (j : ℕ) → IsAmong j (xs ++ ys) → IsAmong j xs ⊎ IsAmong j ys
among_append [] ys j among = inr among
among_append (x ∷ xs) ys j among =
    elim among [
      | inl same ↦ inl (inl same)
      | inr more ↦ elim (among_append xs ys j more) [ inl front ↦ inl (inr front) | inr rest ↦ inr rest ]
    ]

children_append : (gs hs : List Served) (j : ℕ) → IsAmong j (children_of (gs ++ hs)) → IsAmong j (children_of gs) ⊎ IsAmong j (children_of hs)
children_append [] hs j among = inr among
children_append (ids ∷ gs) hs j among =
    elim (among_append (children_in ids) (children_of (gs ++ hs)) j among) [
      | inl first ↦ inl (among_front (children_in ids) (children_of gs) j first)
      | inr more ↦ elim (children_append gs hs j more) [ inl front ↦ inl (among_behind (children_in ids) (children_of gs) j front) | inr rest ↦ inr rest ]
    ]
  where
    among_front : (xs ys : List ℕ) (j : ℕ) → IsAmong j xs → IsAmong j (xs ++ ys)
    among_front [] ys j among = absurd among
    among_front (x ∷ xs) ys j among = elim among [ inl same ↦ inl same | inr more ↦ inr (among_front xs ys j more) ]

    among_behind : (xs ys : List ℕ) (j : ℕ) → IsAmong j ys → IsAmong j (xs ++ ys)
    among_behind [] ys j among = among
    among_behind (x ∷ xs) ys j among = inr (among_behind xs ys j among)

-- ---- Those that take part are those that are named

place_by : (i k : ℕ) (ks : List ℕ) (j : ℕ) → (IsAmong j (with_place i ks) → (i ≡ j) ⊎ IsAmong j ks) → (a b : Bool)
    → IsAmong j (if a then k ∷ with_place i ks else if b then k ∷ ks else i ∷ k ∷ ks) → (i ≡ j) ⊎ IsAmong j (k ∷ ks)
place_by i k ks j among true b is =
    elim is [ inl same ↦ inr (inl same) | inr more ↦ elim (among more) [ inl same ↦ inl same | inr more ↦ inr (inr more) ] ]
place_by i k ks j among false true is = inr is
place_by i k ks j among false false is = is

place_among : (i : ℕ) (ks : List ℕ) (j : ℕ) → IsAmong j (with_place i ks) → (i ≡ j) ⊎ IsAmong j ks
place_among i [] j is = elim is [ inl same ↦ inl same | inr none ↦ absurd none ]
place_among i (k ∷ ks) j is = place_by i k ks j (place_among i ks j) (nat_lt k i) (k == i) is

places_among : (is ks : List ℕ) (j : ℕ) → IsAmong j (with_places is ks) → IsAmong j is ⊎ IsAmong j ks
places_among [] ks j among = inr among
places_among (i ∷ is) ks j among =
    elim (places_among is (with_place i ks) j among) [
      | inl more ↦ inl (inr more)
      | inr placed ↦ elim (place_among i ks j placed) [ inl same ↦ inl (inl same) | inr before ↦ inr before ]
    ]

places_same : (groups : List Served) (is : List ℕ) → places_of (map (λ i. (i, serving i 0 groups)) is) ≡ is
places_same groups [] = refl
places_same groups (i ∷ is) = ap (λ (l : List ℕ). i ∷ l) (places_same groups is)

pub sides_among : (groups : List Served) (j : ℕ) → IsWatched j (sides_of groups) → IsAmong j (children_of groups)
sides_among groups j part =
    elim (places_among (children_of groups) [] j (subst (IsAmong j) (places_same groups (with_places (children_of groups) [])) part)) [
      | inl among ↦ among
      | inr none ↦ absurd none
    ]

-- ---- They are open

abbrev pub IsOpen : Own → ℕ → Type 0
IsOpen o i = is_open (child_of i o).standing ≡ true

-- all that these groups name are open
abbrev pub AreOpen : Own → List Served → Type 0
AreOpen o groups = (i : ℕ) → IsAmong i (children_of groups) → IsOpen o i

abbrev ServesOpen : Own → Served → Type 0
ServesOpen o ids = (i : ℕ) → IsAmong i (children_in ids) → IsOpen o i

-- what is read, if it can be, is such
abbrev pub Gives : {X : Type 0} → (X → Type 0) → Said X → Type 0
Gives P (Ok x) = P x
Gives P (Err text) = Unit {0}

along : {X Y : Type 0} (P : X → Type 0) (Q : Y → Type 0) (r : Said X) (f : X → Said Y) → Gives P r → ((x : X) → P x → Gives Q (f x)) → Gives Q (r >>= f)
along P Q (Ok x) f gives go = go x gives
along P Q (Err text) f gives go = tt

past : {X Y : Type 0} (Q : Y → Type 0) (r : Said X) (f : X → Said Y) → ((x : X) → Gives Q (f x)) → Gives Q (r >>= f)
past Q (Ok x) f go = go x
past Q (Err text) f go = tt

open_by : (o : Own) (i : ℕ) (text : List ℕ) (b : Bool) → is_open (child_of i o).standing ≡ b → Gives (IsOpen o) (if b then Ok i else Err text)
open_by o i text true is = is
open_by o i text false is = tt

if_opens : (i : ℕ) (o : Own) → Gives (IsOpen o) (if_open i o)
if_opens i o = open_by o i _ (is_open (child_of i o).standing) refl

open_serves : (id : Option (List ℕ)) (vars : Variables) (o : Own) → Gives (IsOpen o) (open_to id vars o)
open_serves id vars o = past (IsOpen o) (spoken_to id vars o) _ (λ i. if_opens i o)

abbrev IdOpen : Own → Id → Type 0
IdOpen o Any = Unit {0}
IdOpen o (One i) = IsOpen o i

id_opens : (name : List ℕ) (o : Own) (b : Bool) → Gives (IdOpen o) (if b then Ok Any else (known name o >>= λ i. if_open i o >>= λ i. Ok (One i)))
id_opens name o true = tt
id_opens name o false = past (IdOpen o) (known name o) _ (λ i. along (IsOpen o) (IdOpen o) (if_open i o) _ (if_opens i o) (λ i is. is))

one_served : (o : Own) (ids : Served) (id : Id) → ServesOpen o ids → IdOpen o id → ServesOpen o (ids ++ id ∷ [])
one_served o [] Any are is i among = absurd among
one_served o [] (One k) are is i among = elim among [ inl same ↦ subst (IsOpen o) same is | inr none ↦ absurd none ]
one_served o (Any ∷ ids) id are is i among = one_served o ids id are is i among
one_served o (One k ∷ ids) id are is i among = elim among [ inl same ↦ are i (inl same) | inr more ↦ one_served o ids id (λ i more. are i (inr more)) is i more ]

named_serve : (ids : Served) (names : List (List ℕ)) (o : Own) → ServesOpen o ids → Gives (ServesOpen o) (ids_named ids names o)
named_serve ids [] o are = are
named_serve ids (name ∷ names) o are =
    along (IdOpen o) (ServesOpen o) (id_named name o) _ (id_opens name o (bytes_eq name (codes "any"))) (λ id is. named_serve (ids ++ id ∷ []) names o (one_served o ids id are is))

none_served : (o : Own) → ServesOpen o []
none_served o i among = absurd among

some_serve : (names : List (List ℕ)) (o : Own) → Gives (ServesOpen o) (some_named names o)
some_serve [] o = tt
some_serve (name ∷ names) o = named_serve [] (name ∷ names) o (none_served o)

word_serves : (word : List ℕ) (o : Own) → Gives (ServesOpen o) (ids_in word o)
word_serves word o = past (ServesOpen o) (list_of word) _ (λ names. some_serve names o)

one_group : (o : Own) (groups : List Served) (ids : Served) → AreOpen o groups → ServesOpen o ids → AreOpen o (groups ++ ids ∷ [])
one_group o groups ids are serve i among =
    elim (children_append groups (ids ∷ []) i among) [
      | inl front ↦ are i front
      | inr last ↦ elim (among_append (children_in ids) [] i last) [ inl those ↦ serve i those | inr none ↦ absurd none ]
    ]

each_open : (groups : List Served) (words : List (List ℕ)) (o : Own) → AreOpen o groups → Gives (AreOpen o) (ids_in_each groups words o)
each_open groups [] o are = are
each_open groups (word ∷ words) o are =
    along (ServesOpen o) (AreOpen o) (ids_in word o) _ (word_serves word o) (λ ids serve. each_open (groups ++ ids ∷ []) words o (one_group o groups ids are serve))

current_serves : (takes : Bool) (vars : Variables) (o : Own) → Gives (ServesOpen o) (current_ids takes vars o)
current_serves false vars o = none_served o
current_serves true vars o =
    along (IsOpen o) (ServesOpen o) (open_to None vars o) _ (open_serves None vars o) (λ i is. one_served o [] (One i) (none_served o) is)

none_open : (o : Own) → AreOpen o []
none_open o i among = absurd among

-- the groups that were read, if they could be, name open children alone
abbrev pub AsksOpen : Own → Said (List Served) → Type 0
AsksOpen o r = Gives (AreOpen o) r

pub asked_open : (takes : Bool) (list : PatternList) (vars : Variables) (o : Own) → AsksOpen o (asked_by takes list vars o)
asked_open takes list vars o =
    along (ServesOpen o) (AreOpen o) (current_ids takes vars o) _ (current_serves takes vars o) (λ ids serve. each_open (ids ∷ []) list.ids o (one_group o [] ids (none_open o) serve))

-- ---- So are those of standing patterns

both : (a b : Bool) → a && b ≡ true → a ≡ true
both true b e = refl
both false b e = absurd (cc)

module _ (leaving : Served) (o : Own) where
  stay_by : (id : Id) (ids : Served) (b : Bool) → stays leaving o.children id ≡ b → ServesOpen o (filter (stays leaving o.children) ids)
      → ServesOpen o (if b then id ∷ filter (stays leaving o.children) ids else filter (stays leaving o.children) ids)
  stay_by id ids false is rest = rest
  stay_by Any ids true is rest = rest
  stay_by (One k) ids true is rest = λ i among. elim among [
    | inl same ↦ subst (IsOpen o) same (both (is_open (child_in k o.children).standing) (not (list_any (is_same (One k)) leaving)) is)
    | inr more ↦ rest i more
  ]

  stay_open : (ids : Served) → ServesOpen o (filter (stays leaving o.children) ids)
  stay_open [] = none_served o
  stay_open (id ∷ ids) = stay_by id ids (stays leaving o.children id) refl (stay_open ids)

  with_open : (ids : Served) (s : StandingEntry) (ss : List StandingEntry) → ServesOpen o ids → AreOpen o (ids_of_each ss) → AreOpen o (ids_of_each (with_ids ids s ss))
  with_open [] s ss serve are = are
  with_open (id ∷ ids) s ss serve are = λ i among. elim (among_append (children_in (id ∷ ids)) (children_of (ids_of_each ss)) i among) [ inl first ↦ serve i first | inr more ↦ are i more ]

  left_open : (ss : List StandingEntry) → AreOpen o (ids_of_each (left_by leaving o.children ss))
  left_open [] = none_open o
  left_open (s ∷ ss) = with_open (filter (stays leaving o.children) s.ids) s (left_by leaving o.children ss) (stay_open s.ids) (left_open ss)

pub all_open : (groups : List Served) (o : Own) → AreOpen o groups → AreOpen o (ids_with groups o)
all_open groups o are i among =
    elim (children_append (ids_before groups o) (ids_of_each (after o)) i among) [
      | inl front ↦ elim (children_append groups (ids_of_each (before o)) i front) [ inl own ↦ are i own | inr first ↦ left_open [] o o.before i first ]
      | inr last ↦ left_open [] o o.after i last
    ]

-- ---- An expect goes on with open children alone

still_by : (k : ℕ) (is : List ℕ) (o : Own) (x : ⊤) (text : List ℕ) (b : Bool) → is_open (child_of k o).standing ≡ b → (let r : Said ℕ = (if b then Ok k else Err text) in (r >>= λ k. still_open is o) ≡ Ok x)
    → (still_open is o ≡ Ok x → (i : ℕ) → IsAmong i is → IsOpen o i) → (i : ℕ) → IsAmong i (k ∷ is) → IsOpen o i
still_by k is o x text true are e rest i among = elim among [ inl same ↦ subst (IsOpen o) same are | inr more ↦ rest e i more ]
still_by k is o x text false are e rest i among = absurd (cc)

pub still_opens : (is : List ℕ) (o : Own) (x : ⊤) → still_open is o ≡ Ok x → (i : ℕ) → IsAmong i is → IsOpen o i
still_opens [] o x e i among = absurd among
still_opens (k ∷ is) o x e i among = still_by k is o x _ (is_open (child_of k o).standing) refl e (still_opens is o x) i among

-- an open child is there
pub open_within : (i : ℕ) (cs : List Child) → is_open (child_in i cs).standing ≡ true → i < length cs
open_within i [] e = absurd (cc)
open_within zero (c ∷ cs) e = omega arith
open_within (suc i) (c ∷ cs) e = let lt = open_within i cs e in omega (arith, lt)
