-- Teams of the scripts and keepers that were dealt out.
use Rattle.std.proofs.Common.{◌≡◌, ℕ, zero, suc, ◌+◌, ◌-◌, ◌*◌, ◌≤◌, ◌<◌, List, [], ◌∷◌, ◌++◌, length, map, Bool, true, false, Option, Some, None, refl, sym, ap, subst, ◌∙◌, arith}
use Rattle.std.specs.Prelude.{slice_get, nat_lt, option_map, if◌then◌else◌}
use Rattle.std.proofs.lemmas.Option.{slice_get_past, slice_get_within, slice_get-map}
use Rattle.std.proofs.lemmas.Bool.Decides.{nat_tests}
use Rattle.std.proofs.Math.Nat.{le-mul_of_pos_right}
use Rattle.dialogue_sched.specs.declared.script.Script.{Script}
use Rattle.dialogue_sched.specs.declared.hall.HallFault.{HallFault}
use Rattle.dialogue_sched.specs.declared.hall.HallFault.TheVariants as halls
use Rattle.dialogue_sched.specs.Hall.{opening_fault, too_long}
use Rattle.child_serve.specs.declared.worker.Team.{Team}
use Rattle.child_serve.specs.Dealt.{IsDealt, AllDealt}
use Rattle.run_records.specs.Joined.{script_of}
use Rattle.child_serve.specs.Whole.{keeping_of}
use Rattle.child_serve.specs.Teams.{AreTeams, AreDealt, IsTeam, AllTeams}
use Rattle.child_serve.proofs.Deals.{there, snoc_count}

-- lists that were dealt out of lists of one length have one length
as_many : {X Y : Type 0} (n w : ℕ) (xs : List X) (ys : List Y) (few : List X) (mine : List Y) → length ys ≡ length xs → IsDealt n w xs few → IsDealt n w ys mine → length mine ≤ length few
as_many {X} {Y} n w xs ys few mine same dx dy = by_place (nat_lt (length few) (length mine)) refl
  where
    no_y : (y : Y) → ◌≡◌ {A = Option Y} None (Some y) → ⊥
    no_y y h = cc

    no_x : (x : X) → ◌≡◌ {A = Option X} None (Some x) → ⊥
    no_x x h = cc

    by_place : (t : Bool) → nat_lt (length few) (length mine) ≡ t → length mine ≤ length few
    by_place true e =
        let lt : length few < length mine = grind (arith, nat_tests, e) in
        let y = there mine (length few) lt in
        let within = slice_get_within ys (length few * n + w) y.0 (sym (dy (length few)) ∙ y.1) in
        let x = there xs (length few * n + w) (omega (arith, within, same)) in
        let none = slice_get_past few (length few) (let le : length few ≤ length few = omega arith in le) in
        absurd (no_x x.0 (sym none ∙ dx (length few) ∙ x.1))
    by_place false e = grind (arith, nat_tests, e)

-- the number of each script of a worker is that of one of all scripts
numbered : {X : Type 0} (n w : ℕ) (xs few : List X) → IsDealt n w xs few → (number : ℕ) → 1 ≤ number → number ≤ length few → script_of n w number ≤ length xs
numbered n w xs few d number least most =
    let x = there few (number - 1) (omega (arith, least, most)) in
    let within = slice_get_within xs ((number - 1) * n + w) x.0 (sym (d (number - 1)) ∙ x.1) in
    omega (arith, within)

not_more : {X : Type 0} (n w : ℕ) (xs few : List X) → 0 < n → IsDealt n w xs few → length few ≤ length xs
not_more n w xs few some d = by_size (nat_lt 0 (length few)) refl
  where
    by_size : (t : Bool) → nat_lt 0 (length few) ≡ t → length few ≤ length xs
    by_size true e =
        let lt : 0 < length few = grind (arith, nat_tests, e) in
        let last = numbered n w xs few d (length few) (omega (arith, lt)) (let le : length few ≤ length few = omega arith in le) in
        let grows = le-mul_of_pos_right (length few - 1) some in
        omega (arith, last, grows, lt)
    by_size false e = let none : length few ≤ 0 = grind (arith, nat_tests, e) in omega (arith, none)

-- scripts for which there is a hall, and some of them

at_most : (a b : ℕ) → nat_lt a b ≡ false → b ≤ a
at_most a b h = grind (arith, nat_tests, h)

not_above : (a b : ℕ) → b ≤ a → nat_lt a b ≡ false
not_above a b h = grind (arith, nat_tests, h)

abbrev AreShort : List Script → Type 0
AreShort ss = (i : ℕ) (s : Script) → slice_get ss i ≡ Some s → length s.source ≤ 1048576

short_here : (n : ℕ) (x : Script) (ss : List Script) → too_long n (x ∷ ss) ≡ None → (length x.source ≤ 1048576) × (too_long (n + 1) ss ≡ None)
short_here n x ss h = by_test (nat_lt 1048576 (length x.source)) refl h
  where
    by_test : (t : Bool) → nat_lt 1048576 (length x.source) ≡ t → ◌≡◌ {A = Option HallFault} (if t then Some (halls.SourceTooLong n) else too_long (n + 1) ss) None → (length x.source ≤ 1048576) × (too_long (n + 1) ss ≡ None)
    by_test true e h = absurd (cc)
    by_test false e h = (at_most 1048576 (length x.source) e, h)

are_short : (n : ℕ) (ss : List Script) → too_long n ss ≡ None → AreShort ss
are_short n [] h i s got = absurd (let none : ◌≡◌ {A = Option Script} None (Some s) = got in cc)
are_short n (x ∷ ss) h zero s got = let is : x ≡ s = cc in subst (λ (y : Script). length y.source ≤ 1048576) is (short_here n x ss h).0
are_short n (x ∷ ss) h (suc i) s got = are_short (n + 1) ss (short_here n x ss h).1 i s got

none_long : (n : ℕ) (ss : List Script) → AreShort ss → too_long n ss ≡ None
none_long n [] a = refl
none_long n (x ∷ ss) a =
    ap (λ (t : Bool). if t then Some (halls.SourceTooLong n) else too_long (n + 1) ss) (not_above 1048576 (length x.source) (a zero x refl)) ∙ none_long (n + 1) ss (λ i s got. a (suc i) s got)

opens_as : (ss : List Script) → opening_fault ss ≡ None → (length ss ≤ 64) × (too_long 1 ss ≡ None)
opens_as ss h = by_test (nat_lt 64 (length ss)) refl h
  where
    by_test : (t : Bool) → nat_lt 64 (length ss) ≡ t → ◌≡◌ {A = Option HallFault} (if t then Some halls.TooManyScripts else too_long 1 ss) None → (length ss ≤ 64) × (too_long 1 ss ≡ None)
    by_test true e h = absurd (cc)
    by_test false e h = (at_most 64 (length ss) e, h)

dealt_opens : (n w : ℕ) (all few : List Script) → 0 < n → IsDealt n w all few → opening_fault all ≡ None → opening_fault few ≡ None
dealt_opens n w all few some d h =
    let o = opens_as all h in
    let less = not_more n w all few some d in
    ap (λ (t : Bool). if t then Some halls.TooManyScripts else too_long 1 few) (not_above 64 (length few) (omega (arith, less, o.0)))
    ∙ none_long 1 few (λ i s got. are_short 1 all o.1 (i * n + w) s (sym (d i) ∙ got))

module _ {K C : Type 0} where
  -- teams of the first places, and what is left for the others
  pub record TeamsTo (scripts rest : List (List Script)) (keepers mine : List (List K)) (teams : List (Team K C)) : Type 0 where
    pub scripts_left : (i : ℕ) → slice_get rest i ≡ slice_get scripts (length teams + i)
    pub keepers_left : (i : ℕ) → slice_get mine i ≡ slice_get keepers (length teams + i)
    pub are : AreTeams scripts keepers teams

  pub no_teams : (scripts : List (List Script)) (keepers : List (List K)) → TeamsTo scripts scripts keepers keepers []
  no_teams scripts keepers = record {
    scripts_left = λ i. ap (slice_get scripts) (let e : i ≡ 0 + i = omega arith in e);
    keepers_left = λ i. ap (slice_get keepers) (let e : i ≡ 0 + i = omega arith in e);
    are = λ w team got. absurd (let h : ◌≡◌ {A = Option (Team K C)} None (Some team) = got in cc);
  }

  last_team : (ts : List (Team K C)) (t : Team K C) (w : ℕ) (team : Team K C) → slice_get (ts ++ t ∷ []) w ≡ Some team → (slice_get ts w ≡ Some team → ⊥) → (w ≡ length ts) × (t ≡ team)
  last_team [] t zero team got other = (refl, (cc))
  last_team [] t (suc w) team got other = absurd (let h : ◌≡◌ {A = Option (Team K C)} None (Some team) = got in cc)
  last_team (x ∷ ts) t zero team got other = absurd (other got)
  last_team (x ∷ ts) t (suc w) team got other = let r = last_team ts t w team got other in (ap suc r.0, r.1)

  pub one_team : (scripts rest rest' : List (List Script)) (keepers mine mine' : List (List K)) (ts ts' : List (Team K C)) (t : Team K C) →
      rest ≡ t.scripts.items ∷ rest' → mine ≡ t.keepers.items ∷ mine' → ts' ≡ ts ++ t ∷ [] → TeamsTo scripts rest keepers mine ts → TeamsTo scripts rest' keepers mine' ts'
  one_team scripts rest rest' keepers mine mine' ts ts' t s k is to = subst (TeamsTo scripts rest' keepers mine') (sym is) (record {
    scripts_left = λ i. ap (λ (l : List (List Script)). slice_get l (suc i)) (sym s) ∙ to.scripts_left (suc i) ∙ ap (slice_get scripts) (longer i);
    keepers_left = λ i. ap (λ (l : List (List K)). slice_get l (suc i)) (sym k) ∙ to.keepers_left (suc i) ∙ ap (slice_get keepers) (longer i);
    are = each;
  })
    where
      longer : (i : ℕ) → length ts + suc i ≡ length (ts ++ t ∷ []) + i
      longer i = let e = snoc_count ts t in omega (arith, e)

      none_more : length ts + 0 ≡ length ts
      none_more = omega arith

      by_old : (o : Option (Team K C)) (w : ℕ) (team : Team K C) → slice_get ts w ≡ o → slice_get (ts ++ t ∷ []) w ≡ Some team → (slice_get scripts w ≡ Some team.scripts.items) × (slice_get keepers w ≡ Some team.keepers.items)
      by_old (Some old) w team here got =
          let same : old ≡ team = kept ts w old team here got in
          to.are w team (here ∙ ap Some same)
        where
          kept : (ts : List (Team K C)) (w : ℕ) (old team : Team K C) → slice_get ts w ≡ Some old → slice_get (ts ++ t ∷ []) w ≡ Some team → old ≡ team
          kept [] w old team a b = absurd (let h : ◌≡◌ {A = Option (Team K C)} None (Some old) = a in cc)
          kept (x ∷ ts) zero old team a b = let h : Some old ≡ Some team = sym a ∙ b in cc
          kept (x ∷ ts) (suc w) old team a b = kept ts w old team a b
      by_old None w team here got =
          let r = last_team ts t w team got (λ h. let n : ◌≡◌ {A = Option (Team K C)} None (Some team) = sym here ∙ h in cc) in
          subst (λ (x : Team K C). (slice_get scripts w ≡ Some x.scripts.items) × (slice_get keepers w ≡ Some x.keepers.items)) r.1 (
            ap (slice_get scripts) (r.0 ∙ sym none_more) ∙ sym (to.scripts_left 0) ∙ ap (λ (l : List (List Script)). slice_get l 0) s,
            ap (slice_get keepers) (r.0 ∙ sym none_more) ∙ sym (to.keepers_left 0) ∙ ap (λ (l : List (List K)). slice_get l 0) k,
          )

      each : AreTeams scripts keepers (ts ++ t ∷ [])
      each w team got = by_old (slice_get ts w) w team refl got

  module _ (named made : K → ℕ) (n : ℕ) (scripts : List Script) (keepers : List K) (few : List (List Script)) (mine : List (List K)) (teams : List (Team K C))
      (some : 0 < n) (count : length teams ≡ n) (same : length keepers ≡ length scripts) (opens : opening_fault scripts ≡ None)
      (ds : AllDealt n scripts few) (dk : AllDealt n keepers mine) (are : AreTeams few mine teams) where
    of_scripts : (w : ℕ) (team : Team K C) → slice_get teams w ≡ Some team → IsDealt n w scripts team.scripts.items
    of_scripts w team got = ds w team.scripts.items (are w team got).0

    of_keepers : (w : ℕ) (team : Team K C) → slice_get teams w ≡ Some team → IsDealt n w keepers team.keepers.items
    of_keepers w team got = dk w team.keepers.items (are w team got).1

    pub are_dealt : AreDealt named made (map (keeping_of named made) keepers) scripts teams
    are_dealt w team got = subst (λ (m : ℕ). IsDealt m w (map (keeping_of named made) keepers) (map (keeping_of named made) team.keepers.items) × IsDealt m w scripts team.scripts.items) (sym count) (
      (λ i. slice_get-map (keeping_of named made) team.keepers.items i ∙ ap (option_map (keeping_of named made)) (of_keepers w team got i) ∙ sym (slice_get-map (keeping_of named made) keepers (i * n + w))),
      of_scripts w team got,
    )

    most : length scripts ≤ 64
    most = (opens_as scripts opens).0

    pub all_teams : AllTeams teams
    all_teams w team got = subst (λ (m : ℕ). IsTeam m w team) (sym count) (record {
      opens = dealt_opens n w scripts team.scripts.items some (of_scripts w team got) opens;
      keepers = let a = as_many n w scripts keepers team.scripts.items team.keepers.items same (of_scripts w team got) (of_keepers w team got) in
          let b = as_many n w keepers scripts team.keepers.items team.scripts.items (sym same) (of_keepers w team got) (of_scripts w team got) in omega (arith, a, b);
      few = let a = not_more n w scripts team.scripts.items some (of_scripts w team got) in omega (arith, a, most);
      numbers = λ number least last. let a = numbered n w scripts team.scripts.items (of_scripts w team got) number least last in omega (arith, a, most);
    })
