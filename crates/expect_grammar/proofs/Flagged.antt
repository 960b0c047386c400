-- The rules of the commands' flags say what the function of `expect_core` says.
use Rattle.std.proofs.Common.{◌≡◌, ◌≢◌, ℕ, Bool, true, false, ◌&&◌, List, [], ◌∷◌, Some, Ok, Err, ◌⊎◌, inl, inr, refl, sym, ap, ◌∙◌, subst, codes}
use Rattle.std.proofs.lemmas.Bool.{and_parts, and_from, and_right, false_from_ne_true}
use Rattle.std.specs.Str.{bytes_eq}
use Rattle.tcl_words.specs.Lists.{begins_with}
use Rattle.command_table.specs.Flags.{begins_with_minus, is_own, other_role}
use Rattle.expect_core.specs.Flags.{no_flags, showing, Flagged, flags_from, flags_of}
use Rattle.expect_core.specs.declared.flags.Due.TheVariants as due
use Rattle.expect_core.specs.declared.flags.Flags.{Flags}
use Rattle.command_table.specs.declared.flags.Own.{Own}
use Rattle.command_table.specs.declared.flags.Own.TheVariants as switch
use Rattle.command_table.specs.declared.flags.Flags.{Flags as Takes}
use Rattle.command_table.specs.declared.flags.Role.{Role}
use Rattle.command_table.specs.declared.flags.Role.TheVariants as role
use Rattle.expect_grammar.specs.FlagRules.{IsSwitch, IsChoice, IsShown, IsFlag, Stand, End, Wrong, Say, Fail}
use Rattle.expect_grammar.proofs.Words.{found, never}
use Rattle.expect_grammar.proofs.SpawnFlags.{OtherIs, other_is}

-- a minus at its front
minus_is : (word : List ℕ) → begins_with_minus word ≡ begins_with 45 word
minus_is [] = refl
minus_is (b ∷ s) = refl

-- no command's own flag is `-i`
id_isnt_own : (own : Own) → is_own own (codes "-i") ≡ false
id_isnt_own switch.None = refl
id_isnt_own switch.Spawn = refl
id_isnt_own switch.Exec = refl
id_isnt_own switch.Send = refl
id_isnt_own switch.Default = refl
id_isnt_own switch.Timer = refl
id_isnt_own switch.Wait = refl

-- a word that is one of them
module _ (P : List ℕ → Own → Type 0) (holds : (word : List ℕ) (s : Own) → IsSwitch word s → P word s) where
  own_is_switch : (own : Own) (word : List ℕ) → is_own own word ≡ true → P word own
  own_is_switch switch.None word is = absurd (never (sym is))
  own_is_switch switch.Send word is = absurd (never (sym is))
  own_is_switch switch.Spawn word is = found word (codes "-noecho") (λ w. P w switch.Spawn) (holds (codes "-noecho") switch.Spawn IsSwitch.noecho) is
  own_is_switch switch.Exec word is = found word (codes "-keepnewline") (λ w. P w switch.Exec) (holds (codes "-keepnewline") switch.Exec IsSwitch.keepnewline) is
  own_is_switch switch.Default word is = found word (codes "-d") (λ w. P w switch.Default) (holds (codes "-d") switch.Default IsSwitch.default) is
  own_is_switch switch.Timer word is = found word (codes "-continue_timer") (λ w. P w switch.Timer) (holds (codes "-continue_timer") switch.Timer IsSwitch.continue_timer) is
  own_is_switch switch.Wait word is = found word (codes "-nowait") (λ w. P w switch.Wait) (holds (codes "-nowait") switch.Wait IsSwitch.nowait) is

module _ (takes : Takes) where
  -- ---- What the tests find

  own_test : (word : List ℕ) (s : Own) → takes.own ≡ s → IsSwitch word s → is_own takes.own word ≡ true
  own_test word s e IsSwitch.noecho = ap (λ own. is_own own word) e
  own_test word s e IsSwitch.keepnewline = ap (λ own. is_own own word) e
  own_test word s e IsSwitch.default = ap (λ own. is_own own word) e
  own_test word s e IsSwitch.continue_timer = ap (λ own. is_own own word) e
  own_test word s e IsSwitch.nowait = ap (λ own. is_own own word) e

  -- a flag other than the command's own one
  unlike_own : (word : List ℕ) (s : Own) → is_own s word ≡ false → takes.own ≡ s → is_own takes.own word ≡ false
  unlike_own word s is e = ap (λ own. is_own own word) e ∙ is

  other_test : (word : List ℕ) (s : Own) (r : Role) → other_role s word ≡ r → takes.own ≡ s → other_role takes.own word ≡ r
  other_test word s r is e = ap (λ own. other_role own word) e ∙ is

  own_flag : (word : List ℕ) → is_own takes.own word ≡ true → IsFlag takes word
  own_flag word is = own_is_switch (λ w s. takes.own ≡ s → IsFlag takes w) (λ w s is e. IsFlag.own w s e is) takes.own word is refl

  id_flag : (word : List ℕ) → takes.id && bytes_eq word (codes "-i") ≡ true → IsFlag takes word
  id_flag word is = let p = and_parts takes.id _ is in found word (codes "-i") (λ w. IsFlag takes w) (IsFlag.id p.0) p.1

  end_flag : (word : List ℕ) → takes.end && bytes_eq word (codes "--") ≡ true → IsFlag takes word
  end_flag word is = let p = and_parts takes.end _ is in found word (codes "--") (λ w. IsFlag takes w) (IsFlag.end p.0) p.1

  no_flag : (word : List ℕ) → takes.end && bytes_eq word (codes "--") ≡ false → is_own takes.own word ≡ false → takes.id && bytes_eq word (codes "-i") ≡ false
      → ((on : Bool) → ¬ IsChoice word on takes.own) → (takes.own ≡ switch.Spawn → word ≢ codes "-ignore") → ¬ IsShown word takes.own → ¬ IsFlag takes word
  no_flag word end own id unchosen other hidden (IsFlag.own v s e is) = never (sym (own_test word s e is) ∙ own)
  no_flag word end own id unchosen other hidden (IsFlag.id e) = let is = rw e at id in never is
  no_flag word end own id unchosen other hidden (IsFlag.end e) = let is = rw e at end in never is
  no_flag word end own id unchosen other hidden (IsFlag.choice v on s e is) = unchosen on (subst (λ own. IsChoice word on own) (sym e) is)
  no_flag word end own id unchosen other hidden (IsFlag.shown v s e is) = hidden (subst (λ own. IsShown word own) (sym e) is)
  no_flag word end own id unchosen other hidden (IsFlag.ignore e) = other e refl

  bad_by : (word : List ℕ) (r : Role) → OtherIs takes.own word r → ¬ IsFlag takes word → r ≡ role.Bad
  bad_by word r (OtherIs.choice v on is) other = absurd (other (IsFlag.choice word on takes.own refl is))
  bad_by word r (OtherIs.shown v is) other = absurd (other (IsFlag.shown word takes.own refl is))
  bad_by word r (OtherIs.ignore e) other = absurd (other (IsFlag.ignore e))
  bad_by word r (OtherIs.none v unchosen unlike hidden) other = refl

  bad_role : (word : List ℕ) → ¬ IsFlag takes word → other_role takes.own word ≡ role.Bad
  bad_role word other = bad_by word (other_role takes.own word) (other_is takes.own word) other

  -- ---- From the rules to the function

  module _ (name : List ℕ) where
    own_is : (f : Flags) (word : List ℕ) (rest : List (List ℕ)) (s : Own) → takes.own ≡ s → IsSwitch word s
        → flags_from name takes due.None f (word ∷ rest) ≡ flags_from name takes due.None (record f { on = true }) rest
    own_is f word rest s e IsSwitch.noecho = rw (and_right takes.end false refl, own_test word s e IsSwitch.noecho) refl
    own_is f word rest s e IsSwitch.keepnewline = rw (and_right takes.end false refl, own_test word s e IsSwitch.keepnewline) refl
    own_is f word rest s e IsSwitch.default = rw (and_right takes.end false refl, own_test word s e IsSwitch.default) refl
    own_is f word rest s e IsSwitch.continue_timer = rw (and_right takes.end false refl, own_test word s e IsSwitch.continue_timer) refl
    own_is f word rest s e IsSwitch.nowait = rw (and_right takes.end false refl, own_test word s e IsSwitch.nowait) refl

    id_is : (f : Flags) (rest : List (List ℕ)) → takes.id ≡ true → flags_from name takes due.None f (codes "-i" ∷ rest) ≡ flags_from name takes due.Id f rest
    id_is f rest e = rw (and_right takes.end false refl, id_isnt_own takes.own, and_from takes.id true e refl) refl

    choice_is : (f : Flags) (word : List ℕ) (rest : List (List ℕ)) (on : Bool) (s : Own) → takes.own ≡ s → IsChoice word on s
        → flags_from name takes due.None f (word ∷ rest) ≡ flags_from name takes due.None (record f { choice = Some on }) rest
    choice_is f word rest on s e IsChoice.tty = rw (and_right takes.end false refl, unlike_own (codes "-tty") switch.Spawn refl e, and_right takes.id false refl, other_test (codes "-tty") switch.Spawn (role.Choice true) refl e) refl
    choice_is f word rest on s e IsChoice.notty = rw (and_right takes.end false refl, unlike_own (codes "-notty") switch.Spawn refl e, and_right takes.id false refl, other_test (codes "-notty") switch.Spawn (role.Choice false) refl e) refl
    choice_is f word rest on s e IsChoice.human = rw (and_right takes.end false refl, unlike_own (codes "-h") switch.Send refl e, and_right takes.id false refl, other_test (codes "-h") switch.Send (role.Choice true) refl e) refl
    choice_is f word rest on s e IsChoice.slow = rw (and_right takes.end false refl, unlike_own (codes "-s") switch.Send refl e, and_right takes.id false refl, other_test (codes "-s") switch.Send (role.Choice false) refl e) refl

    shown_is : (f : Flags) (word : List ℕ) (rest : List (List ℕ)) (s : Own) → takes.own ≡ s → IsShown word s
        → flags_from name takes due.None f (word ∷ rest) ≡ flags_from name takes due.None (showing word f) rest
    shown_is f word rest s e IsShown.nottycopy = rw (and_right takes.end false refl, unlike_own (codes "-nottycopy") switch.Spawn refl e, and_right takes.id false refl, other_test (codes "-nottycopy") switch.Spawn role.Shown refl e) refl
    shown_is f word rest s e IsShown.nottyinit = rw (and_right takes.end false refl, unlike_own (codes "-nottyinit") switch.Spawn refl e, and_right takes.id false refl, other_test (codes "-nottyinit") switch.Spawn role.Shown refl e) refl
    shown_is f word rest s e IsShown.ignorestderr = rw (and_right takes.end false refl, unlike_own (codes "-ignorestderr") switch.Exec refl e, and_right takes.id false refl, other_test (codes "-ignorestderr") switch.Exec role.Shown refl e) refl

    ignore_is : (f : Flags) (rest : List (List ℕ)) → takes.own ≡ switch.Spawn → flags_from name takes due.None f (codes "-ignore" ∷ rest) ≡ flags_from name takes due.Shown (showing (codes "-ignore") f) rest
    ignore_is f rest e = rw (and_right takes.end false refl, unlike_own (codes "-ignore") switch.Spawn refl e, and_right takes.id false refl, other_test (codes "-ignore") switch.Spawn role.ShownWithValue refl e) refl

    -- what is read is read behind the flags that stand in front
    stood : (f g : Flags) (words behind : List (List ℕ)) → Stand takes f words g behind → flags_from name takes due.None f words ≡ flags_from name takes due.None g behind
    stood f g words behind (Stand.none h ws) = refl
    stood f g words behind (Stand.own h i word rest ws s e is on) = own_is f word rest s e is ∙ stood (record f { on = true }) g rest behind on
    stood f g words behind (Stand.id h i word rest ws e on) = id_is f (word ∷ rest) e ∙ stood (record f { id = Some word }) g rest behind on
    stood f g words behind (Stand.choice h i word rest ws t s e is on) = choice_is f word rest t s e is ∙ stood (record f { choice = Some t }) g rest behind on
    stood f g words behind (Stand.shown h i word rest ws s e is on) = shown_is f word rest s e is ∙ stood (showing word f) g rest behind on
    stood f g words behind (Stand.ignore h i word rest ws e on) = ignore_is f (word ∷ rest) e ∙ stood (showing word (showing (codes "-ignore") f)) g rest behind on

    ended : (f : Flags) (behind rest : List (List ℕ)) → End takes behind rest → flags_from name takes due.None f behind ≡ Ok (f, rest)
    ended f behind rest End.over = refl
    ended f behind rest (End.argument word ws e) = rw (minus_is word ∙ e) refl
    ended f behind rest (End.last ws e) = rw e refl

    failed : (f : Flags) (behind : List (List ℕ)) (text : List ℕ) → Wrong name takes behind text → flags_from name takes due.None f behind ≡ Err text
    failed f behind text (Wrong.unknown word rest minus other) =
        let end = false_from_ne_true (takes.end && bytes_eq word (codes "--")) (λ is. other (end_flag word is)) in
        let own = false_from_ne_true (is_own takes.own word) (λ is. other (own_flag word is)) in
        let id = false_from_ne_true (takes.id && bytes_eq word (codes "-i")) (λ is. other (id_flag word is)) in
        rw (minus_is word ∙ minus, end, own, id, bad_role word other) refl
    failed f behind text (Wrong.no_id e) = id_is f [] e
    failed f behind text (Wrong.no_signal e) = ignore_is f [] e

    pub flags_is : (words : List (List ℕ)) (f : Flags) (rest : List (List ℕ)) → Say takes words f rest → flags_of name takes words ≡ Ok (f, rest)
    flags_is words f rest h = stood no_flags f words h.0 h.1 ∙ ended f h.0 rest h.2

    pub fault_is : (words : List (List ℕ)) (text : List ℕ) → Fail name takes words text → flags_of name takes words ≡ Err text
    fault_is words text h = stood no_flags h.0 words h.1 h.2 ∙ failed h.0 h.1 text h.3

    -- ---- The rules read the flags, or find something wrong

    data Outcome (f : Flags) (words : List (List ℕ)) : Type 0 where
      good : (g : Flags) (behind rest : List (List ℕ)) → Stand takes f words g behind → End takes behind rest → Outcome f words
      wrong : (g : Flags) (behind : List (List ℕ)) (text : List ℕ) → Stand takes f words g behind → Wrong name takes behind text → Outcome f words

    -- of words, and of a flag in front of them that takes the first one
    record Each (words : List (List ℕ)) : Type 0 where
      alone : (f : Flags) → Outcome f words
      id : (f : Flags) → takes.id ≡ true → Outcome f (codes "-i" ∷ words)
      ignore : (f : Flags) → takes.own ≡ switch.Spawn → Outcome f (codes "-ignore" ∷ words)

    at_end : (f : Flags) (words rest : List (List ℕ)) → End takes words rest → Outcome f words
    at_end f words rest h = Outcome.good f words rest (Stand.none f words) h

    switched : (f : Flags) (word : List ℕ) (rest : List (List ℕ)) (s : Own) → takes.own ≡ s → IsSwitch word s → Outcome (record f { on = true }) rest → Outcome f (word ∷ rest)
    switched f word rest s e is (Outcome.good g behind ws h end) = Outcome.good g behind ws (Stand.own f g word rest behind s e is h) end
    switched f word rest s e is (Outcome.wrong g behind text h bad) = Outcome.wrong g behind text (Stand.own f g word rest behind s e is h) bad

    identified : (f : Flags) (word : List ℕ) (rest : List (List ℕ)) → takes.id ≡ true → Outcome (record f { id = Some word }) rest → Outcome f (codes "-i" ∷ word ∷ rest)
    identified f word rest e (Outcome.good g behind ws h end) = Outcome.good g behind ws (Stand.id f g word rest behind e h) end
    identified f word rest e (Outcome.wrong g behind text h bad) = Outcome.wrong g behind text (Stand.id f g word rest behind e h) bad

    chosen : (f : Flags) (word : List ℕ) (rest : List (List ℕ)) (on : Bool) → IsChoice word on takes.own → Outcome (record f { choice = Some on }) rest → Outcome f (word ∷ rest)
    chosen f word rest on is (Outcome.good g behind ws h end) = Outcome.good g behind ws (Stand.choice f g word rest behind on takes.own refl is h) end
    chosen f word rest on is (Outcome.wrong g behind text h bad) = Outcome.wrong g behind text (Stand.choice f g word rest behind on takes.own refl is h) bad

    showed : (f : Flags) (word : List ℕ) (rest : List (List ℕ)) → IsShown word takes.own → Outcome (showing word f) rest → Outcome f (word ∷ rest)
    showed f word rest is (Outcome.good g behind ws h end) = Outcome.good g behind ws (Stand.shown f g word rest behind takes.own refl is h) end
    showed f word rest is (Outcome.wrong g behind text h bad) = Outcome.wrong g behind text (Stand.shown f g word rest behind takes.own refl is h) bad

    ignored : (f : Flags) (word : List ℕ) (rest : List (List ℕ)) → takes.own ≡ switch.Spawn → Outcome (showing word (showing (codes "-ignore") f)) rest → Outcome f (codes "-ignore" ∷ word ∷ rest)
    ignored f word rest e (Outcome.good g behind ws h end) = Outcome.good g behind ws (Stand.ignore f g word rest behind e h) end
    ignored f word rest e (Outcome.wrong g behind text h bad) = Outcome.wrong g behind text (Stand.ignore f g word rest behind e h) bad

    own_first : (f : Flags) (word : List ℕ) (rest : List (List ℕ)) → is_own takes.own word ≡ true → Each rest → Outcome f (word ∷ rest)
    own_first f word rest is b =
        own_is_switch (λ w s. takes.own ≡ s → Outcome f (w ∷ rest)) (λ w s is e. switched f w rest s e is (b.alone (record f { on = true }))) takes.own word is refl

    other_first : (f : Flags) (word : List ℕ) (rest : List (List ℕ)) (r : Role) → OtherIs takes.own word r → Each rest
        → begins_with 45 word ≡ true → takes.end && bytes_eq word (codes "--") ≡ false → is_own takes.own word ≡ false → takes.id && bytes_eq word (codes "-i") ≡ false → Outcome f (word ∷ rest)
    other_first f word rest r (OtherIs.choice v on is) b minus end own id = chosen f word rest on is (b.alone (record f { choice = Some on }))
    other_first f word rest r (OtherIs.shown v is) b minus end own id = showed f word rest is (b.alone (showing word f))
    other_first f word rest r (OtherIs.ignore e) b minus end own id = b.ignore f e
    other_first f word rest r (OtherIs.none v unchosen unlike hidden) b minus end own id = Outcome.wrong f (word ∷ rest) _ (Stand.none f (word ∷ rest)) (Wrong.unknown word rest minus (no_flag word end own id unchosen unlike hidden))

    first : (f : Flags) (word : List ℕ) (rest : List (List ℕ)) → Each rest → Outcome f (word ∷ rest)
    first f word rest b = by_minus (begins_with 45 word) refl
      where
        by_id : begins_with 45 word ≡ true → takes.end && bytes_eq word (codes "--") ≡ false → is_own takes.own word ≡ false
            → (t : Bool) → takes.id && bytes_eq word (codes "-i") ≡ t → Outcome f (word ∷ rest)
        by_id minus end own true is = let p = and_parts takes.id _ is in found word (codes "-i") (λ w. Outcome f (w ∷ rest)) (b.id f p.0) p.1
        by_id minus end own false is = other_first f word rest (other_role takes.own word) (other_is takes.own word) b minus end own is

        by_own : begins_with 45 word ≡ true → takes.end && bytes_eq word (codes "--") ≡ false → (t : Bool) → is_own takes.own word ≡ t → Outcome f (word ∷ rest)
        by_own minus end true is = own_first f word rest is b
        by_own minus end false is = by_id minus end is (takes.id && bytes_eq word (codes "-i")) refl

        by_end : begins_with 45 word ≡ true → (t : Bool) → takes.end && bytes_eq word (codes "--") ≡ t → Outcome f (word ∷ rest)
        by_end minus true is = let p = and_parts takes.end _ is in found word (codes "--") (λ w. Outcome f (w ∷ rest)) (at_end f (codes "--" ∷ rest) rest (End.last rest p.0)) p.1
        by_end minus false is = by_own minus is (is_own takes.own word) refl

        by_minus : (t : Bool) → begins_with 45 word ≡ t → Outcome f (word ∷ rest)
        by_minus true is = by_end is (takes.end && bytes_eq word (codes "--")) refl
        by_minus false is = at_end f (word ∷ rest) (word ∷ rest) (End.argument word rest is)

    each : (words : List (List ℕ)) → Each words
    each [] = record {
      alone = λ f. at_end f [] [] End.over;
      id = λ f e. Outcome.wrong f (codes "-i" ∷ []) _ (Stand.none f (codes "-i" ∷ [])) (Wrong.no_id e);
      ignore = λ f e. Outcome.wrong f (codes "-ignore" ∷ []) _ (Stand.none f (codes "-ignore" ∷ [])) (Wrong.no_signal e);
    }
    each (word ∷ rest) =
        let b = each rest in
        record {
          alone = λ f. first f word rest b;
          id = λ f e. identified f word rest e (b.alone (record f { id = Some word }));
          ignore = λ f e. ignored f word rest e (b.alone (showing word (showing (codes "-ignore") f)));
        }

    -- ---- What is read

    same_flags : (p q : Flags × List (List ℕ)) → ◌≡◌ {A = Flagged} (Ok p) (Ok q) → p ≡ q
    same_flags p q e = cc

    same_text : (v w : List ℕ) → ◌≡◌ {A = Flagged} (Err v) (Err w) → v ≡ w
    same_text v w e = cc

    pub is_flags : (words : List (List ℕ)) (f : Flags) (rest : List (List ℕ)) → flags_of name takes words ≡ Ok (f, rest) → Say takes words f rest
    is_flags words f rest is = by ((each words).alone no_flags)
      where
        by : Outcome no_flags words → Say takes words f rest
        by (Outcome.good g behind ws h end) =
            let same = same_flags (g, ws) (f, rest) (sym (flags_is words g ws (behind, h, end)) ∙ is) in
            subst (λ p. Say takes words p.0 p.1) same (behind, h, end)
        by (Outcome.wrong g behind text h bad) = absurd (let read = sym (fault_is words text (g, behind, h, bad)) ∙ is in cc)

    pub is_fault : (words : List (List ℕ)) (text : List ℕ) → flags_of name takes words ≡ Err text → Fail name takes words text
    is_fault words text is = by ((each words).alone no_flags)
      where
        by : Outcome no_flags words → Fail name takes words text
        by (Outcome.good g behind ws h end) = absurd (let read = sym (flags_is words g ws (behind, h, end)) ∙ is in cc)
        by (Outcome.wrong g behind told h bad) =
            subst (λ t. Fail name takes words t) (same_text told text (sym (fault_is words told (g, behind, h, bad)) ∙ is)) (g, behind, h, bad)

    pub never_both : (words : List (List ℕ)) (f : Flags) (rest : List (List ℕ)) (text : List ℕ) → Say takes words f rest → ¬ Fail name takes words text
    never_both words f rest text h b = let read = sym (flags_is words f rest h) ∙ fault_is words text b in cc

    pub one_reading : (words : List (List ℕ)) (f g : Flags) (rest behind : List (List ℕ)) → Say takes words f rest → Say takes words g behind → (f ≡ g) × (rest ≡ behind)
    one_reading words f g rest behind h k =
        let same = same_flags (f, rest) (g, behind) (sym (flags_is words f rest h) ∙ flags_is words g behind k) in
        (ap (λ (p : Flags × List (List ℕ)). p.0) same, ap (λ (p : Flags × List (List ℕ)). p.1) same)

    pub one_text : (words : List (List ℕ)) (v w : List ℕ) → Fail name takes words v → Fail name takes words w → v ≡ w
    one_text words v w g h = same_text v w (sym (fault_is words v g) ∙ fault_is words w h)

    pub always : (words : List (List ℕ)) → ((f : Flags) × (rest : List (List ℕ)) × Say takes words f rest) ⊎ ((text : List ℕ) × Fail name takes words text)
    always words = by ((each words).alone no_flags)
      where
        by : Outcome no_flags words → ((f : Flags) × (rest : List (List ℕ)) × Say takes words f rest) ⊎ ((text : List ℕ) × Fail name takes words text)
        by (Outcome.good f behind rest h end) = inl (f, rest, (behind, h, end))
        by (Outcome.wrong f behind text h bad) = inr (text, (f, behind, h, bad))
