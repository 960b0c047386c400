-- What a word is where a pattern may stand: the rules say what the function of `exp_match` says.
use Rattle.std.proofs.Common.{◌≡◌, ◌≢◌, ℕ, Bool, true, false, ◌||◌, List, [], ◌∷◌, refl, sym, ◌∙◌, subst, codes, ⊎_elim}
use Rattle.std.proofs.lemmas.Bool.{cond_both, or_cases}
use Rattle.std.proofs.lemmas.Slice.Eq.{bytes_eq-Decides}
use Rattle.std.specs.Str.{bytes_eq}
use Rattle.tcl_words.specs.Lists.{begins_with}
use Rattle.exp_match.specs.Arguments.{with_mark, is_dash, plain_role, way_role, role_of}
use Rattle.exp_match.specs.declared.entry.Keyword.{Keyword}
use Rattle.exp_match.specs.declared.entry.Keyword.TheVariants as key
use Rattle.exp_match.specs.declared.pending.Mark.{Mark}
use Rattle.exp_match.specs.declared.pending.Mark.TheVariants as kind
use Rattle.exp_match.specs.declared.pending.Marks.{Marks}
use Rattle.exp_match.specs.declared.pending.Way.{Way}
use Rattle.exp_match.specs.declared.pending.Way.TheVariants as way
use Rattle.exp_match.specs.declared.pending.Role.{Role}
use Rattle.exp_match.specs.declared.pending.Role.TheVariants as role
use Rattle.expect_grammar.specs.ArgumentRules.{no_flags, IsMark, IsKeyword, IsWay, IsFlag, IsUnknown, IsPlain}

-- ---- From the rules to the function

pub way_is : (word : List ℕ) (w : Way) → IsWay word w → role_of word ≡ role.Written w
unfolding role_of
way_is word w IsWay.ex = refl
way_is word w IsWay.exact = refl
way_is word w IsWay.gl = refl
way_is word w IsWay.glob = refl
way_is word w IsWay.dashes = refl
way_is word w IsWay.re = refl
way_is word w IsWay.regexp = refl

pub keyword_is : (word : List ℕ) (k : Keyword) → IsKeyword word k → role_of word ≡ role.Keyword k
unfolding role_of
keyword_is word k IsKeyword.eof = refl
keyword_is word k IsKeyword.timeout = refl
keyword_is word k IsKeyword.default = refl
keyword_is word k IsKeyword.full_buffer = refl

-- what follows a flag for the next pattern
pub record Marked (word : List ℕ) (m n : Marks) : Type 0 where
  pub k : Mark
  pub is : role_of word ≡ role.Mark k
  pub flags : with_mark m k ≡ n

pub mark_is : (word : List ℕ) (m n : Marks) → IsMark word m n → Marked word m n
unfolding role_of
mark_is word m n (IsMark.nocase f) = record { k = kind.Nocase; is = refl; flags = refl }
mark_is word m n (IsMark.indices f) = record { k = kind.Indices; is = refl; flags = refl }
mark_is word m n (IsMark.notransfer f) = record { k = kind.Notransfer; is = refl; flags = refl }

pub id_is : role_of (codes "-i") ≡ role.Id
unfolding role_of
id_is = refl

pub timeout_is : role_of (codes "-timeout") ≡ role.Timeout
unfolding role_of
timeout_is = refl

-- another word
differ : (word name : List ℕ) → word ≢ name → bytes_eq word name ≡ false
differ word name other = by (bytes_eq word name) refl
  where
    by : (b : Bool) → bytes_eq word name ≡ b → b ≡ false
    by true e = absurd (other ((bytes_eq-Decides word name).0 e))
    by false e = refl

-- a `-` at its front
dash_is : (word : List ℕ) → begins_with 45 word ≡ is_dash word
dash_is [] = refl
dash_is (b ∷ s) = refl

plain_word : (word : List ℕ) → IsPlain word → plain_role word ≡ role.Glob
plain_word word p =
    let n = differ word (codes "null") p.1 in
    let e = differ word (codes "eof") (λ z. p.2 key.Eof (subst (λ w. IsKeyword w key.Eof) (sym z) IsKeyword.eof)) in
    let t = differ word (codes "timeout") (λ z. p.2 key.Timeout (subst (λ w. IsKeyword w key.Timeout) (sym z) IsKeyword.timeout)) in
    let d = differ word (codes "default") (λ z. p.2 key.Default (subst (λ w. IsKeyword w key.Default) (sym z) IsKeyword.default)) in
    let f = differ word (codes "full_buffer") (λ z. p.2 key.FullBuffer (subst (λ w. IsKeyword w key.FullBuffer) (sym z) IsKeyword.full_buffer)) in
    rw (sym (dash_is word) ∙ p.0, n, e, t, d, f) refl

-- a word without a `-` at its front is no flag
no_flag : (word : List ℕ) → begins_with 45 word ≡ false → role_of word ≡ plain_role word
unfolding role_of
no_flag [] e = refl
no_flag (b ∷ s) e = rw e refl

pub plain_is : (word : List ℕ) → IsPlain word → role_of word ≡ role.Glob
plain_is word p = no_flag word p.0 ∙ plain_word word p

nocase_flag : IsFlag (codes "-nocase")
nocase_flag = IsFlag.mark (codes "-nocase") no_flags _ (IsMark.nocase no_flags)

indices_flag : IsFlag (codes "-indices")
indices_flag = IsFlag.mark (codes "-indices") no_flags _ (IsMark.indices no_flags)

notransfer_flag : IsFlag (codes "-notransfer")
notransfer_flag = IsFlag.mark (codes "-notransfer") no_flags _ (IsMark.notransfer no_flags)

-- a word that is no flag isn't this one
no_name : (word name : List ℕ) → ¬ IsFlag word → IsFlag name → bytes_eq word name ≡ false
no_name word name other f = differ word name (λ e. other (subst (λ w. IsFlag w) (sym e) f))

pub unknown_is : (word : List ℕ) → IsUnknown word → role_of word ≡ role.Bad
unfolding role_of
unknown_is word (IsUnknown.no_flag v e other) =
    let c = no_name word (codes "-nocase") other nocase_flag in
    let i = no_name word (codes "-indices") other indices_flag in
    let n = no_name word (codes "-notransfer") other notransfer_flag in
    let d = no_name word (codes "-i") other IsFlag.id in
    let t = no_name word (codes "-timeout") other IsFlag.timeout in
    let x = no_name word (codes "-ex") other (IsFlag.written (codes "-ex") way.Exact IsWay.ex) in
    let exact = no_name word (codes "-exact") other (IsFlag.written (codes "-exact") way.Exact IsWay.exact) in
    let g = no_name word (codes "-gl") other (IsFlag.written (codes "-gl") way.Glob IsWay.gl) in
    let glob = no_name word (codes "-glob") other (IsFlag.written (codes "-glob") way.Glob IsWay.glob) in
    let s = no_name word (codes "--") other (IsFlag.written (codes "--") way.Glob IsWay.dashes) in
    let r = no_name word (codes "-re") other (IsFlag.written (codes "-re") way.Regular IsWay.re) in
    let regexp = no_name word (codes "-regexp") other (IsFlag.written (codes "-regexp") way.Regular IsWay.regexp) in
    rw (c, i, n, d, t, x, exact, g, glob, s, r, regexp, sym (dash_is word) ∙ e) refl
unknown_is word IsUnknown.null = refl

-- ---- From the function to the rules

-- what a word of a role is
pub data RoleIs : List ℕ → Role → Type 0 where
  mark : (word : List ℕ) (k : Mark) → ((m : Marks) → IsMark word m (with_mark m k)) → RoleIs word (role.Mark k)
  id : RoleIs (codes "-i") role.Id
  timeout : RoleIs (codes "-timeout") role.Timeout
  written : (word : List ℕ) (w : Way) → IsWay word w → RoleIs word (role.Written w)
  keyword : (word : List ℕ) (k : Keyword) → IsKeyword word k → RoleIs word (role.Keyword k)
  plain : (word : List ℕ) → IsPlain word → RoleIs word role.Glob
  unknown : (word : List ℕ) → IsUnknown word → RoleIs word role.Bad

-- a word that a test found
pub found : (word name : List ℕ) (P : List ℕ → Type 0) → P name → bytes_eq word name ≡ true → P word
found word name P p e = subst P (sym ((bytes_eq-Decides word name).0 e)) p

-- a word that one of two tests found
pub either : (word a b : List ℕ) (P : List ℕ → Type 0) → P a → P b → bytes_eq word a || bytes_eq word b ≡ true → P word
either word a b P p q e = ⊎_elim (found word a P p) (found word b P q) (or_cases (bytes_eq word a) (bytes_eq word b) e)

-- a word that a test didn't find
pub missed : (word name : List ℕ) → bytes_eq word name ≡ false → word ≢ name
missed word name e same = let z = (bytes_eq-Decides word name).1 same in cc

no_keyword : (word : List ℕ) → bytes_eq word (codes "eof") ≡ false → bytes_eq word (codes "timeout") ≡ false → bytes_eq word (codes "default") ≡ false
    → bytes_eq word (codes "full_buffer") ≡ false → (k : Keyword) → ¬ IsKeyword word k
no_keyword word e t d f k IsKeyword.eof = missed word (codes "eof") e refl
no_keyword word e t d f k IsKeyword.timeout = missed word (codes "timeout") t refl
no_keyword word e t d f k IsKeyword.default = missed word (codes "default") d refl
no_keyword word e t d f k IsKeyword.full_buffer = missed word (codes "full_buffer") f refl

pub neither : (a b : Bool) → a || b ≡ false → (a ≡ false) × (b ≡ false)
neither true b e = absurd (cc)
neither false b e = (refl, e)

of_plain : (word : List ℕ) → ¬ IsFlag word → RoleIs word (plain_role word)
of_plain word other =
    cond_both (is_dash word || bytes_eq word (codes "null")) _ _ (RoleIs word)
    (λ z. RoleIs.unknown word (⊎_elim (λ d. IsUnknown.no_flag word (dash_is word ∙ d) other) (found word (codes "null") (λ w. IsUnknown w) IsUnknown.null)
    (or_cases (is_dash word) (bytes_eq word (codes "null")) z)))
    (λ n. cond_both (bytes_eq word (codes "eof")) _ _ (RoleIs word) (λ z. RoleIs.keyword word key.Eof (found word (codes "eof") (λ w. IsKeyword w key.Eof) IsKeyword.eof z))
    (λ e. cond_both (bytes_eq word (codes "timeout")) _ _ (RoleIs word)
    (λ z. RoleIs.keyword word key.Timeout (found word (codes "timeout") (λ w. IsKeyword w key.Timeout) IsKeyword.timeout z))
    (λ t. cond_both (bytes_eq word (codes "default")) _ _ (RoleIs word)
    (λ z. RoleIs.keyword word key.Default (found word (codes "default") (λ w. IsKeyword w key.Default) IsKeyword.default z))
    (λ d. cond_both (bytes_eq word (codes "full_buffer")) _ _ (RoleIs word)
    (λ z. RoleIs.keyword word key.FullBuffer (found word (codes "full_buffer") (λ w. IsKeyword w key.FullBuffer) IsKeyword.full_buffer z))
    (λ f. let p = neither (is_dash word) (bytes_eq word (codes "null")) n in
    RoleIs.plain word (dash_is word ∙ p.0, missed word (codes "null") p.1, no_keyword word e t d f))))))

pub never : true ≡ false → ⊥
never e = cc

-- a word that is none of the flags
no_flag_at_all : (word : List ℕ) → bytes_eq word (codes "-nocase") ≡ false → bytes_eq word (codes "-indices") ≡ false → bytes_eq word (codes "-notransfer") ≡ false
    → bytes_eq word (codes "-i") ≡ false → bytes_eq word (codes "-timeout") ≡ false → bytes_eq word (codes "-ex") || bytes_eq word (codes "-exact") ≡ false
    → bytes_eq word (codes "-gl") || bytes_eq word (codes "-glob") || bytes_eq word (codes "--") ≡ false → bytes_eq word (codes "-re") || bytes_eq word (codes "-regexp") ≡ false → ¬ IsFlag word
no_flag_at_all word c i n d t x g r (IsFlag.mark v before behind (IsMark.nocase f)) = never c
no_flag_at_all word c i n d t x g r (IsFlag.mark v before behind (IsMark.indices f)) = never i
no_flag_at_all word c i n d t x g r (IsFlag.mark v before behind (IsMark.notransfer f)) = never n
no_flag_at_all word c i n d t x g r (IsFlag.written v w IsWay.ex) = never x
no_flag_at_all word c i n d t x g r (IsFlag.written v w IsWay.exact) = never x
no_flag_at_all word c i n d t x g r (IsFlag.written v w IsWay.gl) = never g
no_flag_at_all word c i n d t x g r (IsFlag.written v w IsWay.glob) = never g
no_flag_at_all word c i n d t x g r (IsFlag.written v w IsWay.dashes) = never g
no_flag_at_all word c i n d t x g r (IsFlag.written v w IsWay.re) = never r
no_flag_at_all word c i n d t x g r (IsFlag.written v w IsWay.regexp) = never r
no_flag_at_all word c i n d t x g r IsFlag.id = never d
no_flag_at_all word c i n d t x g r IsFlag.timeout = never t

of_way : (word : List ℕ) → (bytes_eq word (codes "-ex") || bytes_eq word (codes "-exact") ≡ false → bytes_eq word (codes "-gl") || bytes_eq word (codes "-glob") || bytes_eq word (codes "--") ≡ false
    → bytes_eq word (codes "-re") || bytes_eq word (codes "-regexp") ≡ false → ¬ IsFlag word) → RoleIs word (way_role word)
of_way word other =
    cond_both (bytes_eq word (codes "-ex") || bytes_eq word (codes "-exact")) _ _ (RoleIs word)
    (λ z. RoleIs.written word way.Exact (either word (codes "-ex") (codes "-exact") (λ w. IsWay w way.Exact) IsWay.ex IsWay.exact z))
    (λ x. cond_both (bytes_eq word (codes "-gl") || bytes_eq word (codes "-glob") || bytes_eq word (codes "--")) _ _ (RoleIs word)
    (λ z. RoleIs.written word way.Glob (⊎_elim (either word (codes "-gl") (codes "-glob") (λ w. IsWay w way.Glob) IsWay.gl IsWay.glob) (found word (codes "--") (λ w. IsWay w way.Glob) IsWay.dashes)
    (or_cases (bytes_eq word (codes "-gl") || bytes_eq word (codes "-glob")) (bytes_eq word (codes "--")) z)))
    (λ g. cond_both (bytes_eq word (codes "-re") || bytes_eq word (codes "-regexp")) _ _ (RoleIs word)
    (λ z. RoleIs.written word way.Regular (either word (codes "-re") (codes "-regexp") (λ w. IsWay w way.Regular) IsWay.re IsWay.regexp z))
    (λ r. of_plain word (other x g r))))

of_mark : (word name : List ℕ) (k : Mark) → ((m : Marks) → IsMark name m (with_mark m k)) → bytes_eq word name ≡ true → RoleIs word (role.Mark k)
of_mark word name k h = found word name (λ w. RoleIs w (role.Mark k)) (RoleIs.mark name k h)

pub role_is : (word : List ℕ) → RoleIs word (role_of word)
unfolding role_of
role_is word =
    cond_both (bytes_eq word (codes "-nocase")) _ _ (RoleIs word) (of_mark word (codes "-nocase") kind.Nocase (λ m. IsMark.nocase m))
    (λ c. cond_both (bytes_eq word (codes "-indices")) _ _ (RoleIs word) (of_mark word (codes "-indices") kind.Indices (λ m. IsMark.indices m))
    (λ i. cond_both (bytes_eq word (codes "-notransfer")) _ _ (RoleIs word) (of_mark word (codes "-notransfer") kind.Notransfer (λ m. IsMark.notransfer m))
    (λ n. cond_both (bytes_eq word (codes "-i")) _ _ (RoleIs word) (found word (codes "-i") (λ w. RoleIs w role.Id) RoleIs.id)
    (λ d. cond_both (bytes_eq word (codes "-timeout")) _ _ (RoleIs word) (found word (codes "-timeout") (λ w. RoleIs w role.Timeout) RoleIs.timeout)
    (λ t. of_way word (no_flag_at_all word c i n d t))))))
