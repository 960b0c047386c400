-- `regex` reads the text of every pattern of the grammar.
use Rattle.std.proofs.Common.{◌≡◌, ◌≢◌, ◌⊎◌, ℕ, zero, suc, ◌+◌, ◌-◌, ◌*◌, ◌<◌, ◌≤◌, Bool, true, false, cond, List, [], ◌∷◌, length, length-append, Option, Some, None, IfSome, IsSomeAnd, eqb, inl, inr, le_refl, sym, subst, arith}
use Rattle.std.specs.List.{slice_index}
use Rattle.std.specs.Str.{chars, chars_after, continuation_len, lead_bits}
use Rattle.regex.specs.Failures.{IsPattern}
use Rattle.regex_syntax.specs.Brackets.{Nested}
use Rattle.regex_syntax.specs.Grammar.{Names, join_parts, read}
use Rattle.regex_syntax.specs.Verdict.{Refuses}
use Rattle.regex_syntax.specs.declared.error.ErrorKind.{ErrorKind}
use Rattle.regex_syntax.specs.declared.error.ErrorKind.TheVariants.{OutOfMemory, NestLimitExceeded}
use Rattle.regex_hir.specs.Meaning.{alt_all}
use Rattle.regex_hir.specs.Re.{Re as Program}
use Rattle.exp_match.specs.Grammar.{RePattern}
use Rattle.exp_match.specs.Scan.{is_pattern}
use Rattle.exp_match.specs.Unbuilt.{IsGivenFor, IsUnbuilt}
use Rattle.exp_match.specs.Translation.{escape_text, goes_on, needs_backslash, text_of, text_from, translated}
use Rattle.exp_match.specs.Written.{Written, config_of}
use Rattle.exp_match.specs.declared.translation.Context.{Context}
use Rattle.exp_match.specs.declared.translation.Context.TheVariants as context
use Rattle.exp_match.proofs.Accepting.{pattern_parts}
use Rattle.exp_match.proofs.Derived.{derived}
use Rattle.exp_match.proofs.Meant.{token_means}
use Rattle.expect_grammar.specs.PatternTexts.{IsRead}
use Rattle.expect_grammar.proofs.TextClasses.{given}
use Rattle.expect_grammar.proofs.TextPieces.{Closes, re_reads, join_depth, atom_depth}

-- a text has no more characters than bytes
chars_after_fit : (n c : ℕ) (bytes : List ℕ) → length (chars_after n c bytes) ≤ length bytes + 1
chars_after_fit zero c [] = omega arith
chars_after_fit zero c (b ∷ bytes) = omega (arith, chars_after_fit (continuation_len b) (lead_bits b) bytes)
chars_after_fit (suc n) c [] = omega arith
chars_after_fit (suc n) c (b ∷ bytes) = omega (arith, chars_after_fit n (c * 64 + (b - 128)) bytes)

chars_fit : (bytes : List ℕ) → length (chars bytes) ≤ length bytes
unfolding chars
chars_fit [] = omega arith
chars_fit (b ∷ bytes) = omega (arith, chars_after_fit (continuation_len b) (lead_bits b) bytes)

-- a character's text has at most three
escape_fits : (c : ℕ) → length (escape_text c) ≤ 3
escape_fits c = by (eqb c 101) (eqb c 60) (eqb c 62)
  where
    by : (e less greater : Bool) → length (cond e (120 ∷ 49 ∷ 66 ∷ []) (cond less (120 ∷ 51 ∷ 67 ∷ []) (cond greater (120 ∷ 51 ∷ 69 ∷ []) (c ∷ [])))) ≤ 3
    by true less greater = omega arith
    by false true greater = omega arith
    by false false true = omega arith
    by false false false = omega arith

slashed_fits : (slashed : Bool) (c : ℕ) → length (cond slashed (92 ∷ c ∷ []) (c ∷ [])) ≤ 3
slashed_fits true c = omega arith
slashed_fits false c = omega arith

one_fits : (k : Context) (c d : ℕ) → length (text_of k c d) ≤ 3
one_fits context.Outside c d = slashed_fits (needs_backslash context.Outside c d) c
one_fits context.Escape c d = escape_fits c
one_fits context.Count c d = omega arith
one_fits context.Opening c d = slashed_fits (needs_backslash context.Opening c d) c
one_fits context.First c d = slashed_fits (needs_backslash context.First c d) c
one_fits context.Class c d = slashed_fits (needs_backslash context.Class c d) c
one_fits context.ClassEscape c d = escape_fits c
one_fits context.Name c d = omega arith

text_fits : (k : Context) (s : List ℕ) → length (text_from k s) ≤ 3 * length s
text_fits k [] = omega arith
text_fits k (c ∷ s) =
    let d = slice_index s 0 in
    omega (arith, one_fits k c d, text_fits (goes_on k c d) s, length-append (text_of k c d) (text_from (goes_on k c d) s))

pub rules : (text : List ℕ) (nocase lines : Bool) → RePattern text → IsRead nocase lines text
unfolding read join_parts translated
rules text nocase lines r =
    let fits : length (given (chars text)) ≤ 3 * length (chars text) = text_fits context.Outside (chars text) in
    let p = re_reads nocase lines 50 (chars text) [] r.2 Closes.over (2 * length (given (chars text)) + 2) (le_refl _) (None ∷ []) (omega (arith, r.0, fits, chars_fit text)) in
    rw p.are (omega (arith, join_depth nocase lines alt_all p.parts (atom_depth nocase lines 50 + 1 + 1) p.depth))

pub read_is : (text : List ℕ) (nocase lines : Bool) → is_pattern text ≡ true → IsRead nocase lines text
read_is text nocase lines is = let p = pattern_parts text is in rules text nocase lines (p.0, p.1, derived token_means (chars text) p.2)

-- what was read isn't refused
not_refused : (kind : ErrorKind) (limit : ℕ) (found : Option (Nested Program × Names)) → IsSomeAnd found (λ p. p.0.depth ≤ limit)
    → (kind ≡ OutOfMemory) ⊎ ((found ≡ None) ⊎ ((kind ≡ NestLimitExceeded) × IfSome found (λ p. limit < p.0.depth))) → kind ≡ OutOfMemory
not_refused kind limit found read (inl e) = e
not_refused kind limit None read (inr h) = absurd read
not_refused kind limit (Some p) read (inr (inl none)) = absurd (cc)
not_refused kind limit (Some p) read (inr (inr deep)) = absurd (omega (arith, deep.1))

-- and so is a text that is given for a pattern
given_read : (text given : List ℕ) (nocase lines : Bool) → is_pattern text ≡ true → IsGivenFor text given → IsSomeAnd (read (config_of nocase lines) (chars given)) (λ p. p.0.depth ≤ (config_of nocase lines).nest_limit)
given_read text given nocase lines is for =
    subst (λ (cs : List ℕ). IsSomeAnd (read (config_of nocase lines) cs) (λ p. p.0.depth ≤ (config_of nocase lines).nest_limit)) (sym for) (read_is text nocase lines is)

pub memory : (text given : List ℕ) (nocase lines : Bool) (kind : ErrorKind) → is_pattern text ≡ true → IsGivenFor text given → Refuses (config_of nocase lines) given kind → kind ≡ OutOfMemory
unfolding Refuses
memory text given nocase lines kind is for h = not_refused kind (config_of nocase lines).nest_limit (read (config_of nocase lines) (chars given)) (given_read text given nocase lines is for) h

pub refused : (w : Written) → IsUnbuilt w → (given : List ℕ) × IsGivenFor w.source given × IsPattern (config_of w.nocase w.lines) given
refused w (is, given, for, why) = (given, for, by why)
  where
    by : IsPattern (config_of w.nocase w.lines) given ⊎ ((kind : ErrorKind) × (kind ≢ OutOfMemory) × Refuses (config_of w.nocase w.lines) given kind)
        → IsPattern (config_of w.nocase w.lines) given
    by (inl p) = p
    by (inr h) = absurd (h.1 (memory w.source given w.nocase w.lines h.0 is for h.2))
