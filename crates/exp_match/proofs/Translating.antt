-- The translated text from a place of a pattern on.
use Rattle.std.proofs.Common.{◌≡◌, ℕ, ◌+◌, ◌<◌, ◌≤◌, List, [], ◌++◌, length, drop, get_or, refl, sym, ap, ◌∙◌, arith}
use Rattle.std.proofs.lemmas.List.{append-nil, append_assoc, drop_all, get_or-drop}
use Rattle.std.proofs.lemmas.Str.{encodes-append}
use Rattle.std.specs.Prelude.{encode_utf8_all}
use Rattle.tcl_words.proofs.Readings.{byte_at}
use Rattle.exp_match.specs.Translation.{goes_on, text_of, text_from, translated}
use Rattle.exp_match.specs.declared.translation.Context.{Context}
use Rattle.exp_match.specs.declared.translation.Context.TheVariants as context

text_here : (k : Context) (s : List ℕ) (i : ℕ) → i < length s
    → text_from k (drop i s) ≡ text_of k (get_or s i 0) (get_or s (i + 1) 0) ++ text_from (goes_on k (get_or s i 0) (get_or s (i + 1) 0)) (drop (i + 1) s)
text_here k s i h =
    let c = get_or s i 0 in
    let place : i + 1 + 0 ≡ i + 1 = omega arith in
    let next : get_or (drop (i + 1) s) 0 0 ≡ get_or s (i + 1) 0 = get_or-drop (i + 1) s 0 0 ∙ ap (λ (j : ℕ). get_or s j 0) place in
    ap (text_from k) (byte_at s i h) ∙ ap (λ (d : ℕ). text_of k c d ++ text_from (goes_on k c d) (drop (i + 1) s)) next

-- what is appended for one character
pub text_turn : (k : Context) (s : List ℕ) (i : ℕ) (bytes longer whole : List ℕ) → i < length s → bytes ++ encode_utf8_all (text_from k (drop i s)) ≡ whole
    → longer ≡ bytes ++ encode_utf8_all (text_of k (get_or s i 0) (get_or s (i + 1) 0))
    → longer ++ encode_utf8_all (text_from (goes_on k (get_or s i 0) (get_or s (i + 1) 0)) (drop (i + 1) s)) ≡ whole
text_turn k s i bytes longer whole h so_far is =
    let one = text_of k (get_or s i 0) (get_or s (i + 1) 0) in
    let rest = text_from (goes_on k (get_or s i 0) (get_or s (i + 1) 0)) (drop (i + 1) s) in
    ap (λ (x : List ℕ). x ++ encode_utf8_all rest) is
    ∙ append_assoc bytes (encode_utf8_all one) (encode_utf8_all rest)
    ∙ ap (λ (x : List ℕ). bytes ++ x) (sym (encodes-append one rest) ∙ sym (ap encode_utf8_all (text_here k s i h)))
    ∙ so_far

pub text_start : (s : List ℕ) → [] ++ encode_utf8_all (text_from context.Outside (drop 0 s)) ≡ encode_utf8_all (translated s)
unfolding translated
text_start s = refl

pub text_over : (k : Context) (s : List ℕ) (i : ℕ) (bytes whole : List ℕ) → length s ≤ i → bytes ++ encode_utf8_all (text_from k (drop i s)) ≡ whole → bytes ≡ whole
text_over k s i bytes whole h so_far =
    sym (append-nil bytes) ∙ sym (ap (λ (x : List ℕ). bytes ++ encode_utf8_all (text_from k x)) (drop_all i s h)) ∙ so_far
