use Rattle.std.proofs.Common.{rules, ◌≡◌, ◌+◌, ◌++◌, get_or, drop, sym, ap, ◌∙◌, arith}
use Rattle.std.proofs.lemmas.Str.{IsUtf8-had, chars_from_encodes}
use Rattle.std.specs.Prelude.{chars, encode_utf8_all}
use Rattle.std.specs.String.{string_bytes}
use Rattle.exp_match.specs.Translation.{goes_on, text_of, text_from, translated}
use Rattle.exp_match.specs.declared.translation.Context.TheVariants as context
use Rattle.exp_match.proofs.Translating.{text_start, text_turn, text_over}
use Rattle.exp_match.proofs.translation.translated.Goals as goal

pub loop-at-init : goal.loop-at-init
loop-at-init c =
    let s = c.as_slice-chars.result.now in
    (omega arith, ap (λ x. x ++ encode_utf8_all (text_from context.Outside s)) c.new-text.ensures.bytes ∙ text_start s)

pub loop-at-preserved : goal.loop-at-preserved
loop-at-preserved c =
    let s = c.as_slice-chars.result.now in
    let i = c.loop-at.at in
    let k = c.loop-at.context in
    let is : string_bytes c.push_text.new.text ≡ string_bytes c.loop-at.text ++ encode_utf8_all (text_of k (get_or s i 0) (get_or s (i + 1) 0)) = search rules in
    let on : c.goes_on-context.result ≡ goes_on k (get_or s i 0) (get_or s (i + 1) 0) = search rules in (
      omega arith,
      ap (λ n. string_bytes c.push_text.new.text ++ encode_utf8_all (text_from n (drop (i + 1) s))) on
          ∙ text_turn k s i (string_bytes c.loop-at.text) (string_bytes c.push_text.new.text) _ (omega arith) c.loop-at.invariant.1 is,
    )

pub returns : goal.returns
returns c =
    let s = c.as_slice-chars.result.now in
    let bytes = string_bytes c.loop-at.text in
    let is : bytes ≡ encode_utf8_all (translated s) = text_over c.loop-at.context s c.loop-at.at bytes _ (omega arith) c.loop-at.invariant.1 in
    let same : s ≡ chars c.args.source.now = search rules in
    sym (chars_from_encodes (translated s) bytes (IsUtf8-had bytes c.loop-at.text.ok) (sym is)) ∙ ap translated same
