-- Counts that are written one behind another.
use Rattle.std.proofs.Common.{◌≡◌, ℕ, zero, suc, ◌<◌, List, [], ◌∷◌, ◌++◌, take, drop, length, Option, Err, refl, sym, ap, subst, ◌∙◌, append-nil, append_assoc, arith}
use Rattle.std.specs.Prelude.{slice_index_or}
use Rattle.std.specs.Fmt.{decimal}
use Rattle.std.proofs.lemmas.List.{take-append-drop}
use Rattle.std.specs.Io.KnownBytes.{Appends}
use Rattle.std.proofs.KnownBytes.{Appends-trans}
use Rattle.tcl_host.specs.declared.ending.Ending.{Ending}
use Rattle.report_texts.specs.declared.tally.Kind.{Kind}
use Rattle.report_texts.specs.declared.devices.Unwritten.{Unwritten}
use Rattle.report_texts.specs.Devices.{Writes}
use Rattle.report_texts.specs.Report.{labelled}
use Rattle.report_texts.specs.Line.{how_many, kind_label, kinds_text}
use Rattle.report_texts.proofs.Writing.{writes_then, gives_up}
use Rattle.report_texts.proofs.Series.{take_more, drop_more}

pub is_labelled : (label : List ℕ) (n : ℕ) → label ++ decimal n ≡ labelled label n
unfolding labelled
is_labelled label n = refl

pub same_labelled : (label said : List ℕ) (n m : ℕ) → label ≡ said → n ≡ m → labelled label n ≡ labelled said m
same_labelled label said n m label_is n_is = ap (λ (l : List ℕ). labelled l n) label_is ∙ ap (λ (k : ℕ). labelled said k) n_is

kinds_both : (xs ys : List Kind) (es : List Ending) → kinds_text (xs ++ ys) es ≡ kinds_text xs es ++ kinds_text ys es
kinds_both [] ys es = refl
kinds_both (x ∷ xs) ys es =
    let piece = labelled (kind_label x) (how_many x es) in
    ap (λ (z : List ℕ). piece ++ z) (kinds_both xs ys es) ∙ sym (append_assoc piece (kinds_text xs es) (kinds_text ys es))

-- a kind that there is, whatever stands for one that isn't
at_any : (ks : List Kind) (i : ℕ) (d e : Kind) → i < length ks → slice_index_or ks i d ≡ slice_index_or ks i e
at_any [] i d e within = absurd (let never : i < 0 = within in omega arith)
at_any (k ∷ ks) zero d e within = refl
at_any (k ∷ ks) (suc i) d e within = at_any ks i d e (omega (arith, within))

-- so many of the kinds were written
module _ (ks : List Kind) (es : List Ending) (i : ℕ) (d : Kind) (within : i < length ks) (a b c : Option (List ℕ)) (put : Appends a b (kinds_text (take i ks) es)) where
  abbrev pub kind_at : Kind
  kind_at = slice_index_or ks i d

  at : kind_at ≡ slice_index_or ks i kind_at
  at = at_any ks i d kind_at within

  abbrev pub piece : List ℕ
  piece = labelled (kind_label kind_at) (how_many kind_at es)

  pub put_kind : Appends b c piece → Appends a c (kinds_text (take (suc i) ks) es)
  put_kind next =
      let more : kinds_text (take (suc i) ks) es ≡ kinds_text (take i ks) es ++ piece =
      ap (λ (z : List Kind). kinds_text z es) (take_more i ks kind_at within at)
      ∙ kinds_both (take i ks) (kind_at ∷ []) es ∙ ap (λ (z : List ℕ). kinds_text (take i ks) es ++ z) (append-nil piece)
      in subst (λ (z : List ℕ). Appends a c z) (sym more) (Appends-trans a b c (kinds_text (take i ks) es) piece put next)

  pub stopped_at : (failures calls : ℕ) (fault : Unwritten) → Writes {X = Unit {0}} piece b c failures calls (Err fault) → Writes {X = Unit {0}} (kinds_text ks es) a c failures calls (Err fault)
  stopped_at failures calls fault w =
      let rest : List ℕ = kinds_text (drop (suc i) ks) es in
      let all : kinds_text ks es ≡ kinds_text (take i ks) es ++ (piece ++ rest) =
      ap (λ (z : List Kind). kinds_text z es) (sym (take-append-drop i ks))
      ∙ kinds_both (take i ks) (drop i ks) es
      ∙ ap (λ (z : List Kind). kinds_text (take i ks) es ++ kinds_text z es) (drop_more i ks kind_at within at)
      in subst (λ (z : List ℕ). Writes {X = Unit {0}} z a c failures calls (Err fault)) (sym all)
      (writes_then (Unit {0}) a b c (kinds_text (take i ks) es) (piece ++ rest) failures calls (Err fault) put (gives_up b c piece rest failures calls w))
