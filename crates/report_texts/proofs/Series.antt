-- Reports that are told one after another.
use Rattle.std.proofs.Common.{◌≡◌, ℕ, zero, suc, ◌+◌, ◌<◌, ◌≤◌, List, [], ◌∷◌, ◌++◌, length, take, drop, Bool, true, false, ◌&&◌, Option, Err, inl, refl, sym, ap, subst, ◌∙◌, append-nil, append_assoc, arith}
use Rattle.std.specs.Prelude.{slice_index_or}
use Rattle.std.proofs.lemmas.List.{take-append-drop, length-map}
use Rattle.std.specs.Io.KnownBytes.{Appends}
use Rattle.std.proofs.KnownBytes.{Appends-trans}
use Rattle.session.specs.declared.report.Report.{Report}
use Rattle.dialogue_sched.proofs.Pairing.{Paired-length}
use Rattle.report_texts.specs.declared.devices.Unwritten.{Unwritten}
use Rattle.report_texts.specs.Devices.{Writes}
use Rattle.tcl_host.specs.declared.ending.Ending.{Ending}
use Rattle.report_texts.specs.Report.{is_done, all_done}
use Rattle.report_texts.specs.Form.{part_bytes, parts_bytes, endings_of}
use Rattle.report_texts.specs.Written.{StandsFor, AllStandFor, WritesOne, WritesParts}
use Rattle.report_texts.proofs.Writing.{writes_then, gives_up}
use Rattle.report_texts.specs.declared.form.Form.{Form}

-- what stands for two lists one behind the other
stand_both : (xs ys told more : List Report) → AllStandFor xs told → AllStandFor ys more → AllStandFor (xs ++ ys) (told ++ more)
stand_both [] ys [] more first second = second
stand_both [] ys (t ∷ told) more first second = absurd first
stand_both (x ∷ xs) ys [] more first second = absurd first
stand_both (x ∷ xs) ys (t ∷ told) more first second = (first.0, stand_both xs ys told more first.1 second)

pub stand_same : (rs : List Report) → AllStandFor rs rs
stand_same [] = tt
stand_same (r ∷ rs) = (inl refl, stand_same rs)

bytes_both : (form : Form) (n k : ℕ) (xs ys : List Report) → k ≡ n + length xs → parts_bytes form n (xs ++ ys) ≡ parts_bytes form n xs ++ parts_bytes form k ys
bytes_both form n k [] ys is = let same : n ≡ k = omega (arith, is) in ap (λ (m : ℕ). parts_bytes form m ys) same
bytes_both form n k (x ∷ xs) ys is =
    ap (λ (more : List ℕ). part_bytes form n x ++ more) (bytes_both form (n + 1) k xs ys (omega (arith, is)))
    ∙ sym (append_assoc (part_bytes form n x) (parts_bytes form (n + 1) xs) (parts_bytes form k ys))

pub take_len : {A : Type 0} (i : ℕ) (rs : List A) → i ≤ length rs → length (take i rs) ≡ i
take_len zero rs le = refl
take_len (suc i) [] le = absurd (omega (arith, le))
take_len (suc i) (r ∷ rs) le = ap suc (take_len i rs (omega (arith, le)))

pub drop_more : {A : Type 0} (i : ℕ) (rs : List A) (r : A) → i < length rs → r ≡ slice_index_or rs i r → drop i rs ≡ r ∷ drop (suc i) rs
drop_more i [] r within at = absurd (let never : i < 0 = within in omega arith)
drop_more zero (x ∷ rs) r within at = ap (λ z. z ∷ rs) (sym at)
drop_more (suc i) (x ∷ rs) r within at = drop_more i rs r (omega (arith, within)) at

pub take_more : {A : Type 0} (i : ℕ) (rs : List A) (r : A) → i < length rs → r ≡ slice_index_or rs i r → take (suc i) rs ≡ take i rs ++ r ∷ []
take_more i [] r within at = absurd (let never : i < 0 = within in omega arith)
take_more zero (x ∷ rs) r within at = ap (λ z. z ∷ []) (sym at)
take_more (suc i) (x ∷ rs) r within at = ap (λ zs. x ∷ zs) (take_more i rs r (omega (arith, within)) at)

-- of these reports one more was told
pub stands_more : (rs : List Report) (i : ℕ) (r : Report) (told : List Report) (t : Report) → i < length rs → r ≡ slice_index_or rs i r → AllStandFor (take i rs) told → StandsFor r t → AllStandFor (take (suc i) rs) (told ++ t ∷ [])
stands_more rs i r told t within at stand stands = subst (λ (zs : List Report). AllStandFor zs (told ++ t ∷ [])) (sym (take_more i rs r within at)) (stand_both (take i rs) (r ∷ []) told (t ∷ []) stand (stands, tt))

-- of these reports so many were told
module _ (form : Form) (rs : List Report) (i : ℕ) (r : Report) (within : i < length rs) (at : r ≡ slice_index_or rs i r) (told : List Report) (stand : AllStandFor (take i rs) told) (a b c : Option (List ℕ)) (put : Appends a b (parts_bytes form 1 told)) where
  place : i + 1 ≡ 1 + length told
  place =
      let many : length told ≡ i = sym (Paired-length StandsFor (take i rs) told stand) ∙ take_len i rs (omega (arith, within)) in
      omega (arith, many)

  -- the next was not written whole
  pub stopped : (failures calls : ℕ) (es : List Ending) (fault other : Unwritten) → WritesOne form (i + 1) r b c failures calls (Err fault) → WritesParts form rs a c failures calls es (Err other)
  stopped failures calls es fault other w =
      let rest : List Report = drop (suc i) rs in
      record {
        told = told ++ w.told ∷ rest;
        stand = subst (λ (zs : List Report). AllStandFor zs (told ++ w.told ∷ rest))
            (ap (λ (zs : List Report). take i rs ++ zs) (sym (drop_more i rs r within at)) ∙ take-append-drop i rs)
            (stand_both (take i rs) (r ∷ rest) told (w.told ∷ rest) stand (w.stands, stand_same rest));
        writes = subst (λ (t : List ℕ). Writes {X = Bool} t a c failures calls (Err other)) (sym (bytes_both form 1 (i + 1) told (w.told ∷ rest) place))
            (writes_then Bool a b c (parts_bytes form 1 told) (part_bytes form (i + 1) w.told ++ parts_bytes form (i + 1 + 1) rest) failures calls (Err other) put
            (gives_up b c (part_bytes form (i + 1) w.told) (parts_bytes form (i + 1 + 1) rest) failures calls w.writes));
        done = tt;
      }

  -- the next was
  pub put_more : (t : Report) → Appends b c (part_bytes form (i + 1) t) → Appends a c (parts_bytes form 1 (told ++ t ∷ []))
  put_more t next =
      subst (λ (text : List ℕ). Appends a c text)
      (ap (λ (more : List ℕ). parts_bytes form 1 told ++ more) (sym (append-nil (part_bytes form (i + 1) t))) ∙ sym (bytes_both form 1 (i + 1) told (t ∷ []) place))
      (Appends-trans a b c (parts_bytes form 1 told) (part_bytes form (i + 1) t) put next)

done_both : (a b c : Bool) → (a && (b && c)) ≡ ((a && b) && c)
done_both true b c = refl
done_both false b c = refl

done_last : (told : List Report) (t : Report) → (all_done told && is_done t.ending) ≡ all_done (told ++ t ∷ [])
done_last [] t = sym (and_true (is_done t.ending))
  where
    and_true : (b : Bool) → (b && true) ≡ b
    and_true true = refl
    and_true false = refl
done_last (x ∷ told) t = sym (done_both (is_done x.ending) (all_done told) (is_done t.ending)) ∙ ap (λ (b : Bool). is_done x.ending && b) (done_last told t)

-- whether all that was told ended well
pub well_more : (well done all : Bool) (e : Ending) (told : List Report) (t : Report) → well ≡ all_done told → e ≡ t.ending → done ≡ is_done e → all ≡ (well && done) → all ≡ all_done (told ++ t ∷ [])
well_more well done all e told t is ended one both =
    both ∙ ap (λ (b : Bool). b && done) is ∙ ap (λ (b : Bool). all_done told && b) (one ∙ ap is_done ended) ∙ done_last told t

-- the endings of what was told
pub endings_more : (new es : List Ending) (e : Ending) (told : List Report) (t : Report) → new ≡ es ++ e ∷ [] → es ≡ endings_of told → e ≡ t.ending → new ≡ endings_of (told ++ t ∷ [])
endings_more new es e told t pushed same ended = pushed ∙ ap (λ (z : List Ending). z ++ e ∷ []) same ∙ ap (λ (z : Ending). endings_of told ++ z ∷ []) ended ∙ endings_last told
  where
    endings_last : (told : List Report) → endings_of told ++ t.ending ∷ [] ≡ endings_of (told ++ t ∷ [])
    endings_last [] = refl
    endings_last (x ∷ told) = ap (λ (z : List Ending). x.ending ∷ z) (endings_last told)

-- there is room for one more
pub as_many_ended : (rs : List Report) (i : ℕ) (told : List Report) (es : List Ending) → i ≤ length rs → AllStandFor (take i rs) told → es ≡ endings_of told → length es ≡ i
as_many_ended rs i told es le stand same =
    ap length same ∙ length-map told (λ (r : Report). r.ending) ∙ sym (Paired-length StandsFor (take i rs) told stand) ∙ take_len i rs le
