-- A text whose front is replaced, and then the rest of it.
use Rattle.std.proofs.Common.{◌≡◌, ℕ, zero, suc, ◌+◌, ◌-◌, ◌*◌, ◌<◌, ◌≤◌, Bool, true, false, List, [], ◌∷◌, ◌++◌, length, take, drop, get_or, Option, Some, None, Err, if◌then◌else◌, refl, sym, ap, ◌∙◌, arith, length-drop, append_assoc}
use Rattle.std.proofs.Math.Seq.{drop-cons}
use Rattle.tcl_subst.specs.Faults.{is_too_long}
use Rattle.tcl_strings.specs.Mapping.{stands, first_pair, on_pair, mapped_from}
use Rattle.tcl_results.specs.Said.{limited}
use Rattle.tcl_results.specs.Texts.{too_long}
use Rattle.tcl_results.proofs.Limits.{front_over}

-- the next two elements, and those behind them
pub drop_two : (es : List (List ℕ)) (n : ℕ) → 2 * n + 1 < length es → drop (2 * n) es ≡ get_or es (2 * n) [] ∷ get_or es (2 * n + 1) [] ∷ drop (2 * (n + 1)) es
drop_two es n some =
    let second : suc (2 * n) ≡ 2 * n + 1 = omega arith in
    let third : suc (2 * n + 1) ≡ 2 * (n + 1) = omega arith in
    drop-cons es (2 * n) [] (omega arith)
    ∙ ap (λ (m : ℕ). get_or es (2 * n) [] ∷ drop m es) second
    ∙ ap (λ (l : List (List ℕ)). get_or es (2 * n) [] ∷ l) (drop-cons es (2 * n + 1) [] some)
    ∙ ap (λ (m : ℕ). get_or es (2 * n) [] ∷ get_or es (2 * n + 1) [] ∷ drop m es) third

module _ (nocase : Bool) where
  module _ (es : List (List ℕ)) (text : List ℕ) (n : ℕ) where
    pair_is : 2 * n + 1 < length es → first_pair nocase (drop (2 * n) es) text ≡ (if stands nocase (get_or es (2 * n) []) text then Some (get_or es (2 * n) [], get_or es (2 * n + 1) []) else first_pair nocase (drop (2 * (n + 1)) es) text)
    pair_is some = ap (λ (l : List (List ℕ)). first_pair nocase l text) (drop_two es n some)

    -- the next key doesn't stand there
    pub pair_on : 2 * n + 1 < length es → stands nocase (get_or es (2 * n) []) text ≡ false → first_pair nocase (drop (2 * (n + 1)) es) text ≡ first_pair nocase (drop (2 * n) es) text
    pair_on some none = sym (pair_is some ∙ ap (λ (b : Bool). if b then Some (get_or es (2 * n) [], get_or es (2 * n + 1) []) else first_pair nocase (drop (2 * (n + 1)) es) text) none)

    -- the next key stands there
    pub pair_at : 2 * n + 1 < length es → stands nocase (get_or es (2 * n) []) text ≡ true → first_pair nocase (drop (2 * n) es) text ≡ Some (get_or es (2 * n) [], get_or es (2 * n + 1) [])
    pair_at some is = pair_is some ∙ ap (λ (b : Bool). if b then Some (get_or es (2 * n) [], get_or es (2 * n + 1) []) else first_pair nocase (drop (2 * (n + 1)) es) text) is

  few : (es : List (List ℕ)) (text : List ℕ) → length es ≤ 1 → first_pair nocase es text ≡ None
  few [] text one = refl
  few (key ∷ []) text one = refl
  few (key ∷ value ∷ es) text one = absurd (omega arith)

  -- no pair is left
  pub pair_none : (es : List (List ℕ)) (text : List ℕ) (n : ℕ) → length es ≤ 2 * n + 1 → first_pair nocase (drop (2 * n) es) text ≡ None
  pair_none es text n all = few (drop (2 * n) es) text (omega (arith, length-drop (2 * n) es))

  if_key : (b : Bool) (key value : List ℕ) (p : List ℕ × List ℕ) (r : Option (List ℕ × List ℕ)) → (b ≡ true → 0 < length key) → (r ≡ Some p → 0 < length p.0) → (if b then Some (key, value) else r) ≡ Some p → 0 < length p.0
  if_key true key value p r long on is = let same : p.0 ≡ key = cc in let some : 0 < length key = long refl in omega (arith, ap length same)
  if_key false key value p r long on is = on is

  stands_some : (key text : List ℕ) → stands nocase key text ≡ true → 0 < length key
  stands_some [] text is = cc
  stands_some (b ∷ key) text is = omega arith

  -- a key that stands somewhere has bytes
  pub key_some : (es : List (List ℕ)) (text : List ℕ) (p : List ℕ × List ℕ) → first_pair nocase es text ≡ Some p → 0 < length p.0
  key_some [] text p is = cc
  key_some (key ∷ []) text p is = cc
  key_some (key ∷ value ∷ es) text p is = if_key (stands nocase key text) key value p (first_pair nocase es text) (stands_some key text) (key_some es text p) is

  -- bytes that belong to a key are passed over
  passed : (es : List (List ℕ)) (k : ℕ) (text : List ℕ) → mapped_from nocase es k text ≡ mapped_from nocase es 0 (drop k text)
  passed es zero text = refl
  passed es (suc k) [] = refl
  passed es (suc k) (b ∷ text) = passed es k text

  module _ (es : List (List ℕ)) (made new : List ℕ) where
    -- a byte stays
    pub kept_on : (rest : List ℕ) → 0 < length rest → first_pair nocase es rest ≡ None → new ≡ made ++ ([] ++ take 1 rest) → made ++ mapped_from nocase es 0 rest ≡ new ++ mapped_from nocase es 0 (drop 1 rest)
    kept_on [] some none is = absurd (omega arith)
    kept_on (b ∷ text) some none is =
        ap (λ (o : Option (List ℕ × List ℕ)). made ++ on_pair b (λ k. mapped_from nocase es k text) o) none
        ∙ sym (append_assoc made (b ∷ []) (mapped_from nocase es 0 text)) ∙ ap (λ (l : List ℕ). l ++ mapped_from nocase es 0 text) (sym is)

    -- a key is replaced
    pub put_on : (rest key value : List ℕ) → first_pair nocase es rest ≡ Some (key, value) → 0 < length rest → new ≡ made ++ ([] ++ value) → made ++ mapped_from nocase es 0 rest ≡ new ++ mapped_from nocase es 0 (drop (length key) rest)
    put_on [] key value found some is = absurd (omega arith)
    put_on (b ∷ text) [] value found some is = absurd (let long = key_some es (b ∷ text) ([], value) found in omega arith)
    put_on (b ∷ text) (c ∷ key) value found some is =
        let one : length (c ∷ key) - 1 ≡ length key = omega arith in
        ap (λ (o : Option (List ℕ × List ℕ)). made ++ on_pair b (λ k. mapped_from nocase es k text) o) found
        ∙ ap (λ (k : ℕ). made ++ (value ++ mapped_from nocase es k text)) one
        ∙ ap (λ (l : List ℕ). made ++ (value ++ l)) (passed es (length key) text)
        ∙ sym (append_assoc made value (mapped_from nocase es 0 (drop (length key) text)))
        ∙ ap (λ (l : List ℕ). l ++ mapped_from nocase es 0 (drop (length key) text)) (sym is)

module _ (nocase : Bool) (es : List (List ℕ)) (made rest : List ℕ) (some : 0 < length rest) where
  pub kept_over : (x : List ℕ) → first_pair nocase es rest ≡ None → x ≡ take 1 rest → is_too_long (length (made ++ ([] ++ x))) ≡ true → limited (made ++ mapped_from nocase es 0 rest) ≡ Err too_long
  kept_over x none is long =
      front_over (made ++ ([] ++ x)) (mapped_from nocase es 0 (drop 1 rest)) (made ++ mapped_from nocase es 0 rest)
      (kept_on nocase es made (made ++ ([] ++ x)) rest some none (ap (λ (l : List ℕ). made ++ ([] ++ l)) is)) long

  pub put_over : (key value : List ℕ) → first_pair nocase es rest ≡ Some (key, value) → is_too_long (length (made ++ ([] ++ value))) ≡ true → limited (made ++ mapped_from nocase es 0 rest) ≡ Err too_long
  put_over key value found long =
      front_over (made ++ ([] ++ value)) (mapped_from nocase es 0 (drop (length key) rest)) (made ++ mapped_from nocase es 0 rest)
      (put_on nocase es made (made ++ ([] ++ value)) rest key value found some refl) long
