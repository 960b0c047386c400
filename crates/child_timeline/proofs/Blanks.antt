-- Words, byte by byte.
use Rattle.std.proofs.Common.{◌≡◌, ℕ, ◌+◌, ◌<◌, ◌≤◌, List, [], ◌∷◌, ◌++◌, length, take, drop, get_or, Bool, true, false, sym, ap, ◌∙◌, append_assoc, append-nil}
use Rattle.std.specs.Prelude.{if◌then◌else◌}
use Rattle.std.proofs.lemmas.List.{drop_more, drop_all, take_more, take_all}
use Rattle.child_timeline.specs.Words.{is_blank, after_blanks, first_word, past_word}

pub blank_more : (bs : List ℕ) (i : ℕ) → i < length bs → is_blank (get_or bs i 0) ≡ true → after_blanks (drop i bs) ≡ after_blanks (drop (i + 1) bs)
blank_more bs i lt h = ap after_blanks (drop_more bs i 0 lt) ∙ ap (λ (t : Bool). if t then after_blanks (drop (i + 1) bs) else get_or bs i 0 ∷ drop (i + 1) bs) h

pub blanks_end : (bs : List ℕ) (i : ℕ) → i < length bs → is_blank (get_or bs i 0) ≡ false → after_blanks (drop i bs) ≡ drop i bs
blanks_end bs i lt h =
    ap after_blanks (drop_more bs i 0 lt)
    ∙ ap (λ (t : Bool). if t then after_blanks (drop (i + 1) bs) else get_or bs i 0 ∷ drop (i + 1) bs) h
    ∙ sym (drop_more bs i 0 lt)

pub blanks_alone : (bs : List ℕ) (i : ℕ) → length bs ≤ i → after_blanks (drop i bs) ≡ []
blanks_alone bs i le = ap after_blanks (drop_all i bs le)

-- up to here there was no blank
pub record IsWordTo (bs : List ℕ) (i : ℕ) : Type 0 where
  pub word : first_word bs ≡ take i bs ++ first_word (drop i bs)
  pub past : past_word bs ≡ past_word (drop i bs)

pub word_more : (bs : List ℕ) (i : ℕ) → i < length bs → is_blank (get_or bs i 0) ≡ false → IsWordTo bs i → IsWordTo bs (i + 1)
word_more bs i lt h w = record {
  word =
      w.word
      ∙ ap (λ (r : List ℕ). take i bs ++ first_word r) (drop_more bs i 0 lt)
      ∙ ap (λ (t : Bool). take i bs ++ (if t then [] else get_or bs i 0 ∷ first_word (drop (i + 1) bs))) h
      ∙ sym (append_assoc (take i bs) (get_or bs i 0 ∷ []) (first_word (drop (i + 1) bs)))
      ∙ ap (λ (r : List ℕ). r ++ first_word (drop (i + 1) bs)) (sym (take_more bs i 0 lt));
  past =
      w.past
      ∙ ap past_word (drop_more bs i 0 lt)
      ∙ ap (λ (t : Bool). if t then get_or bs i 0 ∷ drop (i + 1) bs else past_word (drop (i + 1) bs)) h;
}

pub word_end : (bs : List ℕ) (i : ℕ) → i < length bs → is_blank (get_or bs i 0) ≡ true → IsWordTo bs i → (first_word bs ≡ take i bs) × (past_word bs ≡ drop i bs)
word_end bs i lt h w = (
  w.word
      ∙ ap (λ (r : List ℕ). take i bs ++ first_word r) (drop_more bs i 0 lt)
      ∙ ap (λ (t : Bool). take i bs ++ (if t then [] else get_or bs i 0 ∷ first_word (drop (i + 1) bs))) h
      ∙ append-nil (take i bs),
  w.past
      ∙ ap past_word (drop_more bs i 0 lt)
      ∙ ap (λ (t : Bool). if t then get_or bs i 0 ∷ drop (i + 1) bs else past_word (drop (i + 1) bs)) h
      ∙ sym (drop_more bs i 0 lt),
)

pub word_alone : (bs : List ℕ) (i : ℕ) → length bs ≤ i → IsWordTo bs i → (first_word bs ≡ bs) × (past_word bs ≡ [])
word_alone bs i le w = (
  w.word ∙ ap (λ (r : List ℕ). take i bs ++ first_word r) (drop_all i bs le) ∙ append-nil (take i bs) ∙ take_all i bs le,
  w.past ∙ ap past_word (drop_all i bs le),
)
