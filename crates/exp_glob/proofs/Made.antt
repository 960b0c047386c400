-- How literals are made.
use Rattle.std.proofs.Common.{◌≡◌, ℕ, suc, ◌+◌, ◌<◌, ◌≤◌, drop, get_or, length-append, Bool, List, [], ◌∷◌, ◌++◌, length, Option, Some, sym, ap, subst, ◌∙◌, ⊎_elim, arith}
use Rattle.std.specs.Prelude.{MatchOption}
use Rattle.std.proofs.Math.ListN.{get_or-append}
use Rattle.std.proofs.Math.Seq.{get_or-append_seam}
use Rattle.std.proofs.lemmas.Bool.{cases_lt}
use Rattle.exp_glob.specs.declared.element.Element.{Element}
use Rattle.exp_glob.specs.declared.element.Element.TheVariants.{Star, One, End}
use Rattle.exp_glob.specs.declared.element.Single.{Single}
use Rattle.exp_glob.specs.declared.literal.Literal.{Literal}
use Rattle.exp_glob.specs.Stars.{behind_star}
use Rattle.exp_glob.specs.Literals.{byte_at, IsLiteral, AreLiterals}

-- the first n elements are singles of the first run
abbrev pub Onwards : Bool → List Element → ℕ → Type 0
Onwards nocase es n = (j : ℕ) → byte_at nocase es (n + j) ≡ byte_at nocase (drop n es) j

pub onwards_none : (nocase : Bool) (es : List Element) → Onwards nocase es 0
onwards_none nocase es = λ j. ap (λ i. byte_at nocase es i) (omega arith)

-- one more
pub onwards_one : (nocase : Bool) (es : List Element) (n : ℕ) (single : Single) → drop n es ≡ One single ∷ drop (n + 1) es → Onwards nocase es n → Onwards nocase es (n + 1)
onwards_one nocase es n single is so_far = λ j.
    ap (λ i. byte_at nocase es i) (omega arith) ∙ so_far (suc j) ∙ ap (λ (l : List Element). byte_at nocase l (suc j)) is

-- an element that has one byte is a single
pub onwards_byte : (nocase : Bool) (es : List Element) (n b : ℕ) (e : Element) → drop n es ≡ e ∷ drop (n + 1) es → byte_at nocase (e ∷ drop (n + 1) es) 0 ≡ Some b
    → Onwards nocase es n → Onwards nocase es (n + 1)
onwards_byte nocase es n b Star is byte so_far = absurd (cc)
onwards_byte nocase es n b End is byte so_far = absurd (cc)
onwards_byte nocase es n b (One single) is byte so_far = onwards_one nocase es n single is so_far

-- a byte more
pub literal_more : (nocase : Bool) (es : List Element) (n b : ℕ) (e : Element) (bytes : List ℕ) → drop n es ≡ e ∷ drop (n + 1) es
    → byte_at nocase (e ∷ drop (n + 1) es) 0 ≡ Some b → Onwards nocase es n → length bytes ≡ n → IsLiteral nocase es 0 bytes → IsLiteral nocase es 0 (bytes ++ b ∷ [])
literal_more nocase es n b e bytes is byte so_far long literal = λ j lt.
    ⊎_elim (λ (below : j < length bytes). literal j below ∙ ap Some (sym (get_or-append bytes (b ∷ []) 0 j below)))
    (λ (from : length bytes ≤ j).
    let here : j ≡ n = omega (arith, length-append bytes (b ∷ [])) in
    ap (λ i. byte_at nocase es i) (omega arith) ∙ so_far 0 ∙ ap (λ (l : List Element). byte_at nocase l 0) is ∙ byte ∙ ap Some (sym (ap (λ i. get_or (bytes ++ b ∷ []) i 0) (omega arith) ∙ get_or-append_seam bytes b [] 0)))
    (cases_lt j (length bytes))

-- a literal at an offset
pub literal_at : (nocase : Bool) (es rest : List Element) (offset : ℕ) (bytes : List ℕ) → Onwards nocase es offset → rest ≡ drop offset es → IsLiteral nocase rest 0 bytes → IsLiteral nocase es offset bytes
literal_at nocase es rest offset bytes so_far is literal = λ j lt.
    so_far j ∙ ap (λ (l : List Element). byte_at nocase l j) (sym is) ∙ ap (λ i. byte_at nocase rest i) (omega arith) ∙ literal j lt

-- the literals of the runs behind the first
pub later_are : (nocase : Bool) (es more : List Element) (ls : List Literal) → AreLiterals nocase es ls → behind_star es ≡ Some more → AreLiterals nocase more (drop 1 ls)
later_are nocase es more [] are is = tt
later_are nocase es more (l ∷ ls) are is = subst (λ (o : Option (List Element)). MatchOption o (ls ≡ []) (λ m. AreLiterals nocase m ls)) is are.1
