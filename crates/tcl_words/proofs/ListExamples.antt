-- Lists, on texts as a reader meets them.
use Rattle.std.proofs.Common.{◌≡◌, ℕ, List, [], ◌∷◌, Some, None, refl}
use Rattle.std.specs.Prelude.{codes}
use Rattle.tcl_words.specs.Course.{course}
use Rattle.tcl_words.specs.Backslash.{backslash, digits, digit, blanks}
use Rattle.tcl_words.specs.Lists.{elements, written, content, closing, element, balances}

abbrev four : List (List ℕ)
four = codes "x" ∷ codes "b c" ∷ [] ∷ codes "a{b" ∷ []

round : (written four ≡ codes "x {b c} {} a\\{b") × (elements (codes "x {b c} {} a\\{b") ≡ Some four)
unfolding elements course content element closing balances backslash digits digit blanks
round = (refl, refl)

read : (elements (codes " \"a b\\x41\" c\\ d ") ≡ Some (codes "a bA" ∷ codes "c d" ∷ []))
    × (elements (codes "{a\\{b}\n}c") ≡ Some (codes "a\\{b" ∷ codes "}c" ∷ []))
    × (elements (codes "a\\\n b") ≡ Some (codes "a b" ∷ []))
unfolding elements course content element closing backslash digits digit blanks
read = (refl, refl, refl)

refused : (elements (codes "{a}b") ≡ None) × (elements (codes "\"a\"b") ≡ None) × (elements (codes "a \"b") ≡ None) × (elements (codes "a {b") ≡ None)
unfolding elements course content element closing backslash digits digit blanks
refused = (refl, refl, refl, refl)

made : (written (codes "#a" ∷ codes "#b" ∷ []) ≡ codes "{#a} #b") × (written (codes "#\\" ∷ []) ≡ codes "\\#\\\\") × (written (codes "}\t{" ∷ []) ≡ codes "\\}\\t\\{")
unfolding balances
made = (refl, refl, refl)
