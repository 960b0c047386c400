-- The match that a search finds, as a function. `FindsFirst` allows no other result.
use Rattle.std.specs.Prelude.{ℕ, zero, suc, ◌+◌, nat_le, nat_lt, Bool, false, ◌&&◌, ◌||◌, ◌==◌, if◌then◌else◌, List, [], ◌∷◌, length, slice_index, Option, Some, None, option_map}
use Rattle.std.specs.Option.{option_or}
use Rattle.exp_glob.specs.declared.element.Element.{Element}
use Rattle.exp_glob.specs.declared.element.Element.TheVariants.{Star, One, End}
use Rattle.exp_glob.specs.declared.pattern.Glob.{Glob}
use Rattle.exp_glob.specs.Spans.{takes}

-- Some index below n passes a test.
abbrev pub some_below : (ℕ → Bool) → ℕ → Bool
some_below test zero = false
some_below test (suc n) = test n || some_below test n

-- The greatest index below n that passes a test.
abbrev pub last_below : (ℕ → Bool) → ℕ → Option ℕ
last_below test zero = None
last_below test (suc n) = if test n then Some n else last_below test n

-- The result at the least index below n that has one.
abbrev pub first_below : {X : Type 0} → (ℕ → Option X) → ℕ → Option X
first_below find zero = None
first_below find (suc n) = option_or (first_below find n) (find n)

-- The elements match s from a to b.
abbrev pub spans : Bool → List Element → List ℕ → ℕ → ℕ → Bool
spans nocase [] s a b = a == b
spans nocase (Star ∷ es) s a b = some_below (λ k. nat_le a k && spans nocase es s k b) (length s + 1)
spans nocase (One single ∷ es) s a b = nat_lt a (length s) && (takes nocase single (slice_index s a) && spans nocase es s (a + 1) b)
spans nocase (End ∷ es) s a b = a == length s && spans nocase es s a b

-- The longest match that starts at a.
abbrev pub longest_from : Glob → Bool → List ℕ → ℕ → Option (ℕ × ℕ)
longest_from g nocase s a = option_map (λ b. (a, b)) (last_below (spans nocase g.elements s a) (length s + 1))

-- The match that starts first, and the longest one from there.
unfoldable pub first_span : Glob → Bool → List ℕ → Option (ℕ × ℕ)
first_span g nocase s = first_below (longest_from g nocase s) (if g.anchored then 1 else length s + 1)
