-- What was seen in a ring, after one item more was taken and after another look.
use Rattle.std.proofs.Common.{List, ◌∷◌, ◌++◌, ◌∙◌, sym, ap, append_assoc}
use mathlib.Core.List.{IsPrefix}

pub seen_behind : {T : Type 0} → (x : T) (seen more most : List T) → IsPrefix seen (x ∷ more) → IsPrefix more most → IsPrefix seen (x ∷ most)
seen_behind x seen more most (rest, first) (new, then) =
    (rest ++ new, sym (append_assoc seen rest new) ∙ (ap (λ w. w ++ new) first ∙ ap (λ w. x ∷ w) then))
