use Rattle.std.proofs.Common.{◌≡◌, ℕ, List, [], ◌∷◌, ◌++◌, length, sym, ap, subst, ◌∙◌, arith}
use Rattle.std.proofs.lemmas.List.{length-append}
use Rattle.tcl_words.specs.Packed.{cut, Rise}
use Rattle.tcl_words.proofs.Packing.{rise_more, cut_more}
use Rattle.tcl_words.proofs.packed.Packed.push.Goals as goal

length_is : (c : goal.After-push_reserved) → c.len.result ≡ length (c.self.inside.bytes.items ++ c.args.text.now)
length_is c = omega (arith, c.len.ensures, c.extend_from_slice.new.self.ok.0, ap length c.in_ok-extend_from_slice.ensures.items)

ends_are : (c : goal.After-push_reserved) → c.push_reserved.new.self.items ≡ c.self.inside.ends.items ++ length (c.self.inside.bytes.items ++ c.args.text.now) ∷ []
ends_are c =
    c.push_reserved.ensures.items
    ∙ ap (λ (es : List ℕ). es ++ c.len.result ∷ []) c.in_ok-reserve.ensures.items
    ∙ ap (λ (n : ℕ). c.self.inside.ends.items ++ n ∷ []) (length_is c)

pub invariant_of-self-2 : goal.invariant_of-self-2
invariant_of-self-2 c =
    let bytes = c.self.inside.bytes.items in
    let more = c.args.text.now in
    let longer = length-append bytes more in
    subst (λ (es : List ℕ). Rise 0 es (length c.extend_from_slice.new.self.items)) (sym (ends_are c))
    (subst (λ (n : ℕ). Rise 0 (c.self.inside.ends.items ++ length (bytes ++ more) ∷ []) n) (sym (ap length c.in_ok-extend_from_slice.ensures.items))
    (rise_more 0 c.self.inside.ends.items (length bytes) (length (bytes ++ more)) c.self.invariant (omega (arith, longer))))

pub returns-clause-pushed : goal.returns-clause-pushed
returns-clause-pushed c =
    let bytes = c.self.inside.bytes.items in
    let ends = c.self.inside.ends.items in
    let more = c.args.text.now in
    ap (λ (es : List ℕ). cut 0 es c.extend_from_slice.new.self.items) (ends_are c)
    ∙ ap (cut 0 (ends ++ length (bytes ++ more) ∷ [])) c.in_ok-extend_from_slice.ensures.items
    ∙ cut_more 0 ends bytes more c.self.invariant
    ∙ ap (λ (ts : List (List ℕ)). ts ++ more ∷ []) c.self.view_is
