use Rattle.std.proofs.Common.{◌≡◌, ◌≤◌, ℕ, List, length, take, sym, ap, subst, ◌∙◌, arith}
use Rattle.std.proofs.lemmas.List.{take_all, length-take-le}
use Rattle.tcl_words.specs.Packed.{cut, Rise, begin}
use Rattle.tcl_words.proofs.Packing.{cut_length, begin_le, front_rises, cut_front}
use Rattle.tcl_words.proofs.packed.Packed.truncate.Goals as goal

pub returns-then-len-count : goal.returns-then-len-count
returns-then-len-count c =
    let ends = cut_length 0 c.self.inside.ends.items c.self.inside.bytes.items in
    let seen = ap length c.self.view_is in
    sym (take_all c.args.count c.args.self.now (omega (arith, c.if-len-count.true, c.len.ensures, c.self.inside.ends.ok.0, ends, seen)))

few : (c : goal.After-truncate-2) → c.args.count ≤ length c.self.inside.ends.items
few c = omega (arith, c.if-len-count.false, c.len.ensures, c.self.inside.ends.ok.0)

end_is : (c : goal.After-truncate-2) → c.begin-end.result ≡ begin 0 c.self.inside.ends.items c.args.count
end_is c =
    let all = ap length c.as_slice.ensures.value in
    let within = few c in
    c.begin-end.ensures (omega (arith, all, within)) ∙ ap (λ (es : List ℕ). begin 0 es c.args.count) c.as_slice.ensures.value

pub invariant_of-self : goal.invariant_of-self
invariant_of-self c =
    let bytes = c.self.inside.bytes.items in
    let ends = c.self.inside.ends.items in
    let before = begin_le 0 ends (length bytes) c.args.count c.self.invariant (few c) in
    let is = end_is c in
    let long : length c.truncate-2.new.self.items ≡ begin 0 ends c.args.count =
    ap length c.truncate-2.ensures.items ∙ length-take-le c.begin-end.result bytes (omega (arith, before.1, is)) ∙ is in
    subst (λ (es : List ℕ). Rise 0 es (length c.truncate-2.new.self.items)) (sym c.truncate.ensures.items)
    (subst (λ (n : ℕ). Rise 0 (take c.args.count ends) n) (sym long) (front_rises 0 ends (length bytes) c.args.count c.self.invariant (few c)))

pub returns : goal.returns
returns c =
    let bytes = c.self.inside.bytes.items in
    let ends = c.self.inside.ends.items in
    let is = end_is c in
    ap (λ (es : List ℕ). cut 0 es c.truncate-2.new.self.items) c.truncate.ensures.items
    ∙ ap (cut 0 (take c.args.count ends)) c.truncate-2.ensures.items
    ∙ cut_front 0 ends bytes c.args.count c.begin-end.result c.self.invariant (few c) (omega (arith, is))
    ∙ ap (take c.args.count) c.self.view_is
