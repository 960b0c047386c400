use Rattle.std.proofs.Common.{◌≡◌, ◌++◌, ◌∷◌, [], ℕ, List, take, Some, sym, ap, ◌∙◌, arith}
use Rattle.tcl_words.specs.Lists.{content, put_behind}
use Rattle.tcl_words.proofs.Contents.{bare_ends, bare_over}
use Rattle.tcl_words.proofs.lists.push_content.Goals as goal

pub returns-then-stops_element-clause-value : goal.returns-then-stops_element-clause-value
returns-then-stops_element-clause-value c =
    let n = c.plain_len-n.result in
    let front = c.args.list.now in
    let is : content c.args.quoted c.args.bytes.now ≡ Some (take n c.args.bytes.now, n) =
    bare_ends c.args.quoted c.args.bytes.now n (omega arith) (grind arith) c.plain_len-n.ensures.read in
    ap (put_behind front) is ∙ sym (ap (λ (ts : List (List ℕ)). Some (ts, n)) (c.in_ok-push.ensures.pushed ∙ ap (λ (t : List ℕ). front ++ t ∷ []) c.before-then-stops_element.ensures))

pub returns-then-not-quoted-clause-value : goal.returns-then-not-quoted-clause-value
returns-then-not-quoted-clause-value c =
    let n = c.plain_len-n.result in
    let front = c.args.list.now in
    let is : content c.args.quoted c.args.bytes.now ≡ Some (c.args.bytes.now, n) =
    bare_over c.args.quoted c.args.bytes.now n (grind arith) (grind arith) c.plain_len-n.ensures.read in
    ap (put_behind front) is ∙ sym (ap (λ (ts : List (List ℕ)). Some (ts, n)) c.in_ok-push-2.ensures.pushed)
