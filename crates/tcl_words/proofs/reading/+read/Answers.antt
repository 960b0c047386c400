use Rattle.std.proofs.Common.{◌≡◌, ◌≤◌, ◌+◌, [], ◌∷◌, true, false, Some, Ok, length, length-drop, drop, get_or, ap, ◌∙◌, refl, sym, take, rules, arith}
use Rattle.std.proofs.lemmas.Result.{err_from_is_err_and}
use Rattle.tcl_words.specs.Pieces.{member, no_pieces, piece, append, literal_of, part_view, parts_view}
use Rattle.tcl_words.specs.Lists.{begins_with}
use Rattle.tcl_words.specs.Commands.{Fails, dollar, name_len, substitution, reader, token_at, stops}
use Rattle.tcl_words.specs.declared.shapes.Part.{Var, the_lemmas}
use Rattle.tcl_words.specs.Tokens.{token_view}
use Rattle.tcl_words.proofs.Parted.{parts_view-push, read_text, read_whole, read_fails, read_last, read_unclosed, read_all}
use Rattle.tcl_words.proofs.reading.+read.Goals as goal
use Rattle.tcl_words.proofs.reading.+read.Goals.{parts-in-Byte+in_ok-push-in-Byte, parts-in-Escape+in_ok-extend_from_slice-in-Escape, parts-in-Substitution+in_ok-flush-in-Substitution+in_ok-push-in-Substitution}

pub parts-returns-then-stops-clause-value : goal.parts-returns-then-stops-clause-value
parts-returns-then-stops-clause-value t c =
    let s = c.args.bytes.now in
    let i = c.loop-at.at in
    let stop : stops c.args.stop (get_or s i 0) (drop (i + 1) s) ≡ true = grind arith in
    rw (c.in_ok-flush.ensures, c.stop_len.ensures.value) (read_last (reader c.args.room.scripts c.args.room.depth) c.args.stop s (parts_view c.loop-at.list.items) c.loop-at.text.items i _ c.loop-at.invariant.1 (omega arith) stop)

pub parts-returns-in_err-token-clause-value : goal.parts-returns-in_err-token-clause-value
parts-returns-in_err-token-clause-value t c =
    let s = c.args.bytes.now in
    let i = c.loop-at.at in
    let p = err_from_is_err_and c.from_residual-in_err-token.result c.from_residual-in_err-token.ensures.1 in
    let dark : stops c.args.stop (get_or s i 0) (drop (i + 1) s) ≡ false = grind arith in
    let bad : Fails c.in_err-token.field-0.0 (token_at (reader c.args.room.scripts c.args.room.depth) (get_or s i 0) (drop (i + 1) s)) = rw (← c.after-rest.ensures) c.in_err-token.ensures.value in
    rw (p.1, p.2) (read_fails (reader c.args.room.scripts c.args.room.depth) c.args.stop s (parts_view c.loop-at.list.items) c.loop-at.text.items i _ c.loop-at.invariant.1 c.in_err-token.field-0.0 (omega arith) dark bad)

pub parts-loop-at-preserved : goal.parts-loop-at-preserved
parts-loop-at-preserved t c =
    let s = c.args.bytes.now in
    let i = c.loop-at.at in
    let dark : stops c.args.stop (get_or s i 0) (drop (i + 1) s) ≡ false = grind arith in
    let within : c.in_ok-token.n ≤ length (drop (i + 1) s) = rw (← c.after-rest.ensures) c.in_ok-token.ensures.within in
    let is : token_at (reader c.args.room.scripts c.args.room.depth) (get_or s i 0) (drop (i + 1) s) ≡ Ok (token_view c.in_ok-token.token, c.in_ok-token.n) = rw (← c.after-rest.ensures) c.in_ok-token.ensures.value in
    elim c.match-token.branch [
      | parts-in-Byte+in_ok-push-in-Byte w ↦ (
          let at = is ∙ ap (λ f. Ok (token_view f, c.in_ok-token.n)) w.in-Byte.is in (
            omega (arith, length-drop (i + 1) s),
            rw (w.text-is, w.list-is, w.in_ok-push-in-Byte.ensures.items) (read_text (reader c.args.room.scripts c.args.room.depth) c.args.stop s (parts_view c.loop-at.list.items) c.loop-at.text.items i _ c.loop-at.invariant.1 (w.in-Byte.value ∷ []) c.in_ok-token.n (omega arith) dark at),
          ))
      | parts-in-Escape+in_ok-extend_from_slice-in-Escape w ↦ (
          let at = is ∙ ap (λ f. Ok (token_view f, c.in_ok-token.n)) w.in-Escape.is in (
            omega (arith, length-drop (i + 1) s),
            rw (w.text-is, w.list-is, w.in_ok-extend_from_slice-in-Escape.ensures.items, w.as_slice.ensures.value) (read_text (reader c.args.room.scripts c.args.room.depth) c.args.stop s (parts_view c.loop-at.list.items) c.loop-at.text.items i _ c.loop-at.invariant.1 w.in-Escape.value.items c.in_ok-token.n (omega arith) dark at),
          ))
      | parts-in-Substitution+in_ok-flush-in-Substitution+in_ok-push-in-Substitution w ↦ (
          let at = is ∙ ap (λ f. Ok (token_view f, c.in_ok-token.n)) w.in-Substitution.is in
          let shown : parts_view w.push-in-Substitution.new.self.items ≡ append (append (parts_view c.loop-at.list.items) (literal_of c.loop-at.text.items)) (piece (part_view w.in-Substitution.part) no_pieces) =
          ap parts_view w.in_ok-push-in-Substitution.ensures.items ∙ parts_view-push w.flush-in-Substitution.new.list.items w.in-Substitution.part ∙ ap (λ ps. append ps (piece (part_view w.in-Substitution.part) no_pieces)) w.in_ok-flush-in-Substitution.ensures in (
            omega (arith, length-drop (i + 1) s),
            rw (w.text-is, w.list-is, shown, w.new-text-in-Substitution.ensures.items) (read_whole (reader c.args.room.scripts c.args.room.depth) c.args.stop s (parts_view c.loop-at.list.items) c.loop-at.text.items i _ c.loop-at.invariant.1 (part_view w.in-Substitution.part) c.in_ok-token.n (omega arith) dark at),
          ))
    ]

pub parts-returns-in-Some-clause-value : goal.parts-returns-in-Some-clause-value
parts-returns-in-Some-clause-value t c =
    read_unclosed (reader c.args.room.scripts c.args.room.depth) c.args.stop c.args.bytes.now (parts_view c.loop-at.list.items) c.loop-at.text.items c.loop-at.at _ c.loop-at.invariant.1 c.in-Some.fault (omega arith) (sym c.in-Some.ensures)

pub parts-returns-in_ok-flush-in-None-clause-value : goal.parts-returns-in_ok-flush-in-None-clause-value
parts-returns-in_ok-flush-in-None-clause-value t c =
    rw c.in_ok-flush-in-None.ensures (read_all (reader c.args.room.scripts c.args.room.depth) c.args.stop c.args.bytes.now (parts_view c.loop-at.list.items) c.loop-at.text.items c.loop-at.at _ c.loop-at.invariant.1 (omega arith) (sym c.in-None.ensures))

pub variable-returns-then-begins_with-2-clause-value : goal.variable-returns-then-begins_with-2-clause-value
variable-returns-then-begins_with-2-clause-value t c =
    let rest = c.args.rest.now in
    let n = name_len rest in
    let index = c.in_ok-index.index in
    let name : c.in_ok-name-2.name ≡ take n rest = grind arith in
    let plain : begins_with 123 rest ≡ false = grind arith in
    let opens : begins_with 40 (drop n rest) ≡ true = grind arith in
    let read : (reader c.args.room.scripts c.args.room.depth).index (drop (1 + n) rest) ≡ Ok (parts_view index.items, c.in_ok-index.k) = grind arith in
    let view : part_view (Var c.in_ok-name-2.name (Some index)) ≡ member c.in_ok-name-2.name (parts_view index.items) = search (rules, the_lemmas) in
    let whole_is : dollar (reader c.args.room.scripts c.args.room.depth) n rest ≡ Ok (substitution (member (take n rest) (parts_view index.items)), 1 + n + c.in_ok-index.k) = rw (plain, opens, read) refl in
    whole_is ∙ rw (view, name, c.name_len-n.ensures.value) refl
