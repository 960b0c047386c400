-- Loops, and scripts that a host asks for, without a bound on turns. (`foreach` has one turn per group of elements:
-- `each`.).
use Rattle.std.specs.Prelude.{◌≡◌, ℕ, Option, List}
use Rattle.tcl_expr.specs.Tree.{Tree as Expression}
use Rattle.tcl_eval.specs.Tree.{State}
use Rattle.tcl_eval.specs.Meaning.{Next, eval, one_turn, loop, one_body, host_body}

-- A loop is its condition and, if this is true, a turn and the loop again.
abbrev pub LoopsUnroll : Type 0
LoopsUnroll = (depth : ℕ) (test : Expression) (body : List ℕ) (next : Option (List ℕ)) (k : Next) (st : State) →
    loop (eval depth) test body next k st ≡ one_turn (eval depth) test body next k (loop (eval depth) test body next k) st

-- A script that the host asks for is that script. If the host asks for another one after it, that one follows in the
-- same way.
abbrev pub BodiesUnroll : Type 0
BodiesUnroll = (depth : ℕ) (k : Next) (text : List ℕ) (st : State) →
    host_body (eval depth) k text st ≡ one_body (eval depth) k (host_body (eval depth) k) text st
