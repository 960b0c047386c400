use Rattle.std.proofs.Common.{◌≡◌, ℕ, ◌+◌, ◌*◌, List, length, drop}
use Rattle.tcl_scripts.specs.Commands.{commands}
use Rattle.tcl_subst.specs.Rests.{told}
use Rattle.tcl_eval.specs.Tree.{State, Tree}
use Rattle.tcl_eval.specs.Meaning.{Next, sequence, eval, fill_word, fill_words, each, arms}
use Rattle.tcl_eval.specs.Worth.{worth}
use Rattle.tcl_eval.specs.Native.{Spent}
use Rattle.tcl_eval.specs.Rest.{then_rest, looped, now_of}
use Rattle.tcl_eval.proofs.Natives.{scripts_left}
use Rattle.tcl_eval.proofs.Told.{operands_left}
use Rattle.tcl_eval.proofs.engine.Engine.+native.Given as goal

abbrev pub decreases-script : goal.decreases-script
decreases-script l = 32 * l.depth

abbrev pub decreases-text : goal.decreases-text
decreases-text l = 32 * l.depth + 2

abbrev pub decreases-turn_next : goal.decreases-turn_next
decreases-turn_next l = 32 * l.depth + 2

abbrev pub decreases-turn_end : goal.decreases-turn_end
decreases-turn_end l = 32 * l.depth + 3

abbrev pub decreases-turn_body : goal.decreases-turn_body
decreases-turn_body l = 32 * l.depth + 5

abbrev pub decreases-turn_if : goal.decreases-turn_if
decreases-turn_if l = 32 * l.depth + 6

abbrev pub decreases-turn_once : goal.decreases-turn_once
decreases-turn_once l = 32 * l.depth + 9

abbrev pub decreases-turns : goal.decreases-turns
decreases-turns l = 32 * l.depth + 10

abbrev pub decreases-started : goal.decreases-started
decreases-started l = 32 * l.depth + 11

abbrev pub decreases-each_turns : goal.decreases-each_turns
decreases-each_turns l = 32 * l.depth + 4

abbrev pub decreases-fill_on : goal.decreases-fill_on
decreases-fill_on l = 32 * l.depth + 3

abbrev pub decreases-alone_script : goal.decreases-alone_script
decreases-alone_script l = 32 * l.depth + 2

abbrev pub decreases-word : goal.decreases-word
decreases-word l = 32 * l.depth + 4

abbrev pub decreases-next_word : goal.decreases-next_word
decreases-next_word l = 32 * l.depth + 5

abbrev pub decreases-words : goal.decreases-words
decreases-words l = 32 * l.depth + 6

abbrev pub decreases-operand : goal.decreases-operand
decreases-operand l = 32 * l.depth + 5

abbrev pub decreases-worth : goal.decreases-worth
decreases-worth l = 32 * l.depth + 6

abbrev pub decreases-truth : goal.decreases-truth
decreases-truth l = 32 * l.depth + 8

abbrev pub decreases-text_truth : goal.decreases-text_truth
decreases-text_truth l = 32 * l.depth + 9

abbrev pub decreases-result : goal.decreases-result
decreases-result l = 32 * l.depth + 8

abbrev pub decreases-otherwise : goal.decreases-otherwise
decreases-otherwise l = 32 * l.depth + 3

abbrev pub decreases-choose : goal.decreases-choose
decreases-choose l = 32 * l.depth + 11

abbrev pub decreases-body : goal.decreases-body
decreases-body l = 32 * l.depth + 2

abbrev pub decreases-other : goal.decreases-other
decreases-other l = 32 * l.depth + 16

abbrev pub decreases-not_called : goal.decreases-not_called
decreases-not_called l = 32 * l.depth + 15

abbrev pub decreases-if_command : goal.decreases-if_command
decreases-if_command l = 32 * l.depth + 13

abbrev pub decreases-while_command : goal.decreases-while_command
decreases-while_command l = 32 * l.depth + 13

abbrev pub decreases-for_command : goal.decreases-for_command
decreases-for_command l = 32 * l.depth + 13

abbrev pub decreases-foreach_command : goal.decreases-foreach_command
decreases-foreach_command l = 32 * l.depth + 13

abbrev pub decreases-expr_command : goal.decreases-expr_command
decreases-expr_command l = 32 * l.depth + 13

abbrev pub decreases-eval_command : goal.decreases-eval_command
decreases-eval_command l = 32 * l.depth + 13

abbrev pub decreases-catch_command : goal.decreases-catch_command
decreases-catch_command l = 32 * l.depth + 13

abbrev pub decreases-switch_command : goal.decreases-switch_command
decreases-switch_command l = 32 * l.depth + 13

abbrev pub decreases-verb : goal.decreases-verb
decreases-verb l = 32 * l.depth + 14

abbrev pub decreases-carry_out : goal.decreases-carry_out
decreases-carry_out l = 32 * l.depth + 17

abbrev pub decreases-begun : goal.decreases-begun
decreases-begun l = 32 * l.depth + 18

abbrev pub decreases-command : goal.decreases-command
decreases-command l = 32 * l.depth + 19

abbrev pub decreases-step : goal.decreases-step
decreases-step l = 32 * l.depth + 20

abbrev pub decreases-sequence : goal.decreases-sequence
decreases-sequence l = 32 * l.depth + 21

abbrev pub invariant-sequence-commands : goal.invariant-sequence-commands
invariant-sequence-commands l = record {
  same : (k : Next) → sequence (eval l.depth) l.script (drop l.next (commands l.script)) k l.value (now_of l.self) ≡ sequence (eval l.fn.depth) l.fn.script (drop l.fn.start (commands l.fn.script)) k l.fn.last (now_of l.fn.self);
  spent : Spent l.fn.self l.self 0 0;
}

abbrev pub decreases-sequence-commands : goal.decreases-sequence-commands
decreases-sequence-commands l = length (drop l.next (commands l.script))

abbrev pub invariant-words-words : goal.invariant-words-words
invariant-words-words l = record {
  same : (k : Next) → fill_words (eval l.depth) (drop l.next l.words) l.done k (then_rest l.depth l.then k) (now_of l.self) ≡ fill_words (eval l.fn.depth) (drop l.fn.start l.fn.words) l.fn.done k (then_rest l.fn.depth l.fn.then k) (now_of l.fn.self);
  spent : Spent l.fn.self l.self 0 0;
}

abbrev pub decreases-words-words : goal.decreases-words-words
decreases-words-words l = length (drop l.next l.words)

abbrev pub invariant-fill_on-scripts : goal.invariant-fill_on-scripts
invariant-fill_on-scripts l = record {
  same : (k : Next) (go : List ℕ → State → Tree) → fill_word (eval l.depth) (told (l.step, l.filler)) k go (now_of l.self) ≡ fill_word (eval l.fn.depth) (told (l.fn.first, l.fn.filler)) k go (now_of l.fn.self);
  spent : Spent l.fn.self l.self 0 0;
}

abbrev pub decreases-fill_on-scripts : goal.decreases-fill_on-scripts
decreases-fill_on-scripts l = scripts_left l.step l.filler.at

abbrev pub invariant-worth-operands : goal.invariant-worth-operands
invariant-worth-operands l = record {
  same : (k : Next) (go : List ℕ → State → Tree) → worth (eval l.depth) l.evaluation k go (now_of l.self) ≡ worth (eval l.fn.depth) l.fn.first k go (now_of l.fn.self);
  spent : Spent l.fn.self l.self 0 0;
}

abbrev pub decreases-worth-operands : goal.decreases-worth-operands
decreases-worth-operands l = operands_left l.evaluation

abbrev pub invariant-turns-turns : goal.invariant-turns-turns
invariant-turns-turns l = record {
  same : (k : Next) → looped l.depth l.now k (now_of l.self) ≡ looped l.fn.depth l.fn.turning k (now_of l.fn.self);
  spent : Spent l.fn.self l.self 0 0;
}

abbrev pub decreases-turns-turns : goal.decreases-turns-turns
decreases-turns-turns l = l.self.left

abbrev pub invariant-each_turns-turns : goal.invariant-each_turns-turns
invariant-each_turns-turns l = record {
  same : (k : Next) → each (eval l.depth) l.left.names l.left.left l.body k (now_of l.self) ≡ each (eval l.fn.depth) l.fn.groups.names l.fn.groups.left l.fn.body k (now_of l.fn.self);
  spent : Spent l.fn.self l.self 0 0;
}

abbrev pub decreases-each_turns-turns : goal.decreases-each_turns-turns
decreases-each_turns-turns l = l.self.left

abbrev pub invariant-choose-arms : goal.invariant-choose-arms
invariant-choose-arms l = record {
  same : (k : Next) → arms (eval l.depth) l.left.0 l.left.1 k (now_of l.self) ≡ arms (eval l.fn.depth) l.fn.arms.0 l.fn.arms.1 k (now_of l.fn.self);
  spent : Spent l.fn.self l.self 0 0;
}

abbrev pub decreases-choose-arms : goal.decreases-choose-arms
decreases-choose-arms l = length l.left.0
