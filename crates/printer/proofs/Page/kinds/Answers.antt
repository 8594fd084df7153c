-- `Page::kinds` writes the kinds of eight words, word by word.
-- Assumes nothing.
use Rattle.std.proofs.Common.{arith}
use Rattle.printer.specs.Page.{left_all, left_turn, left_none}
use Rattle.printer.specs.Lines.{words_all, words_turn, words_none}
use Rattle.printer.proofs.Page.kinds.Goals as goal

pub loop-i-init : goal.loop-i-init
loop-i-init c = left_all _ _ _ (words_all _ _)

pub loop-i-preserved : goal.loop-i-preserved
loop-i-preserved c = left_turn _ _ _ _ _ _ _ (words_turn _ _ c.loop-i.i (omega arith)) (rw c.word.ensures at c.word-in-loop-i.ensures) c.loop-i.invariant

pub returns : goal.returns
returns c = left_none _ _ _ _ (words_none _ _ c.loop-i.i (omega arith)) c.loop-i.invariant
