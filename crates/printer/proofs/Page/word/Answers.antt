-- `Page::word` writes the kinds of a word, bit by bit.
-- Assumes nothing.
use Rattle.std.proofs.Common.{arith}
use Rattle.printer.specs.Page.{left_turn, left_none}
use Rattle.printer.specs.Lines.{word_turn, word_none}
use Rattle.printer.proofs.Page.word.Goals as goal

pub loop-i-preserved : goal.loop-i-preserved
loop-i-preserved c = left_turn _ _ _ _ _ _ _ (word_turn _ _ c.loop-i.i (omega arith)) c.kind.ensures c.loop-i.invariant

pub returns : goal.returns
returns c = left_none _ _ _ _ (word_none _ _ c.loop-i.i (omega arith)) c.loop-i.invariant
