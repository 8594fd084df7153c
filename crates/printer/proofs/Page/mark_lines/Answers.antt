-- `Page::mark_lines` writes the records' lines, one by one.
-- Assumes nothing.
use Rattle.std.proofs.Common.{arith}
use Rattle.printer.specs.Page.{left_turn, left_none}
use Rattle.printer.specs.Lines.{marks_turn, marks_none}
use Rattle.printer.proofs.Page.mark_lines.Goals as goal

pub loop-i-preserved : goal.loop-i-preserved
loop-i-preserved c = left_turn _ _ _ _ _ _ _ (marks_turn _ _ c.loop-i.i (omega arith)) c.mark_line.ensures c.loop-i.invariant

pub returns : goal.returns
returns c = left_none _ _ _ _ (marks_none _ _ c.loop-i.i (omega arith)) c.loop-i.invariant
