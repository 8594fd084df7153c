-- `Page::text` writes the text, byte by byte.
-- Assumes nothing.
use Rattle.std.proofs.Common.{arith}
use Rattle.printer.specs.Page.{text_next, text_done}
use Rattle.printer.proofs.Page.text.Goals as goal

pub loop-x-preserved : goal.loop-x-preserved
loop-x-preserved c = text_next _ _ _ c.loop-x.x-index _ (omega arith) c.byte.ensures c.loop-x.invariant

pub returns : goal.returns
returns c = text_done _ _ _ c.loop-x.x-index (omega arith) c.loop-x.invariant
