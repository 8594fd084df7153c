-- `Page::leaf` writes the leaf's letter and then its number.
-- Assumes nothing.
use Rattle.printer.specs.Page.{chained}
use Rattle.printer.proofs.Page.leaf.Goals as goal

pub returns : goal.returns
returns c = chained c.byte.ensures c.number.ensures
