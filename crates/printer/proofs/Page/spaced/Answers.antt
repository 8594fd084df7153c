-- `Page::spaced` writes a space and then the number.
-- Assumes nothing.
use Rattle.printer.specs.Page.{chained}
use Rattle.printer.proofs.Page.spaced.Goals as goal

pub returns : goal.returns
returns c = chained c.byte.ensures c.number.ensures
