-- `Page::labelled` writes the label and then the number.
-- Assumes nothing.
use Rattle.printer.specs.Page.{chained}
use Rattle.printer.proofs.Page.labelled.Goals as goal

pub returns : goal.returns
returns c = chained c.text.ensures c.spaced.ensures
