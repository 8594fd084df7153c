-- `Page::units_line` writes `units_text`, part by part.
-- Assumes nothing.
use Rattle.rules.specs.Basics.{text, codes_from}
use Rattle.printer.specs.Page.{chained}
use Rattle.printer.specs.Lines.{units_text}
use Rattle.printer.proofs.Page.units_line.Goals as goal

pub returns : goal.returns
unfolding units_text text codes_from
returns c = chained c.labelled.ensures c.byte.ensures
